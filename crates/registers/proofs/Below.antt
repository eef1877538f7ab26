-- Registers below a number. Assumes nothing.
use Prim.Native.Nat.{ℕ, ◌<◌}
use mathlib.Core.Path.{◌≡◌, sym, subst}
use mathlib.Core.Bool.{Bool, true, false, ◌||◌, ◌&&◌, true≢false}
use mathlib.Core.List.{List, [], ◌∷◌}
use lib.Dec.{T, ltb, ltb→lt, eqb, eqb→eq}
use Rattle.registers.specs.Registers.{elem, registers, known}

-- whether all are
unfoldable all_below : ℕ → List ℕ → Bool
all_below n [] = true
all_below n (x ∷ xs) = ltb x n && all_below n xs

-- with one more, which x is or is not
one_more : (n x y : ℕ) (same low : Bool) (all rest : Bool) → (T same → x ≡ y) → (T low → y < n) → (T all → rest ≡ true → x < n) → T (low && all) → (same || rest) ≡ true → x < n
one_more n x y same false all rest eq lt more t e = absurd t
one_more n x y true true all rest eq lt more t e = subst (λ (z : ℕ). z < n) (sym (eq tt)) (lt tt)
one_more n x y false true all rest eq lt more t e = more t e

below : (n x : ℕ) (xs : List ℕ) → T (all_below n xs) → elem x xs ≡ true → x < n
unfolding elem all_below
below n x [] all e = absurd (true≢false (sym e))
below n x (y ∷ ys) all e = one_more n x y (eqb x y) (ltb y n) (all_below n ys) (elem x ys) (eqb→eq x y) (ltb→lt y n) (below n x ys) all e

-- the last register is 81
pub known_below : (rid : ℕ) → known rid ≡ true → rid < 82
unfolding known registers all_below
known_below rid e = below 82 rid registers tt e
