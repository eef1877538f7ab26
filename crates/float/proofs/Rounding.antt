-- How far up `round` goes from its fraction: in the normal range at most by a part in 2 ^ prec. Assumes nothing.
use mathlib.Core.Path.{◌≡◌, ap, ◌∙◌, subst}
use Prim.Native.Nat.{ℕ, suc, ◌+◌, ◌-◌, ◌*◌, ◌/◌, ◌%◌, ◌^◌, ◌≤◌, ◌<◌, compare, Ordering}
use native.Mathlib.Nat.{le_trans, le_of_eq, mul-le-mul_left, mul-le-mul_right, div-add-mod', le-div_iff_mul-le, pow-succ'}
use native.Mathlib.Omega.{arith}
use mathlib.Core.Bool.{not}
use lib.Dec.{T, is_le, compare_is_eq, eqb, leb→le, nleb→lt, eqb→eq, eqb_refl}
use lib.Arith.{lt_of_le-ne}
use lib.Pow.{pow-add}
use lib.Ieee.{Format, prec, low, size, nearest}
use lib.Ieee.Digits.{size_reaches}
use lib.Ieee.Fits.{two, two-le_pos}
use lib.Ieee.Nearest.{closest}
use lib.Ieee.Order.{drop, kept}
use lib.Ieee.Scale.{grid}

-- ---- what `compare` says (lib.Ieee.Nearest has it, private)
abbrev pub Cmp : Ordering → ℕ → ℕ → Type 0
Cmp Ordering.lt a b = a < b
Cmp Ordering.eq a b = a ≡ b
Cmp Ordering.gt a b = b < a

pub cmp : (a b : ℕ) → Cmp (compare a b) a b
cmp a b = go (compare a b) (leb→le a b) (nleb→lt a b) (eqb→eq a b) (λ (e : a ≡ b). subst (λ (x : ℕ). T (eqb a x)) e (eqb_refl a))
  where
    go : (o : Ordering) → (T (is_le o) → a ≤ b) → (T (not (is_le o)) → b < a) → (T (compare_is_eq o) → a ≡ b) → (a ≡ b → T (compare_is_eq o)) → Cmp o a b
    go Ordering.lt h k e n = lt_of_le-ne (h tt) n
    go Ordering.eq h k e n = e tt
    go Ordering.gt h k e n = k tt

-- ---- the nearest whole number is within a half: q is the quotient, r the remainder, of a by u
near_up : (q r u : ℕ) (o : Ordering) → Cmp o (r * 2) u → 2 * (nearest q o * u) ≤ 2 * (q * u + r) + u
near_up q r u Ordering.lt h = omega arith
near_up q r u Ordering.eq h = le_trans (mul-le-mul_left 2 (mul-le-mul_right u (tie q))) (omega arith)
  where
    tie : (q : ℕ) → q + q % 2 ≤ q + 1
    tie q = omega arith
near_up q r u Ordering.gt h = omega arith

closest_up : (a u : ℕ) → 2 * (closest a u * u) ≤ 2 * a + u
closest_up a u = subst (λ (z : ℕ). 2 * (closest a u * u) ≤ 2 * z + u) (div-add-mod' a u) (near_up (a / u) (a % u) u (compare (a % u * 2) u) (cmp (a % u * 2) u))

-- ---- in the normal range the unit is a part in 2 ^ (prec - 1) at most
in_use : (z p : ℕ) → 0 < p → p ≤ z → p - 1 + (z - p) < z
in_use z p P h = omega arith

unit_small : (p n c : ℕ) → 0 < p → 0 < c → p ≤ size (n / c) → c * 2 ^ drop p n c * 2 ^ (p - 1) ≤ n
unit_small p n c P C N =
    let k = drop p n c in
    let g : 2 ^ (p - 1 + k) * c ≤ n = (le-div_iff_mul-le C).0 (size_reaches (n / c) (p - 1 + k) (in_use (size (n / c)) p P N)) in
    le_trans (le_of_eq (turn c (2 ^ k) (2 ^ (p - 1)) (2 ^ (p - 1 + k)) (pow-add 2 (p - 1) k))) g
  where
    turn : (c a b x : ℕ) → x ≡ b * a → c * a * b ≡ x * c
    turn c a b x e = omega (arith, ap (λ (z : ℕ). z * c) e)

twice : (p : ℕ) → 0 < p → 2 ^ p ≡ 2 * 2 ^ (p - 1)
twice p P = ap (λ (x : ℕ). 2 ^ x) (back p P) ∙ pow-succ' 2 (p - 1)
  where
    back : (p : ℕ) → 0 < p → p ≡ suc (p - 1)
    back p h = omega arith

-- w is 2 ^ (p - 1), v is 2 ^ p
up_by : (g u n w v : ℕ) → v ≡ 2 * w → u * w ≤ n → 2 * (g * u) ≤ 2 * n + u → g * u * v ≤ n * (v + 1)
up_by g u n w v e h k = omega (arith, ap (λ (z : ℕ). g * u * z) e, ap (λ (z : ℕ). n * z) e, mul-le-mul_right w k)

same_grid : (g a c v : ℕ) → g * a * c * v ≡ g * (c * a) * v
same_grid g a c v = omega arith

-- the rounded value, in units of the format's smallest, against the fraction a / c
pub round_up : (f : Format) (a c : ℕ) → 0 < c → prec f ≤ size (a * 2 ^ low f / c) → grid f a c * c * 2 ^ prec f ≤ a * 2 ^ low f * (2 ^ prec f + 1)
round_up f a c C N =
    let p = prec f in
    let P : 0 < p = two-le_pos p (two f) in
    let n = a * 2 ^ low f in
    let k = drop p n c in
    le_trans (le_of_eq (same_grid (kept p n c) (2 ^ k) c (2 ^ p)))
    (up_by (kept p n c) (c * 2 ^ k) n (2 ^ (p - 1)) (2 ^ p) (twice p P) (unit_small p n c P C N) (closest_up n (c * 2 ^ k)))
