-- A law of `same`. Assumes nothing.
use Rattle.std.proofs.Common.{◌≡◌, ℕ, Bool, ◌&&◌, eqb, List, [], ◌∷◌, refl, ap}
use Rattle.std.specs.Str.{bytes_eq}
use Rattle.text.specs.Text.{same}

-- the library's test of two slices
pub same_is : (a b : List ℕ) → bytes_eq a b ≡ same a b
unfolding same
same_is [] [] = refl
same_is [] (y ∷ ys) = refl
same_is (x ∷ xs) [] = refl
same_is (x ∷ xs) (y ∷ ys) = ap (λ (t : Bool). eqb x y && t) (same_is xs ys)
