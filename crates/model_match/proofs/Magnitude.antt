-- A float's sign dropped is at most another where the float and its negative are. Assumes nothing.
use Prim.Native.Nat.{ℕ, ◌+◌, ◌*◌}
use mathlib.Core.Path.{◌≡◌, refl, ap, ◌∙◌}
use mathlib.Core.Bool.{Bool, true, false, ◌||◌, ◌&&◌, and-true, and_comm}
use native.Mathlib.Omega.{arith}
use lib.Dec.{ltb, eqb}
use lib.IntN.{ℤ}
use lib.Ieee.{Float, nan, inf, fin, lt, le, eq, neg, up, down, below, level}
use borrow.Author.Tests.{ltb-false, eq-eqb}
use Rattle.model_match.specs.Matching.{magnitude}

-- -a is at most b, for an a and a b of which neither is below 0
minus_le : (a b : ℕ) → (below true a false b || level true a false b) ≡ true
minus_le a b = go (ltb 0 (a + b)) refl
  where
    none : a + b ≡ 0 → level true a false b ≡ true
    none h = simp (eq-eqb a b (omega arith), eq-eqb a 0 (omega arith))

    go : (t : Bool) → ltb 0 (a + b) ≡ t → (t || level true a false b) ≡ true
    go true e = refl
    go false e = none (omega (arith, ltb-false 0 (a + b) e))

-- what is at least a magnitude is at least its negative
negative_too : (m : ℕ) (e : ℤ) (t : Float) → (le (fin false m e) t && le (fin true m e) t) ≡ le (fin false m e) t
unfolding le lt eq
negative_too m e nan = refl
negative_too m e (inf true) = refl
negative_too m e (inf false) = refl
negative_too m e (fin false n d) =
    let a = m * up e * down d in
    let b = n * up d * down e in
    ap (λ (t : Bool). (below false a false b || level false a false b) && t) (minus_le a b) ∙ and-true (below false a false b || level false a false b)
negative_too m e (fin true n d) = go (eqb (m * up e * down d) (n * up d * down e)) (ltb (n * up d * down e) (m * up e * down d)) (eqb (m * up e * down d) 0)
  where
    go : (same above none : Bool) → ((same && (false || none)) && (above || (same && true))) ≡ (same && (false || none))
    go true true true = refl
    go true true false = refl
    go true false true = refl
    go true false false = refl
    go false above none = refl

-- the code's two tests
pub magnitude_le : (d t : Float) → (le d t && le (neg d) t) ≡ le (magnitude d) t
unfolding le lt eq neg magnitude
magnitude_le nan t = refl
magnitude_le (inf true) nan = refl
magnitude_le (inf true) (inf true) = refl
magnitude_le (inf true) (inf false) = refl
magnitude_le (inf true) (fin s n d) = refl
magnitude_le (inf false) nan = refl
magnitude_le (inf false) (inf true) = refl
magnitude_le (inf false) (inf false) = refl
magnitude_le (inf false) (fin s n d) = refl
magnitude_le (fin false m e) t = negative_too m e t
magnitude_le (fin true m e) t = and_comm (le (fin true m e) t) (le (fin false m e) t) ∙ negative_too m e t
