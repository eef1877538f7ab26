-- Operations that give no NaN, and those that give nothing below 0. Assumes nothing.
use Prim.Native.Nat.{ℕ, zero, suc, ◌+◌, ◌-◌, ◌*◌, ◌^◌}
use mathlib.Core.Bool.{Bool, true, false, not, ◌&&◌, beq, cond}
use lib.IntN.{ℤ}
use lib.Dec.{T, ltb}
use lib.Ieee.{Float, nan, inf, fin, Format, binary32, prec, emax, low, up, down, odd, units, round, neg, sum, add, sub, mul, fits, is_nan}
use lib.Ieee.Fits.{round-fits}
use lib.Ieee.Scale.{finite}
use Rattle.float.specs.Float.{at_least_zero}
use Rattle.float_root.specs.Root.{rounded_root, root}
use Rattle.float.specs.Arithmetic.{◌⊕◌, ◌⊖◌, ◌⊗◌}

-- what is rounded is finite or an infinity, and has the sign that it was handed
module _ (P : Float → Type 0) where
  either : (b : Bool) (x y : Float) → P x → P y → P (cond b x y)
  either true x y p q = p
  either false x y p q = q

  odd_is : (d : ℕ) (s : Bool) (q k l : ℕ) → ((m : ℕ) (e : ℤ) → P (fin s m e)) → P (odd d s q k l)
  unfolding odd
  odd_is d s zero k l p = p _ _
  odd_is d s (suc q) k l p = p _ _

  units_is : (f : Format) (s : Bool) (q k : ℕ) → ((m : ℕ) (e : ℤ) → P (fin s m e)) → P (inf s) → P (units f s q k)
  unfolding units
  units_is f s q k p r = either (ltb (q * 2 ^ k) (2 ^ (low f + suc (emax f)))) _ (inf s) (odd_is (suc (prec f)) s q k (low f) p) r

  rounded : (f : Format) (s : Bool) (a c : ℕ) → ((m : ℕ) (e : ℤ) → P (fin s m e)) → P (inf s) → P (round f s a c)
  unfolding round
  rounded f s a c p r = units_is f s _ _ p r

number : (s : Bool) (a c : ℕ) → T (not (is_nan (round binary32 s a c)))
unfolding is_nan
number s a c = rounded (λ z. T (not (is_nan z))) binary32 s a c (λ m e. tt) tt

sum_number : (s : Bool) (a : ℕ) (t : Bool) (b c : ℕ) → T (not (is_nan (sum binary32 s a t b c)))
unfolding sum
sum_number s a t b c =
    either (λ z. T (not (is_nan z))) (beq s t) _ _ (number s (a + b) c) (either (λ z. T (not (is_nan z))) (ltb a b) _ _ (number t (b - a) c) (number (s && ltb b a) (a - b) c))

pub sub_number : (x y : Float) → T (finite x) → T (finite y) → T (not (is_nan (x ⊖ y)))
unfolding sub add neg
sub_number nan y p q = absurd p
sub_number (inf s) y p q = absurd p
sub_number (fin s m e) nan p q = absurd q
sub_number (fin s m e) (inf t) p q = absurd q
sub_number (fin s m e) (fin t n d) p q = sum_number s (m * up e * down d) (not t) (n * up d * down e) (down e * down d)

above : (a c : ℕ) → T (at_least_zero (round binary32 false a c))
unfolding at_least_zero
above a c = rounded (λ z. T (at_least_zero z)) binary32 false a c (λ m e. tt) tt

pub square_at_least_zero : (x : Float) → T (not (is_nan x)) → T (at_least_zero (x ⊗ x))
unfolding mul is_nan at_least_zero
square_at_least_zero nan p = absurd p
square_at_least_zero (inf true) p = tt
square_at_least_zero (inf false) p = tt
square_at_least_zero (fin true m e) p = above (m * up e * (m * up e)) (down e * down e)
square_at_least_zero (fin false m e) p = above (m * up e * (m * up e)) (down e * down e)

pub sum_at_least_zero : (x y : Float) → T (at_least_zero x) → T (at_least_zero y) → T (at_least_zero (x ⊕ y))
unfolding add sum at_least_zero
sum_at_least_zero nan y p q = absurd p
sum_at_least_zero (inf true) y p q = absurd p
sum_at_least_zero (fin true m e) y p q = absurd p
sum_at_least_zero (inf false) nan p q = absurd q
sum_at_least_zero (inf false) (inf true) p q = absurd q
sum_at_least_zero (inf false) (inf false) p q = tt
sum_at_least_zero (inf false) (fin t n d) p q = tt
sum_at_least_zero (fin false m e) nan p q = absurd q
sum_at_least_zero (fin false m e) (inf t) p q = q
sum_at_least_zero (fin false m e) (fin true n d) p q = absurd q
sum_at_least_zero (fin false m e) (fin false n d) p q = above (m * up e * down d + n * up d * down e) (down e * down d)

pub root_at_least_zero : (x : Float) → T (at_least_zero x) → T (at_least_zero (root x))
unfolding root rounded_root at_least_zero
root_at_least_zero nan p = absurd p
root_at_least_zero (inf true) p = absurd p
root_at_least_zero (inf false) p = tt
root_at_least_zero (fin s zero e) p = p
root_at_least_zero (fin true (suc m) e) p = absurd p
root_at_least_zero (fin false (suc m) e) p = above _ _

pub root_fits : (x : Float) → T (fits binary32 x) → T (fits binary32 (root x))
unfolding root rounded_root
root_fits nan p = p
root_fits (inf true) p = unfold fits in tt
root_fits (inf false) p = p
root_fits (fin s zero e) p = p
root_fits (fin true (suc m) e) p = unfold fits in tt
root_fits (fin false (suc m) e) p = round-fits binary32 false _ _
