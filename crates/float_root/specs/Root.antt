-- The square root of an `f32`. A unit is 2 ^ -149, the least `f32` above 0: each finite `f32` is a whole number of units, and the root of u units is √(u * 2 ^ 149) units. Definitions only.
use Rattle.std.specs.Prelude.{ℕ, zero, suc, ◌+◌, ◌*◌, ◌/◌, ◌^◌, ◌<◌, ◌≡◌, Bool, true, false, cond, T, leb, Float}
use Rattle.std.specs.Float.{nan, inf, fin, binary32}
use Rattle.std.specs.Float.Ieee.{up, down, round, fits}
use Rattle.std.specs.Float.Ieee.Positive.{positive}

-- the greatest number up to n that passes the test, and 0 where none does
unfoldable pub greatest : (ℕ → Bool) → ℕ → ℕ
greatest test zero = 0
greatest test (suc n) = cond (test (suc n)) (suc n) (greatest test n)

-- the whole part of n's root: the greatest number whose square is at most n
unfoldable pub whole_root : ℕ → ℕ
whole_root n = greatest (λ s. leb (s * s) n) n

-- the size of a finite value in units; the division has no rest for an `f32` (`in_units_value` of proofs/RootNear.antt)
abbrev pub in_units : Float → ℕ
in_units nan = 0
in_units (inf s) = 0
in_units (fin s m e) = m * up e * 2 ^ 149 / down e

-- √n units, cut to whole units and then rounded to the nearest `f32`. For the n of `root` below the cut does not show (`nearest` of proofs/RootLaw.antt)
unfoldable pub rounded_root : ℕ → Float
rounded_root n = round binary32 false (whole_root n) (2 ^ 149)

-- IEEE 754's squareRoot, with one NaN: a zero of either sign gives itself, and what is below 0 a NaN
unfoldable pub root : Float → Float
root nan = nan
root (inf true) = nan
root (inf false) = inf false
root (fin s zero e) = fin s zero e
root (fin true (suc m) e) = nan
root (fin false (suc m) e) = rounded_root (in_units (fin false (suc m) e) * 2 ^ 149)

-- r is the `f32` nearest to the root of u units: for every other value z the root is on r's side of their midpoint. That the root is below the midpoint of r and z is 4 * (u * 2 ^ 149) < (r + z) ^ 2, all in units.
-- Both orders are strict, as no root lies halfway between two values. A z below 0 counts by its size and one that is not finite as 0, of which the claim holds too.
pub record NearRoot (u : ℕ) (r : Float) : Type 0 where
  pub is_f32 : T (fits binary32 r)
  pub above_zero : T (positive r)
  pub over : (z : Float) → T (fits binary32 z) → in_units r < in_units z → 4 * (u * 2 ^ 149) < (in_units r + in_units z) * (in_units r + in_units z)
  pub under : (z : Float) → T (fits binary32 z) → in_units z < in_units r → (in_units r + in_units z) * (in_units r + in_units z) < 4 * (u * 2 ^ 149)

-- r is x's root, said with no way to find it: `nearest` and `only` of proofs/RootLaw.antt show that this is `root`
unfoldable pub IsRoot : Float → Float → Type 0
IsRoot nan r = r ≡ nan
IsRoot (inf true) r = r ≡ nan
IsRoot (inf false) r = r ≡ inf false
IsRoot (fin s zero e) r = r ≡ fin s zero e
IsRoot (fin true (suc m) e) r = r ≡ nan
IsRoot (fin false (suc m) e) r = NearRoot (in_units (fin false (suc m) e)) r
