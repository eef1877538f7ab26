-- `float::as_u32` meets its contract. Each way returns what `proofs/Truncating.antt` says of the bit pattern that it tested. Assumes nothing.
use mathlib.Core.Path.{◌≡◌, sym, ap, ◌∙◌, subst}
use Prim.Native.Nat.{ℕ, ◌/◌, ◌≤◌, ◌<◌}
use native.Mathlib.Omega.{arith}
use mathlib.Core.Bool.{not, true}
use lib.Dec.{T}
use lib.Ieee.{Float, fits, binary32, is_nan, to_bits, of_bits, to_unsigned}
use lib.Ieee.Bits.{of_bits-to_bits}
use Rattle.float.proofs.Nans.{nan_of_test, no_nan}
use Rattle.float.proofs.Truncating.{negative, large, fraction_dropped, shifted_left}
use Rattle.float.proofs.as_u32.Goals as goal

-- what owning an `f32` tells: the format holds it, so it is what its bits are read as
back : (x : Float) → fits binary32 x ≡ true → of_bits binary32 (to_bits binary32 x) ≡ x
back x h = of_bits-to_bits binary32 x (subst T (sym h) tt)

from_bits : (x : Float) → fits binary32 x ≡ true → (r : ℕ) → to_unsigned 32 (of_bits binary32 (to_bits binary32 x)) ≡ r → r ≡ to_unsigned 32 x
from_bits x h r e = sym e ∙ ap (to_unsigned 32) (back x h)

above : (b : ℕ) → 0x4b80_0000 ≤ b → 150 < b / 8388608
above b h = omega arith

pub returns-then-is_nan : goal.returns-then-is_nan
unfolding to_unsigned
returns-then-is_nan c = sym (ap (to_unsigned 32) (nan_of_test c.args.x (sym c.is_nan.ensures.value ∙ c.if-is_nan.true)))

pub returns-then-bits-lt1266679808 : goal.returns-then-bits-lt1266679808
returns-then-bits-lt1266679808 c = from_bits c.args.x c.well_formed.0.1 _ (fraction_dropped (to_bits binary32 c.args.x) _ c.if-bits-lt1266679808.true c.fraction_digits.ensures)

pub returns-then-bits-lt1333788672 : goal.returns-then-bits-lt1333788672
returns-then-bits-lt1333788672 c = from_bits c.args.x c.well_formed.0.1 _ (shifted_left (to_bits binary32 c.args.x) (above _ c.if-bits-lt1266679808.false) c.if-bits-lt1333788672.true)

pub returns-then-bits-lt2147483648 : goal.returns-then-bits-lt2147483648
returns-then-bits-lt2147483648 c = from_bits c.args.x c.well_formed.0.1 4294967295
    (large (to_bits binary32 c.args.x) c.if-bits-lt1333788672.false c.if-bits-lt2147483648.true
    (subst (λ (v : Float). T (not (is_nan v))) (sym (back c.args.x c.well_formed.0.1)) (no_nan c.args.x (sym c.is_nan.ensures.value ∙ c.if-is_nan.false))))

pub returns-else-bits-lt2147483648 : goal.returns-else-bits-lt2147483648
returns-else-bits-lt2147483648 c = from_bits c.args.x c.well_formed.0.1 0 (negative (to_bits binary32 c.args.x) c.if-bits-lt2147483648.false)
