-- A value and its 32 bits: each gives the other back. Assumes nothing.
use mathlib.Core.Path.{◌≡◌, refl, sym, subst}
use Prim.Native.Nat.{ℕ, ◌^◌, ◌<◌}
use mathlib.Core.Bool.{Bool, true, false, not, cond}
use lib.Dec.{T}
use lib.Ieee.{binary32, of_bits, nan_bits, is_nan}
use lib.Ieee.Bits.{nan_bits_is, to_bits-of_bits}
use Rattle.registers.specs.Value.{value_of, bits_of, type_of}
use Rattle.registers.specs.declared.RegisterDataType.{RegisterDataType}
use Rattle.registers.specs.declared.RegisterDataType.TheVariants as Typed
use Rattle.registers.specs.declared.RegisterValue.TheVariants.{Float, Nan}

pub bits_of_value : (t : RegisterDataType) (b : ℕ) → b < 2 ^ 32 → bits_of (value_of t b) ≡ b
unfolding value_of bits_of
bits_of_value Typed.UInt32 b h = refl
bits_of_value Typed.Float b h = go (nan_bits binary32 b) (sym (nan_bits_is binary32 b))
  where
    go : (n : Bool) → is_nan (of_bits binary32 b) ≡ n → bits_of (cond n (Nan (record { 0 = b })) (Float (of_bits binary32 b))) ≡ b
    go true e = unfold bits_of in refl
    go false e = unfold bits_of in to_bits-of_bits binary32 b h (subst (λ (s : Bool). T (not s)) (sym e) tt)

pub type_of_value : (t : RegisterDataType) (b : ℕ) → type_of (value_of t b) ≡ t
unfolding value_of type_of
type_of_value Typed.UInt32 b = refl
type_of_value Typed.Float b = go (nan_bits binary32 b)
  where
    go : (n : Bool) → type_of (cond n (Nan (record { 0 = b })) (Float (of_bits binary32 b))) ≡ Typed.Float
    go true = unfold type_of in refl
    go false = unfold type_of in refl
