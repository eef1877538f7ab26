-- A register's value: a type and 32 bits, by which two values are compared. A NaN is a case of its own, with its bits. Definitions only.
use Rattle.std.specs.Prelude.{ℕ, Bool, true, false, not, ◌&&◌, cond, eqb}
use Rattle.std.specs.Bool.{beq}
use Rattle.std.specs.Float.{binary32}
use Rattle.std.specs.Float.Ieee.{to_bits, of_bits, nan_bits}
use Rattle.registers.specs.declared.RegisterDataType.{RegisterDataType}
use Rattle.registers.specs.declared.RegisterDataType.TheVariants as Typed
use Rattle.registers.specs.declared.RegisterValue.{RegisterValue}
use Rattle.registers.specs.declared.RegisterValue.TheVariants.{Float, Nan, UInt32}

-- the value of a type that has these 32 bits
unfoldable pub value_of : RegisterDataType → ℕ → RegisterValue
value_of Typed.Float b = cond (nan_bits binary32 b) (Nan (record { 0 = b })) (Float (of_bits binary32 b))
value_of Typed.UInt32 b = UInt32 b

unfoldable pub bits_of : RegisterValue → ℕ
bits_of (Float x) = to_bits binary32 x
bits_of (Nan b) = b.0
bits_of (UInt32 n) = n

unfoldable pub type_of : RegisterValue → RegisterDataType
type_of (Float x) = Typed.Float
type_of (Nan b) = Typed.Float
type_of (UInt32 n) = Typed.UInt32

abbrev pub is_u32 : RegisterDataType → Bool
is_u32 Typed.Float = false
is_u32 Typed.UInt32 = true

-- a value of that type
unfoldable pub of_type : RegisterValue → RegisterDataType → Bool
unfolding type_of
of_type value Typed.Float = not (is_u32 (type_of value))
of_type value Typed.UInt32 = is_u32 (type_of value)

-- equal by type and bits
unfoldable pub same_value : RegisterValue → RegisterValue → Bool
unfolding bits_of type_of
same_value a b = beq (is_u32 (type_of a)) (is_u32 (type_of b)) && eqb (bits_of a) (bits_of b)
