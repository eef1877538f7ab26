-- Floats as codes of so many bits, and back. Each operation is one of f32, rounded once to nearest even. Definitions only.
use Rattle.std.specs.Prelude.{ℕ, ◌-◌, ◌^◌, Float}
use Rattle.std.specs.Float.Ieee.{to_unsigned}
use Rattle.float.specs.Arithmetic.{◌⊕◌, ◌⊖◌, ◌⊗◌, ◌⊘◌, float}
use Rattle.float.specs.Float.{clip}
use Rattle.protocol_codes.specs.declared.Width.{Width}
use Rattle.protocol_codes.specs.declared.Width.TheVariants.{Twelve, Sixteen}

-- the widths in use
abbrev pub bits_in : Width → ℕ
bits_in Twelve = 12
bits_in Sixteen = 16

-- 2^bits - 1
abbrev pub full : ℕ → Float
full bits = float (2 ^ bits - 1)

-- 'The command bytes', `float_to_uint`: how far the clipped value lies above the minimum, in parts of the span as the largest code counts them; the cast drops the fraction and makes 0 of a NaN
unfoldable pub float_to_uint : ℕ → Float → Float → Float → ℕ
float_to_uint bits x min max = to_unsigned 32 ((clip x min max ⊖ min) ⊗ full bits ⊘ (max ⊖ min))

-- 'The feedback on the screen', `uint_to_float`: so many parts of the span above the minimum
unfoldable pub uint_to_float : ℕ → ℕ → Float → Float → Float
uint_to_float bits code min max = float code ⊗ (max ⊖ min) ⊘ full bits ⊕ min
