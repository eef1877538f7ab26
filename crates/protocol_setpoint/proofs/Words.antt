-- What follows the first four bytes. Assumes nothing.
use mathlib.Core.Path.{◌≡◌}
use mathlib.Core.List.{◌++◌}
use Prim.Native.Nat.{ℕ, ◌+◌, ◌*◌, ◌/◌, ◌%◌, ◌<◌}
use native.Mathlib.Omega.{arith}
use Rattle.protocol_frame.specs.Layout.{packed_onto, little_endian, bytes}

-- two words of two bytes, each lowest first, after n
pub two_words : (n a b : ℕ) → a < 65536 → b < 65536 → n * 4294967296 + (a % 256 * 256 + a / 256) * 65536 + (b % 256 * 256 + b / 256) ≡ packed_onto n (little_endian 2 a ++ little_endian 2 b)
unfolding packed_onto little_endian
two_words n a b h k = omega arith

-- four bytes of 0 after n
pub zeros : (n : ℕ) → n * 4294967296 ≡ packed_onto n (bytes 4 0)
unfolding packed_onto bytes
zeros n = omega arith
