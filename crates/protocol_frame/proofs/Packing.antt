-- Fields that are packed one after the other. Assumes nothing.
use mathlib.Core.Path.{◌≡◌, sym, ap, ◌∙◌}
use mathlib.Core.List.{List, [], ◌∷◌}
use Prim.Native.Nat.{ℕ, ◌+◌, ◌*◌, ◌/◌, ◌%◌, ◌^◌, ◌<◌}
use native.Mathlib.Omega.{arith}
use lib.Pow.{pow-add}
use Rattle.protocol_frame.specs.Layout.{Field, byte, packed, packed_onto, little_endian, addressed, data_byte}

-- how many bits the fields have
pub total : List Field → ℕ
total [] = 0
total (f ∷ fs) = f.width + total fs

-- packed after n is n moved up, and the fields packed by themselves
pub onto : (n : ℕ) (fs : List Field) → packed_onto n fs ≡ n * 2 ^ total fs + packed fs
unfolding packed_onto total
onto n [] = omega arith
onto n (f ∷ fs) =
    let v = f.value % 2 ^ f.width in
    onto (n * 2 ^ f.width + v) fs
    ∙ shift n (2 ^ f.width) v (2 ^ total fs) (packed fs)
    ∙ ap (λ (p : ℕ). n * p + ((0 * 2 ^ f.width + v) * 2 ^ total fs + packed fs)) (sym (pow-add 2 f.width (total fs)))
    ∙ ap (λ (x : ℕ). n * 2 ^ (f.width + total fs) + x) (sym (onto (0 * 2 ^ f.width + v) fs))
  where
    shift : (n w v t x : ℕ) → (n * w + v) * t + x ≡ n * (w * t) + ((0 * w + v) * t + x)
    shift n w v t x = omega arith

-- four bytes, lowest first, after n
pub four_bytes : (n b : ℕ) → packed_onto n (little_endian 4 b) ≡ n * 4294967296 + packed (little_endian 4 b)
unfolding total little_endian
four_bytes n b = onto n (little_endian 4 b)

pub four_bytes_lt : (b : ℕ) → packed (little_endian 4 b) < 2 ^ 32
unfolding packed_onto little_endian
four_bytes_lt b = omega arith

-- eight bytes that are packed come back as d0 to d7
abbrev pub eight : ℕ → ℕ → ℕ → ℕ → ℕ → ℕ → ℕ → ℕ → ℕ
eight a b c d e f g h = packed (byte a ∷ byte b ∷ byte c ∷ byte d ∷ byte e ∷ byte f ∷ byte g ∷ byte h ∷ [])

pub record AreBytes (n a b c d e f g h : ℕ) : Type 0 where
  pub d0 : data_byte n 0 ≡ a
  pub d1 : data_byte n 1 ≡ b
  pub d2 : data_byte n 2 ≡ c
  pub d3 : data_byte n 3 ≡ d
  pub d4 : data_byte n 4 ≡ e
  pub d5 : data_byte n 5 ≡ f
  pub d6 : data_byte n 6 ≡ g
  pub d7 : data_byte n 7 ≡ h

pub eight_bytes : (a b c d e f g h : ℕ) → AreBytes (eight a b c d e f g h) (a % 256) (b % 256) (c % 256) (d % 256) (e % 256) (f % 256) (g % 256) (h % 256)
unfolding packed_onto
eight_bytes a b c d e f g h = record {
  d0 = omega arith;
  d1 = omega arith;
  d2 = omega arith;
  d3 = omega arith;
  d4 = omega arith;
  d5 = omega arith;
  d6 = omega arith;
  d7 = omega arith;
}

-- an id, two bytes and a word, each with its lowest byte first
pub addressed_bytes : (id a b word : ℕ) → AreBytes (addressed id (byte a ∷ byte b ∷ little_endian 4 word)) (id % 256) (id / 256 % 256) (a % 256) (b % 256) (word % 256) (word / 256 % 256) (word / 256 / 256 % 256) (word / 256 / 256 / 256 % 256)
unfolding packed_onto addressed little_endian
addressed_bytes id a b word = eight_bytes id (id / 256) a b word (word / 256) (word / 256 / 256) (word / 256 / 256 / 256)
