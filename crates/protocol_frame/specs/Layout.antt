-- How numbers lie in a frame's data: one number of 64 bits, of which d0 is the highest byte. Definitions only.
use Rattle.std.specs.Prelude.{ℕ, zero, suc, ◌+◌, ◌-◌, ◌*◌, ◌/◌, ◌%◌, ◌^◌, Bool, true, ◌&&◌, leb, List, [], ◌∷◌, ◌++◌, get_or}

-- so many bits, which hold a number's lowest ones
pub record Field : Type 0 where
  pub width : ℕ
  pub value : ℕ

abbrev pub field : ℕ → ℕ → Field
field w n = record { width = w; value = n }

abbrev pub byte : ℕ → Field
byte n = field 8 n

-- whether the bits have room for the numbers
unfoldable pub all_fit : List Field → Bool
all_fit [] = true
all_fit (f ∷ fs) = leb f.value (2 ^ f.width - 1) && all_fit fs

-- fields after n, high bit first
unfoldable pub packed_onto : ℕ → List Field → ℕ
packed_onto n [] = n
packed_onto n (f ∷ fs) = packed_onto (n * 2 ^ f.width + f.value % 2 ^ f.width) fs

-- fields high bit first
abbrev pub packed : List Field → ℕ
packed fs = packed_onto 0 fs

-- a number's lowest k bytes, lowest first
unfoldable pub little_endian : ℕ → ℕ → List Field
little_endian zero n = []
little_endian (suc k) n = byte n ∷ little_endian k (n / 256)

-- 'The command bytes', requests, and the motor's answers to them: an id in d0 and d1, lowest byte first, and what follows it
unfoldable pub addressed : ℕ → List Field → ℕ
unfolding packed_onto little_endian
addressed id rest = packed (little_endian 2 id ++ rest)

-- k bytes, all n
unfoldable pub bytes : ℕ → ℕ → List Field
bytes zero n = []
bytes (suc k) n = byte n ∷ bytes k n

-- d0 to d7 of a frame's data
abbrev pub data_byte : ℕ → ℕ → ℕ
data_byte n k = n / 256 ^ (7 - k) % 256

unfoldable pub data_bytes : ℕ → List ℕ
data_bytes n =
    data_byte n 0
    ∷ data_byte n 1
    ∷ data_byte n 2
    ∷ data_byte n 3
    ∷ data_byte n 4
    ∷ data_byte n 5
    ∷ data_byte n 6
    ∷ data_byte n 7
    ∷ []

-- d0 to d7 of a received frame's bytes
abbrev pub d : List ℕ → ℕ → ℕ
d bytes k = get_or bytes k 0
