-- Names as byte strings. Definitions only.
use Rattle.std.specs.Prelude.{ℕ, ◌-◌, Bool, List, ◌++◌, length, replicate, take, bytes_eq}
use Rattle.std.specs.Ordering.{on}
use Prim.Native.String.{String}
use Rattle.text.specs.Ascii.{ascii}
use Rattle.motor_core.specs.declared.name.Name.{Name}

-- the name that spells a text of at most 15 bytes
unfoldable pub name_of : String → Name
unfolding ascii
name_of s = record { bytes = ascii s ++ replicate (15 - length (ascii s)) 0x20; len = length (ascii s) }

-- the name that spells the first 15 bytes. `name_of` is this of a text's bytes, by `of_text` of proofs/Spelt.antt
unfoldable pub name_from : List ℕ → Name
name_from bytes = record { bytes = take 15 bytes ++ replicate (15 - length bytes) 0x20; len = length (take 15 bytes) }

-- the bytes that a name spells
abbrev pub spelling : Name → List ℕ
spelling name = take name.len name.bytes

-- whether two names spell the same
abbrev pub spell_same : Name → Name → Bool
spell_same = on spelling bytes_eq
