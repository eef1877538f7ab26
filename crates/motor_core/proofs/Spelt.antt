-- A name made of a text's bytes. Assumes nothing.
use Rattle.std.proofs.Common.{◌≡◌, ℕ, ◌-◌, ◌≤◌, List, ◌++◌, length, replicate, ap, sym}
use Rattle.std.proofs.lemmas.List.{take_all}
use Prim.Native.String.{String}
use Rattle.text.specs.Ascii.{ascii}
use Rattle.motor_core.specs.Name.{name_of, name_from}

-- of a text of at most 15 bytes `name_of` is the name that the constructor makes of its bytes
pub of_text : (s : String) → length (ascii s) ≤ 15 → name_of s ≡ name_from (ascii s)
unfolding name_of name_from
of_text s h =
    ap (λ (bytes : List ℕ). record { bytes = bytes ++ replicate (15 - length (ascii s)) 0x20; len = length bytes }) (sym (take_all 15 (ascii s) h))
