-- The list of registers, as document 01 has it. Definitions only.
use Rattle.std.specs.Prelude.{ℕ, zero, suc, ◌-◌, Bool, false, ◌||◌, cond, List, [], ◌∷◌, ◌++◌, eqb, Option, Some, None}
use Rattle.registers.specs.declared.RegisterAccess.{RegisterAccess}
use Rattle.registers.specs.declared.RegisterAccess.TheVariants.{ReadOnly, ReadWrite}
use Rattle.registers.specs.declared.RegisterDataType.{RegisterDataType}
use Rattle.registers.specs.declared.RegisterDataType.TheVariants.{Float, UInt32}
use Rattle.registers.specs.declared.RegisterInfo.{RegisterInfo}

infix 30 ◌to◌
-- n numbers from a on
unfoldable pub count_from : ℕ → ℕ → List ℕ
count_from a zero = []
count_from a (suc n) = a ∷ count_from (suc a) n

-- the numbers from a to b
unfoldable pub ◌to◌ : ℕ → ℕ → List ℕ
unfolding count_from
a to b = count_from a (suc b - a)

unfoldable pub elem : ℕ → List ℕ → Bool
elem x [] = false
elem x (y ∷ ys) = eqb x y || elem x ys

-- 'The register answers': the 53 registers
unfoldable pub registers : List ℕ
unfolding ◌to◌
registers = (0 to 36) ++ (50 to 56) ++ (59 to 65) ++ (80 to 81)

-- those that hold a whole number; the others hold a float
unfoldable pub whole_number : List ℕ
unfolding ◌to◌
whole_number = (7 to 10) ++ (13 to 16) ++ (35 to 36)

-- those that can be written
unfoldable pub writable : List ℕ
unfolding ◌to◌
writable = (0 to 10) ++ (21 to 35)

unfoldable pub known : ℕ → Bool
unfolding elem registers
known rid = elem rid registers

unfoldable pub access_of : ℕ → RegisterAccess
unfolding elem writable
access_of rid = cond (elem rid writable) ReadWrite ReadOnly

unfoldable pub data_type_of : ℕ → RegisterDataType
unfolding elem whole_number
data_type_of rid = cond (elem rid whole_number) UInt32 Float

unfoldable pub info_of : ℕ → Option RegisterInfo
unfolding known access_of data_type_of
info_of rid = cond (known rid) (Some (record { access = access_of rid; data_type = data_type_of rid })) None
