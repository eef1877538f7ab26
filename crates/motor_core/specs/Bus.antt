-- Frames on the bus. Definitions only.
use Rattle.std.specs.Prelude.{ℕ, ◌≤◌, Bool, leb}

-- an id on the bus has 11 bits
abbrev pub id_fits : ℕ → Type 0
id_fits id = id ≤ 0x7ff

-- 'Turned back', 2, as document 02 has it: the highest motor id that is accepted is 0x4FF, so that 0x300 above it still fits
abbrev pub motor_id_accepted : ℕ → Bool
motor_id_accepted id = leb id 0x4ff
