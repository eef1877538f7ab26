-- The numbers of the refusals: 1 to 12 are document 01's 'Turned back', those above are document 02's. Definitions only.
use Rattle.std.specs.Prelude.{ℕ}
use Rattle.motor_core.specs.declared.error.Refusal.{Refusal}
use Rattle.motor_core.specs.declared.error.Refusal.TheVariants.{Limit, MotorId, Reading, Register, ReadOnly, ValueType, Timeout, RunOpen, NotWanted, Mode, Query, Model, RegisterFrame, FieldWidth, ForeignFrame}

abbrev pub number : Refusal → ℕ
-- a limit that is not accepted
number Limit = 1
-- a motor id that is not accepted
number MotorId = 2
-- a reading of the clock that is not accepted
number Reading = 3
-- a number that no register has
number Register = 4
-- a write to a register that can only be read
number ReadOnly = 5
-- a write of the type that the register does not hold
number ValueType = 6
-- a timeout that is not accepted
number Timeout = 7
-- a start while a run is open
number RunOpen = 8
-- an answer that no run wants
number NotWanted = 9
-- a mode that is not 1 to 4
number Mode = 10
-- a query that is not accepted
number Query = 11
-- a model's name that the list lacks
number Model = 12
-- a feedback that would be read as a register's frame
number RegisterFrame = 13
-- a field that is too wide
number FieldWidth = 14
-- a frame that is not this motor's
number ForeignFrame = 15
