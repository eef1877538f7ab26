-- The starts of the runs: document 01's 'The runs' and 'Turned back'. Definitions only.
use Rattle.std.specs.Prelude.{Option, Some, None, Result, Ok, Err}
use Rattle.motor_core.specs.declared.error.Refusal.{Refusal}
use Rattle.registers.specs.Value.{value_of}
use Rattle.registers.specs.declared.RegisterDataType.TheVariants.{Float, UInt32}
use Rattle.registers.specs.declared.RegisterValue.TheVariants as Value
use Rattle.run_machine.specs.Machine.{machine_want}
use Rattle.run_machine.specs.declared.Machine.{Machine}
use Rattle.session.specs.Session.{with_run}
use Rattle.session.specs.declared.Session.{Session}
use Rattle.session_step.specs.Parts.{caller_want}
use Rattle.session_step.specs.declared.Told.TheVariants as Told
use Rattle.session_answer.specs.Answer.{AfterCall}
use Rattle.run_arguments.specs.Arguments.{get_start, write_start, fresh_state_start, store_start, mode_start}
use Rattle.session_begin.specs.declared.Start.{Start}
use Rattle.session_begin.specs.declared.Start.TheVariants.{GetRegisterU32, GetRegisterF32, WriteRegisterU32, WriteRegisterF32, RequestFreshState, StoreParameters, EnsureControlMode}

-- the machine of each run, by its arguments, or what they are refused for
abbrev pub machine_of : Start → Result Machine Refusal
machine_of (GetRegisterU32 rid timeout) = get_start UInt32 rid timeout
machine_of (GetRegisterF32 rid timeout) = get_start Float rid timeout
machine_of (WriteRegisterU32 rid value) = write_start rid (Value.UInt32 value)
machine_of (WriteRegisterF32 rid value) = write_start rid (value_of Float value.0)
machine_of (RequestFreshState timeout) = fresh_state_start timeout
machine_of StoreParameters = Ok store_start
machine_of (EnsureControlMode mode timeout) = mode_start mode timeout

-- an open run comes before all else that a start is refused for
abbrev pub start_step : Option Machine → Start → Result Machine Refusal
start_step None start = machine_of start
start_step (Some machine) start = Err Refusal.RunOpen

-- the run is opened and its first want returned, or the refusal; nothing but the run changes, and no reading is taken
abbrev pub with_opened : Session → Result Machine Refusal → AfterCall
with_opened s (Ok machine) = record {
  session = with_run s (Some machine);
  told = Ok (Told.Want (caller_want s.head (machine_want machine)));
}
with_opened s (Err refusal) = record { session = s; told = Err refusal }

abbrev pub begin : Session → Start → AfterCall
begin s start = with_opened s (start_step s.run start)
