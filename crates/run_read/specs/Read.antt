-- The register read: document 01's 'The runs'. Definitions only.
use Rattle.std.specs.Prelude.{ℕ, cond, Result, Ok, Err}
use Rattle.motor_core.specs.AndThen.{and_then}
use Rattle.time.specs.declared.Duration.{Duration}
use Rattle.registers.specs.Value.{of_type}
use Rattle.registers.specs.declared.RegisterDataType.{RegisterDataType}
use Rattle.registers.specs.declared.RegisterValue.{RegisterValue}
use Rattle.state_cache.specs.Cache.{value_in}
use Rattle.state_cache.specs.declared.Entry.{Entry}
use Rattle.run_want.specs.declared.Answer.{Answer}
use Rattle.run_want.specs.Step.{Stepped, goes, ends}
use Rattle.run_want.specs.declared.Failure.{Failure}
use Rattle.run_want.specs.declared.Failure.TheVariants.{Timeout, WrongType}
use Rattle.std.specs.declared.ops.ControlFlow.{ControlFlow}
use Rattle.std.specs.declared.ops.ControlFlow.TheVariants.{Continue, Break}
use Rattle.run_want.specs.declared.Want.{Want}
use Rattle.run_want.specs.declared.message.Message.{Message}
use Rattle.run_want.specs.declared.message.Message.TheVariants.{ReadRegister}
use Rattle.run_wait.specs.Ask.{ask_want, ask_step, looked}
use Rattle.run_wait.specs.Look.{fresh_entry}
use Rattle.run_wait.specs.declared.ask.Ask.{Ask}
use Rattle.run_wait.specs.declared.Waited.{Waited}

abbrev pub read_want : ℕ → Ask → Want Message
read_want rid ask = ask_want (ReadRegister rid) ask

-- a fresh reply is the value
abbrev pub read_by : Entry → Waited Ask → Stepped Ask RegisterValue
read_by entry (Waited.Goes ask) = goes ask
read_by entry (Waited.Looks opening) = Ok (looked opening (value_in (fresh_entry opening entry)))
read_by entry Waited.Late = Err Timeout

-- `wait_for_register_value`, looking at the register's reply
abbrev pub read_step : Duration → Entry → Ask → Answer → Stepped Ask RegisterValue
read_step timeout entry ask answer = and_then (ask_step timeout ask answer) (read_by entry)

-- `get_register_u32`, `get_register_f32`: the type of what was found
abbrev pub typed : RegisterDataType → RegisterValue → Result RegisterValue Failure
typed data_type value = cond (of_type value data_type) (Ok value) (Err WrongType)

abbrev pub get_by : RegisterDataType → ControlFlow RegisterValue Ask → Stepped Ask RegisterValue
get_by data_type (Continue ask) = goes ask
get_by data_type (Break value) = and_then (typed data_type value) ends

abbrev pub get_step : RegisterDataType → Duration → Entry → Ask → Answer → Stepped Ask RegisterValue
get_step data_type timeout entry ask answer = and_then (read_step timeout entry ask answer) (get_by data_type)
