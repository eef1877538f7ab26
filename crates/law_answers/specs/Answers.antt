-- What each answer says: its number, and its values in the order in which document 01 names them. Definitions only.
use Rattle.std.specs.Prelude.{ℕ, Bool, true, false, List, [], ◌∷◌, ◌++◌, Float, Option, Some, None, Result, Ok, Err}
use Rattle.motor_core.specs.Error.{number}
use Rattle.motor_core.specs.declared.error.Refusal.{Refusal}
use Rattle.motor_core.specs.declared.model.Maxima.{Maxima}
use Rattle.motor_core.specs.declared.name.Name.{Name}
use Rattle.registers.specs.declared.RegisterValue.{RegisterValue}
use Rattle.registers.specs.declared.RegisterValue.TheVariants as Value
use Rattle.protocol_frame.specs.declared.Command.{Command}
use Rattle.protocol_status.specs.declared.StatusName.{StatusName}
use Rattle.protocol_status.specs.declared.StatusName.TheVariants.{Disabled, Enabled, OverVoltage, UnderVoltage, OverCurrent, MosOverTemp, RotorOverTemp, LostComm, Overload, Unknown}
use Rattle.protocol_feedback.specs.declared.SensorFeedback.{SensorFeedback}
use Rattle.state_feedback.specs.declared.MotorFeedbackState.{MotorFeedbackState}
use Rattle.state_cache.specs.declared.Entry.{Entry}
use Rattle.state_cache.specs.declared.Entry.TheVariants.{Empty, Held}
use Rattle.run_want.specs.declared.Want.TheVariants.{Clock, Send, Sleep}
use Rattle.run_want.specs.declared.Failure.{Failure}
use Rattle.run_want.specs.declared.Failure.TheVariants.{Timeout, Mismatch, WrongType, SendFailed}
use Rattle.run_machine.specs.Machine.{RunResult}
use Rattle.run_machine.specs.declared.Outcome.{Outcome}
use Rattle.run_machine.specs.declared.Outcome.TheVariants.{Done, Value as Got, State}
use Rattle.session.specs.declared.Session.{Session}
use Rattle.session_frame.specs.Frame.{FrameOutcome}
use Rattle.session_step.specs.Parts.{Wanted}
use Rattle.session_step.specs.declared.Told.{Told}
use Rattle.session_call.specs.declared.Call.{Call}
use Rattle.session_call.specs.declared.Returned.{Returned}

-- one value: a whole number, or a float itself, since bits do not tell every float here
pub data Item : Type 0 where
  whole : ℕ → Item
  real : Float → Item

abbrev pub Items : Type 0
Items = List Item

-- what an answer says
pub record Numbered (B : Type 0) : Type 0 where
  pub number : ℕ
  pub values : B

-- 'Turned back', the column 'returned': a refusal says its number and no value. What is not refused has number 0
abbrev pub numbered : {A B : Type 0} → B → (A → B) → Result A Refusal → Numbered B
numbered none values (Ok x) = record { number = 0; values = values x }
numbered none values (Err refusal) = record { number = number refusal; values = none }

abbrev pub itemised : {A : Type 0} → (A → Items) → Result A Refusal → Numbered Items
itemised values = numbered [] values

-- where the value is a struct, that is it, or none
abbrev pub in_one : {A : Type 0} → Result A Refusal → Numbered (Option A)
in_one r = numbered None Some r

-- ---- values

-- 'The register answers': a float or a 32-bit whole number, compared bit for bit; a NaN by its bits
abbrev pub value_items : RegisterValue → Items
value_items (Value.Float x) = whole 0 ∷ real x ∷ []
value_items (Value.Nan bits) = whole 1 ∷ whole bits.0 ∷ []
value_items (Value.UInt32 n) = whole 2 ∷ whole n ∷ []

-- 'The register answers': a cached entry is empty, or holds a value together with its stamp
abbrev pub entry_items : Entry → Items
entry_items Empty = []
entry_items (Held value stamp) = value_items value ++ whole stamp.0 ∷ []

-- 'The feedback on the screen', status names: by their order there, UNKNOWN last
abbrev pub name_order : StatusName → ℕ
name_order Disabled = 0
name_order Enabled = 1
name_order OverVoltage = 2
name_order UnderVoltage = 3
name_order OverCurrent = 4
name_order MosOverTemp = 5
name_order RotorOverTemp = 6
name_order LostComm = 7
name_order Overload = 8
name_order Unknown = 9

-- 'The feedback on the screen', feedback: motor, status, position, velocity, torque, the two temperatures
abbrev pub feedback_items : SensorFeedback → Items
feedback_items f = whole f.can_id ∷ whole f.status_code ∷ real f.pos ∷ real f.vel ∷ real f.torq ∷ real f.t_mos ∷ real f.t_rotor ∷ []

-- the same of a state, with the frame's arbitration id and the status name
abbrev pub state_items : MotorFeedbackState → Items
state_items s = whole s.can_id ∷ whole s.arbitration_id ∷ whole s.status_code ∷ whole (name_order s.status_name) ∷ real s.pos ∷ real s.vel ∷ real s.torq ∷ real s.t_mos ∷ real s.t_rotor ∷ []

-- 'The command bytes', last rule: id and bytes
abbrev pub command_items : Command → Items
command_items c = whole c.arbitration_id ∷ whole c.«data» ∷ []

-- document 02, T-02: eight bytes alone
abbrev pub data_items : ℕ → Items
data_items bytes = whole bytes ∷ []

-- the three limits P, V and T
abbrev pub limit_items : Maxima → Items
limit_items m = real m.p_max ∷ real m.v_max ∷ real m.t_max ∷ []

-- ---- the runs

-- 'The runs': one thing at a time is wanted, a clock reading, a send, or a sleep
abbrev pub want_items : Wanted → Items
want_items Clock = whole 0 ∷ []
want_items (Send command) = whole 1 ∷ command_items command
want_items (Sleep length) = whole 2 ∷ whole length.0 ∷ []

-- 'The runs', results: done, with value or state, 0; no state, 1
abbrev pub outcome_items : Outcome → Items
outcome_items Done = whole 0 ∷ []
outcome_items (Got value) = whole 0 ∷ value_items value
outcome_items (State (Some state)) = whole 0 ∷ state_items state
outcome_items (State None) = whole 1 ∷ []

-- then timeout, mismatch with the value got, wrong type, send failed otherwise
abbrev pub failure_items : Failure → Items
failure_items Timeout = whole 2 ∷ []
failure_items (Mismatch value) = whole 3 ∷ value_items value
failure_items WrongType = whole 4 ∷ []
failure_items SendFailed = whole 5 ∷ []

abbrev pub result_items : RunResult → Items
result_items (Ok outcome) = outcome_items outcome
result_items (Err failure) = failure_items failure

-- the next want, or the result
abbrev pub told_items : Told → Items
told_items (Told.Want want) = whole 0 ∷ want_items want
told_items (Told.Result result) = whole 1 ∷ result_items result

-- no or yes
abbrev pub flag : Bool → Item
flag false = whole 0
flag true = whole 1

-- ---- what each call says

-- starting a session
abbrev pub of_start : Result Session Refusal → Numbered (Option Session)
of_start r = in_one r

-- starting any run, answering
abbrev pub of_run : Result Told Refusal → Numbered Items
of_run r = itemised told_items r

-- taking a frame, of which there is nothing more to say
abbrev pub of_frame : FrameOutcome → Numbered Items
of_frame r = itemised (λ taken. []) r

-- 'The feedback on the screen', a patch: whether there was a record. It is never refused
abbrev pub of_patch : Bool → Numbered Items
of_patch found = record { number = 0; values = flag found ∷ [] }

-- a single command frame
abbrev pub of_command : Result Command Refusal → Numbered Items
of_command r = itemised command_items r

-- document 02, T-02: what a motor sends
abbrev pub of_data : Result ℕ Refusal → Numbered Items
of_data r = itemised data_items r

-- decoding
abbrev pub of_decoded : Result SensorFeedback Refusal → Numbered Items
of_decoded r = itemised feedback_items r

-- a cached entry
abbrev pub of_entry : Result Entry Refusal → Numbered Items
of_entry r = itemised entry_items r

-- the model list: a model's limits, and the names that a query finds
abbrev pub of_limits : Result Maxima Refusal → Numbered Items
of_limits r = itemised limit_items r

abbrev pub of_query : Result (List Name) Refusal → Numbered (Option (List Name))
of_query r = in_one r

-- any call on a session
abbrev pub of_call : Returned → Numbered Items
of_call (Returned.Run told) = of_run told
of_call (Returned.Frame outcome) = of_frame outcome
of_call (Returned.Patch found) = of_patch found

-- which kind of call is so answered: a start or an answer, a frame, a patch
abbrev pub kind : Returned → ℕ
kind (Returned.Run told) = 0
kind (Returned.Frame outcome) = 1
kind (Returned.Patch found) = 2

abbrev pub kind_of : Call → ℕ
kind_of (Call.Start start) = 0
kind_of (Call.Answer answer) = 0
kind_of (Call.Frame frame reading) = 1
kind_of (Call.Patch status mos rotor) = 2

abbrev pub with_kind : Returned → ℕ × Numbered Items
with_kind r = (kind r, of_call r)
