-- The fresh-state request: document 01's 'The runs'. Definitions only.
use Rattle.std.specs.Prelude.{Option, Some, None, option_map, Ok}
use Rattle.motor_core.specs.AndThen.{and_then}
use Rattle.time.specs.declared.Duration.{Duration}
use Rattle.state_feedback.specs.declared.FeedbackSnapshot.{FeedbackSnapshot}
use Rattle.state_feedback.specs.declared.MotorFeedbackState.{MotorFeedbackState}
use Rattle.run_want.specs.declared.Answer.{Answer}
use Rattle.run_want.specs.declared.Want.{Want}
use Rattle.run_want.specs.declared.message.Message.{Message}
use Rattle.run_want.specs.declared.message.Message.TheVariants.{RequestFeedback}
use Rattle.run_wait.specs.Ask.{ask_want, ask_step, looked}
use Rattle.run_wait.specs.Look.{fresh_record}
use Rattle.run_wait.specs.declared.ask.Ask.{Ask}
use Rattle.run_wait.specs.declared.Waited.{Waited}
use Rattle.run_want.specs.Step.{Stepped, goes, ends}

abbrev pub state_want : Ask → Want Message
state_want ask = ask_want RequestFeedback ask

-- a fresh record is the state; past the deadline there is none, which is no failure
abbrev pub state_by : Option FeedbackSnapshot → Waited Ask → Stepped Ask (Option MotorFeedbackState)
state_by latest (Waited.Goes ask) = goes ask
state_by latest (Waited.Looks opening) = Ok (looked opening (option_map (λ (s : FeedbackSnapshot). Some s.state) (fresh_record opening latest)))
state_by latest Waited.Late = ends None

-- `request_fresh_state`, looking at the latest record
abbrev pub state_step : Duration → Option FeedbackSnapshot → Ask → Answer → Stepped Ask (Option MotorFeedbackState)
state_step timeout latest ask answer = and_then (ask_step timeout ask answer) (state_by latest)
