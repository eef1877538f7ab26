-- Storing: document 01's 'The runs', its last rule. Definitions only.
use Rattle.std.specs.Prelude.{cond, eqb, Option, Some, None, Ok, Err}
use Rattle.motor_core.specs.AndThen.{and_then}
use Rattle.time.specs.Time.{millis}
use Rattle.time.specs.declared.Duration.{Duration}
use Rattle.state_feedback.specs.declared.FeedbackSnapshot.{FeedbackSnapshot}
use Rattle.state_feedback.specs.declared.MotorFeedbackState.{MotorFeedbackState}
use Rattle.run_want.specs.Want.{send_outcome}
use Rattle.run_want.specs.declared.Answer.{Answer}
use Rattle.run_want.specs.Step.{Stepped, goes, ends}
use Rattle.std.specs.declared.ops.ControlFlow.TheVariants.{Continue, Break}
use Rattle.run_want.specs.declared.Want.{Want}
use Rattle.run_want.specs.declared.Want.TheVariants.{Send, Sleep}
use Rattle.run_want.specs.declared.message.Message.{Message}
use Rattle.run_want.specs.declared.message.Message.TheVariants.{Disable, StoreParams}
use Rattle.run_fresh.specs.State.{state_want, state_step}
use Rattle.run_wait.specs.declared.ask.Ask.{Ask}
use Rattle.run_fresh.specs.declared.store.Store.{Store}
use Rattle.run_fresh.specs.declared.store.Store.TheVariants.{Asking, Disabling, Disabled, Storing, Stored}

abbrev pub state_timeout : Duration
state_timeout = millis 50

-- a disable settles for 20 ms, storing for 30
abbrev pub store_want : Store → Want Message
store_want (Asking ask) = state_want ask
store_want Disabling = Send Disable
store_want Disabled = Sleep (millis 20)
store_want Storing = Send StoreParams
store_want Stored = Sleep (millis 30)

-- a motor that says status 0 needs no disable
abbrev pub by_status : MotorFeedbackState → Store
by_status state = cond (eqb state.status_code 0) Storing Disabling

-- no state, or a request that failed, is followed by a disable
abbrev pub store_asked : Stepped Ask (Option MotorFeedbackState) → Store
store_asked (Ok (Continue ask)) = Asking ask
store_asked (Ok (Break (Some state))) = by_status state
store_asked (Ok (Break None)) = Disabling
store_asked (Err failure) = Disabling

-- `store_parameters`, looking at the latest record: a disable or a store frame that is not sent ends it
abbrev pub store_step : Option FeedbackSnapshot → Store → Answer → Stepped Store (Unit {0})
store_step latest (Asking ask) answer = goes (store_asked (state_step state_timeout latest ask answer))
store_step latest Disabling answer = and_then (send_outcome answer) (λ sent. goes Disabled)
store_step latest Disabled answer = goes Storing
store_step latest Storing answer = and_then (send_outcome answer) (λ sent. goes Stored)
store_step latest Stored answer = ends tt
