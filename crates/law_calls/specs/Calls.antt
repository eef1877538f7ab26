-- A list of calls on one session: document 01, 'The runs', its last paragraph. The session begins fresh, and each call gets the one that the call before it left. Definitions only.
use Rattle.std.specs.Prelude.{ℕ, ◌≡◌, List, [], ◌∷◌, None, Option, Some, Result, Ok, Err}
use Rattle.motor_core.specs.declared.error.Refusal.{Refusal}
use Rattle.motor_core.specs.declared.model.Maxima.{Maxima}
use Rattle.model_list.specs.declared.MotorModelSpec.{MotorModelSpec}
use Rattle.state_feedback.specs.declared.FeedbackSnapshot.{FeedbackSnapshot}
use Rattle.run_want.specs.declared.Want.{Want}
use Rattle.run_want.specs.declared.message.Message.{Message}
use Rattle.run_machine.specs.Machine.{machine_want}
use Rattle.run_machine.specs.declared.Machine.{Machine}
use Rattle.session.specs.Start.{from_limits, from_model}
use Rattle.session.specs.declared.Session.{Session}
use Rattle.session_step.specs.declared.Told.{Told}
use Rattle.session_call.specs.Step.{step}
use Rattle.session_call.specs.declared.Call.{Call}
use Rattle.session_call.specs.declared.Returned.{Returned}

-- a fresh session is that of an accepted start with these ids
pub data Fresh (motor_id feedback_id : ℕ) (s : Session) : Type 0 where
  of_limits : (m : Maxima) → from_limits motor_id feedback_id m ≡ Ok s → Fresh motor_id feedback_id s
  of_model : (models : List MotorModelSpec) (name : List ℕ) → from_model motor_id feedback_id models name ≡ Ok s → Fresh motor_id feedback_id s

-- what the run's definition wants
abbrev pub open_want : Option Machine → Option (Want Message)
open_want None = None
open_want (Some machine) = Some (machine_want machine)

-- a call, the latest record before it, what it returned, and what the run's definition, stepped over the same list, wants then
pub record Event : Type 0 where
  pub call : Call
  pub latest : Option FeedbackSnapshot
  pub returned : Returned
  pub wants : Option (Want Message)

abbrev pub event : Session → Call → Event
event s c = record { call = c; latest = s.head.feedback.latest; returned = (step s c).told; wants = open_want (step s c).session.run }

unfoldable pub events : Session → List Call → List Event
events s [] = []
events s (c ∷ cs) = event s c ∷ events (step s c).session cs

unfoldable pub session_after : Session → List Call → Session
session_after s [] = s
session_after s (c ∷ cs) = session_after (step s c).session cs

-- ---- what calls return

-- of a start or an answer: a want, a result, or a refusal
abbrev pub Answered : Type 0
Answered = Result Told Refusal

unfoldable pub Accepted : Answered → Type 0
Accepted (Ok (Told.Want want)) = Unit {0}
Accepted (Ok (Told.Result r)) = Unit {0}
Accepted (Err refusal) = ⊥

unfoldable pub IsRefusal : Returned → Type 0
IsRefusal (Returned.Run (Ok (Told.Want want))) = ⊥
IsRefusal (Returned.Run (Ok (Told.Result r))) = ⊥
IsRefusal (Returned.Run (Err refusal)) = Unit {0}
IsRefusal (Returned.Frame (Ok taken)) = ⊥
IsRefusal (Returned.Frame (Err refusal)) = Unit {0}
IsRefusal (Returned.Patch done) = ⊥
