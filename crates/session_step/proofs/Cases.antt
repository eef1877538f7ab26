-- An answer is refused, or accepted by an open machine that wants its kind. Assumes nothing.
use mathlib.Core.Path.{◌≡◌, refl}
use mathlib.Core.Bool.{Bool, true, false, cond}
use Rattle.std.specs.Prelude.{Option, Some, None, Result, Ok, Err}
use Rattle.motor_core.specs.declared.error.Refusal.{Refusal}
use Rattle.state_cache.specs.declared.Entry.{Entry}
use Rattle.run_want.specs.Want.{fits}
use Rattle.run_want.specs.declared.Answer.{Answer}
use Rattle.run_machine.specs.Machine.{machine_want}
use Rattle.run_machine.specs.declared.Machine.{Machine}
use Rattle.run_machine.specs.declared.Outcome.{Outcome}
use Rattle.run_want.specs.Step.{Stepped}
use Rattle.run_step.specs.Step.{machine_step}
use Rattle.std.specs.declared.ops.ControlFlow.TheVariants.{Continue, Break}
use Rattle.motor_core.proofs.Turned.{clash}
use Rattle.session.specs.declared.Head.{Head}
use Rattle.session_step.specs.Parts.{answer_accepted, with_reading, stepped, answer_step}
use Rattle.session_step.specs.declared.AnswerStep.{AnswerStep}

module _ (h : Head) (e : Entry) (run : Option Machine) (a : Answer) where
  abbrev pub accepted_by : Machine → AnswerStep
  accepted_by m = stepped (with_reading h a) (machine_step h.feedback.latest e m a)

  pub step_cases : (P : Result AnswerStep Refusal → Type 0) → ((n : Refusal) → P (Err n)) → ((m : Machine) → run ≡ Some m → fits (machine_want m) a ≡ true → answer_accepted h.last a ≡ true → P (Ok (accepted_by m))) → P (answer_step h e run a)
  step_cases P turned_back accepted = by run refl
    where
      read : (m : Machine) → run ≡ Some m → fits (machine_want m) a ≡ true → (b : Bool) → answer_accepted h.last a ≡ b → P (cond b (Ok (accepted_by m)) (Err Refusal.Reading))
      read m o f true x = accepted m o f x
      read m o f false x = turned_back Refusal.Reading

      fit : (m : Machine) → run ≡ Some m → (b : Bool) → fits (machine_want m) a ≡ b → P (cond b (cond (answer_accepted h.last a) (Ok (accepted_by m)) (Err Refusal.Reading)) (Err Refusal.NotWanted))
      fit m o true f = read m o f (answer_accepted h.last a) refl
      fit m o false f = turned_back Refusal.NotWanted

      by : (p : Option Machine) → run ≡ p → P (answer_step h e p a)
      by None o = turned_back Refusal.NotWanted
      by (Some m) o = fit m o (fits (machine_want m) a) refl

-- ---- the head after an accepted answer
stepped_head : (h : Head) (next : Stepped Machine Outcome) → (stepped h next).head ≡ h
stepped_head h (Ok (Continue machine)) = refl
stepped_head h (Ok (Break outcome)) = refl
stepped_head h (Err failure) = refl

pub head_after : (h : Head) (e : Entry) (run : Option Machine) (a : Answer) (step : AnswerStep) → answer_step h e run a ≡ Ok step → step.head ≡ with_reading h a
head_after h e run a step =
    step_cases h e run a (λ r. r ≡ Ok step → step.head ≡ with_reading h a) refused (λ m o f x k. accepted (accepted_by h e run a m) k (stepped_head (with_reading h a) (machine_step h.feedback.latest e m a)))
  where
    refused : (n : Refusal) → ◌≡◌ {A = Result AnswerStep Refusal} (Err n) (Ok step) → step.head ≡ with_reading h a
    refused n k = absurd (clash (cc))

    accepted : (given : AnswerStep) → ◌≡◌ {A = Result AnswerStep Refusal} (Ok given) (Ok step) → given.head ≡ with_reading h a → step.head ≡ with_reading h a
    accepted given k g = cc
