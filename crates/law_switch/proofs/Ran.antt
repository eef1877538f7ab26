-- How a switch ran: each of its turns is one step of its definition. Assumes nothing.
use Rattle.std.specs.Prelude.{None, Option, Some, Ok, Err}
use Prim.Native.Nat.{◌≤◌, ◌^◌}
use mathlib.Core.Path.{◌≡◌, refl, ap, ◌∙◌}
use mathlib.Core.List.{List, [], ◌∷◌}
use Rattle.std.specs.declared.ops.ControlFlow.TheVariants.{Continue, Break}
use Rattle.time.specs.declared.Instant.{Instant}
use Rattle.time.specs.declared.Duration.{Duration}
use Rattle.protocol_hold.specs.declared.ControlMode.{ControlMode}
use Rattle.state_cache.specs.declared.Entry.{Entry}
use Rattle.state_cache.specs.declared.Place.TheVariants.{Reply}
use Rattle.run_want.specs.Step.{Stepped, map_stepped}
use Rattle.switch_stage.specs.Stage.{switch_place}
use Rattle.switch_stage.specs.declared.Switch.{Switch}
use Rattle.switch_step.specs.Switch.{switch_step}
use Rattle.run_machine.specs.Machine.{RunResult}
use Rattle.run_machine.specs.declared.Machine.{Machine}
use Rattle.run_machine.specs.declared.Machine.TheVariants.{EnsureControlMode}
use Rattle.run_machine.specs.declared.Outcome.{Outcome}
use Rattle.run_step.specs.Step.{machine_step}
use Rattle.run_want.specs.declared.Answer.{Answer}
use Rattle.state_feedback.specs.declared.FeedbackSnapshot.{FeedbackSnapshot}
use Rattle.motor_core.proofs.Turned.{clash}
use Rattle.session.specs.declared.Head.{Head}
use Rattle.session.specs.declared.Session.{Session}
use Rattle.session_step.specs.Parts.{with_reading}
use Rattle.law_runs.specs.Systems.{phase_of}
use Rattle.law_calls.specs.Ran as Run
use Rattle.law_calls.specs.Ran.{looked_at, gives, gives_result}
use Rattle.law_calls.specs.Turns.{Gave, Turn}

-- what is there for a look in the phase `p`: in a read of register 10 the last reply of it
abbrev pub seen : Switch → Turn → Entry
seen p t = looked_at t.sees (switch_place p)

pub sees_mode : (p : Switch) (t : Turn) → switch_place p ≡ Some (Reply 10) → seen p t ≡ t.sees (Reply 10)
sees_mode p t e = ap (looked_at t.sees) e

-- a switch of the motor and limits `h`; `end` is the session at the end of the list
module _ (h : Head) (mode : ControlMode) (timeout : Duration) where
  abbrev pub machine : Switch → Machine
  machine p = EnsureControlMode mode timeout p

  -- what a phase gives, and a result
  abbrev pub gave_want : Switch → Gave
  gave_want p = gives h (machine p)

  abbrev pub gave_result : RunResult → Gave
  gave_result r = gives_result h r

  abbrev pub Took : Switch → Instant → Turn → Type 0
  Took p l t = Run.Took h (machine p) l t

  -- a step of the switch as one of the run
  abbrev pub after_switch : Stepped Switch (Unit {0}) → Stepped Machine Outcome
  after_switch x = map_stepped machine (λ done. Outcome.Done) x

  -- the switch goes on, or ends with this turn
  abbrev pub Onward : (Switch → Type 0) → Stepped Switch (Unit {0}) → Turn → List Turn → Type 0
  Onward rest (Ok (Continue q)) t ts = (t.gave ≡ gave_want q) × rest q
  Onward rest (Ok (Break done)) t ts = (t.gave ≡ gave_result (Ok Outcome.Done)) × (ts ≡ [])
  Onward rest (Err failure) t ts = (t.gave ≡ gave_result (Err failure)) × (ts ≡ [])

  -- by what the step came to
  pub onward_cases : {P : Type 0} (R : Switch → Type 0) (t : Turn) (ts : List Turn) (x : Stepped Switch (Unit {0})) → Onward R x t ts
      → ((q : Switch) → x ≡ Ok (Continue q) → t.gave ≡ gave_want q → R q → P)
      → ((r : RunResult) → phase_of (after_switch x) ≡ None → t.gave ≡ gave_result r → ts ≡ [] → P) → P
  onward_cases R t ts (Ok (Continue q)) (gave, rest) goes ends = goes q refl gave rest
  onward_cases R t ts (Ok (Break done)) (gave, stop) goes ends = ends (Ok Outcome.Done) refl gave stop
  onward_cases R t ts (Err failure) (gave, stop) goes ends = ends (Err failure) refl gave stop

  module _ (end : Session) where
    unfoldable pub Ran : Switch → Instant → List Turn → Type 0
    Ran p l [] = (end.run ≡ Some (machine p)) × (end.head.last.0 ≤ 2 ^ 62)
    Ran p l (t ∷ ts) = (k : Took p l t) × Onward (λ q. Ran q (with_reading k.head t.answer).last ts) (switch_step mode timeout (seen p t) p t.answer) t ts

    -- as any run does
    pub of_run : (ts : List Turn) (p : Switch) (l : Instant) → Run.Ran h end (machine p) l ts → Ran p l ts
    unfolding Run.Ran Ran
    of_run [] p l ran = ran
    of_run (t ∷ ts) p l (k, on) = (k, go (λ q. of_run ts q (with_reading k.head t.answer).last) (switch_step mode timeout (seen p t) p t.answer) on)
      where
        go : ((q : Switch) → Run.Ran h end (machine q) (with_reading k.head t.answer).last ts → Ran q (with_reading k.head t.answer).last ts) → (x : Stepped Switch (Unit {0})) → Run.Onward h (λ m. Run.Ran h end m (with_reading k.head t.answer).last ts) (after_switch x) t ts → Onward (λ q. Ran q (with_reading k.head t.answer).last ts) x t ts
        go rest (Ok (Continue q)) (gave, on) = (gave, rest q on)
        go rest (Ok (Break done)) on = on
        go rest (Err failure) on = on

-- its machine is a switch's in each of its phases
module _ (mode : ControlMode) (timeout : Duration) where
  abbrev pub IsSwitch : Machine → Type 0
  IsSwitch m = (p : Switch) × (EnsureControlMode mode timeout p ≡ m)

  pub stays_switch : (latest : Option FeedbackSnapshot) (e : Entry) (m : Machine) (a : Answer) (q : Machine) → IsSwitch m → machine_step latest e m a ≡ Ok (Continue q) → IsSwitch q
  stays_switch latest e m a q (p, is) next = go (switch_step mode timeout e p a) (ap (λ (m : Machine). machine_step latest e m a) is ∙ next)
    where
      the_same : (r : Switch) → ◌≡◌ {A = Stepped Machine Outcome} (Ok (Continue (EnsureControlMode mode timeout r))) (Ok (Continue q)) → EnsureControlMode mode timeout r ≡ q
      the_same r h = cc

      go : (x : Stepped Switch (Unit {0})) → map_stepped (EnsureControlMode mode timeout) (λ done. Outcome.Done) x ≡ Ok (Continue q) → IsSwitch q
      go (Ok (Continue r)) h = (r, the_same r h)
      go (Ok (Break done)) h = absurd (clash (cc))
      go (Err failure) h = absurd (clash (cc))
