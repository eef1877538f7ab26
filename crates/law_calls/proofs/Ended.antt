-- A run that has not ended stands open: an answer to it is accepted and no start is; one that has ended is closed. Assumes nothing.
use Rattle.std.specs.Prelude.{None, Some, Ok, Err}
use Prim.Native.Nat.{◌≤◌, ◌^◌}
use mathlib.Core.Path.{◌≡◌, refl, sym, ap, ◌∙◌, subst}
use mathlib.Core.List.{List, [], ◌∷◌}
use Rattle.motor_core.specs.declared.error.Refusal.TheVariants.{RunOpen}
use Rattle.std.specs.declared.ops.ControlFlow.TheVariants.{Continue, Break}
use Rattle.time.specs.declared.Instant.{Instant}
use Rattle.run_want.specs.Step.{Stepped}
use Rattle.run_want.specs.declared.Answer.{Answer}
use Rattle.run_want.specs.declared.Want.{Want}
use Rattle.run_want.specs.declared.message.Message.{Message}
use Rattle.run_machine.specs.Machine.{RunResult, machine_want}
use Rattle.run_machine.specs.declared.Machine.{Machine}
use Rattle.run_machine.specs.declared.Outcome.{Outcome}
use Rattle.run_step.specs.Step.{machine_step}
use Rattle.session.specs.declared.Head.{Head}
use Rattle.session.specs.declared.Session.{Session}
use Rattle.session_step.specs.Parts.{caller_want, with_reading, stepped}
use Rattle.session_step.specs.declared.Told.TheVariants as Told
use Rattle.session_answer.proofs.Effects.{entry, answer_taken, answerable}
use Rattle.session_answer.specs.Answer.{AfterCall, with_step, answer_run}
use Rattle.session_begin.specs.declared.Start.{Start}
use Rattle.session_call.specs.Step.{step}
use Rattle.session_call.specs.declared.Call.TheVariants as Call
use Rattle.session_call.specs.declared.Returned.TheVariants as Returned
use Rattle.law_calls.specs.Calls.{Answered, Accepted}
use Rattle.law_calls.specs.Ran.{gives, gives_result, next, Ran}
use Rattle.law_calls.specs.Turns.{Gave, Turn, result_in, result_of, gave_after}
use Rattle.std.proofs.lemmas.Option.{none-some}
use Rattle.law_calls.proofs.Ran.{onward_cases, start_waits}

wants_accepted : (h : Head) (w : Want Message) → Accepted (Ok (Told.Want (caller_want h w)))
unfolding Accepted
wants_accepted h w = tt

module _ (h : Head) where
  -- a turn that goes on has no result, and one that ends has that one
  pub want_on : (t : Turn) (ts : List Turn) (m : Machine) → t.gave ≡ gives h m → result_of (t ∷ ts) ≡ result_of ts
  unfolding result_of result_in
  want_on t ts m gave = ap (λ (g : Gave). result_in g.told (result_of ts)) gave

  pub end_of : (t : Turn) (ts : List Turn) (r : RunResult) → t.gave ≡ gives_result h r → result_of (t ∷ ts) ≡ Some r
  unfolding result_of result_in
  end_of t ts r gave = ap (λ (g : Gave). result_in g.told (result_of ts)) gave

module _ (h : Head) (end : Session) where
  abbrev StandsOpen : Type 0
  StandsOpen = (m : Machine) × (end.run ≡ Some m) × (end.head.last.0 ≤ 2 ^ 62)

  pub still_open : (ts : List Turn) (m : Machine) (l : Instant) → Ran h end m l ts → result_of ts ≡ None → StandsOpen
  unfolding Ran
  still_open [] m l ran e = (m, ran.0, ran.1)
  still_open (t ∷ ts) m l (k, on) e =
      onward_cases h (λ q. Ran h end q (with_reading k.head t.answer).last ts) t ts (next m t) on
      (λ q x gave ran. still_open ts q (with_reading k.head t.answer).last ran (sym (want_on h t ts q gave) ∙ e))
      (λ r over gave stop. absurd (none-some _ (sym e ∙ end_of h t ts r gave)))

  -- an answer that is accepted
  pub answered : StandsOpen → (a : Answer) × (w : Answered) × ((step end (Call.Answer a)).told ≡ Returned.Run w) × Accepted w
  unfolding step Accepted
  answered (m, o, last) =
      let (a, fit, taken) = answerable end.head.last (machine_want m) last in
      (a, (answer_run end a).told, refl, subst (λ (r : AfterCall). Accepted r.told) (sym (answer_taken end a m o fit taken)) (go a (machine_step end.head.feedback.latest (entry end) m a)))
    where
      go : (a : Answer) (x : Stepped Machine Outcome) → Accepted (with_step end (Ok (stepped (with_reading end.head a) x))).told
      go a (Ok (Continue m)) = wants_accepted (with_reading end.head a) (machine_want m)
      go a (Ok (Break r)) = tt
      go a (Err failure) = tt

  -- and no start is
  pub refuses : StandsOpen → (other : Start) → (step end (Call.Start other)).told ≡ Returned.Run (Err RunOpen)
  unfolding step
  refuses (m, o, last) other = ap (λ (r : AfterCall). Returned.Run r.told) (start_waits end other m o)

  -- one that has ended wants nothing more
  pub closed_after : (ts : List Turn) (m : Machine) (l : Instant) (g : Gave) (r : RunResult) → Ran h end m l ts → result_of ts ≡ Some r → (gave_after g ts).wants ≡ None
  unfolding Ran result_of gave_after
  closed_after [] m l g r ran e = absurd (none-some _ e)
  closed_after (t ∷ ts) m l g r (k, on) e =
      onward_cases h (λ q. Ran h end q (with_reading k.head t.answer).last ts) t ts (next m t) on
      (λ q x gave ran. closed_after ts q (with_reading k.head t.answer).last t.gave r ran (sym (want_on h t ts q gave) ∙ e))
      (λ s over gave stop. ap (λ (ts : List Turn). (gave_after t.gave ts).wants) stop ∙ ap (λ (g : Gave). g.wants) gave)
