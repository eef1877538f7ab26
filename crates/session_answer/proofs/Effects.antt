-- What an answer does to a session, and what it leaves alone. Assumes nothing.
use Prim.Native.Nat.{◌≤◌, ◌^◌}
use mathlib.Core.Path.{◌≡◌, refl, ap, ◌∙◌, subst}
use mathlib.Core.Bool.{Bool, true, cond}
use native.Mathlib.Nat.{le_refl}
use Rattle.std.specs.Prelude.{Option, Some, None, Result, Ok, Err}
use Rattle.motor_core.specs.declared.error.Refusal.{Refusal}
use Rattle.time.specs.declared.Instant.{Instant}
use Rattle.time.proofs.Readings.{between, in_order}
use Rattle.state_cache.specs.declared.Entry.{Entry}
use Rattle.run_want.specs.Step.{Stepped}
use Rattle.run_want.specs.Want.{fits}
use Rattle.run_want.specs.declared.Answer.{Answer}
use Rattle.run_want.specs.declared.Answer.TheVariants.{Reading, Send as Sending, Slept}
use Rattle.run_want.specs.declared.Want.{Want}
use Rattle.run_want.specs.declared.message.Message.{Message}
use Rattle.run_want.specs.declared.Want.TheVariants.{Clock, Send, Sleep}
use Rattle.std.specs.declared.ops.ControlFlow.TheVariants.{Continue, Break}
use Rattle.run_machine.specs.Machine.{machine_want}
use Rattle.run_step.specs.Step.{machine_step}
use Rattle.run_machine.specs.declared.Machine.{Machine}
use Rattle.run_machine.specs.declared.Outcome.{Outcome}
use Rattle.session.specs.Session.{with_last, with_head, with_run}
use Rattle.session.specs.declared.Head.{Head}
use Rattle.session.specs.declared.Session.{Session}
use Rattle.session_answer.specs.Effects.{Unchanged}
use Rattle.session_answer.proofs.Follows.{Follows, ToldTruly}
use Rattle.session_step.specs.Parts.{answer_accepted, with_reading, stepped, answer_step}
use Rattle.session_answer.specs.Answer.{run_place, entry_at, with_step, answer_run}
use Rattle.session_step.specs.declared.AnswerStep.{AnswerStep}
use Rattle.session_step.proofs.Cases.{accepted_by, step_cases}
use Rattle.session_step.specs.declared.Told.{Told}
use Rattle.session_answer.specs.Answer.{AfterCall}

-- an answer changes nothing of the head but the last reading
head_same : {A : Type 0} {h : Head} (part : Head → A) → ((t : Instant) → part (with_last h t) ≡ part h) → (a : Answer) → part (with_reading h a) ≡ part h
head_same part e (Reading t) = e t
head_same part e (Sending result) = refl
head_same part e Slept = refl

-- ---- an answer is refused, or accepted by an open machine that wants its kind

-- what the run looks at
abbrev pub entry : Session → Entry
entry s = entry_at s.replies s.acks (run_place s.run)

module _ (s : Session) (a : Answer) where
  abbrev pub taken_by : Machine → AnswerStep
  taken_by m = accepted_by s.head (entry s) s.run a m

  pub answer_cases : (P : AfterCall → Type 0) → ((n : Refusal) → P (record { session = s; told = Err n })) → ((m : Machine) → s.run ≡ Some m → fits (machine_want m) a ≡ true → answer_accepted s.head.last a ≡ true → P (with_step s (Ok (taken_by m)))) → P (answer_run s a)
  unfolding answer_run
  answer_cases P no_turn turn = step_cases s.head (entry s) s.run a (λ step. P (with_step s step)) no_turn turn

  -- one that is accepted steps the machine, with the record and the entry that are there
  pub answer_taken : (m : Machine) → s.run ≡ Some m → fits (machine_want m) a ≡ true → answer_accepted s.head.last a ≡ true → answer_run s a ≡ with_step s (Ok (taken_by m))
  unfolding answer_run
  answer_taken m o f e =
      ap (λ (p : Option Machine). with_step s (answer_step s.head (entry s) p a)) o
      ∙ ap (λ (b : Bool). with_step s (cond b (cond (answer_accepted s.head.last a) (Ok (taken_by m)) (Err Refusal.Reading)) (Err Refusal.NotWanted))) f
      ∙ ap (λ (b : Bool). with_step s (cond b (Ok (taken_by m)) (Err Refusal.Reading))) e

  -- what it tells is what the run then wants
  pub answer_follows : ToldTruly s (answer_run s a)
  answer_follows = answer_cases (ToldTruly s) (λ n. refl) (λ m o f e. next (machine_step s.head.feedback.latest (entry s) m a))
    where
      next : (n : Stepped Machine Outcome) → ToldTruly s (with_step s (Ok (stepped (with_reading s.head a) n)))
      next (Ok (Continue m)) = record { machine = m; is_open = refl; tells = refl }
      next (Ok (Break r)) = refl
      next (Err failure) = refl

  -- ids, limits, record and caches stay
  pub answer_keeps : Unchanged s (answer_run s a).session
  answer_keeps = answer_cases (λ t. Unchanged s t.session) (λ n. same) (λ m o f e. next (machine_step s.head.feedback.latest (entry s) m a))
    where
      same : Unchanged s s
      same = record { motor_id = refl; feedback_id = refl; limits = refl; record_kept = refl; replies = refl; acks = refl }

      kept : (run : Option Machine) → Unchanged s (with_run (with_head s (with_reading s.head a)) run)
      kept run = record {
        motor_id = head_same (λ (h : Head). h.motor_id) (λ t. refl) a;
        feedback_id = head_same (λ (h : Head). h.feedback_id) (λ t. refl) a;
        limits = head_same (λ (h : Head). h.limits) (λ t. refl) a;
        record_kept = head_same (λ (h : Head). h.feedback) (λ t. refl) a;
        replies = refl;
        acks = refl;
      }

      next : (n : Stepped Machine Outcome) → Unchanged s (with_step s (Ok (stepped (with_reading s.head a) n))).session
      next (Ok (Continue m)) = kept (Some m)
      next (Ok (Break r)) = kept None
      next (Err failure) = kept None

-- ---- a refusal

pub untouched : (before after : Session) (told : Result Told Refusal) (n : Refusal) → told ≡ Err n → Follows before told after → after ≡ before
untouched before after told n e f = subst (λ (t : Result Told Refusal). Follows before t after) e f

pub answer_refused : (s : Session) (a : Answer) (n : Refusal) → (answer_run s a).told ≡ Err n → (answer_run s a).session ≡ s
answer_refused s a n e = untouched s (answer_run s a).session (answer_run s a).told n e (answer_follows s a)

-- ---- the last reading

abbrev InBounds : Session → Session → Type 0
InBounds before after = (before.head.last.0 ≤ after.head.last.0) × (before.head.last.0 ≤ 2 ^ 62 → after.head.last.0 ≤ 2 ^ 62)

pub answer_last : (s : Session) (a : Answer) → InBounds s (answer_run s a).session
answer_last s a = answer_cases s a (λ t. InBounds s t.session) (λ n. (le_refl _, λ b. b)) (λ m o f e. next (machine_step s.head.feedback.latest (entry s) m a) a e)
  where
    later : (b : Answer) → answer_accepted s.head.last b ≡ true → InBounds s (with_head s (with_reading s.head b))
    later (Reading t) e = let h = between s.head.last t e in (h.0, λ b. h.1)
    later (Sending result) e = (le_refl _, λ b. b)
    later Slept e = (le_refl _, λ b. b)

    next : (n : Stepped Machine Outcome) (b : Answer) → answer_accepted s.head.last b ≡ true → InBounds s (with_step s (Ok (stepped (with_reading s.head b) n))).session
    next (Ok (Continue m)) b e = later b e
    next (Ok (Break r)) b e = later b e
    next (Err failure) b e = later b e

-- ---- an open run always has an answer that is accepted

pub answerable : (last : Instant) (w : Want Message) → last.0 ≤ 2 ^ 62 → (a : Answer) × (fits w a ≡ true) × (answer_accepted last a ≡ true)
answerable last Clock b = (Reading last, refl, in_order last last (le_refl _) b)
answerable last (Send message) b = (Sending (Ok tt), refl, refl)
answerable last (Sleep length) b = (Slept, refl, refl)
