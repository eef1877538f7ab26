-- What a start does to a session, and what it leaves alone. Assumes nothing.
use mathlib.Core.Path.{◌≡◌, refl}
use Rattle.std.specs.Prelude.{Option, Some, None, Result, Ok, Err}
use Rattle.motor_core.specs.declared.error.Refusal.{Refusal}
use Rattle.run_machine.specs.declared.Machine.{Machine}
use Rattle.session.specs.declared.Session.{Session}
use Rattle.session_answer.specs.Effects.{Unchanged}
use Rattle.session_answer.proofs.Follows.{ToldTruly}
use Rattle.session_answer.specs.Answer.{AfterCall}
use Rattle.session_answer.proofs.Effects.{untouched}
use Rattle.session_begin.specs.Begin.{machine_of, start_step, with_opened, begin}
use Rattle.session_begin.specs.declared.Start.{Start}

-- it is refused, or opens a run where none is open

module _ (s : Session) (start : Start) where
  pub start_cases : (P : AfterCall → Type 0) → ((n : Refusal) → P (record { session = s; told = Err n })) → ((m : Machine) → s.run ≡ None → machine_of start ≡ Ok m → P (with_opened s (Ok m))) → P (begin s start)
  start_cases P no_turn turn = by s.run refl
    where
      go : s.run ≡ None → (x : Result Machine Refusal) → machine_of start ≡ x → P (with_opened s x)
      go c (Err n) e = no_turn n
      go c (Ok m) e = turn m c e

      by : (p : Option Machine) → s.run ≡ p → P (with_opened s (start_step p start))
      by None e = go e (machine_of start) refl
      by (Some m) e = no_turn Refusal.RunOpen

  pub start_follows : ToldTruly s (begin s start)
  start_follows = start_cases (ToldTruly s) (λ n. refl) (λ m c e. record { machine = m; is_open = refl; tells = refl })

  -- no reading is taken
  pub start_last : (begin s start).session.head.last ≡ s.head.last
  start_last = start_cases (λ t. t.session.head.last ≡ s.head.last) (λ n. refl) (λ m c e. refl)

  pub start_keeps : Unchanged s (begin s start).session
  start_keeps = start_cases (λ t. Unchanged s t.session) (λ n. same) (λ m c e. same)
    where
      same : {run : Option Machine} → Unchanged s (record { head = s.head; replies = s.replies; acks = s.acks; run = run })
      same = record { motor_id = refl; feedback_id = refl; limits = refl; record_kept = refl; replies = refl; acks = refl }

-- a refusal
pub start_refused : (s : Session) (start : Start) (n : Refusal) → (begin s start).told ≡ Err n → (begin s start).session ≡ s
start_refused s start n e = untouched s (begin s start).session (begin s start).told n e (start_follows s start)
