-- The laws of this motor's frames hold. Assumes nothing.
use Rattle.std.specs.Prelude.{◌↔◌, Ok, Err}
use mathlib.Core.Path.{◌≡◌, refl, sym, ap, ◌∙◌}
use mathlib.Core.Bool.{Bool, true, false, true≢false}
use Rattle.motor_core.proofs.Turned.{clash}
use Rattle.motor_core.specs.declared.bus.CanFrame.{CanFrame}
use Rattle.motor_core.specs.declared.error.Refusal.{Refusal}
use Rattle.motor_core.specs.declared.error.Refusal.TheVariants.{Reading, ForeignFrame}
use Rattle.time.specs.Time.{reading_accepted}
use Rattle.time.specs.declared.Instant.{Instant}
use Rattle.session.specs.declared.Session.{Session}
use Rattle.session_frame.specs.Frame.{FrameOutcome, take_frame}
use Rattle.session_frame.proofs.Outcomes.{by_tests}
use Rattle.session_frame.proofs.Effects as Frame
use Rattle.session_call.specs.Step.{step}
use Rattle.session_call.specs.declared.Call.{Call}
use Rattle.session_call.specs.declared.Returned.{Returned}
use Rattle.law_calls.specs.Calls.{events}
use Rattle.law_calls.proofs.Laws.{laws}
use Rattle.law_calls.proofs.Started.{fresh_motor, fresh_on, fresh_no_record}
use Rattle.law_own.specs.Own.{is_own, told, Own}
use Rattle.law_own.proofs.Frames.{written_feedback, written_register, read_echo, write_echo}
use Rattle.law_own.proofs.Records.{record_came, undisturbed, without_foreign}

-- ---- one frame, by its two tests

same_outcome : (a b : FrameOutcome) → Returned.Frame a ≡ Returned.Frame b → a ≡ b
same_outcome a b e = cc

taken_by : (accepted own : Bool) → (by_tests accepted own ≡ Ok tt) ↔ ((accepted ≡ true) × (own ≡ true))
taken_by true true = (λ e. (refl, refl), λ e. refl)
taken_by true false = (λ e. absurd (clash (cc)), λ e. absurd (true≢false (sym e.1)))
taken_by false own = (λ e. absurd (clash (cc)), λ e. absurd (true≢false (sym e.0)))

foreign_by : (accepted own : Bool) → (by_tests accepted own ≡ Err ForeignFrame) ↔ ((accepted ≡ true) × (own ≡ false))
foreign_by true true = (λ e. absurd (clash (cc)), λ e. absurd (true≢false e.1))
foreign_by true false = (λ e. (refl, refl), λ e. refl)
foreign_by false own = (λ e. absurd (clash (cc)), λ e. absurd (true≢false (sym e.0)))

early_by : (accepted own : Bool) → (by_tests accepted own ≡ Err Reading) ↔ (accepted ≡ false)
early_by true true = (λ e. absurd (clash (cc)), λ e. absurd (true≢false e))
early_by true false = (λ e. absurd (clash (cc)), λ e. absurd (true≢false e))
early_by false own = (λ e. refl, λ e. refl)

-- what is returned is what the tests say
returned : {P : Type 0} (s : Session) (f : CanFrame) (t : Instant) (o : FrameOutcome) → (by_tests (reading_accepted s.head.last t) (is_own s f) ≡ o) ↔ P → (told s f t ≡ Returned.Frame o) ↔ P
unfolding step take_frame
returned s f t o tests = (λ e. tests.0 (same_outcome _ o e), λ p. ap Returned.Frame (tests.1 p))

leaves_all : (s : Session) (f : CanFrame) (t : Instant) (n : Refusal) → told s f t ≡ Returned.Frame (Err n) → (step s (Call.Frame f t)).session ≡ s
unfolding step
leaves_all s f t n e = Frame.turned_back s f t n (same_outcome _ (Err n) e)

taken_if : (s : Session) (f : CanFrame) (t : Instant) → reading_accepted s.head.last t ≡ true → is_own s f ≡ true → told s f t ≡ Returned.Frame (Ok tt)
taken_if s f t accepted own = (returned s f t (Ok tt) (taken_by (reading_accepted s.head.last t) (is_own s f))).1 (accepted, own)

pub own : Own
own = record {
  takes = λ s f t. returned s f t (Ok tt) (taken_by (reading_accepted s.head.last t) (is_own s f));
  turns_away = λ s f t. returned s f t (Err ForeignFrame) (foreign_by (reading_accepted s.head.last t) (is_own s f));
  turns_back = λ s f t. returned s f t (Err Reading) (early_by (reading_accepted s.head.last t) (is_own s f));
  leaves_all = leaves_all;
  without_foreign = λ s cs. without_foreign s.head.motor_id s.head.feedback_id s.head.limits cs s (record { motor_id = refl; feedback_id = refl; limits = refl });
  registers = λ motor feedback s fresh cs place value stamp is. laws.origin _ (events s cs) place value stamp (sym (laws.holds_last motor feedback s fresh cs place) ∙ is);
  records = λ motor feedback s fresh cs r is. record_came motor feedback s.head.limits cs s (record { motor_id = fresh_motor motor feedback s fresh; feedback_id = fresh_on motor feedback s fresh; limits = refl }) (fresh_no_record motor feedback s fresh) r is;
  undisturbed = λ s cs none. undisturbed s.head.motor_id s.head.feedback_id s.head.limits cs s (record { motor_id = refl; feedback_id = refl; limits = refl }) none;
  written_feedback = λ s t accepted f n is e. taken_if s _ t accepted (written_feedback s.head.motor_id s.head.feedback_id f n is e);
  written_reply = λ s t accepted rid bits n e. taken_if s _ t accepted (written_register true s.head.motor_id s.head.feedback_id rid bits n e);
  written_ack = λ s t accepted rid bits n e. taken_if s _ t accepted (written_register false s.head.motor_id s.head.feedback_id rid bits n e);
  read_echo = λ s rid c listed. read_echo s.head.motor_id s.head.feedback_id rid listed c;
  write_echo = λ s rid bits c listed. write_echo s.head.motor_id s.head.feedback_id rid listed c bits;
}
