-- A frame's step, put back where its parts stood: a frame taken into the session. Assumes nothing.
use Prim.Native.Nat.{ℕ}
use mathlib.Core.Path.{◌≡◌, refl, sym, ap, ◌∙◌}
use mathlib.Core.Bool.{true}
use lib.ListN.{set}
use Rattle.motor_core.proofs.Turned.{clash}
use Rattle.motor_core.specs.AndThen.{and_then}
use Rattle.motor_core.specs.declared.error.Refusal.{Refusal}
use Rattle.motor_core.specs.declared.bus.CanFrame.{CanFrame}
use Rattle.std.specs.Prelude.{Result, Ok, Err}
use Rattle.time.specs.declared.Instant.{Instant}
use Rattle.registers.specs.Registers.{known}
use Rattle.registers.proofs.Below.{known_below}
use Rattle.protocol_received.specs.OfRegister.{OfRegister}
use Rattle.protocol_frame.specs.Layout.{d}
use Rattle.protocol_received.specs.declared.Received.{Received}
use Rattle.protocol_received.specs.declared.Received.TheVariants.{Reply, Ack, Feedback}
use Rattle.protocol_received.proofs.OfRegister.{of_register}
use Rattle.state_cache.specs.Cache.{slot_index}
use Rattle.state_cache.specs.declared.Entry.TheVariants.{Held}
use Rattle.state_cache.proofs.Places.{own_slot}
use Rattle.session.specs.declared.Session.{Session}
use Rattle.session_frame.specs.Frame.{FrameOutcome, AfterFrame, frame_outcome, with_received, says, take_by, take_frame, taken_step, frame_step}
use Rattle.session_frame.specs.declared.FrameStep.{FrameStep}
use Rattle.session_lent.proofs.PutBack.{stamped, put_back}
use Rattle.session.specs.Session.{with_replies, with_acks}

-- a known register's place is its number
place_of : (rid n : ℕ) → rid ≡ n → known n ≡ true → slot_index rid ≡ rid
place_of rid n e k = ap slot_index e ∙ own_slot n (slot_index n) refl (known_below n k) ∙ sym e

module _ (s : Session) where
  back_taken : (id n : ℕ) (r : Received) (t : Instant) → OfRegister r n → put_back s (taken_step s.head.feedback id r t) t ≡ with_received s id r t
  back_taken id n (Reply rid v) t (e, k) = ap (λ (p : ℕ). with_replies (stamped s t) (set s.replies p (Held v t))) (place_of rid n e k)
  back_taken id n (Ack rid v) t (e, k) = ap (λ (p : ℕ). with_acks (stamped s t) (set s.acks p (Held v t))) (place_of rid n e k)
  back_taken id n (Feedback f) t of = refl

module _ (s : Session) (frame : CanFrame) (t : Instant) where
  -- a step that was made, put back
  pub by_parts : (step : FrameStep) → frame_step s.head frame t ≡ Ok step → take_frame s frame t ≡ record { session = put_back s step t; told = Ok tt }
  unfolding take_frame frame_step
  by_parts step = go (frame_outcome s.head frame t)
    where
      whole : FrameStep
      whole = taken_step s.head.feedback frame.arbitration_id (says s.head frame) t

      the_same : (x : FrameStep) → ◌≡◌ {A = Result FrameStep Refusal} (Ok x) (Ok step) → x ≡ step
      the_same x h = cc

      go : (o : FrameOutcome) → and_then o (λ taken. Ok whole) ≡ Ok step → ◌≡◌ {A = AfterFrame} (record { session = take_by o s frame t; told = o }) (record { session = put_back s step t; told = Ok tt })
      go (Ok taken) h = λ i. record { session = (sym (back_taken s frame.arbitration_id (d frame.«data» 3) (says s.head frame) t (of_register s.head.limits frame.«data»)) ∙ ap (λ (x : FrameStep). put_back s x t) (the_same whole h)) i; told = Ok tt }
      go (Err refusal) h = absurd (clash (cc))

  -- one that was refused
  pub lent_refused : (refusal : Refusal) → frame_step s.head frame t ≡ Err refusal → take_frame s frame t ≡ record { session = s; told = Err refusal }
  unfolding take_frame frame_step
  lent_refused refusal = go (frame_outcome s.head frame t)
    where
      the_same : (x : Refusal) → ◌≡◌ {A = Result FrameStep Refusal} (Err x) (Err refusal) → x ≡ refusal
      the_same x h = cc

      go : (o : FrameOutcome) → and_then o (λ taken. Ok (taken_step s.head.feedback frame.arbitration_id (says s.head frame) t)) ≡ Err refusal → ◌≡◌ {A = AfterFrame} (record { session = take_by o s frame t; told = o }) (record { session = s; told = Err refusal })
      go (Ok taken) h = absurd (clash (cc))
      go (Err x) h = λ i. record { session = s; told = Err (the_same x h i) }

-- as the code comes to it: r is what the step gave
module _ (s : Session) (frame : CanFrame) (t : Instant) (r : Result FrameStep Refusal) (gave : r ≡ frame_step s.head frame t) where
  pub taken_outcome : (step : FrameStep) → r ≡ Ok step → Ok tt ≡ (take_frame s frame t).told
  taken_outcome step e = ap (λ (a : AfterFrame). a.told) (sym (by_parts s frame t step (sym gave ∙ e)))

  pub taken_session : (step : FrameStep) → r ≡ Ok step → put_back s step t ≡ (take_frame s frame t).session
  taken_session step e = ap (λ (a : AfterFrame). a.session) (sym (by_parts s frame t step (sym gave ∙ e)))

  pub refused_outcome : (refusal : Refusal) → r ≡ Err refusal → Err refusal ≡ (take_frame s frame t).told
  refused_outcome refusal e = ap (λ (a : AfterFrame). a.told) (sym (lent_refused s frame t refusal (sym gave ∙ e)))

  pub refused_session : (refusal : Refusal) → r ≡ Err refusal → s ≡ (take_frame s frame t).session
  refused_session refusal e = ap (λ (a : AfterFrame). a.session) (sym (lent_refused s frame t refusal (sym gave ∙ e)))
