-- When a frame is taken. Assumes nothing.
use Rattle.motor_core.proofs.Turned.{clash}
use Prim.Native.Nat.{◌≤◌, ◌^◌}
use mathlib.Core.Path.{◌≡◌, refl, sym, ap, ◌∙◌}
use mathlib.Core.Bool.{Bool, true, false, cond}
use Rattle.std.specs.Prelude.{Ok, Err, Some}
use Rattle.motor_core.specs.declared.error.Refusal.TheVariants as Refusal
use Rattle.time.specs.Time.{reading_accepted}
use Rattle.motor_core.specs.declared.bus.CanFrame.{CanFrame}
use Rattle.time.specs.declared.Instant.{Instant}
use Rattle.time.proofs.Readings.{between, in_order}
use Rattle.motor_core.specs.AndThen.{and_then}
use Rattle.protocol_received.specs.Received.{read_as}
use Rattle.protocol_received.specs.declared.Received.{Received}
use Rattle.protocol_received.specs.declared.Sorted.{Sorted}
use Rattle.protocol_received.proofs.Sorting.{sorted_read}
use Rattle.protocol_address.specs.Address.{own_frame, sorted_if_own}
use Rattle.protocol_address.proofs.Own.{own_sorted}
use Rattle.session.specs.declared.Head.{Head}
use Rattle.session_frame.specs.Frame.{FrameOutcome, frame_outcome, says, taken_step, frame_step}

-- by the tests of its reading and of the frame
abbrev pub by_tests : Bool → Bool → FrameOutcome
by_tests accepted own = cond accepted (cond own (Ok tt) (Err Refusal.ForeignFrame)) (Err Refusal.Reading)

module _ (h : Head) (frame : CanFrame) (t : Instant) where
  pub is_taken : h.last.0 ≤ t.0 → t.0 ≤ 2 ^ 62 → own_frame h.motor_id h.feedback_id frame ≡ true → frame_outcome h frame t ≡ Ok tt
  is_taken forward early own = λ i. by_tests (in_order h.last t forward early i) (own i)

  pub is_foreign : h.last.0 ≤ t.0 → t.0 ≤ 2 ^ 62 → own_frame h.motor_id h.feedback_id frame ≡ false → frame_outcome h frame t ≡ Err Refusal.ForeignFrame
  is_foreign forward early foreign = λ i. by_tests (in_order h.last t forward early i) (foreign i)

  pub tests_passed : frame_outcome h frame t ≡ Ok tt → (reading_accepted h.last t ≡ true) × (own_frame h.motor_id h.feedback_id frame ≡ true)
  tests_passed e = go (reading_accepted h.last t) (own_frame h.motor_id h.feedback_id frame) e
    where
      go : (accepted own : Bool) → by_tests accepted own ≡ Ok tt → (accepted ≡ true) × (own ≡ true)
      go true true e = (refl, refl)
      go true false e = absurd (clash (cc))
      go false own e = absurd (clash (cc))

  pub taken_reading : frame_outcome h frame t ≡ Ok tt → (h.last.0 ≤ t.0) × (t.0 ≤ 2 ^ 62)
  taken_reading e = between h.last t (tests_passed e).0

  pub taken_own : frame_outcome h frame t ≡ Ok tt → own_frame h.motor_id h.feedback_id frame ≡ true
  taken_own e = (tests_passed e).1

  -- a frame that was sorted as this motor's is taken by what is read of it
  pub stepped : reading_accepted h.last t ≡ true → (s : Sorted) → sorted_if_own h.motor_id h.feedback_id frame ≡ Some s → Ok (taken_step h.feedback frame.arbitration_id (read_as s h.limits frame.«data») t) ≡ frame_step h frame t
  unfolding frame_step
  stepped accepted s e =
      let (own, is) = own_sorted h.motor_id h.feedback_id frame s e in
      ap (λ (r : Received). Ok (taken_step h.feedback frame.arbitration_id r t)) (sorted_read frame.«data» s is h.limits)
      ∙ ap (λ (o : FrameOutcome). and_then o (λ taken. Ok (taken_step h.feedback frame.arbitration_id (says h frame) t))) (λ i. by_tests (sym accepted i) (sym own i))
