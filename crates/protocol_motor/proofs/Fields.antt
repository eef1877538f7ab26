-- Fields that fit, and the bytes in which they lie. Assumes nothing.
use Rattle.std.specs.Prelude.{◌↔◌}
use Prim.Native.Nat.{◌+◌, ◌*◌, ◌/◌, ◌%◌}
use mathlib.Core.Path.{◌≡◌}
use mathlib.Core.Bool.{true, ◌&&◌}
use native.Mathlib.Omega.{arith}
use lib.Dec.{leb}
use borrow.Author.Tests.{leb-true, le-leb}
use Rattle.motor_core.proofs.Turned.{both}
use Rattle.protocol_frame.specs.Layout.{all_fit, packed_onto}
use Rattle.protocol_frame.proofs.Packing.{AreBytes}
use Rattle.protocol_motor.specs.Motor.{feedback_fields, feedback_data}
use Rattle.protocol_motor.specs.Refused.{Narrow}
use Rattle.protocol_motor.specs.declared.FeedbackFields.{FeedbackFields}

module _ (f : FeedbackFields) where
  pub narrow : (all_fit (feedback_fields f) ≡ true) ↔ Narrow f
  unfolding all_fit
  narrow = (apart, together)
    where
      apart : all_fit (feedback_fields f) ≡ true → Narrow f
      apart e =
          let (status, e) = both (leb f.status_code 15) _ e in
          let (motor, e) = both (leb f.can_id 15) _ e in
          let (pos, e) = both (leb f.pos 0xffff) _ e in
          let (vel, e) = both (leb f.vel 0xfff) _ e in
          let (torq, e) = both (leb f.torq 0xfff) _ e in
          let (mos, e) = both (leb f.t_mos 255) _ e in
          let (rotor, e) = both (leb f.t_rotor 255) _ e in
          (leb-true _ _ status, leb-true _ _ motor, leb-true _ _ pos, leb-true _ _ vel, leb-true _ _ torq, leb-true _ _ mos, leb-true _ _ rotor)

      together : Narrow f → all_fit (feedback_fields f) ≡ true
      together (status, motor, pos, vel, torq, mos, rotor) = λ i. le-leb _ _ status i && (le-leb _ _ motor i && (le-leb _ _ pos i && (le-leb _ _ vel i && (le-leb _ _ torq i && (le-leb _ _ mos i && (le-leb _ _ rotor i && true))))))

  -- d0 to d7 of a feedback that fits
  pub feedback_bytes : Narrow f → AreBytes (feedback_data f) (f.status_code * 16 + f.can_id) (f.pos / 256) (f.pos % 256) (f.vel / 16) (f.vel % 16 * 16 + f.torq / 256) (f.torq % 256) f.t_mos f.t_rotor
  unfolding feedback_data packed_onto
  feedback_bytes (status, motor, pos, vel, torq, mos, rotor) = record {
    d0 = omega (arith, status, motor, pos, vel, torq, mos, rotor);
    d1 = omega (arith, status, motor, pos, vel, torq, mos, rotor);
    d2 = omega (arith, status, motor, pos, vel, torq, mos, rotor);
    d3 = omega (arith, status, motor, pos, vel, torq, mos, rotor);
    d4 = omega (arith, status, motor, pos, vel, torq, mos, rotor);
    d5 = omega (arith, status, motor, pos, vel, torq, mos, rotor);
    d6 = omega (arith, status, motor, pos, vel, torq, mos, rotor);
    d7 = omega (arith, status, motor, pos, vel, torq, mos, rotor);
  }
