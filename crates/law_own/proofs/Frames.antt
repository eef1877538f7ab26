-- Which frames are this motor's: those that are written for it, and its requests where feedback comes on their id. Assumes nothing.
use Rattle.std.specs.Prelude.{Ok}
use Prim.Native.Nat.{ℕ, ◌/◌, ◌%◌, ◌≤◌}
use mathlib.Core.Path.{◌≡◌, refl, sym, ap, subst, ◌∙◌}
use mathlib.Core.Bool.{Bool, true, false, cond, ◌&&◌, and-true}
use native.Mathlib.Omega.{arith}
use borrow.Author.Tests.{leb-true, eq-eqb}
use lib.Dec.{eqb}
use Rattle.motor_core.proofs.Turned.{let_through}
use Rattle.motor_core.specs.Bus.{motor_id_accepted}
use Rattle.motor_core.specs.declared.error.Refusal.TheVariants.{MotorId}
use Rattle.protocol_request.specs.Request.{request_id, register_read_data, register_write_data, register_read_cmd, register_write_cmd}
use Rattle.registers.specs.Registers.{known}
use Rattle.protocol_frame.specs.Layout.{d, data_byte, data_bytes}
use Rattle.protocol_frame.specs.Command.{command, frame_for}
use Rattle.protocol_frame.specs.declared.Command.{Command}
use Rattle.protocol_frame.proofs.Packing.{addressed_bytes}
use Rattle.protocol_received.specs.Received.{class_of}
use Rattle.protocol_received.specs.declared.FrameClass.{FrameClass}
use Rattle.protocol_received.specs.declared.FrameClass.TheVariants as Class
use Rattle.protocol_address.specs.Address.{is_plain_on, names_motor, own_frame}
use Rattle.protocol_motor.specs.Motor.{register_data, register_frame, feedback}
use Rattle.protocol_motor.specs.declared.FeedbackFields.{FeedbackFields}
use Rattle.protocol_motor.proofs.Refused.{refused}
use Rattle.protocol_motor.proofs.RoundTrip.{marker_of, register_class, round_trip}
use Rattle.law_own.specs.Own.{sent_on}

-- a frame of eight bytes is on an id if it was sent on it
on_id : (id other bits : ℕ) → is_plain_on other (sent_on id bits) ≡ eqb id other
on_id id other bits = refl

eqb_refl : (n : ℕ) → eqb n n ≡ true
eqb_refl n = eq-eqb n n refl

-- ---- what names the motor

-- a register's frame that begins with the motor's id
module _ (reply : Bool) (motor rid bits : ℕ) (low : motor ≤ 0x4ff) (listed : known rid ≡ true) where
  abbrev m : ℕ
  m = register_data (marker_of reply) motor rid bits

  by_id : names_motor motor (cond reply Class.Reply Class.Ack) (data_bytes m) ≡ true
  unfolding data_bytes
  by_id =
      let b = addressed_bytes motor (marker_of reply) rid bits in
      let high : data_byte m 1 ≡ motor / 256 = omega (arith, b.d1, low) in
      go reply (λ i. eq-eqb (data_byte m 0) (motor % 256) b.d0 i && eq-eqb (data_byte m 1) (motor / 256) high i)
    where
      go : (kind : Bool) → (eqb (data_byte m 0) (motor % 256) && eqb (data_byte m 1) (motor / 256)) ≡ true → names_motor motor (cond kind Class.Reply Class.Ack) (data_bytes m) ≡ true
      go true e = e
      go false e = e

  register_named : names_motor motor (class_of (data_bytes m)) (data_bytes m) ≡ true
  register_named = ap (λ (k : FrameClass). names_motor motor k (data_bytes m)) (sym (register_class reply motor rid bits low listed)) ∙ by_id

  -- so it is the motor's exactly if it is on its feedback id
  register_own : (id other : ℕ) → own_frame motor other (sent_on id m) ≡ eqb id other
  unfolding own_frame
  register_own id other = (λ i. on_id id other m i && register_named i) ∙ and-true (eqb id other)

pub written_register : (reply : Bool) (motor other rid bits n : ℕ) → register_frame (marker_of reply) motor rid bits ≡ Ok n → own_frame motor other (sent_on other n) ≡ true
written_register reply motor other rid bits n e =
    let (low, listed, same) = (refused.register_written (marker_of reply) motor rid bits n).0 e in
    ap (λ (w : ℕ). own_frame motor other (sent_on other w)) (sym same) ∙ register_own reply motor rid bits low listed other other ∙ eqb_refl other

pub written_feedback : (motor other : ℕ) (f : FeedbackFields) (n : ℕ) → f.can_id ≡ motor % 16 → feedback f ≡ Ok n → own_frame motor other (sent_on other n) ≡ true
unfolding own_frame
written_feedback motor other f n is e =
    let (narrow, class, same) = (refused.feedback_written f n).0 e in
    let named : eqb (d (data_bytes n) 0 % 16) (motor % 16) ≡ true = eq-eqb _ _ (ap (λ (g : FeedbackFields). g.can_id) (round_trip.of_feedback f n e).fields ∙ is) in
    (λ i. eqb_refl other i && names_motor motor ((ap (λ (w : ℕ). class_of (data_bytes w)) (sym same) ∙ class) i) (data_bytes n)) ∙ named

-- ---- echoes
module _ (motor other rid : ℕ) (listed : known rid ≡ true) (c : Command) where
  -- of a request whose bytes are a register's frame
  echo : (reply : Bool) (bits : ℕ) → frame_for motor request_id (register_data (marker_of reply) motor rid bits) ≡ Ok c → own_frame motor other (sent_on c.arbitration_id c.«data») ≡ eqb c.arbitration_id other
  unfolding frame_for
  echo reply bits e =
      let (accepted, is) = let_through (command request_id (register_data (marker_of reply) motor rid bits)) c MotorId (motor_id_accepted motor) e in
      subst (λ (c : Command). own_frame motor other (sent_on c.arbitration_id c.«data») ≡ eqb c.arbitration_id other) is
      (register_own reply motor rid bits (leb-true motor 0x4ff accepted) listed request_id other)

  pub read_echo : register_read_cmd motor rid ≡ Ok c → own_frame motor other (sent_on c.arbitration_id c.«data») ≡ eqb c.arbitration_id other
  unfolding register_read_data
  read_echo = echo true 0

  pub write_echo : (bits : ℕ) → register_write_cmd motor rid bits ≡ Ok c → own_frame motor other (sent_on c.arbitration_id c.«data») ≡ eqb c.arbitration_id other
  unfolding register_write_data
  write_echo = echo false
