-- What is written is read back, and what can be read can be written. Assumes nothing.
use Rattle.std.specs.Prelude.{Ok}
use Prim.Native.Nat.{ℕ, ◌+◌, ◌*◌, ◌/◌, ◌%◌, ◌^◌, ◌≤◌, ◌<◌}
use mathlib.Core.Path.{◌≡◌, refl, sym, ap, subst, ◌∙◌}
use mathlib.Core.Bool.{Bool, true, false, cond, ◌&&◌}
use mathlib.Core.List.{List, [], ◌∷◌}
use native.Mathlib.Omega.{arith}
use borrow.Author.Tests.{leb-true, le-leb}
use Rattle.motor_core.specs.Bus.{motor_id_accepted}
use Rattle.motor_core.specs.declared.model.PvTLimits.{PvTLimits}
use Rattle.registers.specs.Registers.{registers, known, data_type_of}
use Rattle.registers.specs.Value.{value_of}
use Rattle.registers.specs.declared.RegisterValue.{RegisterValue}
use Rattle.registers.proofs.Below.{known_below}
use Rattle.registers.proofs.Values.{bits_of_value}
use Rattle.protocol_frame.specs.Layout.{byte, packed, packed_onto, little_endian, addressed, d, data_byte, data_bytes}
use Rattle.protocol_frame.proofs.Packing.{addressed_bytes, eight_bytes}
use Rattle.protocol_feedback.specs.Feedback.{feedback_of}
use Rattle.protocol_received.specs.Received.{class, class_of, id_of, word, register_value, by_class, received}
use Rattle.protocol_received.specs.declared.FrameClass.{FrameClass}
use Rattle.protocol_received.specs.declared.FrameClass.TheVariants as Class
use Rattle.protocol_received.specs.declared.Received.{Received}
use Rattle.protocol_received.specs.declared.Received.TheVariants as Receive
use Rattle.protocol_received.proofs.Classes.{marked, of_reply, of_ack}
use Rattle.protocol_motor.specs.Motor.{feedback_data, feedback, register_data, register_frame}
use Rattle.protocol_motor.specs.Refused.{Narrow}
use Rattle.protocol_motor.specs.RoundTrip.{meaning, fields_of, FeedbackRead, RegisterRead, Bytes, AreData, RoundTrip}
use Rattle.protocol_motor.specs.declared.FeedbackFields.{FeedbackFields}
use Rattle.protocol_motor.proofs.Fields.{feedback_bytes}
use Rattle.protocol_motor.proofs.Refused.{refused}

-- ---- a feedback
fields_back : (f : FeedbackFields) → Narrow f → fields_of (data_bytes (feedback_data f)) ≡ f
unfolding data_bytes
fields_back f h =
    let b = feedback_bytes f h in
    let n = feedback_data f in
    let (status, motor, pos, vel, torq, mos, rotor) = h in
    let can_id : data_byte n 0 % 16 ≡ f.can_id = omega (arith, b.d0, motor) in
    let status_code : data_byte n 0 / 16 ≡ f.status_code = omega (arith, b.d0, motor) in
    let position : data_byte n 1 * 256 + data_byte n 2 ≡ f.pos = omega (arith, b.d1, b.d2) in
    let velocity : data_byte n 3 * 16 + data_byte n 4 / 16 ≡ f.vel = omega (arith, b.d3, b.d4, torq) in
    let torque : data_byte n 4 % 16 * 256 + data_byte n 5 ≡ f.torq = omega (arith, b.d4, b.d5, torq) in
    λ i. record { can_id = can_id i; status_code = status_code i; pos = position i; vel = velocity i; torq = torque i; t_mos = b.d6 i; t_rotor = b.d7 i }

of_feedback : (f : FeedbackFields) (n : ℕ) → feedback f ≡ Ok n → FeedbackRead f n
unfolding received feedback_of
of_feedback f n e = let (narrow, class, same) = (refused.feedback_written f n).0 e in let back = fields_back f narrow in
    subst (FeedbackRead f) same
    (record {
      read = λ l. ap (λ (k : FrameClass). by_class k l (data_bytes (feedback_data f))) class ∙ ap (λ (g : FeedbackFields). Receive.Feedback (meaning l g)) back;
      decoded = λ l. ap (meaning l) back;
      fields = back;
    })

-- ---- a reply, or else an ack
abbrev pub marker_of : Bool → ℕ
marker_of true = 0x33
marker_of false = 0x55

abbrev frame_of : Bool → ℕ → RegisterValue → Received
frame_of true = Receive.Reply
frame_of false = Receive.Ack

marker_class : (reply : Bool) (high rid : ℕ) → high ≤ 0x0f → known rid ≡ true → cond reply Class.Reply Class.Ack ≡ class registers high (marker_of reply) rid
marker_class true high rid h k = marked high 0x33 rid true (λ i. le-leb high 0x0f h i && true) k refl
marker_class false high rid h k = marked high 0x55 rid false (λ i. le-leb high 0x0f h i && true) k refl

marker_byte : (reply : Bool) → marker_of reply % 256 ≡ marker_of reply
marker_byte true = refl
marker_byte false = refl

-- its class is that of its marker
pub register_class : (reply : Bool) (id rid bits : ℕ) → id ≤ 0x4ff → known rid ≡ true → cond reply Class.Reply Class.Ack ≡ class_of (data_bytes (register_data (marker_of reply) id rid bits))
unfolding data_bytes
register_class reply id rid bits low listed =
    let b = addressed_bytes id (marker_of reply) rid bits in
    let below = known_below rid listed in
    let m = register_data (marker_of reply) id rid bits in
    let high : data_byte m 1 ≡ id / 256 = omega (arith, b.d1, low) in
    let marker : data_byte m 2 ≡ marker_of reply = b.d2 ∙ marker_byte reply in
    let register : data_byte m 3 ≡ rid = omega (arith, b.d3, below) in
    marker_class reply (id / 256) rid (omega (arith, low)) listed ∙ (λ i. class registers (sym high i) (sym marker i) (sym register i))

by_marker : (reply : Bool) (l : PvTLimits) (bytes : List ℕ) → by_class (cond reply Class.Reply Class.Ack) l bytes ≡ frame_of reply (d bytes 3) (register_value bytes)
by_marker true l bytes = refl
by_marker false l bytes = refl

of_register : (reply : Bool) (id rid bits n : ℕ) → bits < 2 ^ 32 → register_frame (marker_of reply) id rid bits ≡ Ok n → RegisterRead (frame_of reply) id rid bits n
unfolding data_bytes received register_value
of_register reply id rid bits n short e =
    let (low, listed, same) = (refused.register_written (marker_of reply) id rid bits n).0 e in
    let below = known_below rid listed in
    let b = addressed_bytes id (marker_of reply) rid bits in
    let m = register_data (marker_of reply) id rid bits in
    let register : data_byte m 3 ≡ rid = omega (arith, b.d3, below) in
    let word : word (data_bytes m) ≡ bits = omega (arith, b.d4, b.d5, b.d6, b.d7, short) in
    subst (RegisterRead (frame_of reply) id rid bits) same
    (record {
      read = λ l.
          ap (λ (k : FrameClass). by_class k l (data_bytes m)) (sym (register_class reply id rid bits low listed))
          ∙ by_marker reply l (data_bytes m)
          ∙ (λ i. frame_of reply (register i) (value_of (data_type_of (register i)) (word i)));
      bits_back = bits_of_value (data_type_of rid) bits short;
      id_back = omega (arith, b.d0, b.d1, low);
      word_back = word;
    })

-- ---- the other way: a number of 64 bits is its eight bytes
module _ (n : ℕ) (short : n < 2 ^ 64) where
  narrow : Narrow (fields_of (data_bytes n))
  unfolding data_bytes
  narrow = (omega arith, omega arith, omega arith, omega arith, omega arith, omega arith, omega arith)

  same_feedback : feedback_data (fields_of (data_bytes n)) ≡ n
  unfolding data_bytes feedback_data packed_onto
  same_feedback = omega (arith, short)

  feedback_reached : class_of (data_bytes n) ≡ Class.Feedback → feedback (fields_of (data_bytes n)) ≡ Ok n
  feedback_reached e = (refused.feedback_written (fields_of (data_bytes n)) n).1 (narrow, ap (λ (m : ℕ). class_of (data_bytes m)) same_feedback ∙ e, same_feedback)

  same_register : (marker : ℕ) → d (data_bytes n) 2 ≡ marker → register_data marker (id_of (data_bytes n)) (d (data_bytes n) 3) (word (data_bytes n)) ≡ n
  unfolding data_bytes addressed packed_onto little_endian
  same_register marker e = omega (arith, short, e)

  register_reached : (marker : ℕ) → d (data_bytes n) 2 ≡ marker → known (d (data_bytes n) 3) ≡ true → motor_id_accepted (id_of (data_bytes n)) ≡ true → register_frame marker (id_of (data_bytes n)) (d (data_bytes n) 3) (word (data_bytes n)) ≡ Ok n
  register_reached marker e listed accepted = (refused.register_written marker _ _ _ n).1 (leb-true _ _ accepted, listed, same_register marker e)

of_eight : (b0 b1 b2 b3 b4 b5 b6 b7 : ℕ) → Bytes (b0 ∷ b1 ∷ b2 ∷ b3 ∷ b4 ∷ b5 ∷ b6 ∷ b7 ∷ []) → AreData (b0 ∷ b1 ∷ b2 ∷ b3 ∷ b4 ∷ b5 ∷ b6 ∷ b7 ∷ []) (packed (byte b0 ∷ byte b1 ∷ byte b2 ∷ byte b3 ∷ byte b4 ∷ byte b5 ∷ byte b6 ∷ byte b7 ∷ []))
unfolding data_bytes packed_onto
of_eight b0 b1 b2 b3 b4 b5 b6 b7 (l0, (l1, (l2, (l3, (l4, (l5, (l6, (l7, _)))))))) =
    let b = eight_bytes b0 b1 b2 b3 b4 b5 b6 b7 in
    (omega arith, λ i. (b.d0 ∙ itself b0 l0) i ∷ (b.d1 ∙ itself b1 l1) i ∷ (b.d2 ∙ itself b2 l2) i ∷ (b.d3 ∙ itself b3 l3) i ∷ (b.d4 ∙ itself b4 l4) i ∷ (b.d5 ∙ itself b5 l5) i ∷ (b.d6 ∙ itself b6 l6) i ∷ (b.d7 ∙ itself b7 l7) i ∷ [])
  where
    itself : (n : ℕ) → n < 256 → n % 256 ≡ n
    itself n h = omega (arith, h)

pub round_trip : RoundTrip
round_trip = record {
  of_feedback = of_feedback;
  of_reply = of_register true;
  of_ack = of_register false;
  eight_bytes = of_eight;
  feedback_reached = feedback_reached;
  reply_reached = λ n short e. let (listed, marker) = of_reply _ _ _ e in register_reached n short 0x33 marker listed;
  ack_reached = λ n short e. let (listed, marker) = of_ack _ _ _ e in register_reached n short 0x55 marker listed;
}
