-- T-02: a written frame is read as the fields that it was written from, whichever they are and whatever the limits; and every feedback that can be read can be written, and every reply and ack of an accepted id. `proofs/RoundTrip.antt` has the proof.
use Rattle.std.specs.Prelude.{ℕ, ◌+◌, ◌*◌, ◌/◌, ◌%◌, ◌^◌, ◌<◌, ◌≡◌, true, List, [], ◌∷◌, Ok}
use Rattle.motor_core.specs.Bus.{motor_id_accepted}
use Rattle.motor_core.specs.declared.model.PvTLimits.{PvTLimits}
use Rattle.float.specs.Arithmetic.{float}
use Rattle.registers.specs.Registers.{data_type_of}
use Rattle.registers.specs.Value.{value_of, bits_of}
use Rattle.registers.specs.declared.RegisterValue.{RegisterValue}
use Rattle.protocol_codes.specs.Codes.{uint_to_float}
use Rattle.protocol_frame.specs.Layout.{byte, packed, d, data_bytes}
use Rattle.protocol_feedback.specs.Feedback.{position_code, velocity_code, torque_code, feedback_of}
use Rattle.protocol_feedback.specs.declared.SensorFeedback.{SensorFeedback}
use Rattle.protocol_received.specs.Received.{class_of, id_of, word, received}
use Rattle.protocol_received.specs.declared.FrameClass.TheVariants as Class
use Rattle.protocol_received.specs.declared.Received.{Received}
use Rattle.protocol_received.specs.declared.Received.TheVariants as Receive
use Rattle.protocol_motor.specs.Motor.{feedback, register_reply, write_ack}
use Rattle.protocol_motor.specs.declared.FeedbackFields.{FeedbackFields}

-- ---- feedback

-- what the fields say: codes and temperatures as their floats
abbrev pub meaning : PvTLimits → FeedbackFields → SensorFeedback
meaning l f = record {
  can_id = f.can_id;
  status_code = f.status_code;
  pos = uint_to_float 16 f.pos l.p_min l.p_max;
  vel = uint_to_float 12 f.vel l.v_min l.v_max;
  torq = uint_to_float 12 f.torq l.t_min l.t_max;
  t_mos = float f.t_mos;
  t_rotor = float f.t_rotor;
}

-- the fields that lie in eight bytes
abbrev pub fields_of : List ℕ → FeedbackFields
fields_of bytes = record {
  can_id = d bytes 0 % 16;
  status_code = d bytes 0 / 16;
  pos = position_code bytes;
  vel = velocity_code bytes;
  torq = torque_code bytes;
  t_mos = d bytes 6;
  t_rotor = d bytes 7;
}

pub record FeedbackRead (f : FeedbackFields) (n : ℕ) : Type 0 where
  pub read : (l : PvTLimits) → received l (data_bytes n) ≡ Receive.Feedback (meaning l f)
  -- decoding, which does not sort
  pub decoded : (l : PvTLimits) → feedback_of l (data_bytes n) ≡ meaning l f
  pub fields : fields_of (data_bytes n) ≡ f

-- ---- a register's frame

-- the value that a register has of 32 bits
abbrev pub value : ℕ → ℕ → RegisterValue
value rid bits = value_of (data_type_of rid) bits

-- a reader drops the id, which therefore is told by the bytes
pub record RegisterRead (frame : ℕ → RegisterValue → Received) (id rid bits n : ℕ) : Type 0 where
  pub read : (l : PvTLimits) → received l (data_bytes n) ≡ frame rid (value rid bits)
  -- the bits of a NaN among them
  pub bits_back : bits_of (value rid bits) ≡ bits
  pub id_back : id_of (data_bytes n) ≡ id
  pub word_back : word (data_bytes n) ≡ bits

-- ---- both ways

-- the bytes that a number of 64 bits has as data
abbrev pub AreData : List ℕ → ℕ → Type 0
AreData bytes n = (n < 2 ^ 64) × (data_bytes n ≡ bytes)

-- each number is a byte
abbrev pub Bytes : List ℕ → Type 0
Bytes [] = Unit {0}
Bytes (b ∷ bs) = (b < 256) × Bytes bs

pub record RoundTrip : Type 0 where
  pub of_feedback : (f : FeedbackFields) (n : ℕ) → feedback f ≡ Ok n → FeedbackRead f n
  -- the bits are 32, as the functions take them
  pub of_reply : (id rid bits n : ℕ) → bits < 2 ^ 32 → register_reply id rid bits ≡ Ok n → RegisterRead Receive.Reply id rid bits n
  pub of_ack : (id rid bits n : ℕ) → bits < 2 ^ 32 → write_ack id rid bits ≡ Ok n → RegisterRead Receive.Ack id rid bits n
  -- the other way, for any eight bytes: they are the data of one number of 64 bits
  pub eight_bytes : (b0 b1 b2 b3 b4 b5 b6 b7 : ℕ) → Bytes (b0 ∷ b1 ∷ b2 ∷ b3 ∷ b4 ∷ b5 ∷ b6 ∷ b7 ∷ []) → AreData (b0 ∷ b1 ∷ b2 ∷ b3 ∷ b4 ∷ b5 ∷ b6 ∷ b7 ∷ []) (packed (byte b0 ∷ byte b1 ∷ byte b2 ∷ byte b3 ∷ byte b4 ∷ byte b5 ∷ byte b6 ∷ byte b7 ∷ []))
  pub feedback_reached : (n : ℕ) → n < 2 ^ 64 → class_of (data_bytes n) ≡ Class.Feedback → feedback (fields_of (data_bytes n)) ≡ Ok n
  pub reply_reached : (n : ℕ) → n < 2 ^ 64 → class_of (data_bytes n) ≡ Class.Reply → motor_id_accepted (id_of (data_bytes n)) ≡ true → register_reply (id_of (data_bytes n)) (d (data_bytes n) 3) (word (data_bytes n)) ≡ Ok n
  pub ack_reached : (n : ℕ) → n < 2 ^ 64 → class_of (data_bytes n) ≡ Class.Ack → motor_id_accepted (id_of (data_bytes n)) ≡ true → write_ack (id_of (data_bytes n)) (d (data_bytes n) 3) (word (data_bytes n)) ≡ Ok n
