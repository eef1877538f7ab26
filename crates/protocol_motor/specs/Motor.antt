-- What a motor sends, by its fields; or a refusal. Definitions only.
use Rattle.std.specs.Prelude.{ℕ, cond, List, [], ◌∷◌, Result, Ok, Err}
use Rattle.motor_core.specs.Bus.{motor_id_accepted}
use Rattle.motor_core.specs.declared.error.Refusal.{Refusal}
use Rattle.motor_core.specs.declared.error.Refusal.TheVariants.{FieldWidth, Register, RegisterFrame}
use Rattle.registers.specs.Registers.{known}
use Rattle.protocol_frame.specs.Layout.{Field, field, byte, packed, packed_onto, little_endian, all_fit, addressed, data_bytes}
use Rattle.protocol_received.specs.Received.{class_of}
use Rattle.protocol_received.specs.declared.FrameClass.{FrameClass}
use Rattle.protocol_received.specs.declared.FrameClass.TheVariants.{Reply, Ack, Feedback}
use Rattle.protocol_motor.specs.declared.FeedbackFields.{FeedbackFields}

-- 'The feedback on the screen', feedback, from the high bit down: status and motor in d0, the codes of position, velocity and torque in d1 to d5, the temperatures in d6 and d7
abbrev pub feedback_fields : FeedbackFields → List Field
feedback_fields f = field 4 f.status_code ∷ field 4 f.can_id ∷ field 16 f.pos ∷ field 12 f.vel ∷ field 12 f.torq ∷ byte f.t_mos ∷ byte f.t_rotor ∷ []

unfoldable pub feedback_data : FeedbackFields → ℕ
unfolding packed_onto
feedback_data f = packed (feedback_fields f)

-- the class that a reader sorts these bytes by
abbrev pub feedback_class : FeedbackFields → FrameClass
feedback_class f = class_of (data_bytes (feedback_data f))

-- 13 where that is a register's frame
abbrev pub unless_register : FrameClass → ℕ → Result ℕ Refusal
unless_register Feedback n = Ok n
unless_register Reply n = Err RegisterFrame
unless_register Ack n = Err RegisterFrame

-- T-02: refused with 14 where a field is too wide, then with 13
unfoldable pub feedback : FeedbackFields → Result ℕ Refusal
unfolding all_fit
feedback f = cond (all_fit (feedback_fields f)) (unless_register (feedback_class f) (feedback_data f)) (Err FieldWidth)

-- what a motor says of a register: its id, a marker, the register, and the value's 32 bits
abbrev pub register_data : ℕ → ℕ → ℕ → ℕ → ℕ
register_data marker id rid bits = addressed id (byte marker ∷ byte rid ∷ little_endian 4 bits)

-- T-02: a reply or an ack, by its marker: refused with 14 where the id is too wide, then with 4
unfoldable pub register_frame : ℕ → ℕ → ℕ → ℕ → Result ℕ Refusal
register_frame marker id rid bits = cond (motor_id_accepted id) (cond (known rid) (Ok (register_data marker id rid bits)) (Err Register)) (Err FieldWidth)

abbrev pub register_reply : ℕ → ℕ → ℕ → Result ℕ Refusal
register_reply id rid bits = register_frame 0x33 id rid bits

abbrev pub write_ack : ℕ → ℕ → ℕ → Result ℕ Refusal
write_ack id rid bits = register_frame 0x55 id rid bits
