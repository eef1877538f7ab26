-- T-02: just what is refused, and with which number. `proofs/Refused.antt` has the proof.
use Rattle.std.specs.Prelude.{ℕ, ◌/◌, ◌%◌, ◌≤◌, ◌<◌, ◌≡◌, ◌≢◌, ◌↔◌, true, false, Ok, Err}
use Rattle.motor_core.specs.declared.error.Refusal.TheVariants.{FieldWidth, Register, RegisterFrame}
use Rattle.registers.specs.Registers.{registers, known}
use Rattle.protocol_received.specs.Received.{class}
use Rattle.protocol_received.specs.declared.FrameClass.TheVariants as Class
use Rattle.protocol_motor.specs.Motor.{feedback_data, feedback_class, feedback, register_data, register_frame}
use Rattle.protocol_motor.specs.declared.FeedbackFields.{FeedbackFields}

-- T-02: no status or motor above 15, and no code that is too long. A temperature is a byte
abbrev pub Narrow : FeedbackFields → Type 0
Narrow f = (f.status_code ≤ 15) × (f.can_id ≤ 15) × (f.pos ≤ 0xffff) × (f.vel ≤ 0xfff) × (f.torq ≤ 0xfff) × (f.t_mos ≤ 255) × (f.t_rotor ≤ 255)

pub record Refused : Type 0 where
  -- a feedback: 14, 13, or neither
  pub feedback_14 : (f : FeedbackFields) → (feedback f ≡ Err FieldWidth) ↔ (Narrow f → ⊥)
  pub feedback_13 : (f : FeedbackFields) → (feedback f ≡ Err RegisterFrame) ↔ (Narrow f × (feedback_class f ≢ Class.Feedback))
  pub feedback_written : (f : FeedbackFields) (n : ℕ) → (feedback f ≡ Ok n) ↔ (Narrow f × (feedback_class f ≡ Class.Feedback) × (feedback_data f ≡ n))
  -- which class that is, by the codes: whatever the position, a register's frame it is only by the velocity's high eight bits too
  pub by_codes : (f : FeedbackFields) → Narrow f → feedback_class f ≡ class registers (f.pos / 256) (f.pos % 256) (f.vel / 16)
  -- a reply or an ack, by its marker: 14, 4, or neither
  pub register_14 : (marker id rid bits : ℕ) → (register_frame marker id rid bits ≡ Err FieldWidth) ↔ (0x4ff < id)
  pub register_4 : (marker id rid bits : ℕ) → (register_frame marker id rid bits ≡ Err Register) ↔ ((id ≤ 0x4ff) × (known rid ≡ false))
  pub register_written : (marker id rid bits n : ℕ) → (register_frame marker id rid bits ≡ Ok n) ↔ ((id ≤ 0x4ff) × (known rid ≡ true) × (register_data marker id rid bits ≡ n))
