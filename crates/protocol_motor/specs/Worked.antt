-- T-02: frames that are written and read back, and fields that are refused. `proofs/Worked.antt` has the proof. Definitions only.
use Rattle.std.specs.Prelude.{ℕ, ◌≡◌, Ok, Err}
use Rattle.motor_core.specs.declared.error.Refusal.TheVariants.{FieldWidth, Register, RegisterFrame}
use Rattle.motor_core.specs.declared.model.PvTLimits.{PvTLimits}
use Rattle.registers.specs.declared.RegisterValue.TheVariants.{Nan, UInt32}
use Rattle.protocol_frame.specs.Layout.{data_bytes}
use Rattle.protocol_received.specs.Received.{received}
use Rattle.protocol_received.specs.declared.Received.TheVariants as Receive
use Rattle.protocol_motor.specs.Motor.{feedback, register_reply, write_ack}
use Rattle.protocol_motor.specs.RoundTrip.{meaning}
use Rattle.protocol_motor.specs.declared.FeedbackFields.{FeedbackFields}

-- a feedback of motor 1, whose status is 1
abbrev pub with_codes : ℕ → ℕ → ℕ → FeedbackFields
with_codes pos vel torq = record { can_id = 1; status_code = 1; pos = pos; vel = vel; torq = torq; t_mos = 30; t_rotor = 40 }

-- no two fields alike
abbrev pub apart : FeedbackFields
apart = record { can_id = 0x2; status_code = 0xC; pos = 0x3456; vel = 0x789; torq = 0xABD; t_mos = 0xEF; t_rotor = 0x10 }

-- of any status, with a position and a velocity that would be read as register 10's reply
abbrev pub with_status : ℕ → FeedbackFields
with_status status = record (with_codes 0x0F33 0x0A0 0) { status_code = status }

pub record Worked : Type 0 where
  -- document 01's marked feedback, and each field in its place
  pub zeros : feedback (with_codes 0 0 0) ≡ Ok 0x1100_0000_0000_1E28
  pub places : feedback apart ≡ Ok 0xC234_5678_9ABD_EF10
  -- a reply and an ack of register 10, and an ack of one that can only be read, by the last id
  pub reply : register_reply 1 10 0x0403_0201 ≡ Ok 0x0100_330A_0102_0304
  pub ack : write_ack 1 10 0x0403_0201 ≡ Ok 0x0100_550A_0102_0304
  pub read_only_ack : write_ack 0x4ff 13 0 ≡ Ok 0xFF04_550D_0000_0000
  -- read back: no two fields alike; a reply with a NaN's bits in a float register; an ack
  pub places_read : (l : PvTLimits) → received l (data_bytes 0xC234_5678_9ABD_EF10) ≡ Receive.Feedback (meaning l apart)
  pub nan : register_reply 0x102 0 0x7FC1_2345 ≡ Ok 0x0201_3300_4523_C17F
  pub nan_read : (l : PvTLimits) → received l (data_bytes 0x0201_3300_4523_C17F) ≡ Receive.Reply 0 (Nan (record { 0 = 0x7FC1_2345 }))
  pub ack_read : (l : PvTLimits) → received l (data_bytes 0x0100_550A_0102_0304) ≡ Receive.Ack 10 (UInt32 0x0403_0201)
  -- position 0F 33: d3 is register 10, or 37, which is none; one with a higher position, and one with an ack's marker
  pub as_register_10 : feedback (with_codes 0x0F33 0x0A0 0) ≡ Err RegisterFrame
  pub as_37 : feedback (with_codes 0x0F33 0x250 0) ≡ Ok 0x110F_3325_0000_1E28
  pub higher : feedback (with_codes 0x1033 0x0A0 0) ≡ Ok 0x1110_330A_0000_1E28
  pub as_ack_of_10 : feedback (with_codes 0x0F55 0x0AF 0xFFF) ≡ Err RegisterFrame
  -- codes at their widest, and one above
  pub widest : feedback (with_codes 0xffff 0xfff 0xfff) ≡ Ok 0x11FF_FFFF_FFFF_1E28
  pub position : feedback (with_codes 0x1_0000 0 0) ≡ Err FieldWidth
  pub velocity : feedback (with_codes 0 0x1000 0) ≡ Err FieldWidth
  pub torque : feedback (with_codes 0 0 0x1000) ≡ Err FieldWidth
  -- 14 before 13 and before 4
  pub wide_first : feedback (with_status 16) ≡ Err FieldWidth
  pub then_13 : feedback (with_status 15) ≡ Err RegisterFrame
  pub id_first : register_reply 0x500 37 0 ≡ Err FieldWidth
  pub then_4 : register_reply 0x4ff 37 0 ≡ Err Register
