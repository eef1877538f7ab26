-- T-03: exactly which frames are a motor's, and how far two motors are told apart. `proofs/Exactly.antt` has the proof.
use Rattle.std.specs.Prelude.{ℕ, ◌%◌, ◌<◌, ◌≡◌, ◌↔◌, true, false, List}
use Rattle.motor_core.specs.declared.bus.CanFrame.{CanFrame}
use Rattle.protocol_frame.specs.Layout.{d}
use Rattle.protocol_received.specs.Received.{class_of, id_of}
use Rattle.protocol_received.specs.declared.FrameClass.{FrameClass}
use Rattle.protocol_received.specs.declared.FrameClass.TheVariants as Class
use Rattle.protocol_address.specs.Address.{own_frame}

-- what the data have of the motor: four bits of its id, or all of it
abbrev pub Names : ℕ → FrameClass → List ℕ → Type 0
Names motor Class.Feedback bytes = d bytes 0 % 16 ≡ motor % 16
Names motor Class.Reply bytes = id_of bytes ≡ motor
Names motor Class.Ack bytes = id_of bytes ≡ motor

pub record IsOwn (motor feedback : ℕ) (f : CanFrame) : Type 0 where
  pub not_extended : f.is_extended ≡ false
  pub eight_bytes : f.dlc ≡ 8
  pub on_feedback_id : f.arbitration_id ≡ feedback
  pub named : Names motor (class_of f.«data») f.«data»

pub record Exactly : Type 0 where
  -- the first byte is one, as in every frame
  pub exactly : (motor feedback : ℕ) (f : CanFrame) → d f.«data» 0 < 256 → (own_frame motor feedback f ≡ true) ↔ IsOwn motor feedback f
  -- feedback of two motors on one feedback id whose ids agree in the low four bits is told by no test
  pub alike : (motor other feedback : ℕ) (f : CanFrame) → motor % 16 ≡ other % 16 → class_of f.«data» ≡ Class.Feedback → own_frame motor feedback f ≡ own_frame other feedback f
  -- what is two motors' is on one feedback id; as feedback it is of no others than these, as a reply or an ack of one motor
  pub apart_by_feedback : (motor other feedback feedback' : ℕ) (f : CanFrame) → own_frame motor feedback f ≡ true → own_frame other feedback' f ≡ true → class_of f.«data» ≡ Class.Feedback → (motor % 16 ≡ other % 16) × (feedback ≡ feedback')
  pub apart_by_reply : (motor other feedback feedback' : ℕ) (f : CanFrame) → own_frame motor feedback f ≡ true → own_frame other feedback' f ≡ true → class_of f.«data» ≡ Class.Reply → (motor ≡ other) × (feedback ≡ feedback')
  pub apart_by_ack : (motor other feedback feedback' : ℕ) (f : CanFrame) → own_frame motor feedback f ≡ true → own_frame other feedback' f ≡ true → class_of f.«data» ≡ Class.Ack → (motor ≡ other) × (feedback ≡ feedback')
