-- The bench cases that are to be proved, as equations of the definitions: model 4310, motor 1. `proofs/Marked.antt` has their proof.
use Rattle.std.specs.Prelude.{ℕ, ◌≤◌, ◌^◌, ◌≡◌, false, List, [], ◌∷◌, Float, Some, Ok, Err}
use Rattle.std.specs.Float.{nan, binary32}
use Rattle.std.specs.Float.Ieee.{neg, div}
use Rattle.motor_core.specs.Model.{from_maxima}
use Rattle.motor_core.specs.declared.model.Maxima.{Maxima}
use Rattle.motor_core.specs.Name.{name_of}
use Rattle.time.specs.Time.{millis}
use Rattle.motor_core.specs.declared.bus.CanFrame.{CanFrame}
use Rattle.motor_core.specs.declared.error.Refusal.TheVariants.{ForeignFrame}
use Rattle.time.specs.declared.Instant.{Instant}
use Rattle.model_match.specs.Matching.{match_models}
use Rattle.model_damiao.specs.Damiao.{damiao_models, list_of}
use Rattle.model_query.specs.declared.Query.{Query}
use Rattle.registers.specs.declared.RegisterValue.TheVariants.{UInt32}
use Rattle.float.specs.Arithmetic.{float}
use Rattle.protocol_setpoint.specs.Setpoint.{mit_cmd, force_pos_cmd}
use Rattle.protocol_request.specs.Request.{register_read_cmd}
use Rattle.protocol_feedback.specs.Feedback.{decoded}
use Rattle.protocol_received.specs.Received.{class_of, received}
use Rattle.protocol_status.specs.Status.{status_name}
use Rattle.protocol_frame.specs.Command.{command}
use Rattle.protocol_setpoint.specs.declared.MitSetpoint.{MitSetpoint}
use Rattle.protocol_received.specs.declared.FrameClass.TheVariants as Class
use Rattle.protocol_received.specs.declared.Received.TheVariants as Receive
use Rattle.protocol_feedback.specs.declared.SensorFeedback.{SensorFeedback}
use Rattle.protocol_status.specs.declared.StatusName.TheVariants.{Enabled}
use Rattle.state_feedback.specs.declared.FeedbackSnapshot.{FeedbackSnapshot}
use Rattle.state_cache.specs.Cache.{slot_of}
use Rattle.state_cache.specs.declared.Entry.TheVariants.{Held}
use Rattle.switch_time.specs.TimeLeft.{mode_read_cap}
use Rattle.session.specs.Session.{fresh}
use Rattle.session.specs.declared.Session.{Session}
use Rattle.session_frame.specs.Frame.{frame_outcome, take_frame}
use Rattle.text.specs.Ascii.{ascii}
use Rattle.model_list.specs.Models.{limits_by_name}
use Rattle.session.specs.Start.{from_model}

-- model 4310's limits: 12.5, 30, 10, as the list has them under that name (`model_4310` below)
abbrev pub p : Float
p = div binary32 (float 25) (float 2)

abbrev pub v : Float
v = float 30

abbrev pub t : Float
t = float 10

abbrev pub maxima : Maxima
maxima = record { p_max = p; v_max = v; t_max = t }

abbrev pub zero : Float
zero = float 0

abbrev pub setpoint : Float → Float → Float → Float → Float → MitSetpoint
setpoint pos vel kp kd torq = record { target_position = pos; target_velocity = vel; stiffness = kp; damping = kd; feedforward_torque = torq }

abbrev pub frame : ℕ → ℕ → ℕ → ℕ → ℕ → ℕ → ℕ → ℕ → List ℕ
frame a b c d e f g h = a ∷ b ∷ c ∷ d ∷ e ∷ f ∷ g ∷ h ∷ []

-- 11 00 00 00 00 00 1E 28, and what it says: motor 1, status 1, each value at its minimum, 30 and 40 degrees
abbrev pub at_minimum : List ℕ
at_minimum = frame 0x11 0x00 0x00 0x00 0x00 0x00 0x1E 0x28

abbrev pub minimum : SensorFeedback
minimum = record { can_id = 1; status_code = 1; pos = neg p; vel = neg v; torq = neg t; t_mos = float 30; t_rotor = float 40 }

-- 11 0F 33 0A 01 00 00 00
abbrev pub ten_is_one : List ℕ
ten_is_one = frame 0x11 0x0F 0x33 0x0A 0x01 0x00 0x00 0x00

-- the same from motor 1: its id in the first two bytes
abbrev pub own_ten_is_one : List ℕ
own_ten_is_one = frame 0x01 0x00 0x33 0x0A 0x01 0x00 0x00 0x00

-- whole, on the feedback id 0x11 of a fresh session
abbrev pub on_bus : List ℕ → CanFrame
on_bus bytes = record { arbitration_id = 0x11; «data» = bytes; dlc = 8; is_extended = false }

abbrev pub session : Session
session = fresh 1 0x11 (from_maxima maxima)

-- the record that the frame at its minimum leaves there
abbrev pub first_record : Instant → FeedbackSnapshot
first_record reading = record {
  state = record { can_id = 1; arbitration_id = 0x11; status_code = 1; status_name = Enabled; pos = neg p; vel = neg v; torq = neg t; t_mos = float 30; t_rotor = float 40 };
  received_at = reading;
  sequence = 1;
}

-- the query 12.5, 45, 10
abbrev pub query : Query
query = record { p = p; v = float 45; t = t }

pub record Marked : Type 0 where
  pub model_4310 : limits_by_name damiao_models (ascii "4310") ≡ Ok maxima
  pub started_by_name : from_model 1 0x11 damiao_models (ascii "4310") ≡ Ok session
  pub mit_all_zero : mit_cmd 1 maxima (setpoint zero zero zero zero zero) ≡ Ok (command 1 0x7FFF_7FF0_0000_07FF)
  pub mit_all_at_maximum : mit_cmd 1 maxima (setpoint p v (float 500) (float 5) t) ≡ Ok (command 1 0xFFFF_FFFF_FFFF_FFFF)
  pub feedback_decoded : decoded maxima at_minimum ≡ Ok minimum
  pub feedback_sorted : received (from_maxima maxima) at_minimum ≡ Receive.Feedback minimum
  pub feedback_status : status_name minimum.status_code ≡ Enabled
  pub feedback_stored : (reading : Instant) → reading.0 ≤ 2 ^ 62 → (take_frame session (on_bus at_minimum) reading).session.head.feedback ≡ record { latest = Some (first_record reading); sequence = 1 }
  pub register_ten : received (from_maxima maxima) ten_is_one ≡ Receive.Reply 10 (UInt32 1)
  pub register_ten_stored : (reading : Instant) → reading.0 ≤ 2 ^ 62 → slot_of (take_frame session (on_bus own_ten_is_one) reading).session.replies 10 ≡ Held (UInt32 1) reading
  -- T-03: as a frame it has 0x0F in the second byte of its motor's id, so it is not motor 1's
  pub register_ten_refused : (reading : Instant) → reading.0 ≤ 2 ^ 62 → frame_outcome session.head (on_bus ten_is_one) reading ≡ Err ForeignFrame
  pub d1_too_high : class_of (frame 0x11 0x10 0x33 0x0A 0x01 0x00 0x00 0x00) ≡ Class.Feedback
  pub d3_unknown : class_of (frame 0x11 0x0F 0x33 0x25 0x01 0x00 0x00 0x00) ≡ Class.Feedback
  pub read_ten : register_read_cmd 1 10 ≡ Ok (command 0x7FF 0x0100_330A_0000_0000)
  pub force_position : force_pos_cmd 1 0 (float 100) (float 1) ≡ Ok (command 0x301 0x0000_0000_1027_1027)
  pub mode_cap_of_400 : mode_read_cap (millis 400) ≡ millis 100
  pub mode_cap_of_0 : mode_read_cap (millis 0) ≡ millis 2
  pub match_exact : match_models (list_of damiao_models) query zero ≡ Ok (name_of "G6215" ∷ name_of "H6220" ∷ [])
  pub match_nan : match_models (list_of damiao_models) query nan ≡ Ok []
