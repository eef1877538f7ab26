-- What a feedback frame says. Its data bytes d0 to d7 are a list. Definitions only.
use Rattle.std.specs.Prelude.{ℕ, ◌+◌, ◌*◌, ◌/◌, ◌%◌, List, Float, Result, Ok}
use Rattle.motor_core.specs.Model.{limits_of}
use Rattle.motor_core.specs.declared.model.PvTLimits.{PvTLimits}
use Rattle.motor_core.specs.AndThen.{and_then}
use Rattle.motor_core.specs.declared.error.Refusal.{Refusal}
use Rattle.motor_core.specs.declared.model.Maxima.{Maxima}
use Rattle.float.specs.Arithmetic.{float}
use Rattle.protocol_codes.specs.Codes.{uint_to_float}
use Rattle.protocol_frame.specs.Layout.{d}
use Rattle.protocol_feedback.specs.declared.SensorFeedback.{SensorFeedback}

-- 'The feedback on the screen', feedback: d1 to d5 are three codes of 16, 12 and 12 bits
abbrev pub position_code : List ℕ → ℕ
position_code bytes = d bytes 1 * 256 + d bytes 2

abbrev pub velocity_code : List ℕ → ℕ
velocity_code bytes = d bytes 3 * 16 + d bytes 4 / 16

abbrev pub torque_code : List ℕ → ℕ
torque_code bytes = d bytes 4 % 16 * 256 + d bytes 5

abbrev pub position : PvTLimits → List ℕ → Float
position l bytes = uint_to_float 16 (position_code bytes) l.p_min l.p_max

abbrev pub velocity : PvTLimits → List ℕ → Float
velocity l bytes = uint_to_float 12 (velocity_code bytes) l.v_min l.v_max

abbrev pub torque : PvTLimits → List ℕ → Float
torque l bytes = uint_to_float 12 (torque_code bytes) l.t_min l.t_max

-- d0 is two fields of four bits, d6 and d7 are whole numbers as floats
unfoldable pub feedback_of : PvTLimits → List ℕ → SensorFeedback
feedback_of l bytes = record {
  can_id = d bytes 0 % 16;
  status_code = d bytes 0 / 16;
  pos = position l bytes;
  vel = velocity l bytes;
  torq = torque l bytes;
  t_mos = float (d bytes 6);
  t_rotor = float (d bytes 7);
}

-- any eight bytes as feedback, unless the limits are refused
unfoldable pub decoded : Maxima → List ℕ → Result SensorFeedback Refusal
decoded m bytes = and_then (limits_of m) (λ l. Ok (feedback_of l bytes))
