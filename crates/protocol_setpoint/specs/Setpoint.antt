-- Setpoint frames. Definitions only.
use Rattle.std.specs.Prelude.{ℕ, ◌+◌, [], ◌∷◌, ◌++◌, Float, Result}
use Rattle.std.specs.Float.Ieee.{to_unsigned}
use Rattle.float.specs.Float.{clip}
use Rattle.motor_core.specs.Model.{limits_of}
use Rattle.motor_core.specs.declared.model.PvTLimits.{PvTLimits}
use Rattle.motor_core.specs.AndThen.{and_then}
use Rattle.motor_core.specs.declared.error.Refusal.{Refusal}
use Rattle.motor_core.specs.declared.model.Maxima.{Maxima}
use Rattle.float.specs.Arithmetic.{float, ◌⊗◌}
use Rattle.protocol_codes.specs.Codes.{float_to_uint}
use Rattle.protocol_frame.specs.Layout.{field, packed, packed_onto, little_endian, bytes}
use Rattle.protocol_frame.specs.Command.{frame_for}
use Rattle.protocol_frame.specs.declared.Command.{Command}
use Rattle.protocol_setpoint.specs.declared.MitSetpoint.{MitSetpoint}

-- ---- the eight data bytes

-- 'The command bytes', MIT: five codes from the high bit down, 16 bits of position and 12 each of velocity, kp, kd and torque
abbrev pub mit_fields : ℕ → ℕ → ℕ → ℕ → ℕ → ℕ
mit_fields pos vel kp kd torq = packed (field 16 pos ∷ field 12 vel ∷ field 12 kp ∷ field 12 kd ∷ field 12 torq ∷ [])

-- kp goes from 0 to 500 and kd from 0 to 5
unfoldable pub mit_data : PvTLimits → MitSetpoint → ℕ
unfolding packed_onto
mit_data l s =
    mit_fields
    (float_to_uint 16 s.target_position l.p_min l.p_max)
    (float_to_uint 12 s.target_velocity l.v_min l.v_max)
    (float_to_uint 12 s.stiffness (float 0) (float 500))
    (float_to_uint 12 s.damping (float 0) (float 5))
    (float_to_uint 12 s.feedforward_torque l.t_min l.t_max)

-- position-velocity and velocity: a float that travels unchanged is its 32 bits, lowest byte first
unfoldable pub pos_vel_data : ℕ → ℕ → ℕ
unfolding packed_onto little_endian
pos_vel_data pos vlim = packed (little_endian 4 pos ++ little_endian 4 vlim)

unfoldable pub vel_data : ℕ → ℕ
unfolding packed_onto little_endian bytes
vel_data vel = packed (little_endian 4 vel ++ bytes 4 0)

-- clipped to 0..most, times scale, the multiplication rounded, then the fraction dropped
unfoldable pub scaled : Float → ℕ → ℕ → ℕ
scaled x most scale = to_unsigned 16 (clip x (float 0) (float most) ⊗ float scale)

-- force-position: the position's bits, then the velocity limit in hundredths and the torque ratio in ten-thousandths, each two bytes, lowest first
unfoldable pub force_pos_data : ℕ → Float → Float → ℕ
unfolding packed_onto little_endian
force_pos_data pos vlim ratio = packed (little_endian 4 pos ++ little_endian 2 (scaled vlim 100 100) ++ little_endian 2 (scaled ratio 1 10000))

-- ---- the frames: id and data, or a refusal

-- MIT goes to the motor id; refusals 1, then 2
unfoldable pub mit_cmd : ℕ → Maxima → MitSetpoint → Result Command Refusal
mit_cmd motor m s = and_then (limits_of m) (λ l. frame_for motor motor (mit_data l s))

-- the other three go to the motor id moved up by 0x100, 0x200 and 0x300
abbrev pub pos_vel_id : ℕ → ℕ
pos_vel_id motor = 0x100 + motor

abbrev pub vel_id : ℕ → ℕ
vel_id motor = 0x200 + motor

abbrev pub force_pos_id : ℕ → ℕ
force_pos_id motor = 0x300 + motor

abbrev pub pos_vel_cmd : ℕ → ℕ → ℕ → Result Command Refusal
pos_vel_cmd motor pos vlim = frame_for motor (pos_vel_id motor) (pos_vel_data pos vlim)

abbrev pub vel_cmd : ℕ → ℕ → Result Command Refusal
vel_cmd motor vel = frame_for motor (vel_id motor) (vel_data vel)

abbrev pub force_pos_cmd : ℕ → ℕ → Float → Float → Result Command Refusal
force_pos_cmd motor pos vlim ratio = frame_for motor (force_pos_id motor) (force_pos_data pos vlim ratio)
