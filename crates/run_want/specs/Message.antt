-- The frame of each message that a run sends. Definitions only.
use Rattle.std.specs.Prelude.{ℕ, Result}
use Rattle.std.specs.Float.{binary32}
use Rattle.std.specs.Float.Ieee.{of_bits}
use Rattle.float.specs.Arithmetic.{float}
use Rattle.motor_core.specs.declared.model.PvTLimits.{PvTLimits}
use Rattle.motor_core.specs.declared.error.Refusal.{Refusal}
use Rattle.motor_core.specs.declared.model.Maxima.{Maxima}
use Rattle.protocol_frame.specs.declared.Command.{Command}
use Rattle.protocol_setpoint.specs.Setpoint.{mit_cmd, pos_vel_cmd, vel_cmd, force_pos_cmd}
use Rattle.protocol_request.specs.Request.{request_id, register_read_data, register_write_data, feedback_request_data, disable_data, store_params_data, register_read_cmd, register_write_cmd, feedback_request_cmd, disable_cmd, store_params_cmd}
use Rattle.protocol_hold.specs.Mode.{hold_id, still_at, hold_data}
use Rattle.protocol_hold.specs.declared.ControlMode.TheVariants.{Mit, PosVel, Vel, ForcePos}
use Rattle.run_want.specs.declared.message.Message.{Message}
use Rattle.run_want.specs.declared.message.Message.TheVariants.{ReadRegister, WriteRegister, RequestFeedback, Disable, StoreParams, Setpoint}

-- requests go to 0x7FF, disable to the motor id, a setpoint where those of its mode go
abbrev pub message_id : ℕ → Message → ℕ
message_id motor (ReadRegister rid) = request_id
message_id motor (WriteRegister rid bits) = request_id
message_id motor RequestFeedback = request_id
message_id motor Disable = motor
message_id motor StoreParams = request_id
message_id motor (Setpoint mode position) = hold_id motor mode

abbrev pub message_data : ℕ → PvTLimits → Message → ℕ
message_data motor limits (ReadRegister rid) = register_read_data motor rid
message_data motor limits (WriteRegister rid bits) = register_write_data motor rid bits
message_data motor limits RequestFeedback = feedback_request_data motor
message_data motor limits Disable = disable_data
message_data motor limits StoreParams = store_params_data motor
message_data motor limits (Setpoint mode position) = hold_data limits mode position.0

-- the command frame of each message, with the limits' three maxima
abbrev pub message_cmd : ℕ → Maxima → Message → Result Command Refusal
message_cmd motor m (ReadRegister rid) = register_read_cmd motor rid
message_cmd motor m (WriteRegister rid bits) = register_write_cmd motor rid bits
message_cmd motor m RequestFeedback = feedback_request_cmd motor
message_cmd motor m Disable = disable_cmd motor
message_cmd motor m StoreParams = store_params_cmd motor
message_cmd motor m (Setpoint Mit position) = mit_cmd motor m (still_at (of_bits binary32 position.0))
message_cmd motor m (Setpoint PosVel position) = pos_vel_cmd motor position.0 0
message_cmd motor m (Setpoint Vel position) = vel_cmd motor 0
message_cmd motor m (Setpoint ForcePos position) = force_pos_cmd motor position.0 (float 0) (float 0)
