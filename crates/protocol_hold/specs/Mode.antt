-- The control modes and the setpoint that stands still in each: document 01's 'The command bytes'. Definitions only.
use Rattle.std.specs.Prelude.{ℕ, cond, eqb, Float, Result, Ok, Err}
use Rattle.std.specs.Float.{binary32}
use Rattle.std.specs.Float.Ieee.{of_bits}
use Rattle.float.specs.Arithmetic.{float}
use Rattle.motor_core.specs.declared.error.Refusal.{Refusal}
use Rattle.motor_core.specs.declared.error.Refusal.TheVariants.{Mode}
use Rattle.motor_core.specs.declared.model.PvTLimits.{PvTLimits}
use Rattle.protocol_setpoint.specs.declared.MitSetpoint.{MitSetpoint}
use Rattle.protocol_setpoint.specs.Setpoint.{pos_vel_id, vel_id, force_pos_id, mit_data, pos_vel_data, vel_data, force_pos_data}
use Rattle.protocol_hold.specs.declared.ControlMode.{ControlMode}
use Rattle.protocol_hold.specs.declared.ControlMode.TheVariants.{Mit, PosVel, Vel, ForcePos}

-- 'Turned back', 10: modes have the numbers 1 to 4
abbrev pub control_mode : ℕ → Result ControlMode Refusal
control_mode n = cond (eqb n 1) (Ok Mit) (cond (eqb n 2) (Ok PosVel) (cond (eqb n 3) (Ok Vel) (cond (eqb n 4) (Ok ForcePos) (Err Mode))))

abbrev pub mode_number : ControlMode → ℕ
mode_number Mit = 1
mode_number PosVel = 2
mode_number Vel = 3
mode_number ForcePos = 4

-- where a mode's setpoints go
abbrev pub hold_id : ℕ → ControlMode → ℕ
hold_id motor Mit = motor
hold_id motor PosVel = pos_vel_id motor
hold_id motor Vel = vel_id motor
hold_id motor ForcePos = force_pos_id motor

-- the MIT setpoint at a position, with all else 0
abbrev pub still_at : Float → MitSetpoint
still_at position = record { target_position = position; target_velocity = float 0; stiffness = float 0; damping = float 0; feedforward_torque = float 0 }

-- the setpoint at a position, given by its bits, with all else 0: that of the velocity mode is its speed alone
abbrev pub hold_data : PvTLimits → ControlMode → ℕ → ℕ
hold_data l Mit position = mit_data l (still_at (of_bits binary32 position))
hold_data l PosVel position = pos_vel_data position 0
hold_data l Vel position = vel_data 0
hold_data l ForcePos position = force_pos_data position (float 0) (float 0)
