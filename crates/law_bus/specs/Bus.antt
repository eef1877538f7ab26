-- Every frame that is sent has an id of 11 bits: document 02, T-01. `bus` in proofs/Bus.antt has the proof. Definitions only.
use Rattle.std.specs.Prelude.{ℕ, ◌≡◌, true, ◌↔◌, List, Float, Result, Ok}
use Rattle.motor_core.specs.Bus.{id_fits, motor_id_accepted}
use Rattle.motor_core.specs.declared.error.Refusal.{Refusal}
use Rattle.motor_core.specs.declared.model.Maxima.{Maxima}
use Rattle.protocol_frame.specs.declared.Command.{Command}
use Rattle.protocol_setpoint.specs.Setpoint.{force_pos_id, mit_cmd, pos_vel_cmd, vel_cmd, force_pos_cmd}
use Rattle.protocol_setpoint.specs.declared.MitSetpoint.{MitSetpoint}
use Rattle.protocol_request.specs.Request.{register_read_cmd, register_write_cmd, store_params_cmd, feedback_request_cmd, disable_cmd, set_zero_cmd, clear_error_cmd}
use Rattle.run_want.specs.Message.{message_id}
use Rattle.run_want.specs.declared.Want.TheVariants.{Send}
use Rattle.run_want.specs.declared.message.Message.{Message}
use Rattle.session.specs.declared.Session.{Session}
use Rattle.session_step.specs.declared.Told.TheVariants as Told
use Rattle.session_call.specs.Step.{step}
use Rattle.session_call.specs.declared.Call.{Call}
use Rattle.session_call.specs.declared.Returned.{Returned}
use Rattle.law_calls.specs.Calls.{Fresh, session_after}

-- a command's frame, if it is answered
abbrev pub FrameFits : Result Command Refusal → Type 0
FrameFits answer = (c : Command) → answer ≡ Ok c → id_fits c.arbitration_id

-- a send, if that is what a call returns
abbrev pub SendFits : Returned → Type 0
SendFits returned = (c : Command) → returned ≡ Returned.Run (Ok (Told.Want (Send c))) → id_fits c.arbitration_id

-- each single command frame
pub record Commands : Type 0 where
  pub mit : (motor : ℕ) (m : Maxima) (s : MitSetpoint) → FrameFits (mit_cmd motor m s)
  pub pos_vel : (motor position limit : ℕ) → FrameFits (pos_vel_cmd motor position limit)
  pub vel : (motor velocity : ℕ) → FrameFits (vel_cmd motor velocity)
  pub force_pos : (motor position : ℕ) (limit ratio : Float) → FrameFits (force_pos_cmd motor position limit ratio)
  pub register_read : (motor rid : ℕ) → FrameFits (register_read_cmd motor rid)
  pub register_write : (motor rid bits : ℕ) → FrameFits (register_write_cmd motor rid bits)
  pub store_params : (motor : ℕ) → FrameFits (store_params_cmd motor)
  pub feedback_request : (motor : ℕ) → FrameFits (feedback_request_cmd motor)
  pub disable : (motor : ℕ) → FrameFits (disable_cmd motor)
  pub set_zero : (motor : ℕ) → FrameFits (set_zero_cmd motor)
  pub clear_error : (motor : ℕ) → FrameFits (clear_error_cmd motor)

pub record Bus : Type 0 where
  -- a motor id is accepted exactly if the highest of its setpoints' ids, force-position's, fits
  pub accepted : (motor : ℕ) → (motor_id_accepted motor ≡ true) ↔ id_fits (force_pos_id motor)
  pub commands : Commands
  -- each message of a run
  pub messages : (motor : ℕ) → motor_id_accepted motor ≡ true → (message : Message) → id_fits (message_id motor message)
  -- each send that any call returns, in any list of calls from a fresh session
  pub sends : (motor feedback : ℕ) (s : Session) → Fresh motor feedback s → (before : List Call) (c : Call) → SendFits (step (session_after s before) c).told
