-- What a run sends is the frame of the command: the one that is answered to the same command by itself. Assumes nothing.
use Prim.Native.Nat.{ℕ}
use mathlib.Core.Path.{◌≡◌, ap, ◌∙◌}
use mathlib.Core.Bool.{Bool, true, cond}
use Rattle.std.specs.Prelude.{Ok, Err}
use Rattle.motor_core.specs.Bus.{motor_id_accepted}
use Rattle.motor_core.specs.Model.{limits_of}
use Rattle.motor_core.specs.declared.model.PvTLimits.{PvTLimits}
use Rattle.motor_core.specs.declared.model.Maxima.{Maxima}
use Rattle.motor_core.specs.AndThen.{and_then}
use Rattle.motor_core.specs.declared.error.Refusal.TheVariants.{MotorId}
use Rattle.protocol_frame.specs.Command.{command, frame_for}
use Rattle.protocol_setpoint.specs.Setpoint.{mit_cmd}
use Rattle.protocol_hold.specs.declared.ControlMode.TheVariants.{Mit, PosVel, Vel, ForcePos}
use Rattle.run_want.specs.Message.{message_id, message_data, message_cmd}
use Rattle.run_want.specs.declared.message.Message.{Message}
use Rattle.run_want.specs.declared.message.Message.TheVariants.{ReadRegister, WriteRegister, RequestFeedback, Disable, StoreParams, Setpoint}

module _ (motor : ℕ) (taken : motor_id_accepted motor ≡ true) where
  answered : (id bytes : ℕ) → frame_for motor id bytes ≡ Ok (command id bytes)
  unfolding frame_for
  answered id bytes = ap (λ (b : Bool). cond b (Ok (command id bytes)) (Err MotorId)) taken

  -- with the limits that the motor's three maxima give
  pub sent_frame : (m : Maxima) (l : PvTLimits) → limits_of m ≡ Ok l → (message : Message) → message_cmd motor m message ≡ Ok (command (message_id motor message) (message_data motor l message))
  unfolding mit_cmd
  sent_frame m l made (ReadRegister rid) = answered _ _
  sent_frame m l made (WriteRegister rid bits) = answered _ _
  sent_frame m l made RequestFeedback = answered _ _
  sent_frame m l made Disable = answered _ _
  sent_frame m l made StoreParams = answered _ _
  sent_frame m l made (Setpoint Mit position) = ap (λ check. and_then check (λ k. frame_for motor motor (message_data motor k (Setpoint Mit position)))) made ∙ answered _ _
  sent_frame m l made (Setpoint PosVel position) = answered _ _
  sent_frame m l made (Setpoint Vel position) = answered _ _
  sent_frame m l made (Setpoint ForcePos position) = answered _ _
