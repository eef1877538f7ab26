-- A command that is answered has an accepted motor id, and the frame its own id. Assumes nothing.
use Rattle.std.specs.Prelude.{Ok}
use Prim.Native.Nat.{ℕ}
use mathlib.Core.Path.{◌≡◌, ap}
use mathlib.Core.Bool.{true}
use Rattle.motor_core.proofs.Turned.{let_through}
use Rattle.motor_core.specs.Bus.{motor_id_accepted}
use Rattle.motor_core.specs.declared.error.Refusal.TheVariants.{MotorId}
use Rattle.protocol_frame.specs.Command.{command, frame_for}
use Rattle.protocol_frame.specs.declared.Command.{Command}

pub answered : (motor id bits : ℕ) (c : Command) → frame_for motor id bits ≡ Ok c → (motor_id_accepted motor ≡ true) × (id ≡ c.arbitration_id)
unfolding frame_for
answered motor id bits c e = let (accepted, same) = let_through (command id bits) c MotorId (motor_id_accepted motor) e in (accepted, ap (λ (x : Command). x.arbitration_id) same)
