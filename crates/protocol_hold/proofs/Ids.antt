-- The setpoints of each mode go to an id that fits the bus, where the motor id is accepted. Assumes nothing.
use Prim.Native.Nat.{ℕ}
use mathlib.Core.Path.{◌≡◌}
use mathlib.Core.Bool.{true}
use native.Mathlib.Omega.{arith}
use Rattle.motor_core.proofs.Ids.{accepted_fits}
use Rattle.motor_core.specs.Bus.{id_fits, motor_id_accepted}
use Rattle.protocol_hold.specs.Mode.{hold_id}
use Rattle.protocol_hold.specs.declared.ControlMode.{ControlMode}
use Rattle.protocol_hold.specs.declared.ControlMode.TheVariants.{Mit, PosVel, Vel, ForcePos}

pub hold_fits : (motor : ℕ) → motor_id_accepted motor ≡ true → (mode : ControlMode) → id_fits (hold_id motor mode)
hold_fits motor accepted Mit = omega (arith, (accepted_fits motor).0 accepted)
hold_fits motor accepted PosVel = omega (arith, (accepted_fits motor).0 accepted)
hold_fits motor accepted Vel = omega (arith, (accepted_fits motor).0 accepted)
hold_fits motor accepted ForcePos = omega (arith, (accepted_fits motor).0 accepted)
