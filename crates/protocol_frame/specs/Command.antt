-- A command's frame, or a refusal. Definitions only.
use Rattle.std.specs.Prelude.{ℕ, cond, Result, Ok, Err}
use Rattle.motor_core.specs.Bus.{motor_id_accepted}
use Rattle.motor_core.specs.declared.error.Refusal.{Refusal}
use Rattle.motor_core.specs.declared.error.Refusal.TheVariants.{MotorId}
use Rattle.protocol_frame.specs.declared.Command.{Command}

abbrev pub command : ℕ → ℕ → Command
command arbitration bits = record { arbitration_id = arbitration; «data» = bits }

-- 'The command bytes', last rule: refused with 2 where the motor id is not accepted
unfoldable pub frame_for : ℕ → ℕ → ℕ → Result Command Refusal
frame_for motor arbitration bits = cond (motor_id_accepted motor) (Ok (command arbitration bits)) (Err MotorId)
