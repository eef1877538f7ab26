-- `finish_mode_switch`: the hold frame after a write of the mode. Definitions only.
use Rattle.std.specs.Prelude.{Option, Some, None}
use Rattle.float.specs.declared.F32Bits.{F32Bits}
use Rattle.protocol_hold.specs.declared.ControlMode.{ControlMode}
use Rattle.protocol_hold.specs.declared.ControlMode.TheVariants.{Mit, PosVel, Vel, ForcePos}
use Rattle.switch_finish.specs.declared.Finishing.{Finishing}
use Rattle.switch_finish.specs.declared.Finishing.TheVariants.{Holds, Done}

abbrev pub finish_at : Option F32Bits → Finishing
finish_at None = Done
finish_at (Some position) = Holds

-- position-velocity and force-position only with a position
abbrev pub finish : ControlMode → Option F32Bits → Finishing
finish Mit position = Holds
finish PosVel position = finish_at position
finish Vel position = Holds
finish ForcePos position = finish_at position
