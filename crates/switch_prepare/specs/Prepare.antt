-- `prepare_for_mode_switch`: the position to hold, then four clearing frames, which may fail. Definitions only.
use Rattle.std.specs.Prelude.{Option, Some, None, Ok, Err}
use Rattle.float.specs.declared.F32Bits.{F32Bits}
use Rattle.time.specs.declared.Instant.{Instant}
use Rattle.time.specs.declared.Duration.{Duration}
use Rattle.registers.specs.Value.{bits_of}
use Rattle.protocol_hold.specs.declared.ControlMode.{ControlMode}
use Rattle.protocol_hold.specs.declared.ControlMode.TheVariants.{Mit, PosVel, Vel, ForcePos}
use Rattle.run_wait.specs.declared.ask.Ask.{Ask}
use Rattle.run_wait.specs.declared.ask.Ask.TheVariants.{Opening}
use Rattle.registers.specs.declared.RegisterValue.{RegisterValue}
use Rattle.run_want.specs.Step.{Stepped}
use Rattle.std.specs.declared.ops.ControlFlow.{ControlFlow}
use Rattle.std.specs.declared.ops.ControlFlow.TheVariants.{Continue, Break}
use Rattle.switch_time.specs.TimeLeft.{capped_remaining, hold_read_cap}
use Rattle.switch_stage.specs.declared.Progress.{Progress}
use Rattle.switch_stage.specs.declared.Stage.{Stage}
use Rattle.switch_stage.specs.declared.Stage.TheVariants.{HoldRemaining, HoldReading, Clearing}

-- it goes on to a stage, or is over
abbrev pub Prepare : Type 0
Prepare = ControlFlow Progress (Progress × Stage)

abbrev pub holding_at : Progress → F32Bits → Progress
holding_at p position = record { deadline = p.deadline; hold_position = Some position; last_error = p.last_error }

abbrev pub read_position : Progress → Prepare
read_position p = Continue (p, HoldRemaining)

abbrev pub reading_position : Progress → Duration → Ask → Prepare
reading_position p length ask = Continue (p, HoldReading length ask)

abbrev pub clear : Progress → ControlMode → Prepare
clear p channel = Continue (p, Clearing channel)

-- the velocity mode holds no position; every mode's setpoint is cleared, the velocity's first
abbrev pub prepare : ControlMode → Progress → Prepare
prepare Mit p = read_position p
prepare PosVel p = read_position p
prepare Vel p = clear p Vel
prepare ForcePos p = read_position p

abbrev pub hold_timed : Progress → Option Duration → Prepare
hold_timed p None = clear p Vel
hold_timed p (Some length) = reading_position p length Opening

abbrev pub hold_time : Duration → Progress → Instant → Prepare
hold_time timeout p now = hold_timed p (capped_remaining p.deadline (hold_read_cap timeout) now)

-- every failure of that read means no position
abbrev pub after_hold_read : Progress → Duration → Stepped Ask RegisterValue → Prepare
after_hold_read p length (Ok (Continue ask)) = reading_position p length ask
after_hold_read p length (Ok (Break value)) = clear (holding_at p (record { 0 = bits_of value })) Vel
after_hold_read p length (Err failure) = clear p Vel

-- velocity, position-velocity, force-position, MIT; then the mode can be written
abbrev pub cleared : ControlMode → Progress → Prepare
cleared Vel p = clear p PosVel
cleared PosVel p = clear p ForcePos
cleared ForcePos p = clear p Mit
cleared Mit p = Break p
