-- The stages of a mode switch: what a switch keeps, what it wants and where it looks. Definitions only.
use Rattle.std.specs.Prelude.{Option, Some, None, unwrap_or}
use Rattle.registers.specs.declared.RegisterValue.{RegisterValue}
use Rattle.registers.specs.declared.RegisterValue.TheVariants as Value
use Rattle.protocol_hold.specs.Mode.{mode_number}
use Rattle.protocol_hold.specs.declared.ControlMode.{ControlMode}
use Rattle.state_cache.specs.declared.Place.{Place}
use Rattle.state_cache.specs.declared.Place.TheVariants.{Reply, Ack}
use Rattle.run_want.specs.declared.Want.{Want}
use Rattle.run_want.specs.declared.Want.TheVariants.{Clock, Send, Sleep}
use Rattle.run_want.specs.declared.message.Message.{Message}
use Rattle.run_want.specs.declared.message.Message.TheVariants.{Setpoint}
use Rattle.run_read.specs.Read.{read_want}
use Rattle.run_write.specs.Write.{write_want}
use Rattle.switch_stage.specs.declared.Progress.{Progress}
use Rattle.switch_stage.specs.declared.Stage.{Stage}
use Rattle.switch_stage.specs.declared.Stage.TheVariants.{Remaining, Reading, HoldRemaining, HoldReading, Clearing, Writing, SettleRemaining, SettleSleep, Holding}
use Rattle.switch_stage.specs.declared.Switch.{Switch}
use Rattle.switch_stage.specs.declared.Switch.TheVariants.{Starting, Begun}
use Rattle.run_want.specs.Step.{Stepped, goes as on}

-- what register 10 holds in the mode
abbrev pub mode_value : ControlMode → RegisterValue
mode_value mode = Value.UInt32 (mode_number mode)

-- with no position to hold, 0.0
abbrev pub hold_message : ControlMode → Progress → Message
hold_message mode p = Setpoint mode (unwrap_or p.hold_position (record { 0 = 0 }))

-- ---- what each stage wants and where it looks

abbrev pub stage_want : ControlMode → Progress → Stage → Want Message
stage_want mode p (Remaining which) = Clock
stage_want mode p (Reading which length ask) = read_want 10 ask
stage_want mode p HoldRemaining = Clock
stage_want mode p (HoldReading length ask) = read_want 80 ask
stage_want mode p (Clearing channel) = Send (hold_message channel p)
stage_want mode p (Writing verifies_left write) = write_want 10 (mode_value mode) write
stage_want mode p (SettleRemaining verifies_left) = Clock
stage_want mode p (SettleSleep verifies_left length) = Sleep length
stage_want mode p (Holding verifies_left) = Send (hold_message mode p)

abbrev pub switch_want : ControlMode → Switch → Want Message
switch_want mode Starting = Clock
switch_want mode (Begun p stage) = stage_want mode p stage

abbrev pub stage_place : Stage → Option Place
stage_place (Remaining which) = None
stage_place (Reading which length ask) = Some (Reply 10)
stage_place HoldRemaining = None
stage_place (HoldReading length ask) = Some (Reply 80)
stage_place (Clearing channel) = None
stage_place (Writing verifies_left write) = Some (Ack 10)
stage_place (SettleRemaining verifies_left) = None
stage_place (SettleSleep verifies_left length) = None
stage_place (Holding verifies_left) = None

abbrev pub switch_place : Switch → Option Place
switch_place Starting = None
switch_place (Begun p stage) = stage_place stage

-- on to a stage
abbrev pub goes : Progress → Stage → Stepped Switch (Unit {0})
goes p stage = on (Begun p stage)
