-- The mode switch, `ensure_control_mode`: document 01's 'The runs'. Definitions only.
use Rattle.std.specs.Prelude.{zero, suc, cond, Option, Some, None, Ok, Err}
use Rattle.motor_core.specs.AndThen.{and_then}
use Rattle.time.specs.declared.Instant.{Instant}
use Rattle.time.specs.declared.Duration.{Duration}
use Rattle.registers.specs.Value.{same_value}
use Rattle.registers.specs.declared.RegisterDataType.TheVariants.{Float, UInt32}
use Rattle.registers.specs.declared.RegisterValue.{RegisterValue}
use Rattle.protocol_hold.specs.declared.ControlMode.{ControlMode}
use Rattle.state_cache.specs.declared.Entry.{Entry}
use Rattle.run_want.specs.Want.{reading_of, send_outcome}
use Rattle.run_want.specs.declared.Answer.{Answer}
use Rattle.run_want.specs.declared.Failure.{Failure}
use Rattle.run_wait.specs.declared.ask.Ask.{Ask}
use Rattle.run_wait.specs.declared.ask.Ask.TheVariants.{Opening}
use Rattle.run_read.specs.Read.{get_step}
use Rattle.run_want.specs.Step.{Stepped, ends}
use Rattle.std.specs.declared.ops.ControlFlow.TheVariants.{Continue, Break}
use Rattle.run_write.specs.Write.{write_step}
use Rattle.switch_time.specs.TimeLeft.{mode_read_cap, deadline_after, capped_remaining}
use Rattle.switch_stage.specs.declared.Progress.{Progress}
use Rattle.switch_stage.specs.declared.ModeRead.{ModeRead}
use Rattle.switch_stage.specs.declared.ModeRead.TheVariants.{First, Verify}
use Rattle.switch_stage.specs.declared.Stage.{Stage}
use Rattle.switch_stage.specs.declared.Stage.TheVariants.{Remaining, Reading, HoldRemaining, HoldReading, Clearing, Writing, SettleRemaining, SettleSleep, Holding}
use Rattle.switch_stage.specs.declared.Switch.{Switch}
use Rattle.switch_stage.specs.declared.Switch.TheVariants.{Starting, Begun}
use Rattle.switch_stage.specs.Stage.{mode_value, goes}
use Rattle.switch_prepare.specs.Prepare.{prepare, hold_time, after_hold_read, cleared}
use Rattle.switch_finish.specs.declared.Finishing.TheVariants.{Done}
use Rattle.switch_write.specs.WriteMode.{write_mode, after_prepare, after_mode_write, after_finish, after_settling, settle_sleep}

-- ---- what a switch keeps

-- before its first read, that it ran out of time
abbrev pub first_progress : Instant → Progress
first_progress deadline = record { deadline = deadline; hold_position = None; last_error = Failure.Timeout }

abbrev pub started : Instant → Stepped Switch (Unit {0})
started deadline = goes (first_progress deadline) (Remaining First)

abbrev pub with_error : Progress → Failure → Progress
with_error p error = record { deadline = p.deadline; hold_position = p.hold_position; last_error = error }

-- ---- reading the mode

abbrev pub in_mode_read : ModeRead → Progress → Duration → Ask → Stepped Switch (Unit {0})
in_mode_read which p length ask = goes p (Reading which length ask)

-- the last error is the result
abbrev pub given_up : Progress → Stepped Switch (Unit {0})
given_up p = Err p.last_error

-- not found: the first read is followed by the preparation, a verifying one by another write, unless it was the last
abbrev pub not_yet : ControlMode → ModeRead → Progress → Stepped Switch (Unit {0})
not_yet mode First p = after_prepare (prepare mode p)
not_yet mode (Verify zero) p = given_up p
not_yet mode (Verify (suc verifies_left)) p = write_mode verifies_left p

abbrev pub mode_got : ControlMode → ModeRead → Progress → RegisterValue → Stepped Switch (Unit {0})
mode_got mode which p got = cond (same_value got (mode_value mode)) (ends tt) (not_yet mode which (with_error p (Failure.Mismatch got)))

-- a timeout goes on, a send that timed out too; other failures end the switch
abbrev pub mode_unread : ControlMode → ModeRead → Progress → Failure → Stepped Switch (Unit {0})
mode_unread mode which p Failure.Timeout = not_yet mode which (with_error p Failure.Timeout)
mode_unread mode which p (Failure.Mismatch got) = Err (Failure.Mismatch got)
mode_unread mode which p Failure.WrongType = Err Failure.WrongType
mode_unread mode which p Failure.SendFailed = Err Failure.SendFailed

abbrev pub after_mode_read : ControlMode → ModeRead → Progress → Duration → Stepped Ask RegisterValue → Stepped Switch (Unit {0})
after_mode_read mode which p length (Ok (Continue ask)) = in_mode_read which p length ask
after_mode_read mode which p length (Ok (Break value)) = mode_got mode which p value
after_mode_read mode which p length (Err failure) = mode_unread mode which p failure

-- past the deadline no read is tried
abbrev pub mode_timed : ModeRead → Progress → Option Duration → Stepped Switch (Unit {0})
mode_timed which p None = given_up p
mode_timed which p (Some length) = in_mode_read which p length Opening

abbrev pub mode_time : Duration → ModeRead → Progress → Instant → Stepped Switch (Unit {0})
mode_time timeout which p now = mode_timed which p (capped_remaining p.deadline (mode_read_cap timeout) now)

-- ---- the step

-- `ensure_control_mode`, with the entry at the stage's place
abbrev pub stage_step : ControlMode → Duration → Entry → Progress → Stage → Answer → Stepped Switch (Unit {0})
stage_step mode timeout entry p (Remaining which) answer = mode_time timeout which p (reading_of answer)
stage_step mode timeout entry p (Reading which length ask) answer = after_mode_read mode which p length (get_step UInt32 length entry ask answer)
stage_step mode timeout entry p HoldRemaining answer = after_prepare (hold_time timeout p (reading_of answer))
stage_step mode timeout entry p (HoldReading length ask) answer = after_prepare (after_hold_read p length (get_step Float length entry ask answer))
stage_step mode timeout entry p (Clearing channel) answer = after_prepare (cleared channel p)
stage_step mode timeout entry p (Writing verifies_left write) answer = after_mode_write verifies_left p (write_step (mode_value mode) entry write answer)
stage_step mode timeout entry p (SettleRemaining verifies_left) answer = settle_sleep mode timeout verifies_left p (reading_of answer)
stage_step mode timeout entry p (SettleSleep verifies_left length) answer = after_settling mode verifies_left p
stage_step mode timeout entry p (Holding verifies_left) answer = and_then (send_outcome answer) (λ sent. after_finish verifies_left p Done)

-- the first reading sets the deadline
abbrev pub switch_step : ControlMode → Duration → Entry → Switch → Answer → Stepped Switch (Unit {0})
switch_step mode timeout entry Starting answer = started (deadline_after (reading_of answer) timeout)
switch_step mode timeout entry (Begun p stage) answer = stage_step mode timeout entry p stage answer
