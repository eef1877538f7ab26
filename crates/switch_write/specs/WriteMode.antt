-- `ensure_control_mode` around its writes of the mode: document 01's 'The runs'. Definitions only.
use Rattle.std.specs.Prelude.{ℕ, Option, Some, None, Ok, Err}
use Rattle.time.specs.declared.Instant.{Instant}
use Rattle.time.specs.declared.Duration.{Duration}
use Rattle.protocol_hold.specs.declared.ControlMode.{ControlMode}
use Rattle.run_write.specs.Write.{first_try}
use Rattle.run_write.specs.declared.Write.{Write}
use Rattle.run_want.specs.Step.{Stepped}
use Rattle.std.specs.declared.ops.ControlFlow.TheVariants.{Continue, Break}
use Rattle.switch_time.specs.TimeLeft.{mode_read_cap, sleep_up_to_reserving}
use Rattle.switch_stage.specs.Stage.{goes}
use Rattle.switch_stage.specs.declared.ModeRead.TheVariants.{Verify}
use Rattle.switch_stage.specs.declared.Progress.{Progress}
use Rattle.switch_stage.specs.declared.Stage.TheVariants.{Remaining, Writing, SettleRemaining, SettleSleep, Holding}
use Rattle.switch_stage.specs.declared.Switch.{Switch}
use Rattle.switch_prepare.specs.Prepare.{Prepare}
use Rattle.switch_finish.specs.Finish.{finish}
use Rattle.switch_finish.specs.declared.Finishing.{Finishing}
use Rattle.switch_finish.specs.declared.Finishing.TheVariants.{Holds, Done}

-- a confirmed write of the mode, with this many verifying reads after the next one
abbrev pub write_mode : ℕ → Progress → Stepped Switch (Unit {0})
write_mode verifies_left p = goes p (Writing verifies_left first_try)

-- after the preparation the first write, with three verifying reads
abbrev pub after_prepare : Prepare → Stepped Switch (Unit {0})
after_prepare (Continue at) = goes at.0 at.1
after_prepare (Break p) = write_mode 2 p

-- a write that fails ends the switch; after an acked one comes the settling sleep
abbrev pub after_mode_write : ℕ → Progress → Stepped Write (Unit {0}) → Stepped Switch (Unit {0})
after_mode_write verifies_left p (Ok (Continue write)) = goes p (Writing verifies_left write)
after_mode_write verifies_left p (Ok (Break written)) = goes p (SettleRemaining verifies_left)
after_mode_write verifies_left p (Err failure) = Err failure

-- the hold frame, if there is one, comes before the verifying read
abbrev pub after_finish : ℕ → Progress → Finishing → Stepped Switch (Unit {0})
after_finish verifies_left p Holds = goes p (Holding verifies_left)
after_finish verifies_left p Done = goes p (Remaining (Verify verifies_left))

abbrev pub after_settling : ControlMode → ℕ → Progress → Stepped Switch (Unit {0})
after_settling mode verifies_left p = after_finish verifies_left p (finish mode p.hold_position)

-- the settling sleep; the cap of a mode read is left in reserve
abbrev pub settled : ControlMode → ℕ → Progress → Option Duration → Stepped Switch (Unit {0})
settled mode verifies_left p None = after_settling mode verifies_left p
settled mode verifies_left p (Some length) = goes p (SettleSleep verifies_left length)

abbrev pub settle_sleep : ControlMode → Duration → ℕ → Progress → Instant → Stepped Switch (Unit {0})
settle_sleep mode timeout verifies_left p now = settled mode verifies_left p (sleep_up_to_reserving p.deadline (mode_read_cap timeout) now)
