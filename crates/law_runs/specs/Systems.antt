-- The machines that the laws are about, each by itself. Definitions only.
use Rattle.std.specs.Prelude.{Bool, cond, Ok, Err, None, Option, Some}
use Rattle.run_want.specs.Step.{Stepped}
use Rattle.std.specs.declared.ops.ControlFlow.TheVariants.{Continue, Break}
use Rattle.time.specs.declared.Instant.{Instant}
use Rattle.time.specs.declared.Duration.{Duration}
use Rattle.registers.specs.declared.RegisterValue.{RegisterValue}
use Rattle.run_wait.specs.Wait.{wait_want, wait_step}
use Rattle.run_wait.specs.declared.Wait.{Wait}
use Rattle.run_wait.specs.declared.Wait.TheVariants.{Checking}
use Rattle.run_wait.specs.declared.Waited.{Waited}
use Rattle.run_write.specs.Ack.{ack_want, ack_step}
use Rattle.run_write.specs.declared.ack.AckWait.{AckWait}
use Rattle.run_machine.specs.Machine.{machine_want}
use Rattle.run_step.specs.Step.{machine_step}
use Rattle.run_machine.specs.declared.Machine.{Machine}
use Rattle.law_runs.specs.Trace.{Given, System}

-- a wait of a length, whatever its looks find: it goes on while they find nothing
abbrev pub still : (Instant → Bool) → Waited Wait → Option Wait
still find (Waited.Goes wait) = Some wait
still find (Waited.Looks opening) = cond (find opening) None (Some (Checking opening))
still find Waited.Late = None

abbrev pub waiting : Duration → (Given → Instant → Bool) → System
waiting length finds = record { At = Wait; want = wait_want; next = λ g w. still (finds g) (wait_step length w g.answer) }

-- the phase that a step goes on to, unless it ends or fails
abbrev pub phase_of : {S T : Type 0} → Stepped S T → Option S
phase_of (Ok (Continue s)) = Some s
phase_of (Ok (Break t)) = None
phase_of (Err failure) = None

-- an ack wait
abbrev pub acking : RegisterValue → System
acking value = record { At = AckWait; want = ack_want; next = λ g q. phase_of (ack_step value g.entry q g.answer) }

-- a run
abbrev pub running : System
running = record { At = Machine; want = machine_want; next = λ g m. phase_of (machine_step g.latest g.entry m g.answer) }
