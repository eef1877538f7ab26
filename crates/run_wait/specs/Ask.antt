-- Asking: document 01's 'The runs', reads and fresh-state requests open before their send. Definitions only.
use Rattle.std.specs.Prelude.{Option, Some, None, Result, Ok}
use Rattle.std.specs.declared.ops.ControlFlow.{ControlFlow}
use Rattle.std.specs.declared.ops.ControlFlow.TheVariants.{Continue, Break}
use Rattle.time.specs.declared.Instant.{Instant}
use Rattle.motor_core.specs.AndThen.{and_then}
use Rattle.time.specs.declared.Duration.{Duration}
use Rattle.run_want.specs.Want.{reading_of, send_outcome}
use Rattle.run_want.specs.declared.Answer.{Answer}
use Rattle.run_want.specs.declared.Failure.{Failure}
use Rattle.run_want.specs.declared.Want.{Want}
use Rattle.run_want.specs.declared.Want.TheVariants.{Clock, Send}
use Rattle.run_want.specs.declared.message.Message.{Message}
use Rattle.run_wait.specs.Wait.{wait_want, wait_step}
use Rattle.run_wait.specs.declared.Waited.{Waited}
use Rattle.run_wait.specs.declared.Waited.TheVariants.{Goes, Looks, Late}
use Rattle.run_wait.specs.declared.Wait.{Wait}
use Rattle.run_wait.specs.declared.Wait.TheVariants.{Checking}
use Rattle.run_wait.specs.declared.ask.Ask.{Ask}
use Rattle.run_wait.specs.declared.ask.Ask.TheVariants.{Opening, Sending, Waiting}

abbrev pub ask_want : Message → Ask → Want Message
ask_want message Opening = Clock
ask_want message (Sending opening) = Send message
ask_want message (Waiting wait) = wait_want wait

abbrev pub ask_waited : Waited Wait → Waited Ask
ask_waited (Goes wait) = Goes (Waiting wait)
ask_waited (Looks opening) = Looks opening
ask_waited Late = Late

-- the first look comes in the call that says the frame was sent; a failed send ends it
abbrev pub ask_step : Duration → Ask → Answer → Result (Waited Ask) Failure
ask_step length Opening answer = Ok (Goes (Sending (reading_of answer)))
ask_step length (Sending opening) answer = and_then (send_outcome answer) (λ sent. Ok (Looks opening))
ask_step length (Waiting wait) answer = Ok (ask_waited (wait_step length wait answer))

-- a look has found what was asked for; else the clock is compared next
abbrev pub looked : {T : Type 0} → Instant → Option T → ControlFlow T Ask
looked opening None = Continue (Waiting (Checking opening))
looked opening (Some found) = Break found
