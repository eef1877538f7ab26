-- The wait: document 01's 'The runs', look, then clock, then 2 ms of sleep. Definitions only.
use Rattle.std.specs.Prelude.{◌+◌, Bool, cond, leb}
use Rattle.time.specs.Time.{millis}
use Rattle.time.specs.declared.Instant.{Instant}
use Rattle.time.specs.declared.Duration.{Duration}
use Rattle.run_want.specs.Want.{reading_of}
use Rattle.run_want.specs.declared.Answer.{Answer}
use Rattle.run_want.specs.declared.Want.{Want}
use Rattle.run_want.specs.declared.Want.TheVariants.{Clock, Sleep}
use Rattle.run_want.specs.declared.message.Message.{Message}
use Rattle.run_wait.specs.declared.Wait.{Wait}
use Rattle.run_wait.specs.declared.Wait.TheVariants.{Checking, Napping}
use Rattle.run_wait.specs.declared.Waited.{Waited}
use Rattle.run_wait.specs.declared.Waited.TheVariants.{Goes, Looks, Late}

-- the deadline, a length after the opening, is reached
abbrev pub late : Instant → Duration → Instant → Bool
late opening length now = leb (opening.0 + length.0) now.0

abbrev pub poll_interval : Duration
poll_interval = millis 2

-- a look has found nothing: the clock is wanted, then a sleep
abbrev pub wait_want : Wait → Want Message
wait_want (Checking opening) = Clock
wait_want (Napping opening) = Sleep poll_interval

-- at the deadline the wait is over; after a sleep comes the next look
abbrev pub wait_step : Duration → Wait → Answer → Waited Wait
wait_step length (Checking opening) answer = cond (late opening length (reading_of answer)) Late (Goes (Napping opening))
wait_step length (Napping opening) answer = Looks opening
