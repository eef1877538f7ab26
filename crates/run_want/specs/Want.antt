-- What a run wants and what it is answered: document 01's 'The runs', its first paragraph. Definitions only.
use Rattle.std.specs.Prelude.{Bool, true, false, Result, Ok, Err}
use Rattle.time.specs.declared.Instant.{Instant}
use Rattle.run_want.specs.declared.Want.{Want}
use Rattle.run_want.specs.declared.Want.TheVariants.{Clock, Send, Sleep}
use Rattle.run_want.specs.declared.message.Message.{Message}
use Rattle.run_want.specs.declared.Answer.{Answer}
use Rattle.run_want.specs.declared.Answer.TheVariants.{Reading, Send as Sending, Slept}
use Rattle.run_want.specs.declared.Failure.{Failure}
use Rattle.run_want.specs.declared.SendError.{SendError}
use Rattle.run_want.specs.declared.SendError.TheVariants.{Timeout, Failed}

-- an answer of the kind that is wanted
abbrev pub fits : Want Message → Answer → Bool
fits Clock (Reading t) = true
fits Clock (Sending sent) = false
fits Clock Slept = false
fits (Send message) (Reading t) = false
fits (Send message) (Sending sent) = true
fits (Send message) Slept = false
fits (Sleep length) (Reading t) = false
fits (Sleep length) (Sending sent) = false
fits (Sleep length) Slept = true

-- what an answer brings; one of another kind is refused before this is asked of it
abbrev pub reading_of : Answer → Instant
reading_of (Reading t) = t
reading_of (Sending sent) = record { 0 = 0 }
reading_of Slept = record { 0 = 0 }

-- a send that timed out fails as a timeout
abbrev pub failure_of : SendError → Failure
failure_of Timeout = Failure.Timeout
failure_of Failed = Failure.SendFailed

abbrev pub send_outcome : Answer → Result (Unit {0}) Failure
send_outcome (Reading t) = Ok tt
send_outcome (Sending (Ok sent)) = Ok tt
send_outcome (Sending (Err error)) = Err (failure_of error)
send_outcome Slept = Ok tt
