-- What the end of a wait has seen. Definitions only.
use Rattle.std.specs.Prelude.{ℕ, ◌+◌, ◌≤◌, ◌≡◌, true, false, ◌⊎◌, Option, Some, None, Ok, Err}
use Rattle.run_want.specs.Step.{Stepped}
use Rattle.std.specs.declared.ops.ControlFlow.TheVariants.{Continue, Break}
use Rattle.time.specs.declared.Instant.{Instant}
use Rattle.time.specs.declared.Duration.{Duration}
use Rattle.registers.specs.Value.{same_value, of_type}
use Rattle.registers.specs.declared.RegisterDataType.{RegisterDataType}
use Rattle.registers.specs.declared.RegisterValue.{RegisterValue}
use Rattle.state_feedback.specs.declared.FeedbackSnapshot.{FeedbackSnapshot}
use Rattle.state_feedback.specs.declared.MotorFeedbackState.{MotorFeedbackState}
use Rattle.state_cache.specs.declared.Entry.{Entry}
use Rattle.state_cache.specs.declared.Entry.TheVariants.{Held}
use Rattle.run_want.specs.Want.{reading_of, send_outcome}
use Rattle.run_want.specs.declared.Answer.{Answer}
use Rattle.run_want.specs.declared.Failure.{Failure}
use Rattle.run_want.specs.declared.Failure.TheVariants.{Timeout, Mismatch, WrongType}
use Rattle.run_wait.specs.declared.Wait.{Wait}
use Rattle.run_wait.specs.declared.Wait.TheVariants.{Checking, Napping}
use Rattle.run_wait.specs.declared.ask.Ask.{Ask}
use Rattle.run_wait.specs.declared.ask.Ask.TheVariants.{Opening, Sending, Waiting}
use Rattle.run_write.specs.Ack.{ack_timeout}
use Rattle.run_write.specs.declared.ack.AckWait.{AckWait}
use Rattle.run_write.specs.declared.Write.{Write}

-- the opening that a phase has taken
abbrev pub wait_opening : Wait → Instant
wait_opening (Checking o) = o
wait_opening (Napping o) = o

abbrev pub ask_opening : Ask → Option Instant
ask_opening Opening = None
ask_opening (Sending o) = Some o
ask_opening (Waiting w) = Some (wait_opening w)

-- an ack wait's opening, when the answer is in: its first answer is the opening itself
abbrev pub ack_opening : AckWait → Answer → Instant
ack_opening AckWait.Opening answer = reading_of answer
ack_opening (AckWait.Waiting w) answer = wait_opening w

-- the slot holds the value, stamped no earlier than the opening
pub record HoldsFresh (o : Instant) (entry : Entry) (value : RegisterValue) : Type 0 where
  pub stamp : Instant
  pub holds : entry ≡ Held value stamp
  pub fresh : o.0 ≤ stamp.0

-- the latest record is that state's, stamped no earlier than the opening
pub record Reported (o : Instant) (latest : Option FeedbackSnapshot) (s : MotorFeedbackState) : Type 0 where
  pub snapshot : FeedbackSnapshot
  pub is_latest : latest ≡ Some snapshot
  pub its_state : snapshot.state ≡ s
  pub fresh : o.0 ≤ snapshot.received_at.0

-- the reading is at the deadline or past it
abbrev pub Past : Instant → Duration → Answer → Type 0
Past o l answer = o.0 + l.0 ≤ (reading_of answer).0

-- a send that failed so
abbrev pub Unsent : Failure → Answer → Type 0
Unsent failure answer = send_outcome answer ≡ Err failure

-- of asking, where it sends
abbrev pub AskUnsent : Ask → Failure → Answer → Type 0
AskUnsent ask failure answer = (o : Instant) × (ask ≡ Sending o) × Unsent failure answer

-- a look in the call of that answer, of a read that opened with `o`: it accepts the sent, or a slept of the wait
abbrev pub Look : Ask → Answer → Instant → Type 0
Look Opening answer o = ⊥
Look (Sending x) answer o = (x ≡ o) × (send_outcome answer ≡ Ok tt)
Look (Waiting (Checking x)) answer o = ⊥
Look (Waiting (Napping x)) answer o = x ≡ o

-- a read that is sent, or in its wait
abbrev pub Since : Ask → Answer → Instant → Type 0
Since Opening answer o = ⊥
Since (Sending x) answer o = (x ≡ o) × (send_outcome answer ≡ Ok tt)
Since (Waiting w) answer o = wait_opening w ≡ o

-- where a read goes on: to its send with the reading that opens it, or in its wait with the same opening
abbrev pub LedTo : Ask → Answer → Ask → Type 0
LedTo ask answer Opening = ⊥
LedTo ask answer (Sending o) = (ask ≡ Opening) × (reading_of answer ≡ o)
LedTo ask answer (Waiting w) = Since ask answer (wait_opening w)

-- what a register read has seen with an answer
abbrev pub ReadSaw : Duration → Entry → Ask → Answer → Stepped Ask RegisterValue → Type 0
ReadSaw l entry ask answer (Ok (Continue next)) = LedTo ask answer next
ReadSaw l entry ask answer (Ok (Break value)) = (o : Instant) × Look ask answer o × HoldsFresh o entry value
ReadSaw l entry ask answer (Err failure) = AskUnsent ask failure answer ⊎ ((o : Instant) × (ask_opening ask ≡ Some o) × Past o l answer × (failure ≡ Timeout))

-- a read of a type: besides, that what it found is of the type, or of the other
abbrev pub GetSaw : RegisterDataType → Duration → Entry → Ask → Answer → Stepped Ask RegisterValue → Type 0
GetSaw data_type l entry ask answer (Ok (Continue next)) = LedTo ask answer next
GetSaw data_type l entry ask answer (Ok (Break value)) = ReadSaw l entry ask answer (Ok (Break value)) × (of_type value data_type ≡ true)
GetSaw data_type l entry ask answer (Err failure) =
    ReadSaw l entry ask answer (Err failure) ⊎ ((value : RegisterValue) × ReadSaw l entry ask answer (Ok (Break value)) × (of_type value data_type ≡ false) × (failure ≡ WrongType))

-- an ack wait
abbrev pub AckSaw : RegisterValue → Entry → AckWait → Answer → Stepped AckWait (Unit {0}) → Type 0
AckSaw value entry ack answer (Ok (Continue next)) = Unit {0}
AckSaw value entry ack answer (Ok (Break acked)) = (got : RegisterValue) × HoldsFresh (ack_opening ack answer) entry got × (same_value got value ≡ true)
AckSaw value entry ack answer (Err failure) =
    ((got : RegisterValue) × HoldsFresh (ack_opening ack answer) entry got × (same_value got value ≡ false) × (failure ≡ Mismatch got)) ⊎ (Past (ack_opening ack answer) ack_timeout answer × (failure ≡ Timeout))

-- a fresh-state request
abbrev pub StateSaw : Duration → Option FeedbackSnapshot → Ask → Answer → Stepped Ask (Option MotorFeedbackState) → Type 0
StateSaw l latest ask answer (Ok (Continue next)) = Unit {0}
StateSaw l latest ask answer (Ok (Break (Some state))) = (o : Instant) × (ask_opening ask ≡ Some o) × Reported o latest state
StateSaw l latest ask answer (Ok (Break None)) = (o : Instant) × (ask_opening ask ≡ Some o) × Past o l answer
StateSaw l latest ask answer (Err failure) = AskUnsent ask failure answer

-- a confirmed write: an ack wait's end, for a failure that of the last try; or a send that failed
abbrev pub WriteSaw : RegisterValue → Entry → Write → Answer → Stepped Write (Unit {0}) → Type 0
WriteSaw value entry write answer (Ok (Continue next)) = Unit {0}
WriteSaw value entry write answer (Ok (Break written)) = (n : ℕ) × (ack : AckWait) × (write ≡ Write.Waiting n ack) × AckSaw value entry ack answer (Ok (Break tt))
WriteSaw value entry write answer (Err failure) =
    ((n : ℕ) × (write ≡ Write.Sending n) × Unsent failure answer) ⊎ ((ack : AckWait) × (write ≡ Write.Waiting 0 ack) × AckSaw value entry ack answer (Err failure))
