-- A run in a list of calls: its accepted start and its accepted answers, up to the result; what it wants, counted; and its readings. Definitions only.
use Rattle.std.specs.Prelude.{ℕ, ◌+◌, ◌≤◌, ◌≡◌, Bool, true, false, cond, List, [], ◌∷◌, None, Option, Some, Ok, Err}
use Rattle.motor_core.specs.declared.bus.CanFrame.{CanFrame}
use Rattle.time.specs.declared.Duration.{Duration}
use Rattle.time.specs.declared.Instant.{Instant}
use Rattle.state_feedback.specs.declared.FeedbackSnapshot.{FeedbackSnapshot}
use Rattle.run_want.specs.declared.Answer.{Answer}
use Rattle.run_want.specs.declared.Want.{Want}
use Rattle.run_want.specs.declared.Want.TheVariants.{Clock, Send, Sleep}
use Rattle.run_want.specs.declared.message.Message.{Message}
use Rattle.run_machine.specs.Machine.{RunResult}
use Rattle.session_step.specs.Parts.{Wanted}
use Rattle.session_step.specs.declared.Told.{Told}
use Rattle.session_call.specs.declared.Call.{Call}
use Rattle.session_call.specs.declared.Returned.{Returned}
use Rattle.law_calls.specs.Calls.{Answered, Event}
use Rattle.law_calls.specs.Places.{Sees, seen_with}

-- what a start or an answer gives: what it returned, and what the run's definition wants then
pub record Gave : Type 0 where
  pub told : Answered
  pub wants : Option (Want Message)

-- an accepted answer, with what was the last reply or ack of each register, and the latest record, before its call
pub record Turn : Type 0 where
  pub answer : Answer
  pub sees : Sees
  pub latest : Option FeedbackSnapshot
  pub gave : Gave

abbrev pub turn : Answer → Sees → Option FeedbackSnapshot → Option (Want Message) → Answered → Turn
turn a sees latest w t = record { answer = a; sees = sees; latest = latest; gave = record { told = t; wants = w } }

-- a refused answer is no turn, and the result is the last
unfoldable pub turn_in : Answer → Sees → Option FeedbackSnapshot → Option (Want Message) → Answered → List Turn → List Turn
turn_in a sees latest w (Ok (Told.Want want)) ts = turn a sees latest w (Ok (Told.Want want)) ∷ ts
turn_in a sees latest w (Ok (Told.Result r)) ts = turn a sees latest w (Ok (Told.Result r)) ∷ []
turn_in a sees latest w (Err refusal) ts = ts

unfoldable pub turn_of : Answer → Sees → Option FeedbackSnapshot → Option (Want Message) → Returned → List Turn → List Turn
turn_of a sees latest w (Returned.Run t) ts = turn_in a sees latest w t ts
turn_of a sees latest w (Returned.Frame outcome) ts = ts
turn_of a sees latest w (Returned.Patch done) ts = ts

-- while a run is open no other can start, so every accepted answer is its own
unfoldable pub add_turn : Sees → Option FeedbackSnapshot → Call → Returned → Option (Want Message) → List Turn → List Turn
add_turn sees latest (Call.Start start) returned w ts = ts
add_turn sees latest (Call.Answer a) returned w ts = turn_of a sees latest w returned ts
add_turn sees latest (Call.Frame f reading) returned w ts = ts
add_turn sees latest (Call.Patch status mos rotor) returned w ts = ts

-- by the frames that are the motor's, as `own` says
module _ (own : CanFrame → Bool) where
  -- its turns among the calls after its start; `sees` is what was seen so far
  unfoldable pub turns : Sees → List Event → List Turn
  turns sees [] = []
  turns sees (v ∷ vs) = add_turn sees v.latest v.call v.returned v.wants (turns (seen_with own sees v) vs)

  -- none where the start gave the result
  unfoldable pub turns_after : Answered → Sees → List Event → List Turn
  turns_after (Ok (Told.Want want)) sees vs = turns sees vs
  turns_after (Ok (Told.Result r)) sees vs = []
  turns_after (Err refusal) sees vs = turns sees vs

unfoldable pub result_in : Answered → Option RunResult → Option RunResult
result_in (Ok (Told.Want want)) later = later
result_in (Ok (Told.Result r)) later = Some r
result_in (Err refusal) later = later

unfoldable pub result_of : List Turn → Option RunResult
result_of [] = None
result_of (t ∷ ts) = result_in t.gave.told (result_of ts)

-- its result, of the start or of a turn
abbrev pub result : Gave → List Turn → Option RunResult
result first ts = result_in first.told (result_of ts)

-- what was given last, after some turns
unfoldable pub gave_after : Gave → List Turn → Gave
gave_after g [] = g
gave_after g (t ∷ ts) = gave_after t.gave ts

-- ---- wants that are counted

unfoldable pub gaves : List Turn → List Gave
gaves [] = []
gaves (t ∷ ts) = t.gave ∷ gaves ts

abbrev pub once : Bool → ℕ
once b = cond b 1 0

unfoldable pub count : (Gave → Bool) → List Gave → ℕ
count f [] = 0
count f (g ∷ gs) = once (f g) + count f gs

-- by what was returned: a want that passes a test
unfoldable pub a_want : (Wanted → Bool) → Answered → Bool
a_want test (Ok (Told.Want want)) = test want
a_want test (Ok (Told.Result r)) = false
a_want test (Err refusal) = false

-- a send, and one to an id with data bytes that pass; a sleep
unfoldable pub send_to : (ℕ → ℕ → Bool) → Wanted → Bool
send_to test Clock = false
send_to test (Send command) = test command.arbitration_id command.«data»
send_to test (Sleep length) = false

unfoldable pub is_sleep : Wanted → Bool
is_sleep Clock = false
is_sleep (Send command) = false
is_sleep (Sleep length) = true

abbrev pub a_send : Answered → Bool
a_send = a_want (send_to (λ id bytes. true))

abbrev pub a_sleep : Answered → Bool
a_sleep = a_want is_sleep

-- by what the definition wants: a send of such a message; a sleep
unfoldable pub wants_send : (Message → Bool) → Option (Want Message) → Bool
wants_send of None = false
wants_send of (Some Clock) = false
wants_send of (Some (Send message)) = of message
wants_send of (Some (Sleep length)) = false

unfoldable pub wants_sleep : Option (Want Message) → Bool
wants_sleep None = false
wants_sleep (Some Clock) = false
wants_sleep (Some (Send message)) = false
wants_sleep (Some (Sleep length)) = true

unfoldable pub any : Message → Bool
any message = true

-- ---- the readings that it accepted

-- an answer's reading if it is one, else `other`
unfoldable pub reading_or : Answer → Option Instant → Option Instant
reading_or (Answer.Reading t) other = Some t
reading_or (Answer.Send result) other = other
reading_or Answer.Slept other = other

-- the last one after some turns, and the first one in them
unfoldable pub reading_after : Option Instant → List Turn → Option Instant
reading_after last [] = last
reading_after last (t ∷ ts) = reading_after (reading_or t.answer last) ts

unfoldable pub next_reading : List Turn → Option Instant
next_reading [] = None
next_reading (t ∷ ts) = reading_or t.answer (next_reading ts)

-- a sleep moves the clock on, unless the next reading is less than its length above the last one before it
abbrev pub Moves : Option Instant → Answered → Option Instant → Type 0
Moves last w next = (r t : Instant) (d : Duration) → last ≡ Some r → w ≡ Ok (Told.Want (Sleep d)) → next ≡ Some t → r.0 + d.0 ≤ t.0

-- all do, from the want `w` on; `last` is the last reading so far
unfoldable pub AllMove : Option Instant → Answered → List Turn → Type 0
AllMove last w [] = Moves last w None
AllMove last w (t ∷ ts) = Moves last w (next_reading (t ∷ ts)) × AllMove (reading_or t.answer last) t.gave.told ts
