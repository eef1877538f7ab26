-- An answer to a run, in the small parts of a session: document 01's 'The runs' and 'Turned back'. Definitions only.
use Rattle.std.specs.Prelude.{Bool, true, cond, Option, Some, None, Result, Ok, Err}
use Rattle.motor_core.specs.declared.error.Refusal.{Refusal}
use Rattle.protocol_frame.specs.Command.{command}
use Rattle.protocol_frame.specs.declared.Command.{Command}
use Rattle.time.specs.Time.{reading_accepted}
use Rattle.time.specs.declared.Instant.{Instant}
use Rattle.state_cache.specs.declared.Entry.{Entry}
use Rattle.run_want.specs.Message.{message_id, message_data}
use Rattle.run_want.specs.Step.{Stepped}
use Rattle.run_want.specs.Want.{fits}
use Rattle.run_want.specs.declared.Answer.{Answer}
use Rattle.run_want.specs.declared.Answer.TheVariants.{Reading, Send as Sending, Slept}
use Rattle.run_want.specs.declared.Want.{Want}
use Rattle.run_want.specs.declared.message.Message.{Message}
use Rattle.run_want.specs.declared.Want.TheVariants.{Clock, Send, Sleep}
use Rattle.std.specs.declared.ops.ControlFlow.TheVariants.{Continue, Break}
use Rattle.run_machine.specs.Machine.{machine_want}
use Rattle.run_machine.specs.declared.Machine.{Machine}
use Rattle.run_machine.specs.declared.Outcome.{Outcome}
use Rattle.run_step.specs.Step.{machine_step}
use Rattle.session.specs.Session.{with_last}
use Rattle.session.specs.declared.Head.{Head}
use Rattle.session_step.specs.declared.Told.{Told}
use Rattle.session_step.specs.declared.AnswerStep.{AnswerStep}

-- what the caller is to do next
abbrev pub Wanted : Type 0
Wanted = Want Command

-- a want in the caller's terms: a send by the id and bytes of its message's frame
abbrev pub caller_want : Head → Want Message → Wanted
caller_want h Clock = Clock
caller_want h (Send message) = Send (command (message_id h.motor_id message) (message_data h.motor_id h.limits message))
caller_want h (Sleep length) = Sleep length

-- 'Turned back', 3, for an answer that is a reading
abbrev pub answer_accepted : Instant → Answer → Bool
answer_accepted last (Reading t) = reading_accepted last t
answer_accepted last (Sending result) = true
answer_accepted last Slept = true

-- an accepted reading becomes the last
abbrev pub with_reading : Head → Answer → Head
with_reading h (Reading t) = with_last h t
with_reading h (Sending result) = h
with_reading h Slept = h

-- the next want, or the result, which closes the run
abbrev pub stepped : Head → Stepped Machine Outcome → AnswerStep
stepped h (Ok (Continue machine)) = record { told = Told.Want (caller_want h (machine_want machine)); head = h; run = Some machine }
stepped h (Ok (Break outcome)) = record { told = Told.Result (Ok outcome); head = h; run = None }
stepped h (Err failure) = record { told = Told.Result (Err failure); head = h; run = None }

-- 'Turned back', an answer: 9 where another kind is wanted, then 3 by its reading
abbrev pub machine_answer : Head → Entry → Machine → Answer → Result AnswerStep Refusal
machine_answer h entry machine answer =
    cond (fits (machine_want machine) answer)
    (cond (answer_accepted h.last answer)
    (Ok (stepped (with_reading h answer) (machine_step h.feedback.latest entry machine answer)))
    (Err Refusal.Reading))
    (Err Refusal.NotWanted)

-- on the small parts, with the entry at the run's place; no answer is wanted where no run is open
abbrev pub answer_step : Head → Entry → Option Machine → Answer → Result AnswerStep Refusal
answer_step h entry None answer = Err Refusal.NotWanted
answer_step h entry (Some machine) answer = machine_answer h entry machine answer
