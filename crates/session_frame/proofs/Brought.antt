-- What a frame brings to a session, for laws that look at one register or at the record. Assumes nothing.
use Rattle.std.specs.Prelude.{ℕ, cond, eqb, Ok, Err, None, Option, Some}
use Rattle.motor_core.specs.declared.bus.CanFrame.{CanFrame}
use Rattle.time.specs.declared.Instant.{Instant}
use Rattle.registers.specs.declared.RegisterValue.{RegisterValue}
use Rattle.protocol_received.specs.declared.Received.{Received}
use Rattle.protocol_received.specs.declared.Received.TheVariants.{Reply, Ack, Feedback}
use Rattle.state_feedback.specs.Feedback.{state_of, update}
use Rattle.state_feedback.specs.declared.FeedbackCache.{FeedbackCache}
use Rattle.state_feedback.specs.declared.MotorFeedbackState.{MotorFeedbackState}
use Rattle.state_cache.specs.declared.Entry.{Entry}
use Rattle.state_cache.specs.declared.Entry.TheVariants.{Held}
use Rattle.session.specs.declared.Head.{Head}
use Rattle.session_frame.specs.Frame.{FrameOutcome, frame_outcome, reply_of, ack_of, says}

-- the state that a frame under this id says
abbrev pub reported : ℕ → Received → Option MotorFeedbackState
reported id (Reply r value) = None
reported id (Ack r value) = None
reported id (Feedback f) = Some (state_of id f)

-- a refused frame brings nothing
abbrev pub if_taken : {A : Type 0} → FrameOutcome → Option A → Option A
if_taken (Ok taken) brought = brought
if_taken (Err refusal) brought = None

abbrev pub reply_taken : Head → CanFrame → Instant → Option (ℕ × RegisterValue)
reply_taken h frame reading = if_taken (frame_outcome h frame reading) (reply_of (says h frame))

abbrev pub ack_taken : Head → CanFrame → Instant → Option (ℕ × RegisterValue)
ack_taken h frame reading = if_taken (frame_outcome h frame reading) (ack_of (says h frame))

abbrev pub state_taken : Head → CanFrame → Instant → Option MotorFeedbackState
state_taken h frame reading = if_taken (frame_outcome h frame reading) (reported frame.arbitration_id (says h frame))

-- what was brought of one register, and its slot with that
abbrev pub of_register : ℕ → Option (ℕ × RegisterValue) → Option RegisterValue
of_register rid None = None
of_register rid (Some x) = cond (eqb rid x.0) (Some x.1) None

abbrev pub slot_with : Option RegisterValue → Instant → Entry → Entry
slot_with None reading slot = slot
slot_with (Some value) reading slot = Held value reading

-- the record with the state that was brought, and the last reading
abbrev pub record_with : Option MotorFeedbackState → Instant → FeedbackCache → FeedbackCache
record_with None reading cache = cache
record_with (Some state) reading cache = update cache state reading

abbrev pub last_with : FrameOutcome → Instant → Instant → Instant
last_with (Ok taken) reading last = reading
last_with (Err refusal) reading last = last
