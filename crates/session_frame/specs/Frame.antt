-- Taking a frame: what it does to each part of a session. Definitions only.
use Rattle.std.specs.Prelude.{ℕ, cond, List, set, Result, Ok, Err, None, Option, Some}
use Rattle.motor_core.specs.AndThen.{and_then}
use Rattle.motor_core.specs.declared.error.Refusal.{Refusal}
use Rattle.time.specs.Time.{reading_accepted}
use Rattle.motor_core.specs.declared.bus.CanFrame.{CanFrame}
use Rattle.time.specs.declared.Instant.{Instant}
use Rattle.registers.specs.declared.RegisterValue.{RegisterValue}
use Rattle.protocol_address.specs.Address.{own_frame}
use Rattle.protocol_received.specs.Received.{received}
use Rattle.protocol_received.specs.declared.Received.{Received}
use Rattle.protocol_received.specs.declared.Received.TheVariants.{Reply, Ack, Feedback}
use Rattle.state_feedback.specs.Feedback.{state_of, update}
use Rattle.state_feedback.specs.declared.FeedbackCache.{FeedbackCache}
use Rattle.state_cache.specs.declared.Entry.{Entry}
use Rattle.state_cache.specs.declared.Entry.TheVariants.{Held}
use Rattle.state_cache.specs.declared.Place.{Place}
use Rattle.session.specs.Session.{with_feedback, with_last, with_head, with_replies, with_acks}
use Rattle.session.specs.declared.Head.{Head}
use Rattle.session.specs.declared.Session.{Session}
use Rattle.session.specs.declared.After.{After}
use Rattle.session_frame.specs.declared.FrameStep.{FrameStep}
use Rattle.session_frame.specs.declared.FrameStep.TheVariants.{Latest, Kept}

-- 'Turned back', a frame: 3 by its reading, then 15 if it is not this motor's, or it is taken
abbrev pub FrameOutcome : Type 0
FrameOutcome = Result (Unit {0}) Refusal

abbrev pub frame_outcome : Head → CanFrame → Instant → FrameOutcome
frame_outcome head frame reading =
    cond (reading_accepted head.last reading)
    (cond (own_frame head.motor_id head.feedback_id frame) (Ok tt) (Err Refusal.ForeignFrame))
    (Err Refusal.Reading)

-- the reading becomes the last
abbrev pub head_at : Head → FeedbackCache → Instant → Head
head_at h feedback reading = with_last (with_feedback h feedback) reading

-- 'The feedback on the screen': a feedback becomes the latest record, with the frame's arbitration id
abbrev pub feedback_after : FeedbackCache → ℕ → Received → Instant → FeedbackCache
feedback_after cache id (Feedback f) reading = update cache (state_of id f) reading
feedback_after cache id (Reply rid value) reading = cache
feedback_after cache id (Ack rid value) reading = cache

abbrev pub head_after : Head → ℕ → Received → Instant → Head
head_after h id received reading = head_at h (feedback_after h.feedback id received reading) reading

-- the register and value that a reply says, and an ack
abbrev pub reply_of : Received → Option (ℕ × RegisterValue)
reply_of (Reply rid value) = Some (rid, value)
reply_of (Ack rid value) = None
reply_of (Feedback f) = None

abbrev pub ack_of : Received → Option (ℕ × RegisterValue)
ack_of (Reply rid value) = None
ack_of (Ack rid value) = Some (rid, value)
ack_of (Feedback f) = None

-- 'The register answers': a value goes into its register's slot, stamped with the frame's reading
abbrev pub stored : Option (ℕ × RegisterValue) → Instant → List Entry → List Entry
stored None reading slots = slots
stored (Some x) reading slots = set slots x.0 (Held x.1 reading)

-- a session after a frame, by what the frame says: replies and acks have a cache each, and the run is left alone
abbrev pub with_received : Session → ℕ → Received → Instant → Session
with_received s id received reading =
    with_acks
    (with_replies
    (with_head s (head_after s.head id received reading))
    (stored (reply_of received) reading s.replies))
    (stored (ack_of received) reading s.acks)

-- what the frame says to this session
abbrev pub says : Head → CanFrame → Received
says h frame = received h.limits frame.«data»

abbrev pub take_by : FrameOutcome → Session → CanFrame → Instant → Session
take_by (Ok taken) s frame reading = with_received s frame.arbitration_id (says s.head frame) reading
take_by (Err refusal) s frame reading = s

abbrev pub AfterFrame : Type 0
AfterFrame = After FrameOutcome

-- a frame taken into a session, or refused with the session as it was
unfoldable pub take_frame : Session → CanFrame → Instant → AfterFrame
take_frame s frame reading =
    let outcome = frame_outcome s.head frame reading in
    record { session = take_by outcome s frame reading; told = outcome }

-- The same on the small parts: the record or the entry that is brought.
abbrev pub taken_step : FeedbackCache → ℕ → Received → Instant → FrameStep
taken_step cache id (Reply rid value) reading = Kept (Place.Reply rid) (Held value reading)
taken_step cache id (Ack rid value) reading = Kept (Place.Ack rid) (Held value reading)
taken_step cache id (Feedback f) reading = Latest (update cache (state_of id f) reading)

unfoldable pub frame_step : Head → CanFrame → Instant → Result FrameStep Refusal
frame_step h frame reading = and_then (frame_outcome h frame reading) (λ taken. Ok (taken_step h.feedback frame.arbitration_id (says h frame) reading))
