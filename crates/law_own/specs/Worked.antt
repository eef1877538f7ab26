-- Frames of this motor and of others, worked out: motor 1, whose feedback comes on 0x11. Motor 17 has the same low four bits. Definitions only.
use Rattle.std.specs.Prelude.{ℕ, ◌≡◌, true, false, List, [], ◌∷◌, Some, Ok, Err}
use Rattle.motor_core.specs.Model.{from_maxima}
use Rattle.motor_core.specs.declared.bus.CanFrame.{CanFrame}
use Rattle.motor_core.specs.declared.error.Refusal.TheVariants.{Reading, ForeignFrame}
use Rattle.registers.specs.declared.RegisterValue.TheVariants.{UInt32}
use Rattle.protocol_request.specs.Request.{register_write_data}
use Rattle.protocol_feedback.specs.Feedback.{feedback_of}
use Rattle.protocol_address.specs.Address.{frame_accepted}
use Rattle.protocol_motor.specs.Motor.{feedback_data}
use Rattle.protocol_motor.specs.declared.FeedbackFields.{FeedbackFields}
use Rattle.state_feedback.specs.Feedback.{state_of, patch_snapshot}
use Rattle.state_feedback.specs.declared.FeedbackSnapshot.{FeedbackSnapshot}
use Rattle.state_cache.specs.declared.Entry.{Entry}
use Rattle.state_cache.specs.declared.Entry.TheVariants.{Empty, Held}
use Rattle.state_cache.specs.declared.Place.TheVariants.{Reply, Ack}
use Rattle.session.specs.declared.Session.{Session}
use Rattle.session_call.specs.Step.{step}
use Rattle.session_call.specs.declared.Call.{Call}
use Rattle.session_call.specs.declared.Returned.{Returned}
use Rattle.session_call.specs.declared.Returned.TheVariants.{Frame}
use Rattle.law_calls.specs.Calls.{Fresh, session_after}
use Rattle.law_calls.specs.Laws.{held}
use Rattle.law_calls.specs.Worked.{maxima, session, frame, ten_is}
use Rattle.law_own.specs.Own.{sent_on}

abbrev pub s₀ : Session
s₀ = session 1 0x11

-- eight bytes on an id; a feedback whose codes are 0, by its first byte, which has status and motor
abbrev pub on : ℕ → List ℕ → CanFrame
on id bytes = record { arbitration_id = id; «data» = bytes; dlc = 8; is_extended = false }

abbrev pub with_status : ℕ → List ℕ
with_status first = first ∷ 0x00 ∷ 0x00 ∷ 0x00 ∷ 0x00 ∷ 0x00 ∷ 0x1E ∷ 0x28 ∷ []

-- motor 1's, and motor 17's on its own id
abbrev pub own : CanFrame
own = on 0x11 (with_status 0x11)

abbrev pub stranger : CanFrame
stranger = on 0x21 (with_status 0x11)

abbrev pub of_length : ℕ → CanFrame
of_length dlc = record { arbitration_id = 0x11; «data» = with_status 0x11; dlc = dlc; is_extended = false }

abbrev pub extended : CanFrame
extended = record { arbitration_id = 0x11; «data» = with_status 0x11; dlc = 8; is_extended = true }

-- that register 10 holds 3, or was written so, by a motor's two bytes; register 37, which there is not
abbrev pub ten_written : ℕ → ℕ → CanFrame
ten_written low high = on 0x11 (low ∷ high ∷ 0x55 ∷ 0x0A ∷ 0x03 ∷ 0x00 ∷ 0x00 ∷ 0x00 ∷ [])

abbrev pub no_register : CanFrame
no_register = on 0x11 (0x11 ∷ 0x00 ∷ 0x33 ∷ 0x25 ∷ 0x03 ∷ 0x00 ∷ 0x00 ∷ 0x00 ∷ [])

-- feedback of motor 1 that reads as its reply of register 10
abbrev pub reply_like : FeedbackFields
reply_like = record { can_id = 1; status_code = 0; pos = 0x0033; vel = 0x0A0; torq = 0x7FF; t_mos = 30; t_rotor = 40 }

-- what a session answers to a frame
abbrev pub answer : Session → CanFrame → ℕ → Returned
answer s f reading = (step s (frame f reading)).told

abbrev pub takes : Returned
takes = Frame (Ok tt)

abbrev pub turns_away : Returned
turns_away = Frame (Err ForeignFrame)

-- the echo of a write of register 10
abbrev pub echo : CanFrame
echo = sent_on 0x7FF (register_write_data 1 10 3)

-- what a session holds of register 10 once it took a frame
abbrev pub ten_after : Session → CanFrame → Entry
ten_after s f = held (step s (frame f 5)).session (Reply 10)

-- motor 1 is heard and patched; then only motor 17, on its own id and on motor 1's
abbrev pub heard : List Call
heard = frame own 5 ∷ Call.Patch 9 50 60 ∷ []

abbrev pub strangers : List Call
strangers = frame stranger 7 ∷ frame (ten_is 0x11 0x00 3) 8 ∷ frame (ten_written 0x11 0x00) 9 ∷ []

abbrev pub heard_then_strangers : Session
heard_then_strangers = session_after (session_after s₀ heard) strangers

abbrev pub its_record : FeedbackSnapshot
its_record = patch_snapshot (record { state = state_of 0x11 (feedback_of (from_maxima maxima) (with_status 0x11)); received_at = record { 0 = 5 }; sequence = 1 }) 9 50 60

pub record Worked : Type 0 where
  pub starts : Fresh 1 0x11 s₀
  pub own_taken : answer s₀ own 5 ≡ takes
  -- each test alone
  pub extended_refused : answer s₀ extended 5 ≡ turns_away
  pub empty_refused : answer s₀ (of_length 0) 5 ≡ turns_away
  pub seven_refused : answer s₀ (of_length 7) 5 ≡ turns_away
  pub nine_refused : answer s₀ (of_length 9) 5 ≡ turns_away
  pub other_id_refused : answer s₀ (on 0x12 (with_status 0x11)) 5 ≡ turns_away
  pub motor_id_refused : answer s₀ (on 1 (with_status 0x11)) 5 ≡ turns_away
  pub other_nibble_refused : answer s₀ (on 0x11 (with_status 0x12)) 5 ≡ turns_away
  pub status_counts_not : answer s₀ (on 0x11 (with_status 0xF1)) 5 ≡ takes
  pub own_reply : answer s₀ (ten_is 0x01 0x00 3) 5 ≡ takes
  pub own_ack : answer s₀ (ten_written 0x01 0x00) 5 ≡ takes
  pub reply_of_17 : answer s₀ (ten_is 0x11 0x00 3) 5 ≡ turns_away
  pub ack_of_17 : answer s₀ (ten_written 0x11 0x00) 5 ≡ turns_away
  pub reply_of_257 : answer s₀ (ten_is 0x01 0x01 3) 5 ≡ turns_away
  pub marked_reply : answer s₀ (ten_is 0x11 0x0F 1) 5 ≡ turns_away
  -- a register that there is not makes it feedback, whose second byte says nothing of the motor
  pub no_register_taken : answer s₀ no_register 5 ≡ takes
  -- both bytes of a longer id
  pub reply_of_0x234 : answer (session 0x234 0x11) (ten_is 0x34 0x02 3) 5 ≡ takes
  pub reply_of_0x134 : answer (session 0x234 0x11) (ten_is 0x34 0x01 3) 5 ≡ turns_away
  -- 3 comes before 15
  pub reading_first : answer s₀ stranger 0x4000_0000_0000_0001 ≡ Frame (Err Reading)
  -- an echo on 0x7FF is an ack only where feedback comes on 0x7FF too
  pub echo_refused : answer s₀ echo 5 ≡ turns_away
  pub echo_taken : held (step (session 1 0x7FF) (frame echo 5)).session (Ack 10) ≡ Held (UInt32 3) (record { 0 = 5 })
  -- what no test tells: a feedback that is motor 17's too where that has the same feedback id, and motor 1's own that reads as a reply
  pub alike_taken : answer (session 17 0x11) own 5 ≡ takes
  pub read_as_reply : ten_after s₀ (sent_on 0x11 (feedback_data reply_like)) ≡ Held (UInt32 0x281E_FF07) (record { 0 = 5 })
  -- the four bits that the Rust compares do not tell the stranger; its frames leave record, last reading and caches
  pub accepted_by_the_rust : frame_accepted 1 0x11 stranger ≡ true
  pub record_stays : heard_then_strangers.head.feedback ≡ record { latest = Some its_record; sequence = 1 }
  pub reading_stays : heard_then_strangers.head.last ≡ record { 0 = 5 }
  pub reply_stays : held heard_then_strangers (Reply 10) ≡ Empty
  pub ack_stays : held heard_then_strangers (Ack 10) ≡ Empty
