-- T-03, only this motor's frames: what a session takes, and by which frames came what it holds. `own_frame` in `protocol_address` says which they are. `proofs/Own.antt` has the proof.
use Rattle.std.specs.Prelude.{ℕ, ◌%◌, ◌≡◌, ◌↔◌, Bool, true, false, not, ◌&&◌, eqb, filter, List, [], ◌∷◌, ◌++◌, Some, option_map, Ok, Err, Float}
use Rattle.motor_core.specs.declared.bus.CanFrame.{CanFrame}
use Rattle.motor_core.specs.declared.error.Refusal.{Refusal}
use Rattle.motor_core.specs.declared.model.PvTLimits.{PvTLimits}
use Rattle.motor_core.specs.declared.error.Refusal.TheVariants.{Reading, ForeignFrame}
use Rattle.time.specs.Time.{reading_accepted}
use Rattle.time.specs.declared.Instant.{Instant}
use Rattle.float.specs.Arithmetic.{float}
use Rattle.registers.specs.Registers.{known}
use Rattle.registers.specs.declared.RegisterValue.{RegisterValue}
use Rattle.protocol_frame.specs.Layout.{data_bytes}
use Rattle.protocol_frame.specs.declared.Command.{Command}
use Rattle.protocol_request.specs.Request.{register_read_cmd, register_write_cmd}
use Rattle.protocol_status.specs.Status.{status_name}
use Rattle.protocol_status.specs.declared.StatusName.{StatusName}
use Rattle.protocol_feedback.specs.Feedback.{feedback_of}
use Rattle.protocol_feedback.specs.declared.SensorFeedback.{SensorFeedback}
use Rattle.protocol_received.specs.Received.{class_of}
use Rattle.protocol_received.specs.declared.FrameClass.{FrameClass}
use Rattle.protocol_received.specs.declared.FrameClass.TheVariants as Class
use Rattle.protocol_address.specs.Address.{own_frame}
use Rattle.protocol_motor.specs.Motor.{feedback, register_reply, write_ack}
use Rattle.protocol_motor.specs.declared.FeedbackFields.{FeedbackFields}
use Rattle.state_feedback.specs.Feedback.{state_of, patch_snapshot}
use Rattle.state_feedback.specs.declared.FeedbackSnapshot.{FeedbackSnapshot}
use Rattle.state_cache.specs.declared.Entry.TheVariants.{Held}
use Rattle.state_cache.specs.declared.Place.{Place}
use Rattle.session.specs.declared.Session.{Session}
use Rattle.session_call.specs.Step.{step}
use Rattle.session_call.specs.declared.Call.{Call}
use Rattle.session_call.specs.declared.Returned.{Returned}
use Rattle.law_calls.specs.Calls.{Fresh, Event, events, session_after}
use Rattle.law_calls.specs.Laws.{held, Taken}

-- ---- one frame

-- whether it is that of the session's motor
abbrev pub is_own : Session → CanFrame → Bool
is_own s f = own_frame s.head.motor_id s.head.feedback_id f

-- what the session answers
abbrev pub told : Session → CanFrame → Instant → Returned
told s f reading = (step s (Call.Frame f reading)).told

-- eight bytes on an id
abbrev pub sent_on : ℕ → ℕ → CanFrame
sent_on id bits = record { arbitration_id = id; «data» = data_bytes bits; dlc = 8; is_extended = false }

-- a call hands a frame in that is not the motor's
abbrev pub is_foreign : ℕ → ℕ → Call → Bool
is_foreign motor feedback (Call.Start start) = false
is_foreign motor feedback (Call.Answer answer) = false
is_foreign motor feedback (Call.Frame f reading) = not (own_frame motor feedback f)
is_foreign motor feedback (Call.Patch status mos rotor) = false

-- ---- feedback

abbrev pub is_feedback : FrameClass → Bool
is_feedback Class.Reply = false
is_feedback Class.Ack = false
is_feedback Class.Feedback = true

abbrev pub own_feedback : ℕ → ℕ → CanFrame → Bool
own_feedback motor feedback f = own_frame motor feedback f && is_feedback (class_of f.«data»)

-- a call hands this motor's feedback in, and a call took it
abbrev pub hands_in : ℕ → ℕ → Call → Bool
hands_in motor feedback (Call.Start start) = false
hands_in motor feedback (Call.Answer answer) = false
hands_in motor feedback (Call.Frame f reading) = own_feedback motor feedback f
hands_in motor feedback (Call.Patch status mos rotor) = false

abbrev pub is_taken : Returned → Bool
is_taken (Returned.Run told) = false
is_taken (Returned.Frame (Ok taken)) = true
is_taken (Returned.Frame (Err refusal)) = false
is_taken (Returned.Patch done) = false

unfoldable pub NoFeedbackHandedIn : ℕ → ℕ → List Call → Type 0
NoFeedbackHandedIn motor feedback [] = Unit {0}
NoFeedbackHandedIn motor feedback (c ∷ cs) = (hands_in motor feedback c ≡ false) × NoFeedbackHandedIn motor feedback cs

unfoldable pub NoFeedbackTaken : ℕ → ℕ → List Event → Type 0
NoFeedbackTaken motor feedback [] = Unit {0}
NoFeedbackTaken motor feedback (v ∷ vs) = ((hands_in motor feedback v.call && is_taken v.returned) ≡ false) × NoFeedbackTaken motor feedback vs

-- ---- the record

-- that which a feedback makes, with a number
abbrev pub record_in : PvTLimits → CanFrame → Instant → ℕ → FeedbackSnapshot
record_in l f reading n = record { state = state_of f.arbitration_id (feedback_of l f.«data»); received_at = reading; sequence = n }

-- and what the patches among calls make of it
abbrev pub patched_by : Call → FeedbackSnapshot → FeedbackSnapshot
patched_by (Call.Start start) r = r
patched_by (Call.Answer answer) r = r
patched_by (Call.Frame f reading) r = r
patched_by (Call.Patch status mos rotor) r = patch_snapshot r status mos rotor

unfoldable pub patched_since : FeedbackSnapshot → List Event → FeedbackSnapshot
patched_since r [] = r
patched_since r (v ∷ vs) = patched_since (patched_by v.call r) vs

-- field by field, in two parts: what a patch does not reach, but the number, and what it sets

pub record Measured : Type 0 where
  pub stamp : Instant
  pub can_id : ℕ
  pub arbitration_id : ℕ
  pub pos : Float
  pub vel : Float
  pub torq : Float

abbrev pub measured : FeedbackSnapshot → Measured
measured r = record { stamp = r.received_at; can_id = r.state.can_id; arbitration_id = r.state.arbitration_id; pos = r.state.pos; vel = r.state.vel; torq = r.state.torq }

pub record Condition : Type 0 where
  pub status_code : ℕ
  pub status_name : StatusName
  pub t_mos : Float
  pub t_rotor : Float

abbrev pub condition : FeedbackSnapshot → Condition
condition r = record { status_code = r.state.status_code; status_name = r.state.status_name; t_mos = r.state.t_mos; t_rotor = r.state.t_rotor }

abbrev pub number : FeedbackSnapshot → ℕ
number r = r.sequence

-- those of a frame
abbrev pub measured_in : CanFrame → Instant → SensorFeedback → Measured
measured_in f reading g = record { stamp = reading; can_id = g.can_id; arbitration_id = f.arbitration_id; pos = g.pos; vel = g.vel; torq = g.torq }

abbrev pub condition_in : SensorFeedback → Condition
condition_in g = record { status_code = g.status_code; status_name = status_name g.status_code; t_mos = g.t_mos; t_rotor = g.t_rotor }

-- and the last patch's since
abbrev pub set_by : Call → Condition → Condition
set_by (Call.Start start) x = x
set_by (Call.Answer answer) x = x
set_by (Call.Frame f reading) x = x
set_by (Call.Patch status mos rotor) x = record { status_code = status; status_name = status_name status; t_mos = float mos; t_rotor = float rotor }

unfoldable pub condition_after : Condition → List Event → Condition
condition_after x [] = x
condition_after x (v ∷ vs) = condition_after (set_by v.call x) vs

-- The record `r` came by a frame that was taken, is this motor's, and is feedback; none such was taken after it. Its stamp is that frame's reading. It is that frame's record with the patches since, in every field but the number; in words stamp, ids, position, velocity and torque are that frame's, status, its name and temperatures that frame's or the last patch's since.
pub record Reported (motor feedback : ℕ) (l : PvTLimits) (r : FeedbackSnapshot) (vs : List Event) : Type 0 where
  pub before : List Event
  pub event : Event
  pub later : List Event
  pub frame : CanFrame
  pub reading : Instant
  pub whole : vs ≡ before ++ (event ∷ later)
  pub call : event.call ≡ Call.Frame frame reading
  pub taken : event.returned ≡ Returned.Frame (Ok tt)
  pub is_own : own_feedback motor feedback frame ≡ true
  pub is : r ≡ patched_since (record_in l frame reading r.sequence) later
  pub measures : measured r ≡ measured_in frame reading (feedback_of l frame.«data»)
  pub conditions : condition r ≡ condition_after (condition_in (feedback_of l frame.«data»)) later
  pub is_last : NoFeedbackTaken motor feedback later

-- ---- the laws

pub record Own : Type 0 where
  -- taken exactly if the reading is accepted and the frame is this motor's; 15 exactly if the reading is accepted and it is not; 3 exactly if the reading is not
  pub takes : (s : Session) (f : CanFrame) (reading : Instant) → (told s f reading ≡ Returned.Frame (Ok tt)) ↔ ((reading_accepted s.head.last reading ≡ true) × (is_own s f ≡ true))
  pub turns_away : (s : Session) (f : CanFrame) (reading : Instant) → (told s f reading ≡ Returned.Frame (Err ForeignFrame)) ↔ ((reading_accepted s.head.last reading ≡ true) × (is_own s f ≡ false))
  pub turns_back : (s : Session) (f : CanFrame) (reading : Instant) → (told s f reading ≡ Returned.Frame (Err Reading)) ↔ (reading_accepted s.head.last reading ≡ false)
  -- a refused frame leaves the session, the last reading included
  pub leaves_all : (s : Session) (f : CanFrame) (reading : Instant) (refusal : Refusal) → told s f reading ≡ Returned.Frame (Err refusal) → (step s (Call.Frame f reading)).session ≡ s
  -- frames that are not this motor's might as well not have come: the session after any calls is the one after these without them
  pub without_foreign : (s : Session) (cs : List Call) → session_after s cs ≡ session_after s (filter (λ (c : Call). not (is_foreign s.head.motor_id s.head.feedback_id c)) cs)
  -- in every list of calls from a fresh session: each cached reply and ack that the session then holds, and its record, came by a frame of the list that is this motor's, with that frame's own reading
  pub registers : (motor feedback : ℕ) (s : Session) → Fresh motor feedback s → (cs : List Call) (place : Place) (value : RegisterValue) (stamp : Instant) → held (session_after s cs) place ≡ Held value stamp →
      Taken (own_frame motor feedback) place value stamp (events s cs)
  pub records : (motor feedback : ℕ) (s : Session) → Fresh motor feedback s → (cs : List Call) (r : FeedbackSnapshot) → (session_after s cs).head.feedback.latest ≡ Some r → Reported motor feedback s.head.limits r (events s cs)
  -- calls among which no feedback of this motor is handed in leave position and stamp, and the number, whatever other motors send
  pub undisturbed : (s : Session) (cs : List Call) → NoFeedbackHandedIn s.head.motor_id s.head.feedback_id cs →
      (let cache = s.head.feedback in
      let after = (session_after s cs).head.feedback in
      (option_map measured after.latest ≡ option_map measured cache.latest) × (option_map number after.latest ≡ option_map number cache.latest) × (after.sequence ≡ cache.sequence))
  -- what T-02's writer made for this motor, on its feedback id, is taken at any accepted reading
  pub written_feedback : (s : Session) (reading : Instant) → reading_accepted s.head.last reading ≡ true → (f : FeedbackFields) (n : ℕ) → f.can_id ≡ s.head.motor_id % 16 → feedback f ≡ Ok n → told s (sent_on s.head.feedback_id n) reading ≡ Returned.Frame (Ok tt)
  pub written_reply : (s : Session) (reading : Instant) → reading_accepted s.head.last reading ≡ true → (rid bits n : ℕ) → register_reply s.head.motor_id rid bits ≡ Ok n → told s (sent_on s.head.feedback_id n) reading ≡ Returned.Frame (Ok tt)
  pub written_ack : (s : Session) (reading : Instant) → reading_accepted s.head.last reading ≡ true → (rid bits n : ℕ) → write_ack s.head.motor_id rid bits ≡ Ok n → told s (sent_on s.head.feedback_id n) reading ≡ Returned.Frame (Ok tt)
  -- an echo of a request that reads or writes a register is this motor's exactly if feedback comes on the request's id
  pub read_echo : (s : Session) (rid : ℕ) (c : Command) → known rid ≡ true → register_read_cmd s.head.motor_id rid ≡ Ok c → is_own s (sent_on c.arbitration_id c.«data») ≡ eqb c.arbitration_id s.head.feedback_id
  pub write_echo : (s : Session) (rid bits : ℕ) (c : Command) → known rid ≡ true → register_write_cmd s.head.motor_id rid bits ≡ Ok c → is_own s (sent_on c.arbitration_id c.«data») ≡ eqb c.arbitration_id s.head.feedback_id
