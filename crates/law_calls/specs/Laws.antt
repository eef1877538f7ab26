-- What holds of every list of calls on a session. Statements; `laws` in proofs/Laws.antt has their proofs.
use Rattle.std.specs.Prelude.{ℕ, ◌+◌, ◌≤◌, ◌<◌, ◌^◌, length, ◌≡◌, Bool, true, List, [], ◌∷◌, ◌++◌, None, Option, Some, Ok, Err, option_map}
use Rattle.motor_core.specs.declared.bus.CanFrame.{CanFrame}
use Rattle.motor_core.specs.declared.error.Refusal.TheVariants.{RunOpen}
use Rattle.time.specs.declared.Instant.{Instant}
use Rattle.registers.specs.declared.RegisterValue.{RegisterValue}
use Rattle.protocol_address.specs.Address.{own_frame}
use Rattle.state_cache.specs.declared.Entry.{Entry}
use Rattle.state_cache.specs.declared.Entry.TheVariants.{Empty, Held}
use Rattle.state_cache.specs.declared.Place.{Place}
use Rattle.state_feedback.specs.Feedback.{patch_snapshot}
use Rattle.state_feedback.specs.declared.FeedbackSnapshot.{FeedbackSnapshot}
use Rattle.run_want.specs.declared.Answer.{Answer}
use Rattle.run_machine.specs.Machine.{RunResult}
use Rattle.run_machine.specs.declared.Machine.{Machine}
use Rattle.session.specs.declared.Session.{Session}
use Rattle.session.specs.Session.{patch}
use Rattle.session_frame.specs.Frame.{take_frame}
use Rattle.session_answer.specs.Answer.{entry_at, answer_run}
use Rattle.session_answer.specs.Effects.{Unchanged}
use Rattle.session_begin.specs.Begin.{machine_of, begin}
use Rattle.session_begin.specs.declared.Start.{Start}
use Rattle.session_call.specs.Step.{returning, step}
use Rattle.session_call.specs.declared.Call.{Call}
use Rattle.session_call.specs.declared.Returned.{Returned}
use Rattle.law_runs.specs.Bounds.{Within}
use Rattle.law_runs.specs.Trace.{Label}
use Rattle.law_calls.specs.Calls.{Fresh, Event, event, events, session_after, Answered, Accepted, IsRefusal}
use Rattle.law_calls.specs.Places.{said, brings, last_taken, Sees, nothing, seen_after}
use Rattle.law_calls.specs.Ran.{gives, Ran}
use Rattle.law_calls.specs.Turns.{Gave, Turn, turns, turns_after, result_of, result, gave_after, gaves, count, a_send, a_sleep, wants_send, wants_sleep, any, AllMove}

-- ---- what a call leaves alone, by its kind

pub record SameMotor (s after : Session) : Type 0 where
  pub motor_id : after.head.motor_id ≡ s.head.motor_id
  pub feedback_id : after.head.feedback_id ≡ s.head.feedback_id
  pub limits : after.head.limits ≡ s.head.limits

-- a patch makes of the latest record what `patch_snapshot` says, which leaves its number and stamp and what was measured but the temperatures, and changes nothing else
pub record PatchLeaves (status mos rotor : ℕ) (s after : Session) : Type 0 where
  pub motor : SameMotor s after
  pub latest : after.head.feedback.latest ≡ option_map (λ (r : FeedbackSnapshot). patch_snapshot r status mos rotor) s.head.feedback.latest
  pub sequence : after.head.feedback.sequence ≡ s.head.feedback.sequence
  pub last : after.head.last ≡ s.head.last
  pub replies : after.replies ≡ s.replies
  pub acks : after.acks ≡ s.acks
  pub run : after.run ≡ s.run

-- a start and an answer leave ids, limits, record and caches, and a start the last reading; a frame ids, limits and the run; a patch all but the latest record's status and temperatures
unfoldable pub Leaves : Call → Session → Session → Type 0
Leaves (Call.Start start) s after = Unchanged s after × (after.head.last ≡ s.head.last)
Leaves (Call.Answer answer) s after = Unchanged s after
Leaves (Call.Frame frame reading) s after = SameMotor s after × (after.run ≡ s.run)
Leaves (Call.Patch status mos rotor) s after = PatchLeaves status mos rotor s after

-- ---- where an entry came from

-- what a session holds of a register's replies or acks
abbrev pub held : Session → Sees
held s place = entry_at s.replies s.acks (Some place)

-- by the frames that are the motor's, as `own` says
module _ (own : CanFrame → Bool) where
  unfoldable pub NoneTaken : Place → List Event → Type 0
  NoneTaken place [] = Unit {0}
  NoneTaken place (v ∷ vs) = (brings own place v.call v.returned ≡ None) × NoneTaken place vs

  -- a frame of the motor that was taken says this value at this place, with this reading, and none of that place was taken after it
  pub record Taken (place : Place) (value : RegisterValue) (stamp : Instant) (vs : List Event) : Type 0 where
    pub before : List Event
    pub event : Event
    pub later : List Event
    pub frame : CanFrame
    pub whole : vs ≡ before ++ (event ∷ later)
    pub call : event.call ≡ Call.Frame frame stamp
    pub taken : event.returned ≡ Returned.Frame (Ok tt)
    pub is_own : own frame ≡ true
    pub says : said frame ≡ Some (place, value)
    pub is_last : NoneTaken place later

  -- the call that a turn is, among the calls from the session `s` on: the turns before it are those of the calls before it, and it sees what was taken by these
  pub record IsCall (s : Session) (sees : Sees) (cs : List Call) (earlier : List Turn) (t : Turn) : Type 0 where
    pub before : List Call
    pub later : List Call
    pub whole : cs ≡ before ++ (Call.Answer t.answer ∷ later)
    pub turns_before : turns own sees (events s before) ≡ earlier
    pub gave : event (session_after s before) (Call.Answer t.answer) ≡ record { call = Call.Answer t.answer; latest = t.latest; returned = Returned.Run t.gave.told; wants = t.gave.wants }
    pub saw : (place : Place) → t.sees place ≡ last_taken own place (sees place) (events s before)

-- ---- readings

-- a reading that came with a call, if the call was accepted
unfoldable pub accepted_by : Returned → Instant → Option Instant
accepted_by (Returned.Run (Ok told)) t = Some t
accepted_by (Returned.Run (Err refusal)) t = None
accepted_by (Returned.Frame (Ok taken)) t = Some t
accepted_by (Returned.Frame (Err refusal)) t = None
accepted_by (Returned.Patch done) t = None

unfoldable pub accepted_reading : Call → Returned → Option Instant
accepted_reading (Call.Start start) returned = None
accepted_reading (Call.Answer (Answer.Reading t)) returned = accepted_by returned t
accepted_reading (Call.Answer (Answer.Send result)) returned = None
accepted_reading (Call.Answer Answer.Slept) returned = None
accepted_reading (Call.Frame frame t) returned = accepted_by returned t
accepted_reading (Call.Patch status mos rotor) returned = None

-- none is below the last one before it, none above 2^62
abbrev pub Next : Instant → Option Instant → Type 0
Next last None = Unit {0}
Next last (Some t) = (last.0 ≤ t.0) × (t.0 ≤ 2 ^ 62)

abbrev pub last_with : Instant → Option Instant → Instant
last_with last None = last
last_with last (Some t) = t

unfoldable pub Rising : Instant → List Event → Type 0
Rising last [] = Unit {0}
Rising last (v ∷ vs) = Next last (accepted_reading v.call v.returned) × Rising (last_with last (accepted_reading v.call v.returned)) vs

unfoldable pub last_reading : Instant → List Event → Instant
last_reading last [] = last
last_reading last (v ∷ vs) = last_reading (last_with last (accepted_reading v.call v.returned)) vs

-- an entry's stamp, and the latest record's; 0 where there is none
abbrev pub stamp_of : Entry → ℕ
stamp_of Empty = 0
stamp_of (Held value stamp) = stamp.0

abbrev pub record_stamp : Option FeedbackSnapshot → ℕ
record_stamp None = 0
record_stamp (Some s) = s.received_at.0

-- ---- a run, by its accepted start, its turns, and the session at the end of the list

-- While it has no result, some answer is accepted and every start is refused with 8, so that its turns are its own; with it the run is closed.
pub record Alone (first : Gave) (ts : List Turn) (end : Session) : Type 0 where
  pub answerable : result first ts ≡ None → (a : Answer) × (w : Answered) × ((step end (Call.Answer a)).told ≡ Returned.Run w) × Accepted w
  pub refuses : result first ts ≡ None → (other : Start) → (step end (Call.Start other)).told ≡ Returned.Run (Err RunOpen)
  pub closes : (r : RunResult) → result first ts ≡ Some r → (gave_after first ts).wants ≡ None

-- the run's definition counts the same sends and sleeps
pub record AsWanted (first : Gave) (ts : List Turn) : Type 0 where
  pub sends : count (λ g. a_send g.told) (first ∷ gaves ts) ≡ count (λ g. wants_send any g.wants) (first ∷ gaves ts)
  pub sleeps : count (λ g. a_sleep g.told) (first ∷ gaves ts) ≡ count (λ g. wants_sleep g.wants) (first ∷ gaves ts)

-- so many sends at most; if its sleeps move the clock on, so many sleeps, and while it has no result fewer accepted answers
pub record AtMost (first : Gave) (ts : List Turn) (most_sends most_sleeps answers : ℕ) : Type 0 where
  pub sends : count (λ g. a_send g.told) (first ∷ gaves ts) ≤ most_sends
  pub sleeps : AllMove None first.told ts → count (λ g. a_sleep g.told) (first ∷ gaves ts) ≤ most_sleeps
  pub ends : AllMove None first.told ts → result first ts ≡ None → length ts < answers

pub record OfRun (s : Session) (start : Start) (first : Gave) (ts : List Turn) (end : Session) : Type 0 where
  pub machine : Machine
  pub opened : machine_of start ≡ Ok machine
  pub wants : first ≡ gives s.head machine
  pub steps : Ran s.head end machine s.head.last ts
  pub alone : Alone first ts end
  pub as_wanted : AsWanted first ts
  -- what its definition wants at most, by `law_runs`, is what its turns give at most
  pub within : (sends : (Label → ℕ) → ℕ) (sleeps answers : ℕ) → Within machine sends sleeps answers → AtMost first ts (sends (λ command. 1)) sleeps answers

pub record Laws : Type 0 where
  -- what each entry promises is a call of the list: a run's start, an answer, a frame by value or lent, a patch
  pub starts : (s : Session) (b : Start) → step s (Call.Start b) ≡ returning Returned.Run (begin s b)
  pub answers : (s : Session) (a : Answer) → step s (Call.Answer a) ≡ returning Returned.Run (answer_run s a)
  pub frames : (s : Session) (f : CanFrame) (reading : Instant) → step s (Call.Frame f reading) ≡ returning Returned.Frame (take_frame s f reading)
  pub patches : (s : Session) (status mos rotor : ℕ) → step s (Call.Patch status mos rotor) ≡ returning Returned.Patch (patch s status mos rotor)
  -- a refused call leaves the session that it got, and every call what is not its own
  pub refusals : (s : Session) (c : Call) → IsRefusal (step s c).told → (step s c).session ≡ s
  pub leaves : (s : Session) (c : Call) → Leaves c s (step s c).session
  -- one list after another
  pub sessions_joined : (s : Session) (bs cs : List Call) → session_after s (bs ++ cs) ≡ session_after (session_after s bs) cs
  pub events_joined : (s : Session) (bs cs : List Call) → events s (bs ++ cs) ≡ events s bs ++ events (session_after s bs) cs
  pub places_joined : (own : CanFrame → Bool) (place : Place) (e : Entry) (us vs : List Event) → last_taken own place e (us ++ vs) ≡ last_taken own place (last_taken own place e us) vs
  pub turns_joined : (own : CanFrame → Bool) (sees : Sees) (us vs : List Event) → result_of (turns own sees us) ≡ None → turns own sees (us ++ vs) ≡ turns own sees us ++ turns own (seen_after own sees us) vs
  pub turns_over : (own : CanFrame → Bool) (sees : Sees) (us vs : List Event) (r : RunResult) → result_of (turns own sees us) ≡ Some r → turns own sees (us ++ vs) ≡ turns own sees us
  pub counts_joined : (f : Gave → Bool) (ts us : List Turn) → count f (gaves (ts ++ us)) ≡ count f (gaves ts) + count f (gaves us)
  -- every frame that was taken is this motor's
  pub takes_own : (motor feedback : ℕ) (s : Session) → Fresh motor feedback s → (cs : List Call) (before later : List Event) (v : Event) (f : CanFrame) (reading : Instant) → events s cs ≡ before ++ (v ∷ later) →
      v.call ≡ Call.Frame f reading → v.returned ≡ Returned.Frame (Ok tt) → own_frame motor feedback f ≡ true
  -- what a session holds is what was taken last, from a frame of this motor that is in the list
  pub holds_last : (motor feedback : ℕ) (s : Session) → Fresh motor feedback s → (cs : List Call) (place : Place) → held (session_after s cs) place ≡ last_taken (own_frame motor feedback) place Empty (events s cs)
  pub origin : (own : CanFrame → Bool) (vs : List Event) (place : Place) (value : RegisterValue) (stamp : Instant) → last_taken own place Empty vs ≡ Held value stamp → Taken own place value stamp vs
  -- a turn is a call in the list, and sees what was taken before it
  pub turn_calls : (own : CanFrame → Bool) (s : Session) (sees : Sees) (cs : List Call) (earlier : List Turn) (t : Turn) (later : List Turn) → turns own sees (events s cs) ≡ earlier ++ (t ∷ later) → IsCall own s sees cs earlier t
  -- so what a turn of a run sees of a register's replies or acks came by a frame among the calls before it, from the list's first on
  pub turn_sees : (own : CanFrame → Bool) (s₀ : Session) (before : List Call) (start : Start) (after : List Call) (earlier : List Turn) (t : Turn) →
      (let s' = (step (session_after s₀ before) (Call.Start start)).session in
      (call : IsCall own s' (seen_after own nothing (events s₀ before)) after earlier t) (place : Place) (value : RegisterValue) (stamp : Instant) → t.sees place ≡ Held value stamp →
      Taken own place value stamp (events s₀ (before ++ (Call.Start start ∷ call.before))))
  -- accepted readings never fall, the last of them is the session's, and stamps are no later and never fall either
  pub readings : (s : Session) (cs : List Call) → Rising s.head.last (events s cs) × ((session_after s cs).head.last ≡ last_reading s.head.last (events s cs))
  pub bounded : (motor feedback : ℕ) (s : Session) → Fresh motor feedback s → (cs : List Call) →
      (let t = (session_after s cs).head.last in
      (t.0 ≤ 2 ^ 62) × ((place : Place) → stamp_of (held (session_after s cs) place) ≤ t.0) × (record_stamp (session_after s cs).head.feedback.latest ≤ t.0))
  pub stamps : (motor feedback : ℕ) (s : Session) → Fresh motor feedback s → (bs cs : List Call) →
      ((place : Place) → stamp_of (held (session_after s bs) place) ≤ stamp_of (held (session_after s (bs ++ cs)) place))
      × (record_stamp (session_after s bs).head.feedback.latest ≤ record_stamp (session_after s (bs ++ cs)).head.feedback.latest)
  -- every run steps by its turns
  pub runs : (motor feedback : ℕ) (s₀ : Session) → Fresh motor feedback s₀ → (before : List Call) (start : Start) (after : List Call) →
      (let s = session_after s₀ before in
      let began = event s (Call.Start start) in
      let s' = (step s (Call.Start start)).session in
      (w : Answered) → began.returned ≡ Returned.Run w → Accepted w →
      OfRun s start (record { told = w; wants = began.wants })
      (turns_after (own_frame motor feedback) w (seen_after (own_frame motor feedback) nothing (events s₀ before)) (events s' after))
      (session_after s' after))
