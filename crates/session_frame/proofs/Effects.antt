-- What taking a frame does to a register's reply and ack, to the record and to the last reading, and what it leaves alone. Assumes nothing.
use Rattle.protocol_feedback.specs.declared.SensorFeedback.{SensorFeedback}
use Prim.Native.Nat.{ℕ, ◌≤◌, ◌<◌, ◌^◌}
use mathlib.Core.Path.{◌≡◌, refl, sym, ap, ◌∙◌, subst}
use mathlib.Core.Bool.{Bool, true, false, cond, true≢false}
use mathlib.Core.List.{List}
use native.Mathlib.Nat.{le_refl}
use lib.Dec.{T, eqb, eqb→eq, eqb_refl}
use lib.ListN.{length, length-set}
use lib.Seq.{get_or-set_same, get_or-set_other}
use Rattle.std.specs.Prelude.{Ok, Err, None, Option, Some}
use Rattle.motor_core.specs.declared.error.Refusal.{Refusal}
use Rattle.motor_core.specs.declared.bus.CanFrame.{CanFrame}
use Rattle.motor_core.specs.declared.model.PvTLimits.{PvTLimits}
use Rattle.time.specs.declared.Instant.{Instant}
use Rattle.registers.specs.Registers.{known}
use Rattle.registers.specs.declared.RegisterValue.{RegisterValue}
use Rattle.registers.proofs.Below.{known_below}
use Rattle.protocol_received.specs.OfRegister.{OfRegister}
use Rattle.protocol_frame.specs.Layout.{d}
use Rattle.protocol_received.specs.Received.{class_of, by_class, received}
use Rattle.protocol_received.specs.declared.FrameClass.{FrameClass}
use Rattle.protocol_received.specs.declared.FrameClass.TheVariants as Class
use Rattle.protocol_received.specs.declared.Received.{Received}
use Rattle.protocol_received.specs.declared.Received.TheVariants.{Reply, Ack, Feedback}
use Rattle.protocol_received.proofs.OfRegister.{of_register as of_d3}
use Rattle.state_feedback.specs.declared.FeedbackCache.{FeedbackCache}
use Rattle.state_cache.specs.Cache.{slot_of}
use Rattle.session.specs.declared.Session.{Session}
use Rattle.state_cache.specs.declared.Entry.{Entry}
use Rattle.state_cache.specs.declared.Entry.TheVariants.{Empty, Held}
use Rattle.session_frame.proofs.Brought.{reported, if_taken, reply_taken, ack_taken, state_taken, of_register, slot_with, record_with, last_with}
use Rattle.session_frame.specs.Frame.{FrameOutcome, frame_outcome, feedback_after, reply_of, ack_of, stored, with_received, says, take_by, take_frame}
use Rattle.session_frame.proofs.Outcomes.{taken_reading}

-- a register that is known, where one is named
abbrev Known : Option (ℕ × RegisterValue) → Type 0
Known None = Unit {0}
Known (Some x) = known x.0 ≡ true

-- one register's slot, once a value is stored
slot_stored : (slots : List Entry) (rid : ℕ) (x : Option (ℕ × RegisterValue)) (t : Instant) → length slots ≡ 82 → Known x → slot_of (stored x t slots) rid ≡ slot_with (of_register rid x) t (slot_of slots rid)
slot_stored slots rid None t size k = refl
slot_stored slots rid (Some x) t size k = go (eqb rid x.0) (eqb→eq rid x.0) (λ same. subst (λ (i : ℕ). T (eqb rid i)) same (eqb_refl rid))
  where
    here : x.0 < length slots
    here = subst (λ (m : ℕ). x.0 < m) (sym size) (known_below x.0 k)

    go : (b : Bool) → (T b → rid ≡ x.0) → (rid ≡ x.0 → T b) → slot_of (stored (Some x) t slots) rid ≡ slot_with (cond b (Some x.1) None) t (slot_of slots rid)
    go true same of = ap (slot_of (stored (Some x) t slots)) (same tt) ∙ get_or-set_same slots x.0 (Held x.1 t) Empty here
    go false same of = get_or-set_other slots x.0 rid (Held x.1 t) Empty (λ e. of e)

length_stored : (x : Option (ℕ × RegisterValue)) (t : Instant) (slots : List Entry) → length (stored x t slots) ≡ length slots
length_stored None t slots = refl
length_stored (Some x) t slots = length-set slots x.0 (Held x.1 t)

-- nothing is brought of a register that is not known
unknown_none : (rid : ℕ) (x : Option (ℕ × RegisterValue)) → known rid ≡ false → Known x → of_register rid x ≡ None
unknown_none rid None u k = refl
unknown_none rid (Some x) u k = go (eqb rid x.0) (eqb→eq rid x.0)
  where
    go : (b : Bool) → (T b → rid ≡ x.0) → ◌≡◌ {A = Option RegisterValue} (cond b (Some x.1) None) None
    go true same = absurd (true≢false (sym k ∙ ap known (sym (same tt)) ∙ u))
    go false same = refl

-- what a frame says of a register goes by its bytes alone, and the register is known
module _ (l : PvTLimits) (bytes : List ℕ) where
  by_bytes : {A : Type 0} (of : Received → A) (m : PvTLimits) → ((f g : SensorFeedback) → of (Feedback f) ≡ of (Feedback g)) → of (received l bytes) ≡ of (received m bytes)
  unfolding received
  by_bytes of m alike = go (class_of bytes)
    where
      go : (k : FrameClass) → of (by_class k l bytes) ≡ of (by_class k m bytes)
      go Class.Reply = refl
      go Class.Ack = refl
      go Class.Feedback = alike _ _

  pub reply_by_bytes : (m : PvTLimits) → reply_of (received l bytes) ≡ reply_of (received m bytes)
  reply_by_bytes m = by_bytes reply_of m (λ f g. refl)

  pub ack_by_bytes : (m : PvTLimits) → ack_of (received l bytes) ≡ ack_of (received m bytes)
  ack_by_bytes m = by_bytes ack_of m (λ f g. refl)

reply_known : (r : Received) (n : ℕ) → OfRegister r n → Known (reply_of r)
reply_known (Reply rid v) n (e, k) = ap known e ∙ k
reply_known (Ack rid v) n of = tt
reply_known (Feedback f) n of = tt

ack_known : (r : Received) (n : ℕ) → OfRegister r n → Known (ack_of r)
ack_known (Reply rid v) n of = tt
ack_known (Ack rid v) n (e, k) = ap known e ∙ k
ack_known (Feedback f) n of = tt

taken_known : (o : FrameOutcome) (x : Option (ℕ × RegisterValue)) → Known x → Known (if_taken o x)
taken_known (Ok taken) x k = k
taken_known (Err n) x k = tt

record_of : (cache : FeedbackCache) (id : ℕ) (r : Received) (t : Instant) → feedback_after cache id r t ≡ record_with (reported id r) t cache
record_of cache id (Reply r v) t = refl
record_of cache id (Ack r v) t = refl
record_of cache id (Feedback f) t = refl

module _ (s : Session) (frame : CanFrame) (t : Instant) where
  abbrev after : Session
  after = (take_frame s frame t).session

  abbrev outcome : FrameOutcome
  outcome = frame_outcome s.head frame t

  -- what it brings of a register
  abbrev reply : Option (ℕ × RegisterValue)
  reply = reply_taken s.head frame t

  abbrev ack : Option (ℕ × RegisterValue)
  ack = ack_taken s.head frame t

  named : OfRegister (says s.head frame) (d frame.«data» 3)
  named = of_d3 s.head.limits frame.«data»

  -- a cache, by what is stored in it of a frame that is taken
  cache_after : (cache : Session → List Entry) (of : Received → Option (ℕ × RegisterValue)) → cache (take_by (Ok tt) s frame t) ≡ stored (of (says s.head frame)) t (cache s) → cache after ≡ stored (if_taken outcome (of (says s.head frame))) t (cache s)
  unfolding take_frame
  cache_after cache of e = go outcome
    where
      go : (o : FrameOutcome) → cache (take_by o s frame t) ≡ stored (if_taken o (of (says s.head frame))) t (cache s)
      go (Ok taken) = e
      go (Err n) = refl

  pub replies_after_frame : after.replies ≡ stored (reply_taken s.head frame t) t s.replies
  replies_after_frame = cache_after (λ (x : Session). x.replies) reply_of refl

  pub acks_after_frame : after.acks ≡ stored (ack_taken s.head frame t) t s.acks
  acks_after_frame = cache_after (λ (x : Session). x.acks) ack_of refl

  reply_taken_known : Known reply
  reply_taken_known = taken_known outcome (reply_of (says s.head frame)) (reply_known (says s.head frame) _ named)

  ack_taken_known : Known ack
  ack_taken_known = taken_known outcome (ack_of (says s.head frame)) (ack_known (says s.head frame) _ named)

  -- one register's reply, and its ack
  pub reply_after_frame : (rid : ℕ) → length s.replies ≡ 82 → slot_of after.replies rid ≡ slot_with (of_register rid (reply_taken s.head frame t)) t (slot_of s.replies rid)
  reply_after_frame rid size = ap (λ (slots : List Entry). slot_of slots rid) replies_after_frame ∙ slot_stored s.replies rid reply t size reply_taken_known

  pub ack_after_frame : (rid : ℕ) → length s.acks ≡ 82 → slot_of after.acks rid ≡ slot_with (of_register rid (ack_taken s.head frame t)) t (slot_of s.acks rid)
  ack_after_frame rid size = ap (λ (slots : List Entry). slot_of slots rid) acks_after_frame ∙ slot_stored s.acks rid ack t size ack_taken_known

  -- the record with its number and stamp
  pub record_after_frame : after.head.feedback ≡ record_with (state_taken s.head frame t) t s.head.feedback
  unfolding take_frame
  record_after_frame = go outcome
    where
      go : (o : FrameOutcome) → (take_by o s frame t).head.feedback ≡ record_with (if_taken o (reported frame.arbitration_id (says s.head frame))) t s.head.feedback
      go (Ok taken) = record_of s.head.feedback frame.arbitration_id (says s.head frame) t
      go (Err n) = refl

  -- the last reading, which never goes back, nor beyond 2^62
  pub last_after_frame : after.head.last ≡ last_with outcome t s.head.last
  unfolding take_frame
  last_after_frame = go outcome
    where
      go : (o : FrameOutcome) → (take_by o s frame t).head.last ≡ last_with o t s.head.last
      go (Ok taken) = refl
      go (Err n) = refl

  pub last_goes_on : s.head.last.0 ≤ after.head.last.0
  last_goes_on = subst (λ (l : Instant). s.head.last.0 ≤ l.0) (sym last_after_frame) (go outcome refl)
    where
      go : (o : FrameOutcome) → outcome ≡ o → s.head.last.0 ≤ (last_with o t s.head.last).0
      go (Ok taken) e = (taken_reading s.head frame t e).0
      go (Err n) e = le_refl s.head.last.0

  pub last_stays_within : s.head.last.0 ≤ 2 ^ 62 → after.head.last.0 ≤ 2 ^ 62
  last_stays_within bound = subst (λ (l : Instant). l.0 ≤ 2 ^ 62) (sym last_after_frame) (go outcome refl)
    where
      go : (o : FrameOutcome) → outcome ≡ o → (last_with o t s.head.last).0 ≤ 2 ^ 62
      go (Ok taken) e = (taken_reading s.head frame t e).1
      go (Err n) e = bound

  -- what neither a reply nor an ack nor a feedback changes
  stays : {A : Type 0} (part : Session → A) → part (with_received s frame.arbitration_id (says s.head frame) t) ≡ part s → part after ≡ part s
  unfolding take_frame
  stays {A} part e = go outcome
    where
      go : (o : FrameOutcome) → part (take_by o s frame t) ≡ part s
      go (Ok taken) = e
      go (Err n) = refl

  pub record Left : Type 0 where
    pub motor_id : after.head.motor_id ≡ s.head.motor_id
    pub feedback_id : after.head.feedback_id ≡ s.head.feedback_id
    pub limits : after.head.limits ≡ s.head.limits
    pub run : after.run ≡ s.run
    pub replies : length after.replies ≡ length s.replies
    pub acks : length after.acks ≡ length s.acks

  pub left : Left
  left = record {
    motor_id = stays (λ (x : Session). x.head.motor_id) refl;
    feedback_id = stays (λ (x : Session). x.head.feedback_id) refl;
    limits = stays (λ (x : Session). x.head.limits) refl;
    run = stays (λ (x : Session). x.run) refl;
    replies = ap length replies_after_frame ∙ length_stored reply t s.replies;
    acks = ap length acks_after_frame ∙ length_stored ack t s.acks;
  }

  -- what the call answers, and that a refused frame leaves all
  pub outcome_of_frame : (take_frame s frame t).told ≡ outcome
  unfolding take_frame
  outcome_of_frame = refl

  pub turned_back : (n : Refusal) → (take_frame s frame t).told ≡ Err n → after ≡ s
  unfolding take_frame
  turned_back n e = ap (λ (o : FrameOutcome). take_by o s frame t) e

  -- a slot whose number no register has
  pub unknown_stays : (rid : ℕ) → known rid ≡ false → length s.replies ≡ 82 → length s.acks ≡ 82
      → (slot_of after.replies rid ≡ slot_of s.replies rid) × (slot_of after.acks rid ≡ slot_of s.acks rid)
  unknown_stays rid u replies acks = (
    reply_after_frame rid replies ∙ ap (λ (v : Option RegisterValue). slot_with v t (slot_of s.replies rid)) (unknown_none rid reply u reply_taken_known),
    ack_after_frame rid acks ∙ ap (λ (v : Option RegisterValue). slot_with v t (slot_of s.acks rid)) (unknown_none rid ack u ack_taken_known),
  )
