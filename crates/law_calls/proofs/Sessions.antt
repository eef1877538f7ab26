-- What every call keeps of a session, and what it leaves at each place. Assumes nothing.
use Rattle.std.specs.Prelude.{None, Some, Ok, Err}
use Prim.Native.Nat.{ℕ, ◌≤◌, ◌^◌}
use mathlib.Core.Path.{◌≡◌, refl, sym, ap, ◌∙◌, subst}
use mathlib.Core.Bool.{Bool, true, false, cond}
use mathlib.Core.List.{List, [], ◌∷◌, ◌++◌, nil≢cons, head-eq_of_cons-eq, tail-eq_of_cons-eq}
use lib.ListN.{length}
use Rattle.motor_core.specs.declared.bus.CanFrame.{CanFrame}
use Rattle.motor_core.specs.declared.error.Refusal.{Refusal}
use Rattle.time.specs.declared.Instant.{Instant}
use Rattle.registers.specs.declared.RegisterValue.{RegisterValue}
use Rattle.protocol_received.specs.Received.{class_of, by_class, received}
use Rattle.protocol_received.specs.declared.FrameClass.{FrameClass}
use Rattle.protocol_received.specs.declared.FrameClass.TheVariants as Class
use Rattle.protocol_address.specs.Address.{own_frame}
use Rattle.state_cache.specs.declared.Entry.{Entry}
use Rattle.state_cache.specs.declared.Entry.TheVariants.{Held}
use Rattle.state_cache.specs.declared.Place.{Place}
use Rattle.state_cache.specs.declared.Place.TheVariants.{Reply, Ack}
use Rattle.run_want.specs.declared.Answer.{Answer}
use Rattle.session.proofs.Patching.{left}
use Rattle.session.specs.Session.{patch}
use Rattle.session.specs.declared.Head.{Head}
use Rattle.session.specs.declared.Session.{Session}
use Rattle.session_frame.proofs.Effects as Frame
use Rattle.session_frame.proofs.Outcomes as Outcomes
use Rattle.session_frame.proofs.Brought.{if_taken, of_register, slot_with}
use Rattle.session_frame.specs.Frame.{FrameOutcome, frame_outcome, reply_of, ack_of, says, take_frame}
use Rattle.session_answer.proofs.Effects.{answer_keeps, answer_last, answer_refused}
use Rattle.session_answer.specs.Answer.{entry_at, answer_run}
use Rattle.session_answer.specs.Effects.{Unchanged}
use Rattle.session_begin.proofs.Effects.{start_keeps, start_last, start_refused}
use Rattle.session_begin.specs.Begin.{begin}
use Rattle.session_begin.specs.declared.Start.{Start}
use Rattle.session_step.specs.declared.Told.TheVariants as Told
use Rattle.session_call.specs.Step.{step}
use Rattle.session_call.specs.declared.Call.{Call}
use Rattle.session_call.specs.declared.Returned.TheVariants as Returned
use Rattle.law_calls.specs.Calls.{Event, events, session_after, Answered, IsRefusal}
use Rattle.law_calls.specs.Laws.{held}
use Rattle.law_calls.specs.Places.{said_by, said, entry_of, frame_brings, brings, replaced, last_taken}

-- what holds of every session in the list: ids and limits of the first, its caches' size, its last reading's bound
pub record Sound (h : Head) (s : Session) : Type 0 where
  pub motor_id : s.head.motor_id ≡ h.motor_id
  pub feedback_id : s.head.feedback_id ≡ h.feedback_id
  pub limits : s.head.limits ≡ h.limits
  pub replies : length s.replies ≡ 82
  pub acks : length s.acks ≡ 82
  pub last : s.head.last.0 ≤ 2 ^ 62

-- this motor's frames
abbrev pub own_of : Head → CanFrame → Bool
own_of h = own_frame h.motor_id h.feedback_id

module _ (h : Head) (s : Session) (sound : Sound h s) where
  -- ---- a start, an answer and a patch leave the caches

  run_sound : (after : Session) → Unchanged s after → after.head.last.0 ≤ 2 ^ 62 → Sound h after
  run_sound after kept last = record {
    motor_id = kept.motor_id ∙ sound.motor_id;
    feedback_id = kept.feedback_id ∙ sound.feedback_id;
    limits = kept.limits ∙ sound.limits;
    replies = ap length kept.replies ∙ sound.replies;
    acks = ap length kept.acks ∙ sound.acks;
    last = last;
  }

  pub start_sound : (b : Start) → Sound h (begin s b).session
  start_sound b = run_sound (begin s b).session (start_keeps s b) (subst (λ (l : Instant). l.0 ≤ 2 ^ 62) (sym (start_last s b)) sound.last)

  pub answer_sound : (a : Answer) → Sound h (answer_run s a).session
  answer_sound a = run_sound (answer_run s a).session (answer_keeps s a) ((answer_last s a).1 sound.last)

  pub patch_sound : (status mos rotor : ℕ) → Sound h (patch s status mos rotor).session
  patch_sound status mos rotor = let kept = left s status mos rotor in record {
    motor_id = kept.motor_id ∙ sound.motor_id;
    feedback_id = kept.feedback_id ∙ sound.feedback_id;
    limits = kept.limits ∙ sound.limits;
    replies = ap length kept.replies ∙ sound.replies;
    acks = ap length kept.acks ∙ sound.acks;
    last = subst (λ (l : Instant). l.0 ≤ 2 ^ 62) (sym kept.last) sound.last;
  }

  pub frame_sound : (f : CanFrame) (t : Instant) → Sound h (take_frame s f t).session
  frame_sound f t = let kept = Frame.left s f t in record {
    motor_id = kept.motor_id ∙ sound.motor_id;
    feedback_id = kept.feedback_id ∙ sound.feedback_id;
    limits = kept.limits ∙ sound.limits;
    replies = kept.replies ∙ sound.replies;
    acks = kept.acks ∙ sound.acks;
    last = Frame.last_stays_within s f t sound.last;
  }

  -- ---- what is held at a place after each call

  caches_held : (after : Session) → after.replies ≡ s.replies → after.acks ≡ s.acks → (place : Place) → held after place ≡ held s place
  caches_held after replies acks place = λ i. entry_at (replies i) (acks i) (Some place)

  pub start_held : (b : Start) (place : Place) → held (begin s b).session place ≡ held s place
  start_held b = let kept = start_keeps s b in caches_held (begin s b).session kept.replies kept.acks

  pub answer_held : (a : Answer) (place : Place) → held (answer_run s a).session place ≡ held s place
  answer_held a = let kept = answer_keeps s a in caches_held (answer_run s a).session kept.replies kept.acks

  pub patch_held : (status mos rotor : ℕ) (place : Place) → held (patch s status mos rotor).session place ≡ held s place
  patch_held status mos rotor = let kept = left s status mos rotor in caches_held (patch s status mos rotor).session kept.replies kept.acks

  -- what a frame says of a register, as the list reads it
  with_brought : (t : Instant) (b : Bool) (v : RegisterValue) (slot : Entry) → slot_with (cond b (Some v) None) t slot ≡ replaced slot (cond b (Some (Held v t)) None)
  with_brought t b v slot = go b
    where
      go : (b : Bool) → slot_with (cond b (Some v) None) t slot ≡ replaced slot (cond b (Some (Held v t)) None)
      go false = refl
      go true = refl

  says_reply : (t : Instant) (rid : ℕ) (slot : Entry) (f : CanFrame) → slot_with (of_register rid (reply_of (says s.head f))) t slot ≡ replaced slot (entry_of (Reply rid) t (said f))
  unfolding received
  says_reply t rid slot f = go (class_of f.«data»)
    where
      go : (k : FrameClass) → slot_with (of_register rid (reply_of (by_class k s.head.limits f.«data»))) t slot ≡ replaced slot (entry_of (Reply rid) t (said_by k f.«data»))
      go Class.Reply = with_brought t _ _ slot
      go Class.Ack = refl
      go Class.Feedback = refl

  says_ack : (t : Instant) (rid : ℕ) (slot : Entry) (f : CanFrame) → slot_with (of_register rid (ack_of (says s.head f))) t slot ≡ replaced slot (entry_of (Ack rid) t (said f))
  unfolding received
  says_ack t rid slot f = go (class_of f.«data»)
    where
      go : (k : FrameClass) → slot_with (of_register rid (ack_of (by_class k s.head.limits f.«data»))) t slot ≡ replaced slot (entry_of (Ack rid) t (said_by k f.«data»))
      go Class.Reply = refl
      go Class.Ack = with_brought t _ _ slot
      go Class.Feedback = refl

  -- a frame that is taken is this motor's
  pub taken_own : (f : CanFrame) (t : Instant) → frame_outcome s.head f t ≡ Ok tt → own_of h f ≡ true
  taken_own f t e = (λ i. own_frame (sym sound.motor_id i) (sym sound.feedback_id i) f) ∙ Outcomes.taken_own s.head f t e

  pub frame_held : (f : CanFrame) (t : Instant) (place : Place) → held (take_frame s f t).session place ≡ replaced (held s place) (frame_brings (own_of h) place f t (Returned.Frame (take_frame s f t).told))
  unfolding take_frame frame_brings
  frame_held f t place = by_place place
    where
      -- what it says counts, if it is taken
      counts : (place : Place) → frame_outcome s.head f t ≡ Ok tt → replaced (held s place) (entry_of place t (said f)) ≡ replaced (held s place) (cond (own_of h f) (entry_of place t (said f)) None)
      counts place e = ap (λ (own : Bool). replaced (held s place) (cond own (entry_of place t (said f)) None)) (sym (taken_own f t e))

      by_reply : (rid : ℕ) (o : FrameOutcome) → frame_outcome s.head f t ≡ o → slot_with (of_register rid (if_taken o (reply_of (says s.head f)))) t (held s (Reply rid)) ≡ replaced (held s (Reply rid)) (frame_brings (own_of h) (Reply rid) f t (Returned.Frame o))
      by_reply rid (Ok taken) e = says_reply t rid (held s (Reply rid)) f ∙ counts (Reply rid) e
      by_reply rid (Err n) e = refl

      by_ack : (rid : ℕ) (o : FrameOutcome) → frame_outcome s.head f t ≡ o → slot_with (of_register rid (if_taken o (ack_of (says s.head f)))) t (held s (Ack rid)) ≡ replaced (held s (Ack rid)) (frame_brings (own_of h) (Ack rid) f t (Returned.Frame o))
      by_ack rid (Ok taken) e = says_ack t rid (held s (Ack rid)) f ∙ counts (Ack rid) e
      by_ack rid (Err n) e = refl

      by_place : (place : Place) → held (take_frame s f t).session place ≡ replaced (held s place) (frame_brings (own_of h) place f t (Returned.Frame (take_frame s f t).told))
      by_place (Reply rid) = Frame.reply_after_frame s f t rid sound.replies ∙ by_reply rid (frame_outcome s.head f t) refl
      by_place (Ack rid) = Frame.ack_after_frame s f t rid sound.acks ∙ by_ack rid (frame_outcome s.head f t) refl

-- ---- over a list of calls

pub step_sound : (h : Head) (s : Session) (c : Call) → Sound h s → Sound h (step s c).session
unfolding step
step_sound h s (Call.Start b) sound = start_sound h s sound b
step_sound h s (Call.Answer a) sound = answer_sound h s sound a
step_sound h s (Call.Frame f t) sound = frame_sound h s sound f t
step_sound h s (Call.Patch status mos rotor) sound = patch_sound h s sound status mos rotor

pub step_held : (h : Head) (s : Session) (c : Call) → Sound h s → (place : Place) → held (step s c).session place ≡ replaced (held s place) (brings (own_of h) place c (step s c).told)
unfolding step brings
step_held h s (Call.Start b) sound = start_held h s sound b
step_held h s (Call.Answer a) sound = answer_held h s sound a
step_held h s (Call.Frame f t) sound = frame_held h s sound f t
step_held h s (Call.Patch status mos rotor) sound = patch_held h s sound status mos rotor

pub list_sound : (h : Head) (cs : List Call) (s : Session) → Sound h s → Sound h (session_after s cs)
unfolding session_after
list_sound h [] s sound = sound
list_sound h (c ∷ cs) s sound = list_sound h cs (step s c).session (step_sound h s c sound)

-- what is held at a place is the last that was taken there
pub list_held : (h : Head) (cs : List Call) (s : Session) → Sound h s → (place : Place) → held (session_after s cs) place ≡ last_taken (own_of h) place (held s place) (events s cs)
unfolding session_after events last_taken
list_held h [] s sound place = refl
list_held h (c ∷ cs) s sound place =
    list_held h cs (step s c).session (step_sound h s c sound) place
    ∙ ap (λ (e : Entry). last_taken (own_of h) place e (events (step s c).session cs)) (step_held h s c sound place)

-- every frame that was taken is this motor's
module _ (h : Head) (f : CanFrame) (t : Instant) (later : List Event) where
  frame_takes_own : (s : Session) → Sound h s → (c : Call) → c ≡ Call.Frame f t → (step s c).told ≡ Returned.Frame (Ok tt) → own_of h f ≡ true
  unfolding step
  frame_takes_own s sound c is e = taken_own h s sound f t (sym (Frame.outcome_of_frame s f t) ∙ same (take_frame s f t).told (sym (ap (λ (x : Call). (step s x).told) is) ∙ e))
    where
      same : (o : FrameOutcome) → Returned.Frame o ≡ Returned.Frame (Ok tt) → o ≡ Ok tt
      same o e = cc

  pub list_takes_own : (cs : List Call) (s : Session) → Sound h s → (before : List Event) (v : Event) → events s cs ≡ before ++ (v ∷ later) → v.call ≡ Call.Frame f t → v.returned ≡ Returned.Frame (Ok tt) → own_of h f ≡ true
  unfolding events
  list_takes_own [] s sound [] v is call taken = absurd (nil≢cons is)
  list_takes_own [] s sound (u ∷ us) v is call taken = absurd (nil≢cons is)
  list_takes_own (c ∷ cs) s sound [] v is call taken =
      let e = head-eq_of_cons-eq is in
      frame_takes_own s sound c (ap (λ (x : Event). x.call) e ∙ call) (ap (λ (x : Event). x.returned) e ∙ taken)
  list_takes_own (c ∷ cs) s sound (u ∷ us) v is call taken = list_takes_own cs (step s c).session (step_sound h s c sound) us v (tail-eq_of_cons-eq is) call taken

-- ---- a refused call leaves the session that it got

by_refusal : {P : Type 0} (t : Answered) → IsRefusal (Returned.Run t) → ((n : Refusal) → t ≡ Err n → P) → P
unfolding IsRefusal
by_refusal (Ok (Told.Want want)) r f = absurd r
by_refusal (Ok (Told.Result x)) r f = absurd r
by_refusal (Err n) r f = f n refl

frame_refusal : {P : Type 0} (o : FrameOutcome) → IsRefusal (Returned.Frame o) → ((n : Refusal) → o ≡ Err n → P) → P
unfolding IsRefusal
frame_refusal (Ok taken) r f = absurd r
frame_refusal (Err n) r f = f n refl

pub refused_leaves : (s : Session) (c : Call) → IsRefusal (step s c).told → (step s c).session ≡ s
unfolding step IsRefusal
refused_leaves s (Call.Start b) r = by_refusal (begin s b).told r (start_refused s b)
refused_leaves s (Call.Answer a) r = by_refusal (answer_run s a).told r (answer_refused s a)
refused_leaves s (Call.Frame f t) r = frame_refusal (take_frame s f t).told r (Frame.turned_back s f t)
refused_leaves s (Call.Patch status mos rotor) r = absurd r
