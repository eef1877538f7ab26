-- The laws of lists hold. Assumes nothing.
use Rattle.std.specs.Prelude.{None, Option, Some, option_map, Ok, Err}
use Prim.Native.Nat.{ℕ}
use mathlib.Core.Path.{◌≡◌, refl, sym, ap, ◌∙◌, subst}
use mathlib.Core.Bool.{Bool, true}
use mathlib.Core.List.{List, ◌∷◌, ◌++◌}
use Rattle.motor_core.specs.declared.bus.CanFrame.{CanFrame}
use Rattle.motor_core.specs.declared.error.Refusal.{Refusal}
use Rattle.time.specs.declared.Instant.{Instant}
use Rattle.state_cache.specs.declared.Place.{Place}
use Rattle.state_feedback.proofs.Patching.{patch_held}
use Rattle.state_feedback.specs.Feedback.{patch_snapshot, patched}
use Rattle.state_feedback.specs.declared.FeedbackCache.{FeedbackCache}
use Rattle.state_feedback.specs.declared.FeedbackSnapshot.{FeedbackSnapshot}
use Rattle.run_machine.specs.declared.Machine.{Machine}
use Rattle.run_machine.specs.Machine.{machine_want}
use Rattle.session.proofs.Patching.{left, nothing_patched, record_after_patch}
use Rattle.session.specs.Session.{patch}
use Rattle.session.specs.declared.Head.{Head}
use Rattle.session.specs.declared.Session.{Session}
use Rattle.session_frame.proofs.Effects as Frame
use Rattle.session_answer.proofs.Effects.{answer_keeps}
use Rattle.session_answer.specs.Answer.{AfterCall}
use Rattle.session_begin.proofs.Effects.{start_cases, start_keeps, start_last}
use Rattle.session_begin.specs.Begin.{machine_of, with_opened, begin}
use Rattle.session_begin.specs.declared.Start.{Start}
use Rattle.session_call.specs.Step.{step}
use Rattle.session_call.specs.declared.Call.{Call}
use Rattle.session_call.specs.declared.Returned.{Returned}
use Rattle.protocol_address.specs.Address.{own_frame}
use Rattle.law_calls.specs.Calls.{Answered, Accepted, open_want, Fresh, Event, events, session_after}
use Rattle.registers.specs.declared.RegisterValue.{RegisterValue}
use Rattle.state_cache.specs.declared.Entry.TheVariants.{Empty, Held}
use Prim.Native.Nat.{◌≤◌}
use Rattle.law_calls.specs.Laws.{held, stamp_of, record_stamp, Leaves, PatchLeaves, Taken, IsCall, OfRun, Laws}
use Rattle.law_calls.specs.Places.{brings, Sees, nothing, seen_after, last_taken}
use Rattle.law_calls.specs.Turns.{Gave, Turn, turns, turns_after, result_in}
use Rattle.law_calls.proofs.Ended.{still_open, answered, refuses, closed_after}
use Rattle.law_calls.proofs.Lists.{sessions_joined, events_joined, places_joined, turns_joined, turns_over, counts_joined}
use Rattle.law_calls.proofs.Origin.{origin}
use Rattle.law_calls.proofs.Ran.{ran}
use Rattle.law_calls.proofs.Readings.{readings, list_stamps}
use Rattle.law_calls.proofs.Sessions.{own_of, Sound, list_sound, list_held, list_takes_own, refused_leaves}
use Rattle.law_calls.proofs.Started.{fresh_motor, fresh_on, fresh_sound, fresh_holds, fresh_stamped}
use Rattle.law_calls.proofs.Traced.{as_wanted, at_most}
use Rattle.law_calls.proofs.Turning.{turn_calls}

-- ---- what a call leaves alone

module _ (s : Session) (status mos rotor : ℕ) where
  abbrev patched_session : Session
  patched_session = (patch s status mos rotor).session

  abbrev with_patch : FeedbackSnapshot → FeedbackSnapshot
  with_patch r = patch_snapshot r status mos rotor

  record_left : (l : Option FeedbackSnapshot) → s.head.feedback.latest ≡ l → (patched_session.head.feedback.latest ≡ option_map with_patch l) × (patched_session.head.feedback.sequence ≡ s.head.feedback.sequence)
  record_left None e = let same = nothing_patched s status mos rotor e in (ap (λ (x : Session). x.head.feedback.latest) same ∙ e, ap (λ (x : Session). x.head.feedback.sequence) same)
  record_left (Some r) e =
      let is = record_after_patch s status mos rotor (patched s.head.feedback status mos rotor r) (patch_held s.head.feedback status mos rotor r e) in
      (ap (λ (cache : FeedbackCache). cache.latest) is, ap (λ (cache : FeedbackCache). cache.sequence) is)

  patch_leaves : PatchLeaves status mos rotor s patched_session
  patch_leaves =
      let kept = left s status mos rotor in
      let of_record = record_left s.head.feedback.latest refl in
      record {
        motor = record { motor_id = kept.motor_id; feedback_id = kept.feedback_id; limits = kept.limits };
        latest = of_record.0;
        sequence = of_record.1;
        last = kept.last;
        replies = kept.replies;
        acks = kept.acks;
        run = kept.run;
      }

frame_motor : (s : Session) (f : CanFrame) (t : Instant) → Leaves (Call.Frame f t) s (step s (Call.Frame f t)).session
unfolding Leaves step
frame_motor s f t = let kept = Frame.left s f t in (record { motor_id = kept.motor_id; feedback_id = kept.feedback_id; limits = kept.limits }, kept.run)

leaves : (s : Session) (c : Call) → Leaves c s (step s c).session
unfolding step Leaves
leaves s (Call.Start b) = (start_keeps s b, start_last s b)
leaves s (Call.Answer a) = answer_keeps s a
leaves s (Call.Frame f t) = frame_motor s f t
leaves s (Call.Patch status mos rotor) = patch_leaves s status mos rotor

-- ---- what a session holds

module _ (motor feedback : ℕ) (s : Session) (fresh : Fresh motor feedback s) (cs : List Call) where
  own_here : own_of s.head ≡ own_frame motor feedback
  own_here = λ i. own_frame (fresh_motor motor feedback s fresh i) (fresh_on motor feedback s fresh i)

  -- of a session in the list too
  own_there : own_of (session_after s cs).head ≡ own_frame motor feedback
  own_there = let sound = list_sound s.head cs s (fresh_sound motor feedback s fresh) in (λ i. own_frame (sound.motor_id i) (sound.feedback_id i)) ∙ own_here

  holds_last : (place : Place) → held (session_after s cs) place ≡ last_taken (own_frame motor feedback) place Empty (events s cs)
  holds_last place = list_held s.head cs s (fresh_sound motor feedback s fresh) place ∙ λ i. last_taken (own_here i) place (fresh_holds motor feedback s fresh place i) (events s cs)

  sees_taken : held (session_after s cs) ≡ seen_after (own_frame motor feedback) nothing (events s cs)
  sees_taken = λ i place. holds_last place i

  takes_own : (before later : List Event) (v : Event) (f : CanFrame) (t : Instant) → events s cs ≡ before ++ (v ∷ later) → v.call ≡ Call.Frame f t → v.returned ≡ Returned.Frame (Ok tt) → own_frame motor feedback f ≡ true
  takes_own before later v f t e call taken = sym (λ i. own_here i f) ∙ list_takes_own s.head f t later cs s (fresh_sound motor feedback s fresh) before v e call taken

-- ---- what a turn sees

module _ (own : CanFrame → Bool) (s₀ : Session) (before : List Call) (start : Start) where
  abbrev s : Session
  s = session_after s₀ before

  abbrev s' : Session
  s' = (step s (Call.Start start)).session

  -- a start brings nothing
  taken_upto : (bs : List Call) (place : Place) → last_taken own place (last_taken own place Empty (events s₀ before)) (events s' bs) ≡ last_taken own place Empty (events s₀ (before ++ (Call.Start start ∷ bs)))
  unfolding events last_taken brings
  taken_upto bs place =
      sym (places_joined own place Empty (events s₀ before) (events s (Call.Start start ∷ bs)))
      ∙ ap (last_taken own place Empty) (sym (events_joined s₀ before (Call.Start start ∷ bs)))

  turn_sees : (after : List Call) (earlier : List Turn) (t : Turn) (call : IsCall own s' (seen_after own nothing (events s₀ before)) after earlier t) (place : Place) (value : RegisterValue) (stamp : Instant)
      → t.sees place ≡ Held value stamp → Taken own place value stamp (events s₀ (before ++ (Call.Start start ∷ call.before)))
  turn_sees after earlier t call place value stamp holds = origin own (events s₀ (before ++ (Call.Start start ∷ call.before))) place value stamp (sym (taken_upto call.before place) ∙ sym (call.saw place) ∙ holds)

-- ---- runs

same_told : (t w : Answered) → Returned.Run t ≡ Returned.Run w → t ≡ w
same_told t w e = cc

module _ (s : Session) (sound : Sound s.head s) (b : Start) (after : List Call) where
  -- of what a start came to
  abbrev Starts : AfterCall → Type 0
  Starts r =
      (w : Answered) → Returned.Run r.told ≡ Returned.Run w → Accepted w
      → OfRun s b (record { told = w; wants = open_want r.session.run }) (turns_after (own_of s.head) w (held s) (events r.session after)) (session_after r.session after)

  refused_start : (k : Refusal) → Starts (record { session = s; told = Err k })
  unfolding Accepted
  refused_start k w e accepted = absurd (subst Accepted (sym (same_told (Err k) w e)) accepted)

  module _ (m : Machine) (opens : machine_of b ≡ Ok m) where
    abbrev began : AfterCall
    began = with_opened s (Ok m)

    began_sound : Sound s.head began.session
    began_sound = record { motor_id = refl; feedback_id = refl; limits = refl; replies = sound.replies; acks = sound.acks; last = sound.last }

    -- its turns are its steps, and so its result is theirs
    of_run : OfRun s b (record { told = began.told; wants = Some (machine_want m) }) (turns_after (own_of s.head) began.told (held s) (events began.session after)) (session_after began.session after)
    unfolding turns_after result_in
    of_run =
        let end = session_after began.session after in
        let ts = turns (own_of s.head) (held s) (events began.session after) in
        let steps = ran s.head after began.session m refl began_sound in
        record {
          machine = m;
          opened = opens;
          wants = refl;
          steps = steps;
          alone = record {
            answerable = λ e. answered s.head end (still_open s.head end ts m s.head.last steps e);
            refuses = λ e. refuses s.head end (still_open s.head end ts m s.head.last steps e);
            closes = λ r e. closed_after s.head end ts m s.head.last _ r steps e;
          };
          as_wanted = as_wanted s.head end ts m s.head.last steps;
          within = at_most s.head end ts m s.head.last steps;
        }

    accepted_start : Starts began
    accepted_start w e accepted =
        subst (λ (w : Answered). OfRun s b (record { told = w; wants = Some (machine_want m) }) (turns_after (own_of s.head) w (held s) (events began.session after)) (session_after began.session after)) (same_told began.told w e) of_run

  any_start : Starts (begin s b)
  any_start = start_cases s b Starts refused_start (λ m c e. accepted_start m e)

-- the ids and limits of a session in the list are its own
own_sound : (h : Head) (s : Session) → Sound h s → Sound s.head s
own_sound h s sound = record { motor_id = refl; feedback_id = refl; limits = refl; replies = sound.replies; acks = sound.acks; last = sound.last }

pub laws : Laws
unfolding step
laws = record {
  starts = λ s b. refl;
  answers = λ s a. refl;
  frames = λ s f reading. refl;
  patches = λ s status mos rotor. refl;
  refusals = refused_leaves;
  leaves = leaves;
  sessions_joined = sessions_joined;
  events_joined = events_joined;
  places_joined = places_joined;
  turns_joined = λ own sees us vs. turns_joined own us vs sees;
  turns_over = λ own sees us vs. turns_over own us vs sees;
  counts_joined = counts_joined;
  takes_own = takes_own;
  holds_last = holds_last;
  origin = origin;
  turn_calls = λ own s sees cs earlier t later. turn_calls own t later cs s sees earlier;
  turn_sees = turn_sees;
  readings = λ s cs. readings cs s;
  bounded = λ motor feedback s fresh cs.
      let sound = fresh_sound motor feedback s fresh in
      let stamped = (list_stamps s.head cs s sound (fresh_stamped motor feedback s fresh)).1 in
      ((list_sound s.head cs s sound).last, stamped.at_place, stamped.latest);
  stamps = λ motor feedback s fresh bs cs.
      let sound = fresh_sound motor feedback s fresh in
      let there = list_stamps s.head bs s sound (fresh_stamped motor feedback s fresh) in
      let grows = (list_stamps s.head cs (session_after s bs) (list_sound s.head bs s sound) there.1).0 in
      subst (λ (x : Session). ((place : Place) → stamp_of (held (session_after s bs) place) ≤ stamp_of (held x place)) × (record_stamp (session_after s bs).head.feedback.latest ≤ record_stamp x.head.feedback.latest)) (sym (sessions_joined s bs cs))
      (grows.at_place, grows.latest);
  runs = λ motor feedback s₀ fresh before b after w e accepted.
      let s = session_after s₀ before in
      let sound = own_sound s₀.head s (list_sound s₀.head before s₀ (fresh_sound motor feedback s₀ fresh)) in
      let r = begin s b in
      let first : Gave = record { told = w; wants = open_want r.session.run } in
      subst (λ (own : CanFrame → Bool). OfRun s b first (turns_after own w (seen_after (own_frame motor feedback) nothing (events s₀ before)) (events r.session after)) (session_after r.session after)) (own_there motor feedback s₀ fresh before)
      (subst (λ (sees : Sees). OfRun s b first (turns_after (own_of s.head) w sees (events r.session after)) (session_after r.session after)) (sees_taken motor feedback s₀ fresh before)
      (any_start s sound b after w e accepted));
}
