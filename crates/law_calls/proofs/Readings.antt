-- Accepted readings never fall along a list, and neither do stamps. Assumes nothing.
use Rattle.std.specs.Prelude.{None, Option, Some, Ok, Err}
use Prim.Native.Nat.{ℕ, ◌≤◌}
use mathlib.Core.Path.{◌≡◌, refl, sym, ap, ◌∙◌, subst}
use mathlib.Core.Bool.{Bool, true, false, cond}
use mathlib.Core.List.{List, [], ◌∷◌}
use native.Mathlib.Nat.{le_refl}
use native.Mathlib.Omega.{arith}
use Rattle.motor_core.specs.declared.bus.CanFrame.{CanFrame}
use Rattle.time.specs.declared.Instant.{Instant}
use Rattle.time.proofs.Readings.{between}
use Rattle.state_cache.specs.declared.Entry.{Entry}
use Rattle.state_cache.specs.declared.Entry.TheVariants.{Held}
use Rattle.state_cache.specs.declared.Place.{Place}
use Rattle.state_feedback.specs.Feedback.{patched}
use Rattle.state_feedback.specs.declared.FeedbackCache.{FeedbackCache}
use Rattle.state_feedback.specs.declared.FeedbackSnapshot.{FeedbackSnapshot}
use Rattle.state_feedback.specs.declared.MotorFeedbackState.{MotorFeedbackState}
use Rattle.run_want.specs.Step.{Stepped}
use Rattle.run_want.specs.declared.Answer.{Answer}
use Rattle.run_machine.specs.declared.Machine.{Machine}
use Rattle.run_machine.specs.declared.Outcome.{Outcome}
use Rattle.run_step.specs.Step.{machine_step}
use Rattle.std.specs.declared.ops.ControlFlow.TheVariants.{Continue, Break}
use Rattle.session.specs.Session.{patch}
use Rattle.session.specs.declared.Head.{Head}
use Rattle.session.specs.declared.Session.{Session}
use Rattle.session_frame.proofs.Effects as Frame
use Rattle.session_frame.proofs.Outcomes.{taken_reading}
use Rattle.session_frame.proofs.Brought as Brought
use Rattle.session_frame.proofs.Brought.{if_taken, state_taken, record_with, reported}
use Rattle.session_frame.specs.Frame.{FrameOutcome, frame_outcome, take_frame}
use Rattle.session_answer.proofs.Effects.{entry, answer_cases, answer_keeps}
use Rattle.session_answer.specs.Answer.{with_step, answer_run}
use Rattle.session_step.specs.Parts.{answer_accepted, with_reading, stepped}
use Rattle.session_begin.proofs.Effects.{start_keeps, start_last}
use Rattle.session_begin.specs.Begin.{begin}
use Rattle.session_call.specs.Step.{step}
use Rattle.session_call.specs.declared.Call.{Call}
use Rattle.session_call.specs.declared.Returned.TheVariants as Returned
use Rattle.session.proofs.Patching.{left, nothing_patched, record_after_patch}
use Rattle.state_feedback.proofs.Patching.{patch_held}
use Rattle.registers.specs.declared.RegisterValue.{RegisterValue}
use Rattle.law_calls.specs.Calls.{events, session_after}
use Rattle.law_calls.specs.Laws.{held, accepted_by, accepted_reading, Next, last_with, Rising, last_reading, stamp_of, record_stamp}
use Rattle.law_calls.specs.Places.{frame_brings, entry_of, said, replaced, same_place}
use Rattle.std.proofs.lemmas.Option.{none-some}
use Rattle.law_calls.proofs.Sessions.{own_of, Sound, step_sound, start_held, answer_held, frame_held}
use Rattle.law_calls.proofs.Sessions as Sessions

-- ---- one call

-- its reading, if one was accepted, is the session's last, and none below the one before it
abbrev Reads : Session → Option Instant → Session → Type 0
Reads s r after = Next s.head.last r × (after.head.last ≡ last_with s.head.last r)

module _ (s : Session) where
  answer_reads : (a : Answer) → Reads s (accepted_reading (Call.Answer a) (Returned.Run (answer_run s a).told)) (answer_run s a).session
  unfolding accepted_reading accepted_by
  answer_reads (Answer.Reading t) =
      answer_cases s (Answer.Reading t) (λ r. Reads s (accepted_by (Returned.Run r.told) t) r.session) (λ n. (tt, refl))
      (λ m o f e. go (machine_step s.head.feedback.latest (entry s) m (Answer.Reading t)) e)
    where
      go : (x : Stepped Machine Outcome) → answer_accepted s.head.last (Answer.Reading t) ≡ true → let r = with_step s (Ok (stepped (with_reading s.head (Answer.Reading t)) x)) in Reads s (accepted_by (Returned.Run r.told) t) r.session
      go (Ok (Continue m)) e = (between s.head.last t e, refl)
      go (Ok (Break outcome)) e = (between s.head.last t e, refl)
      go (Err failure) e = (between s.head.last t e, refl)
  answer_reads (Answer.Send result) = answer_cases s (Answer.Send result) (λ r. Reads s None r.session) (λ n. (tt, refl)) (λ m o f e. go (machine_step s.head.feedback.latest (entry s) m (Answer.Send result)))
    where
      go : (x : Stepped Machine Outcome) → Reads s None (with_step s (Ok (stepped s.head x))).session
      go (Ok (Continue m)) = (tt, refl)
      go (Ok (Break outcome)) = (tt, refl)
      go (Err failure) = (tt, refl)
  answer_reads Answer.Slept = answer_cases s Answer.Slept (λ r. Reads s None r.session) (λ n. (tt, refl)) (λ m o f e. go (machine_step s.head.feedback.latest (entry s) m Answer.Slept))
    where
      go : (x : Stepped Machine Outcome) → Reads s None (with_step s (Ok (stepped s.head x))).session
      go (Ok (Continue m)) = (tt, refl)
      go (Ok (Break outcome)) = (tt, refl)
      go (Err failure) = (tt, refl)

  frame_reads : (f : CanFrame) (t : Instant) → Reads s (accepted_reading (Call.Frame f t) (Returned.Frame (take_frame s f t).told)) (take_frame s f t).session
  unfolding accepted_reading accepted_by take_frame
  frame_reads f t = go (frame_outcome s.head f t) refl (Frame.last_after_frame s f t)
    where
      go : (o : FrameOutcome) → frame_outcome s.head f t ≡ o → (take_frame s f t).session.head.last ≡ Brought.last_with o t s.head.last → Next s.head.last (accepted_by (Returned.Frame o) t) × ((take_frame s f t).session.head.last ≡ last_with s.head.last (accepted_by (Returned.Frame o) t))
      go (Ok taken) e last = (taken_reading s.head f t e, last)
      go (Err n) e last = (tt, last)

pub step_reads : (s : Session) (c : Call) → Reads s (accepted_reading c (step s c).told) (step s c).session
unfolding step accepted_reading
step_reads s (Call.Start b) = (tt, start_last s b)
step_reads s (Call.Answer a) = answer_reads s a
step_reads s (Call.Frame f t) = frame_reads s f t
step_reads s (Call.Patch status mos rotor) = (tt, (left s status mos rotor).last)

-- so whatever the call, the last reading does not go back
pub step_goes_on : (s : Session) (c : Call) → s.head.last.0 ≤ (step s c).session.head.last.0
step_goes_on s c = go (accepted_reading c (step s c).told) (step_reads s c)
  where
    go : (r : Option Instant) → Reads s r (step s c).session → s.head.last.0 ≤ (step s c).session.head.last.0
    go None (next, last) = subst (λ (l : Instant). s.head.last.0 ≤ l.0) (sym last) (le_refl s.head.last.0)
    go (Some t) (next, last) = subst (λ (l : Instant). s.head.last.0 ≤ l.0) (sym last) next.0

pub readings : (cs : List Call) (s : Session) → Rising s.head.last (events s cs) × ((session_after s cs).head.last ≡ last_reading s.head.last (events s cs))
unfolding events session_after Rising last_reading
readings [] s = (tt, refl)
readings (c ∷ cs) s =
    let here = step_reads s c in
    let rest = readings cs (step s c).session in (
      (here.0, subst (λ (l : Instant). Rising l (events (step s c).session cs)) here.1 rest.0),
      rest.1 ∙ ap (λ (l : Instant). last_reading l (events (step s c).session cs)) here.1,
    )

-- ---- stamps

abbrev latest_stamp : Session → ℕ
latest_stamp s = record_stamp s.head.feedback.latest

-- no stamp is above the last reading
pub record Stamped (s : Session) : Type 0 where
  pub at_place : (place : Place) → stamp_of (held s place) ≤ s.head.last.0
  pub latest : latest_stamp s ≤ s.head.last.0

-- no stamp falls
pub record Grows (s after : Session) : Type 0 where
  pub at_place : (place : Place) → stamp_of (held s place) ≤ stamp_of (held after place)
  pub latest : latest_stamp s ≤ latest_stamp after

module _ (h : Head) (s : Session) (sound : Sound h s) (stamped : Stamped s) where
  abbrev Stamps : Session → Type 0
  Stamps after = Grows s after × Stamped after

  -- what leaves every stamp
  same_stamps : (after : Session) → ((place : Place) → held after place ≡ held s place) → latest_stamp after ≡ latest_stamp s → s.head.last.0 ≤ after.head.last.0 → Stamps after
  same_stamps after places latest last = (
    record { at_place = λ place. omega (arith, ap stamp_of (places place)); latest = omega (arith, latest) },
    record { at_place = λ place. omega (arith, ap stamp_of (places place), stamped.at_place place, last); latest = omega (arith, latest, stamped.latest, last) },
  )

  -- a reading that is accepted stamps what it brings
  new_stamp : (old : Entry) (t : Instant) (place : Place) (x : Option Entry) → ((e : Entry) → x ≡ Some e → stamp_of e ≡ t.0) → stamp_of old ≤ s.head.last.0 → s.head.last.0 ≤ t.0
      → (stamp_of old ≤ stamp_of (replaced old x)) × (stamp_of (replaced old x) ≤ t.0)
  new_stamp old t place None is below forward = (le_refl (stamp_of old), omega arith)
  new_stamp old t place (Some e) is below forward = (omega (arith, is e refl), omega (arith, is e refl))

  -- what a frame brings has its reading
  brought_stamp : (f : CanFrame) (t : Instant) (place : Place) (e : Entry) → frame_brings (own_of h) place f t (Returned.Frame (Ok tt)) ≡ Some e → stamp_of e ≡ t.0
  unfolding frame_brings
  brought_stamp f t place e is = counts (own_of h f) is
    where
      same : (v : RegisterValue) → ◌≡◌ {A = Option Entry} (Some (Held v t)) (Some e) → Held v t ≡ e
      same v is = cc

      go : (x : Option (Place × RegisterValue)) → entry_of place t x ≡ Some e → stamp_of e ≡ t.0
      go None is = absurd (none-some _ is)
      go (Some x) is = at (same_place place x.0) is
        where
          at : (b : Bool) → ◌≡◌ {A = Option Entry} (cond b (Some (Held x.1 t)) None) (Some e) → stamp_of e ≡ t.0
          at true is = ap stamp_of (sym (same x.1 is))
          at false is = absurd (none-some _ is)

      counts : (own : Bool) → cond own (entry_of place t (said f)) None ≡ Some e → stamp_of e ≡ t.0
      counts true is = go (said f) is
      counts false is = absurd (none-some _ is)

  record_stamps : (x : Option MotorFeedbackState) (t : Instant) (cache : FeedbackCache) → record_stamp cache.latest ≤ s.head.last.0 → s.head.last.0 ≤ t.0
      → (record_stamp cache.latest ≤ record_stamp (record_with x t cache).latest) × (record_stamp (record_with x t cache).latest ≤ t.0)
  record_stamps None t cache below forward = (le_refl _, omega arith)
  record_stamps (Some state) t cache below forward = (omega arith, le_refl t.0)

  frame_stamps : (f : CanFrame) (t : Instant) → Stamps (take_frame s f t).session
  frame_stamps f t = go (frame_outcome s.head f t) refl
    where
      go : (o : FrameOutcome) → frame_outcome s.head f t ≡ o → Stamps (take_frame s f t).session
      go (Ok taken) e =
          let after = (take_frame s f t).session in
          let forward = (taken_reading s.head f t e).0 in
          let last : after.head.last ≡ t = Frame.last_after_frame s f t ∙ ap (λ (o : FrameOutcome). Brought.last_with o t s.head.last) e in
          let place_stamps : (place : Place) → (stamp_of (held s place) ≤ stamp_of (held after place)) × (stamp_of (held after place) ≤ after.head.last.0) = λ place.
          let is : held after place ≡ replaced (held s place) (frame_brings (own_of h) place f t (Returned.Frame (Ok tt))) =
          frame_held h s sound f t place ∙ ap (λ (o : FrameOutcome). replaced (held s place) (frame_brings (own_of h) place f t (Returned.Frame o))) (Frame.outcome_of_frame s f t ∙ e) in
          let new = new_stamp (held s place) t place (frame_brings (own_of h) place f t (Returned.Frame (Ok tt))) (brought_stamp f t place) (stamped.at_place place) forward in
          (omega (arith, ap stamp_of is, new.0), omega (arith, ap stamp_of is, new.1, ap (λ (l : Instant). l.0) last)) in
          let of_record = record_stamps (state_taken s.head f t) t s.head.feedback stamped.latest forward in
          let latest = ap (λ (cache : FeedbackCache). record_stamp cache.latest) (Frame.record_after_frame s f t) in (
            record { at_place = λ place. (place_stamps place).0; latest = omega (arith, latest, of_record.0) },
            record { at_place = λ place. (place_stamps place).1; latest = omega (arith, latest, of_record.1, ap (λ (l : Instant). l.0) last) },
          )
      go (Err n) e = subst Stamps (sym (Frame.turned_back s f t n (Frame.outcome_of_frame s f t ∙ e))) (same_stamps s (λ place. refl) refl (le_refl s.head.last.0))

  patch_stamp : (status mos rotor : ℕ) → latest_stamp (patch s status mos rotor).session ≡ latest_stamp s
  patch_stamp status mos rotor = go s.head.feedback.latest refl
    where
      go : (l : Option FeedbackSnapshot) → s.head.feedback.latest ≡ l → latest_stamp (patch s status mos rotor).session ≡ latest_stamp s
      go None e = ap latest_stamp (nothing_patched s status mos rotor e)
      go (Some r) e = ap (λ (cache : FeedbackCache). record_stamp cache.latest) (record_after_patch s status mos rotor (patched s.head.feedback status mos rotor r) (patch_held s.head.feedback status mos rotor r e)) ∙ sym (ap record_stamp e)

pub step_stamps : (h : Head) (s : Session) (c : Call) → Sound h s → Stamped s → Grows s (step s c).session × Stamped (step s c).session
unfolding step
step_stamps h s (Call.Start b) sound stamped =
    let kept = start_keeps s b in
    same_stamps h s sound stamped (begin s b).session (start_held h s sound b) (ap (λ (cache : FeedbackCache). record_stamp cache.latest) kept.record_kept) (step_goes_on s (Call.Start b))
step_stamps h s (Call.Answer a) sound stamped =
    let kept = answer_keeps s a in
    same_stamps h s sound stamped (answer_run s a).session (answer_held h s sound a) (ap (λ (cache : FeedbackCache). record_stamp cache.latest) kept.record_kept) (step_goes_on s (Call.Answer a))
step_stamps h s (Call.Frame f t) sound stamped = frame_stamps h s sound stamped f t
step_stamps h s (Call.Patch status mos rotor) sound stamped =
    same_stamps h s sound stamped (patch s status mos rotor).session (Sessions.patch_held h s sound status mos rotor) (patch_stamp h s sound stamped status mos rotor) (step_goes_on s (Call.Patch status mos rotor))

pub list_stamps : (h : Head) (cs : List Call) (s : Session) → Sound h s → Stamped s → Grows s (session_after s cs) × Stamped (session_after s cs)
unfolding session_after
list_stamps h [] s sound stamped = (record { at_place = λ place. le_refl _; latest = le_refl _ }, stamped)
list_stamps h (c ∷ cs) s sound stamped =
    let here = step_stamps h s c sound stamped in
    let rest = list_stamps h cs (step s c).session (step_sound h s c sound) here.1 in
    (record { at_place = λ place. omega (arith, here.0.at_place place, rest.0.at_place place); latest = omega (arith, here.0.latest, rest.0.latest) }, rest.1)
