-- What each call does to the record, and what it is after a list of them. Assumes nothing.
use Rattle.std.specs.Prelude.{None, Option, Some, option_map, Ok, Err, filter}
use Prim.Native.Nat.{ℕ}
use mathlib.Core.Path.{◌≡◌, refl, sym, ap, ◌∙◌}
use mathlib.Core.Bool.{Bool, true, false, not, cond, ◌&&◌, true≢false}
use mathlib.Core.List.{List, [], ◌∷◌}
use mathlib.Core.Logic.{◌⊎◌, inl, inr}
use Rattle.std.proofs.lemmas.Option.{none-some}
use Rattle.motor_core.specs.declared.bus.CanFrame.{CanFrame}
use Rattle.motor_core.specs.declared.model.PvTLimits.{PvTLimits}
use Rattle.time.specs.declared.Instant.{Instant}
use Rattle.protocol_address.specs.Address.{own_frame}
use Rattle.protocol_feedback.specs.Feedback.{feedback_of}
use Rattle.protocol_received.specs.Received.{class_of, by_class, received}
use Rattle.protocol_received.specs.declared.FrameClass.{FrameClass}
use Rattle.protocol_received.specs.declared.FrameClass.TheVariants as Class
use Rattle.state_feedback.specs.Feedback.{state_of, update, next_sequence}
use Rattle.state_feedback.specs.declared.FeedbackCache.{FeedbackCache}
use Rattle.state_feedback.specs.declared.FeedbackSnapshot.{FeedbackSnapshot}
use Rattle.session.specs.declared.Session.{Session}
use Rattle.session_frame.specs.Frame.{FrameOutcome, frame_outcome, take_frame}
use Rattle.session_frame.proofs.Brought.{reported, if_taken, record_with}
use Rattle.session_frame.proofs.Effects as Frame
use Rattle.session_frame.proofs.Outcomes.{taken_own}
use Rattle.session_answer.specs.Effects.{Unchanged}
use Rattle.session_call.specs.Step.{step}
use Rattle.session_call.specs.declared.Call.{Call}
use Rattle.session_call.specs.declared.Returned.{Returned}
use Rattle.law_calls.specs.Calls.{Event, event, events, session_after}
use Rattle.law_calls.specs.Laws.{SameMotor, Leaves}
use Rattle.law_calls.proofs.Laws.{laws}
use Rattle.law_own.specs.Own.{is_foreign, is_feedback, own_feedback, hands_in, is_taken, NoFeedbackHandedIn, NoFeedbackTaken, measured, Condition, condition, number, set_by, condition_after, Reported, record_in, patched_by, patched_since}

-- ---- a record and the patches

measures_on : (c : Call) (r : FeedbackSnapshot) → measured (patched_by c r) ≡ measured r
measures_on (Call.Start b) r = refl
measures_on (Call.Answer a) r = refl
measures_on (Call.Frame f t) r = refl
measures_on (Call.Patch status mos rotor) r = refl

conditions_on : (c : Call) (r : FeedbackSnapshot) → condition (patched_by c r) ≡ set_by c (condition r)
conditions_on (Call.Start b) r = refl
conditions_on (Call.Answer a) r = refl
conditions_on (Call.Frame f t) r = refl
conditions_on (Call.Patch status mos rotor) r = refl

number_on : (c : Call) (r : FeedbackSnapshot) → number (patched_by c r) ≡ number r
number_on (Call.Start b) r = refl
number_on (Call.Answer a) r = refl
number_on (Call.Frame f t) r = refl
number_on (Call.Patch status mos rotor) r = refl

measured_since : (vs : List Event) (r : FeedbackSnapshot) → measured (patched_since r vs) ≡ measured r
unfolding patched_since
measured_since [] r = refl
measured_since (v ∷ vs) r = measured_since vs (patched_by v.call r) ∙ measures_on v.call r

conditions_since : (vs : List Event) (r : FeedbackSnapshot) → condition (patched_since r vs) ≡ condition_after (condition r) vs
unfolding patched_since condition_after
conditions_since [] r = refl
conditions_since (v ∷ vs) r = conditions_since vs (patched_by v.call r) ∙ ap (λ (x : Condition). condition_after x vs) (conditions_on v.call r)

number_since : (vs : List Event) (r : FeedbackSnapshot) → number (patched_since r vs) ≡ number r
unfolding patched_since
number_since [] r = refl
number_since (v ∷ vs) r = number_since vs (patched_by v.call r) ∙ number_on v.call r

-- the motor of a session in a list
pub record Motor (motor feedback : ℕ) (l : PvTLimits) (s : Session) : Type 0 where
  pub motor_id : s.head.motor_id ≡ motor
  pub feedback_id : s.head.feedback_id ≡ feedback
  pub limits : s.head.limits ≡ l

module _ (motor feedback : ℕ) (l : PvTLimits) where
  motor_on : (s : Session) (c : Call) → Motor motor feedback l s → Motor motor feedback l (step s c).session
  unfolding Leaves
  motor_on s c m = go c (laws.leaves s c)
    where
      same : (after : Session) → SameMotor s after → Motor motor feedback l after
      same after k = record { motor_id = k.motor_id ∙ m.motor_id; feedback_id = k.feedback_id ∙ m.feedback_id; limits = k.limits ∙ m.limits }

      unchanged : (after : Session) → Unchanged s after → Motor motor feedback l after
      unchanged after k = record { motor_id = k.motor_id ∙ m.motor_id; feedback_id = k.feedback_id ∙ m.feedback_id; limits = k.limits ∙ m.limits }

      go : (c : Call) → Leaves c s (step s c).session → Motor motor feedback l (step s c).session
      go (Call.Start b) k = unchanged _ k.0
      go (Call.Answer a) k = unchanged _ k
      go (Call.Frame f t) k = same _ k.0
      go (Call.Patch status mos rotor) k = same _ k.motor

  -- a frame that is not the motor's leaves the session
  refused : (s : Session) → Motor motor feedback l s → (f : CanFrame) (t : Instant) → own_frame motor feedback f ≡ false → (step s (Call.Frame f t)).session ≡ s
  unfolding step
  refused s m f t foreign = go (frame_outcome s.head f t) refl
    where
      go : (o : FrameOutcome) → frame_outcome s.head f t ≡ o → (take_frame s f t).session ≡ s
      go (Ok taken) e = absurd (true≢false (sym (taken_own s.head f t e) ∙ (λ i. own_frame (m.motor_id i) (m.feedback_id i) f) ∙ foreign))
      go (Err n) e = Frame.turned_back s f t n (Frame.outcome_of_frame s f t ∙ e)

  pub without_foreign : (cs : List Call) (s : Session) → Motor motor feedback l s → session_after s cs ≡ session_after s (filter (λ (c : Call). not (is_foreign motor feedback c)) cs)
  unfolding session_after
  without_foreign [] s m = refl
  without_foreign (Call.Start b ∷ cs) s m = without_foreign cs (step s (Call.Start b)).session (motor_on s (Call.Start b) m)
  without_foreign (Call.Answer a ∷ cs) s m = without_foreign cs (step s (Call.Answer a)).session (motor_on s (Call.Answer a) m)
  without_foreign (Call.Patch status mos rotor ∷ cs) s m = without_foreign cs (step s (Call.Patch status mos rotor)).session (motor_on s (Call.Patch status mos rotor) m)
  without_foreign (Call.Frame f t ∷ cs) s m = go (without_foreign cs (step s (Call.Frame f t)).session (motor_on s (Call.Frame f t) m)) (without_foreign cs s m) (own_frame motor feedback f) refl
    where
      rest : List Call
      rest = filter (λ (c : Call). not (is_foreign motor feedback c)) cs

      go : session_after (step s (Call.Frame f t)).session cs ≡ session_after (step s (Call.Frame f t)).session rest → session_after s cs ≡ session_after s rest
          → (own : Bool) → own_frame motor feedback f ≡ own → session_after (step s (Call.Frame f t)).session cs ≡ session_after s (cond (not (not own)) (Call.Frame f t ∷ rest) rest)
      go taken dropped true e = taken
      go taken dropped false e = ap (λ (x : Session). session_after x cs) (refused s m f t e) ∙ dropped

  -- a call leaves the record, but for a patch, or it is a frame of the motor whose feedback becomes the record
  data Does (s : Session) (c : Call) : Type 0 where
    leaves : (step s c).session.head.feedback.latest ≡ option_map (patched_by c) s.head.feedback.latest → (step s c).session.head.feedback.sequence ≡ s.head.feedback.sequence → (hands_in motor feedback c && is_taken (step s c).told) ≡ false → Does s c
    reports : (f : CanFrame) (t : Instant) → c ≡ Call.Frame f t → (step s c).told ≡ Returned.Frame (Ok tt) → own_feedback motor feedback f ≡ true
        → (step s c).session.head.feedback ≡ update s.head.feedback (state_of f.arbitration_id (feedback_of l f.«data»)) t → Does s c

  option_same : (x : Option FeedbackSnapshot) → x ≡ option_map (λ (r : FeedbackSnapshot). r) x
  option_same None = refl
  option_same (Some r) = refl

  and_false : (b : Bool) → (b && false) ≡ false
  and_false false = refl
  and_false true = refl

  module _ (s : Session) (m : Motor motor feedback l s) (f : CanFrame) (t : Instant) where
    -- its record, by what it answers and what class it is
    became : (o : FrameOutcome) → frame_outcome s.head f t ≡ o → (k : FrameClass) → class_of f.«data» ≡ k → (take_frame s f t).session.head.feedback ≡ record_with (if_taken o (reported f.arbitration_id (by_class k l f.«data»))) t s.head.feedback
    unfolding received
    became o e k is = Frame.record_after_frame s f t ∙ λ i. record_with (if_taken (e i) (reported f.arbitration_id (by_class (is i) (m.limits i) f.«data»))) t s.head.feedback

    stays : (step s (Call.Frame f t)).session.head.feedback ≡ s.head.feedback → (own_feedback motor feedback f && is_taken (step s (Call.Frame f t)).told) ≡ false → Does s (Call.Frame f t)
    stays same none = leaves (ap (λ (cache : FeedbackCache). cache.latest) same ∙ option_same s.head.feedback.latest) (ap (λ (cache : FeedbackCache). cache.sequence) same) none

    frame_does : Does s (Call.Frame f t)
    unfolding step
    frame_does = go (frame_outcome s.head f t) refl
      where
        answers : (o : FrameOutcome) → frame_outcome s.head f t ≡ o → Returned.Frame (take_frame s f t).told ≡ Returned.Frame o
        answers o e = ap Returned.Frame (Frame.outcome_of_frame s f t ∙ e)

        -- what is no feedback is none of the motor's
        other : (k : FrameClass) → class_of f.«data» ≡ k → is_feedback k ≡ false → (own_feedback motor feedback f && is_taken (Returned.Frame (take_frame s f t).told)) ≡ false
        other k is not =
            let none : own_feedback motor feedback f ≡ false = (λ i. own_frame motor feedback f && (ap is_feedback is ∙ not) i) ∙ and_false (own_frame motor feedback f) in
            ap (λ (b : Bool). b && is_taken (Returned.Frame (take_frame s f t).told)) none

        mine : frame_outcome s.head f t ≡ Ok tt → own_frame motor feedback f ≡ true
        mine e = (λ i. own_frame (sym m.motor_id i) (sym m.feedback_id i) f) ∙ taken_own s.head f t e

        by_class_of : frame_outcome s.head f t ≡ Ok tt → (k : FrameClass) → class_of f.«data» ≡ k → Does s (Call.Frame f t)
        by_class_of e Class.Reply is = stays (became (Ok tt) e Class.Reply is) (other Class.Reply is refl)
        by_class_of e Class.Ack is = stays (became (Ok tt) e Class.Ack is) (other Class.Ack is refl)
        by_class_of e Class.Feedback is = reports f t refl (answers (Ok tt) e) (λ i. mine e i && is_feedback (is i)) (became (Ok tt) e Class.Feedback is)

        go : (o : FrameOutcome) → frame_outcome s.head f t ≡ o → Does s (Call.Frame f t)
        go (Ok taken) e = by_class_of e (class_of f.«data») refl
        go (Err n) e = stays (became (Err n) e (class_of f.«data») refl) (ap (λ (r : Returned). own_feedback motor feedback f && is_taken r) (answers (Err n) e) ∙ and_false (own_feedback motor feedback f))

  does : (s : Session) → Motor motor feedback l s → (c : Call) → Does s c
  unfolding Leaves
  does s m c = go c (laws.leaves s c)
    where
      go : (c : Call) → Leaves c s (step s c).session → Does s c
      go (Call.Start b) k = leaves (ap (λ (cache : FeedbackCache). cache.latest) k.0.record_kept ∙ option_same s.head.feedback.latest) (ap (λ (cache : FeedbackCache). cache.sequence) k.0.record_kept) refl
      go (Call.Answer a) k = leaves (ap (λ (cache : FeedbackCache). cache.latest) k.record_kept ∙ option_same s.head.feedback.latest) (ap (λ (cache : FeedbackCache). cache.sequence) k.record_kept) refl
      go (Call.Frame f t) k = frame_does s m f t
      go (Call.Patch status mos rotor) k = leaves k.latest k.sequence refl

  -- ---- over a list

  the_same : (x y : FeedbackSnapshot) → ◌≡◌ {A = Option FeedbackSnapshot} (Some x) (Some y) → x ≡ y
  the_same x y e = cc

  -- it was there before and is patched since, or it came in the list
  record Was (s : Session) (r : FeedbackSnapshot) (vs : List Event) : Type 0 where
    first : FeedbackSnapshot
    there : s.head.feedback.latest ≡ Some first
    is : r ≡ patched_since first vs
    is_last : NoFeedbackTaken motor feedback vs

  Came : Session → FeedbackSnapshot → List Event → Type 0
  Came s r vs = Was s r vs ⊎ Reported motor feedback l r vs

  came : (cs : List Call) (s : Session) → Motor motor feedback l s → (r : FeedbackSnapshot) → (session_after s cs).head.feedback.latest ≡ Some r → Came s r (events s cs)
  unfolding session_after events patched_since NoFeedbackTaken Came
  came [] s m r is = inl record { first = r; there = is; is = refl; is_last = tt }
  came (c ∷ cs) s m r is = go (does s m c) (came cs (step s c).session (motor_on s c m) r is)
    where
      -- a record before the call, by the one after it
      patched : (w : Was (step s c).session r (events (step s c).session cs)) → (step s c).session.head.feedback.latest ≡ option_map (patched_by c) s.head.feedback.latest → (hands_in motor feedback c && is_taken (step s c).told) ≡ false
          → (x : Option FeedbackSnapshot) → s.head.feedback.latest ≡ x → Was s r (event s c ∷ events (step s c).session cs)
      patched w kept none None e = absurd (none-some _ (sym (kept ∙ ap (option_map (patched_by c)) e) ∙ w.there))
      patched w kept none (Some first) e =
          let same : patched_by c first ≡ w.first = the_same (patched_by c first) w.first (sym (kept ∙ ap (option_map (patched_by c)) e) ∙ w.there) in
          record {
            first = first;
            there = e;
            is = w.is ∙ ap (λ (x : FeedbackSnapshot). patched_since x (events (step s c).session cs)) (sym same);
            is_last = (none, w.is_last);
          }

      go : Does s c → Came (step s c).session r (events (step s c).session cs) → Came s r (event s c ∷ events (step s c).session cs)
      go d (inr x) = inr record { before = event s c ∷ x.before; event = x.event; later = x.later; frame = x.frame; reading = x.reading; whole = ap (λ (vs : List Event). event s c ∷ vs) x.whole; call = x.call; taken = x.taken; is_own = x.is_own; is = x.is; measures = x.measures; conditions = x.conditions; is_last = x.is_last }
      go (leaves kept number none) (inl w) = inl (patched w kept none s.head.feedback.latest refl)
      go (reports f t call taken own became) (inl w) =
          let later = events (step s c).session cs in
          let same = the_same _ w.first (sym (ap (λ (cache : FeedbackCache). cache.latest) became) ∙ w.there) in
          let n = next_sequence s.head.feedback.sequence in
          let is : r ≡ patched_since (record_in l f t n) later = w.is ∙ ap (λ (x : FeedbackSnapshot). patched_since x later) (sym same) in
          let its_number : r.sequence ≡ n = ap number is ∙ number_since later (record_in l f t n) in
          inr record {
            before = [];
            event = event s c;
            later = later;
            frame = f;
            reading = t;
            whole = refl;
            call = call;
            taken = taken;
            is_own = own;
            is = is ∙ ap (λ (k : ℕ). patched_since (record_in l f t k) later) (sym its_number);
            measures = ap measured is ∙ measured_since later (record_in l f t n);
            conditions = ap condition is ∙ conditions_since later (record_in l f t n);
            is_last = w.is_last;
          }

  -- with none before, it came in the list
  pub record_came : (cs : List Call) (s : Session) → Motor motor feedback l s → s.head.feedback.latest ≡ None → (r : FeedbackSnapshot) → (session_after s cs).head.feedback.latest ≡ Some r → Reported motor feedback l r (events s cs)
  unfolding Came
  record_came cs s m none r is = go (came cs s m r is)
    where
      go : Came s r (events s cs) → Reported motor feedback l r (events s cs)
      go (inl w) = absurd (none-some _ (sym none ∙ w.there))
      go (inr x) = x

  -- ---- calls that hand no feedback of the motor in

  abbrev Undisturbed : FeedbackCache → FeedbackCache → Type 0
  Undisturbed cache after = (option_map measured after.latest ≡ option_map measured cache.latest) × (option_map number after.latest ≡ option_map number cache.latest) × (after.sequence ≡ cache.sequence)

  map_patched : {A : Type 0} (of : FeedbackSnapshot → A) (c : Call) → ((r : FeedbackSnapshot) → of (patched_by c r) ≡ of r) → (x : Option FeedbackSnapshot) → option_map of (option_map (patched_by c) x) ≡ option_map of x
  map_patched of c same None = refl
  map_patched of c same (Some r) = ap Some (same r)

  pub undisturbed : (cs : List Call) (s : Session) → Motor motor feedback l s → NoFeedbackHandedIn motor feedback cs → Undisturbed s.head.feedback (session_after s cs).head.feedback
  unfolding session_after NoFeedbackHandedIn
  undisturbed [] s m none = (refl, refl, refl)
  undisturbed (c ∷ cs) s m (none, rest) =
      let s' = (step s c).session in
      let here = go (does s m c) in
      let there = undisturbed cs s' (motor_on s c m) rest in
      (there.0 ∙ here.0, there.1 ∙ here.1, there.2 ∙ here.2)
    where
      go : Does s c → Undisturbed s.head.feedback (step s c).session.head.feedback
      go (leaves kept sequence nothing) = (
        ap (option_map measured) kept ∙ map_patched measured c (measures_on c) s.head.feedback.latest,
        ap (option_map number) kept ∙ map_patched number c (number_on c) s.head.feedback.latest,
        sequence,
      )
      go (reports f t call taken own became) = absurd (true≢false (sym own ∙ ap (hands_in motor feedback) (sym call) ∙ none))
