-- How every run goes: each of its turns is one step of its machine. Assumes nothing.
use Rattle.std.specs.Prelude.{None, Option, Some, Ok, Err}
use Prim.Native.Nat.{◌≤◌}
use mathlib.Core.Path.{◌≡◌, refl, sym, ap, ◌∙◌, subst}
use mathlib.Core.Bool.{true}
use mathlib.Core.List.{List, [], ◌∷◌}
use native.Mathlib.Nat.{le_refl}
use native.Mathlib.Omega.{arith}
use Rattle.protocol_frame.specs.Command.{command}
use Rattle.std.specs.declared.ops.ControlFlow.TheVariants.{Continue, Break}
use Rattle.time.specs.declared.Instant.{Instant}
use Rattle.state_cache.specs.declared.Entry.{Entry}
use Rattle.state_cache.specs.declared.Place.{Place}
use Rattle.run_want.specs.Message.{message_id, message_data}
use Rattle.run_want.specs.Step.{Stepped}
use Rattle.run_want.specs.Want.{fits}
use Rattle.run_want.specs.declared.Answer.{Answer}
use Rattle.run_want.specs.declared.Want.{Want}
use Rattle.run_want.specs.declared.Want.TheVariants.{Clock, Send, Sleep}
use Rattle.run_want.specs.declared.Want.TheVariants as Wanted
use Rattle.run_want.specs.declared.message.Message.{Message}
use Rattle.run_machine.specs.Machine.{RunResult, machine_want, machine_place}
use Rattle.run_machine.specs.declared.Machine.{Machine}
use Rattle.run_machine.specs.declared.Outcome.{Outcome}
use Rattle.run_step.specs.Step.{machine_step}
use Rattle.session.proofs.Patching.{left}
use Rattle.session.specs.declared.Head.{Head}
use Rattle.session.specs.declared.Session.{Session}
use Rattle.session_frame.proofs.Effects as Frame
use Rattle.session_step.specs.Parts.{Wanted, caller_want, answer_accepted, with_reading, stepped}
use Rattle.session_step.specs.declared.Told.TheVariants as Told
use Rattle.session_answer.proofs.Effects.{entry, answer_cases, answer_taken}
use Rattle.session_answer.specs.Answer.{AfterCall, entry_at, run_place, with_step, answer_run}
use Rattle.session_begin.specs.Begin.{start_step, with_opened, begin}
use Rattle.motor_core.specs.declared.error.Refusal.TheVariants.{RunOpen}
use Rattle.session_begin.specs.declared.Start.{Start}
use Rattle.session_call.specs.Step.{step}
use Rattle.session_call.specs.declared.Call.{Call}
use Rattle.law_runs.specs.Systems.{phase_of}
use Rattle.law_calls.specs.Calls.{open_want, event, events, session_after}
use Rattle.law_calls.specs.Laws.{held}
use Rattle.law_calls.specs.Places.{brings, Sees, seen_with}
use Rattle.law_calls.specs.Ran.{looked_at, gives, gives_result, Took, next, Onward, Ran}
use Rattle.law_calls.specs.Turns.{Gave, Turn, turn_in, turn_of, add_turn, turns}
use Rattle.law_calls.proofs.Readings.{step_goes_on}
use Rattle.law_calls.proofs.Sessions.{own_of, Sound, step_sound, step_held, answer_sound}

-- told by the motor id and the limits alone
same_told : (h k : Head) (w : Want Message) → h.motor_id ≡ k.motor_id → h.limits ≡ k.limits → caller_want h w ≡ caller_want k w
same_told h k Clock m l = refl
same_told h k (Send message) m l = λ i. Wanted.Send (command (message_id (m i) message) (message_data (m i) (l i) message))
same_told h k (Sleep length) m l = refl

-- a start changes nothing while a run is open
pub start_waits : (s : Session) (b : Start) (m : Machine) → s.run ≡ Some m → begin s b ≡ with_opened s (Err RunOpen)
start_waits s b m o = ap (λ (run : Option Machine). with_opened s (start_step run b)) o

module _ (h : Head) where
  -- by what a step came to
  pub onward_cases : {P : Type 0} (R : Machine → Type 0) (t : Turn) (ts : List Turn) (x : Stepped Machine Outcome) → Onward h R x t ts
      → ((q : Machine) → x ≡ Ok (Continue q) → t.gave ≡ gives h q → R q → P)
      → ((r : RunResult) → phase_of x ≡ None → t.gave ≡ gives_result h r → ts ≡ [] → P) → P
  onward_cases R t ts (Ok (Continue q)) (gave, rest) goes ends = goes q refl gave rest
  onward_cases R t ts (Ok (Break outcome)) (gave, stop) goes ends = ends (Ok outcome) refl gave stop
  onward_cases R t ts (Err failure) (gave, stop) goes ends = ends (Err failure) refl gave stop

  -- a turn by its step
  by_step : (end : Session) (m : Machine) (l : Instant) (t : Turn) (ts : List Turn) (k : Took h m l t) (x : Stepped Machine Outcome) → next m t ≡ x → Onward h (λ q. Ran h end q (with_reading k.head t.answer).last ts) x t ts → Ran h end m l (t ∷ ts)
  unfolding Ran
  by_step end m l t ts k x e on = (k, subst (λ (y : Stepped Machine Outcome). Onward h (λ q. Ran h end q (with_reading k.head t.answer).last ts) y t ts) (sym e) on)

  -- from an earlier reading on
  earlier : (end : Session) (m : Machine) (l l' : Instant) (ts : List Turn) → l.0 ≤ l'.0 → Ran h end m l' ts → Ran h end m l ts
  unfolding Ran
  earlier end m l l' [] before r = r
  earlier end m l l' (t ∷ ts) before (k, on) = (record { head = k.head; since = omega (arith, k.since); fit = k.fit; accepted = k.accepted }, on)

  -- ---- over a list of calls

  abbrev Holds : List Call → Type 0
  Holds cs = (s : Session) (m : Machine) → s.run ≡ Some m → Sound h s → Ran h (session_after s cs) m s.head.last (turns (own_of h) (held s) (events s cs))

  abbrev machine_or : Machine → Option Machine → Machine
  machine_or m None = m
  machine_or m (Some n) = n

  module _ (cs : List Call) (rest : Holds cs) (s : Session) (m : Machine) (o : s.run ≡ Some m) (sound : Sound h s) where
    -- a call that leaves the run is no turn of it
    passes : (c : Call) → (step s c).session.run ≡ s.run → let s' = (step s c).session in Ran h (session_after s' cs) m s.head.last (turns (own_of h) (seen_with (own_of h) (held s) (event s c)) (events s' cs))
    passes c run =
        let s' = (step s c).session in
        earlier (session_after s' cs) m s.head.last s'.head.last _ (step_goes_on s c)
        (subst (λ (sees : Sees). Ran h (session_after s' cs) m s'.head.last (turns (own_of h) sees (events s' cs))) (λ i place. step_held h s c sound place i)
        (rest s' m (run ∙ o) (step_sound h s c sound)))

    -- of what an answer came to
    abbrev Came : Answer → AfterCall → Type 0
    Came a r = Ran h (session_after r.session cs) m s.head.last (turn_in a (held s) s.head.feedback.latest (open_want r.session.run) r.told (turns (own_of h) (held s) (events r.session cs)))

    -- an answer that is taken
    module _ (a : Answer) (accepted : answer_accepted s.head.last a ≡ true) (fit : fits (machine_want m) a ≡ true) where
      abbrev came_to : Stepped Machine Outcome → AfterCall
      came_to x = with_step s (Ok (stepped (with_reading s.head a) x))

      abbrev turn_with : Gave → Turn
      turn_with g = record { answer = a; sees = held s; latest = s.head.feedback.latest; gave = g }

      abbrev took : (g : Gave) → Took h m s.head.last (turn_with g)
      took g = record { head = s.head; since = le_refl _; fit = fit; accepted = accepted }

      after_sound : (x : Stepped Machine Outcome) → machine_step s.head.feedback.latest (entry s) m a ≡ x → Sound h (came_to x).session
      after_sound x e = subst (λ (r : AfterCall). Sound h r.session) (answer_taken s a m o fit accepted ∙ ap came_to e) (answer_sound h s sound a)

      -- what the machine looks at
      looks : entry s ≡ looked_at (held s) (machine_place m)
      looks = ap (λ (x : Option Machine). entry_at s.replies s.acks (run_place x)) o ∙ go (machine_place m)
        where
          go : (p : Option Place) → entry_at s.replies s.acks p ≡ looked_at (held s) p
          go None = refl
          go (Some place) = refl

      as_seen : machine_step s.head.feedback.latest (looked_at (held s) (machine_place m)) m a ≡ machine_step s.head.feedback.latest (entry s) m a
      as_seen = ap (λ (e : Entry). machine_step s.head.feedback.latest e m a) (sym looks)

      taken_ran : (x : Stepped Machine Outcome) → machine_step s.head.feedback.latest (entry s) m a ≡ x → Came a (came_to x)
      unfolding turn_in
      taken_ran (Ok (Continue q)) e =
          let r = came_to (Ok (Continue q)) in
          let k = after_sound (Ok (Continue q)) e in
          by_step (session_after r.session cs) m s.head.last (turn_with _) _ (took _) (Ok (Continue q)) (as_seen ∙ e)
          (ap (λ (w : Wanted). record { told = Ok (Told.Want w); wants = Some (machine_want q) }) (same_told r.session.head h (machine_want q) k.motor_id k.limits), rest r.session q refl k)
      taken_ran (Ok (Break outcome)) e = by_step (session_after (came_to (Ok (Break outcome))).session cs) m s.head.last (turn_with (gives_result h (Ok outcome))) [] (took _) (Ok (Break outcome)) (as_seen ∙ e) (refl, refl)
      taken_ran (Err f) e = by_step (session_after (came_to (Err f)).session cs) m s.head.last (turn_with (gives_result h (Err f))) [] (took _) (Err f) (as_seen ∙ e) (refl, refl)

    answer_ran : (a : Answer) → Came a (answer_run s a)
    unfolding turn_in
    answer_ran a =
        answer_cases s a (Came a) (λ n. rest s m o sound)
        (λ m' o' f e. subst (λ (m : Machine). fits (machine_want m) a ≡ true → Came a (with_step s (Ok (stepped (with_reading s.head a) (machine_step s.head.feedback.latest (entry s) m a))))) (ap (machine_or m) (sym o ∙ o')) (λ fit. taken_ran a e fit (machine_step s.head.feedback.latest (entry s) m a) refl) f)

  pub ran : (cs : List Call) → Holds cs
  unfolding Ran events turns session_after add_turn turn_of step brings
  ran [] s m o sound = (o, sound.last)
  ran (Call.Start b ∷ cs) s m o sound = passes cs (ran cs) s m o sound (Call.Start b) (ap (λ (r : AfterCall). r.session.run) (start_waits s b m o))
  ran (Call.Answer a ∷ cs) s m o sound = answer_ran cs (ran cs) s m o sound a
  ran (Call.Frame f t ∷ cs) s m o sound = passes cs (ran cs) s m o sound (Call.Frame f t) (Frame.left s f t).run
  ran (Call.Patch status mos rotor ∷ cs) s m o sound = passes cs (ran cs) s m o sound (Call.Patch status mos rotor) (left s status mos rotor).run
