-- A run's turns as a list of answers to its definition: what they gave is what that wants, in the same order. Assumes nothing.
use Rattle.std.specs.Prelude.{None, Option, Some, Ok}
use Prim.Native.Nat.{ℕ, suc, ◌+◌, ◌≤◌, ◌<◌}
use mathlib.Core.Path.{◌≡◌, refl, sym, ap, ◌∙◌, subst}
use mathlib.Core.Bool.{Bool, true, false}
use mathlib.Core.List.{List, [], ◌∷◌}
use native.Mathlib.Omega.{arith}
use borrow.Author.Tests.{leb-true, leb-false}
use lib.Dec.{leb}
use lib.ListN.{length}
use Rattle.std.specs.declared.ops.ControlFlow.TheVariants.{Continue}
use Rattle.time.specs.declared.Instant.{Instant}
use Rattle.state_cache.specs.declared.Entry.{Entry}
use Rattle.state_feedback.specs.declared.FeedbackSnapshot.{FeedbackSnapshot}
use Rattle.run_want.specs.Step.{Stepped}
use Rattle.run_want.specs.declared.Answer.{Answer}
use Rattle.run_want.specs.declared.Want.{Want}
use Rattle.run_want.specs.declared.Want.TheVariants.{Clock, Send, Sleep}
use Rattle.run_want.specs.declared.message.Message.{Message}
use Rattle.run_machine.specs.Machine.{RunResult, machine_want, machine_place}
use Rattle.run_machine.specs.declared.Machine.{Machine}
use Rattle.run_machine.specs.declared.Outcome.{Outcome}
use Rattle.run_step.specs.Step.{machine_step}
use Rattle.session.specs.declared.Head.{Head}
use Rattle.session.specs.declared.Session.{Session}
use Rattle.session_step.specs.Parts.{caller_want, with_reading}
use Rattle.session_step.specs.declared.Told.TheVariants as Told
use Rattle.law_runs.specs.Bounds.{Within}
use Rattle.law_runs.specs.Clock.{known_after, AllFine, Clock as Known, unheard, Moved, moving, Moving}
use Rattle.law_runs.specs.Systems.{phase_of, running}
use Rattle.law_runs.specs.Trace.{Given, Label, label, counted, one_sleep, wants_from, after}
use Rattle.law_runs.specs.Trace as Trace
use Rattle.law_calls.specs.Laws.{AsWanted, AtMost}
use Rattle.law_calls.specs.Ran.{looked_at, gives, gives_result, Took, next, Ran}
use Rattle.law_calls.specs.Turns.{Gave, Turn, gaves, once, count, a_want, send_to, is_sleep, a_send, a_sleep, wants_send, wants_sleep, any, result_in, result_of, reading_or, next_reading, AllMove}
use Rattle.law_calls.proofs.Ended.{want_on, end_of}
use Rattle.std.proofs.lemmas.Option.{none-some}
use Rattle.law_calls.proofs.Moving.{Behind, Pending, Goes_on, goes_on}
use Rattle.law_calls.proofs.Ran.{onward_cases}

-- `Of` is what holds of the run's machine in each of its phases
module _ (h : Head) (Of : Machine → Type 0) (stays : (latest : Option FeedbackSnapshot) (e : Entry) (m : Machine) (a : Answer) (q : Machine) → Of m → machine_step latest e m a ≡ Ok (Continue q) → Of q) where
  pub record Traced (m : Machine) (l : Instant) (ts : List Turn) : Type 0 where
    pub gs : List Given
    pub as_many : length gs ≡ length ts
    pub counts : (f : Gave → Bool) (w : Want Message → ℕ) → ((q : Machine) → Of q → once (f (gives h q)) ≡ w (machine_want q)) → ((r : RunResult) → f (gives_result h r) ≡ false)
        → count f (gives h m ∷ gaves ts) ≡ Trace.total w (wants_from running gs (Some m))
    pub ended : after running gs (Some m) ≡ None → (r : RunResult) × (result_of ts ≡ Some r)
    pub moves : (k : Known) → Behind k.last l → Pending k (next_reading ts) → AllMove k.last (gives h m).told ts → Moving running gs k (Some m)

  module _ (end : Session) (m : Machine) (l : Instant) (of : Of m) where
    none_yet : Traced m l []
    unfolding gaves count Trace.total wants_from after AllFine
    none_yet = record {
      gs = [];
      as_many = refl;
      counts = λ f w same never. ap (λ (n : ℕ). n + 0) (same m of);
      ended = λ e. absurd (none-some _ (sym e));
      moves = λ k b pending move. tt;
    }

    module _ (t : Turn) (ts : List Turn) (k : Took h m l t) where
      abbrev given : Given
      given = record { answer = t.answer; latest = t.latest; entry = looked_at t.sees (machine_place m) }

      fine_on : (k' : Known) → Behind k'.last l → Pending k' (next_reading (t ∷ ts)) → AllMove k'.last (gives h m).told (t ∷ ts) → Goes_on (machine_want m) t.answer k' k.head (next_reading ts)
      unfolding next_reading AllMove
      fine_on k' b pending move = goes_on h k' l k.head k.since b (next_reading ts) (machine_want m) t.answer k.fit k.accepted pending move.0

      goes : (q : Machine) → next m t ≡ Ok (Continue q) → t.gave ≡ gives h q → Traced q (with_reading k.head t.answer).last ts → Traced m l (t ∷ ts)
      unfolding gaves count Trace.total wants_from after AllFine result_of AllMove
      goes q e gave rest = record {
        gs = given ∷ rest.gs;
        as_many = ap suc rest.as_many;
        counts = λ f w same never.
            (λ i. same m of i + (ap (λ (g : Gave). count f (g ∷ gaves ts)) gave ∙ rest.counts f w same never) i)
            ∙ sym (ap (λ (x : Stepped Machine Outcome). w (machine_want m) + Trace.total w (wants_from running rest.gs (phase_of x))) e);
        ended = λ done.
            let r = rest.ended (sym (ap (λ (x : Stepped Machine Outcome). after running rest.gs (phase_of x)) e) ∙ done) in
            (r.0, want_on h t ts q gave ∙ r.1);
        moves = λ k' b pending move.
            let on = fine_on k' b pending move in
            let k'' = known_after moving (machine_want m) t.answer k' in (
              on.is_fine,
              subst (λ (x : Stepped Machine Outcome). Moving running rest.gs k'' (phase_of x)) (sym e)
                  (rest.moves k'' on.behind on.pending
                  (subst (λ (o : Option Instant). AllMove o (gives h q).told ts) (sym on.read) (subst (λ (g : Gave). AllMove (reading_or t.answer k'.last) g.told ts) gave move.1))),
            );
      }

      ends : (r : RunResult) → phase_of (next m t) ≡ None → t.gave ≡ gives_result h r → ts ≡ [] → Traced m l (t ∷ ts)
      unfolding gaves count Trace.total wants_from after AllFine result_of result_in
      ends r e gave stop = record {
        gs = given ∷ [];
        as_many = ap (λ (ts : List Turn). suc (length ts)) (sym stop);
        counts = λ f w same never.
            (λ i. same m of i + (ap (λ (ts : List Turn). count f (t.gave ∷ gaves ts)) stop ∙ ap (λ (g : Gave). once (f g) + 0) gave ∙ ap (λ (b : Bool). once b + 0) (never r)) i)
            ∙ sym (ap (λ (x : Option Machine). w (machine_want m) + Trace.total w (wants_from running [] x)) e);
        ended = λ done. (r, end_of h t ts r gave);
        moves = λ k' b pending move. ((fine_on k' b pending move).is_fine, tt);
      }

  pub traced : (end : Session) (ts : List Turn) (m : Machine) (l : Instant) → Of m → Ran h end m l ts → Traced m l ts
  unfolding Ran
  traced end [] m l of ran = none_yet end m l of
  traced end (t ∷ ts) m l of (k, on) =
      onward_cases h (λ q. Ran h end q (with_reading k.head t.answer).last ts) t ts (next m t) on
      (λ q x gave ran. goes end m l of t ts k q x gave (traced end ts q (with_reading k.head t.answer).last (stays _ _ m t.answer q of x) ran))
      (λ r x gave stop. ends end m l of t ts k r x gave stop)

-- ---- what holds of a run's definition holds of its turns

module _ (h : Head) where
  pub sends_count : (w : Want Message) → once (a_send (Ok (Told.Want (caller_want h w)))) ≡ counted 0 (λ command. 1) 0 w
  unfolding a_want send_to
  sends_count Clock = refl
  sends_count (Send message) = refl
  sends_count (Sleep length) = refl

  pub sleeps_count : (w : Want Message) → once (a_sleep (Ok (Told.Want (caller_want h w)))) ≡ one_sleep w
  unfolding a_want is_sleep
  sleeps_count Clock = refl
  sleeps_count (Send message) = refl
  sleeps_count (Sleep length) = refl

  -- a want that is a send of such a message, by the weight of its command
  pub message_weight : (of : Message → Bool) (heavy : Label → ℕ) → ((m : Message) → once (of m) ≡ heavy (label m)) → (w : Want Message) → once (wants_send of (Some w)) ≡ counted 0 heavy 0 w
  unfolding wants_send
  message_weight of heavy weighs Clock = refl
  message_weight of heavy weighs (Send message) = weighs message
  message_weight of heavy weighs (Sleep length) = refl

  sends_weight : (w : Want Message) → once (wants_send any (Some w)) ≡ counted 0 (λ command. 1) 0 w
  unfolding any
  sends_weight = message_weight any (λ command. 1) (λ m. refl)

  sleeps_weight : (w : Want Message) → once (wants_sleep (Some w)) ≡ one_sleep w
  unfolding wants_sleep
  sleeps_weight Clock = refl
  sleeps_weight (Send message) = refl
  sleeps_weight (Sleep length) = refl

  module _ (end : Session) (ts : List Turn) (m : Machine) (l : Instant) (steps : Ran h end m l ts) where
    trace : Traced h (λ q. Unit {0}) (λ latest e m a q of x. tt) m l ts
    trace = traced h (λ q. Unit {0}) (λ latest e m a q of x. tt) end ts m l tt steps

    all_move : AllMove None (gives h m).told ts → Moving running trace.gs unheard (Some m)
    unfolding Moved
    all_move move = trace.moves unheard tt (λ r t e n. tt) move

    -- counted in what was returned
    sends_told : count (λ g. a_send g.told) (gives h m ∷ gaves ts) ≡ Trace.total (counted 0 (λ command. 1) 0) (wants_from running trace.gs (Some m))
    unfolding a_want send_to
    sends_told = trace.counts (λ g. a_send g.told) (counted 0 (λ command. 1) 0) (λ q of. sends_count (machine_want q)) (λ r. refl)

    sleeps_told : count (λ g. a_sleep g.told) (gives h m ∷ gaves ts) ≡ Trace.total one_sleep (wants_from running trace.gs (Some m))
    unfolding a_want is_sleep
    sleeps_told = trace.counts (λ g. a_sleep g.told) one_sleep (λ q of. sleeps_count (machine_want q)) (λ r. refl)

    -- and in what the definition wants
    pub as_wanted : AsWanted (gives h m) ts
    unfolding wants_send wants_sleep
    as_wanted = record {
      sends = sends_told ∙ sym (trace.counts (λ g. wants_send any g.wants) (counted 0 (λ command. 1) 0) (λ q of. sends_weight (machine_want q)) (λ r. refl));
      sleeps = sleeps_told ∙ sym (trace.counts (λ g. wants_sleep g.wants) one_sleep (λ q of. sleeps_weight (machine_want q)) (λ r. refl));
    }

    pub at_most : (sends : (Label → ℕ) → ℕ) (sleeps answers : ℕ) → Within m sends sleeps answers → AtMost (gives h m) ts (sends (λ command. 1)) sleeps answers
    unfolding result_in
    at_most sends sleeps answers within = record {
      sends = omega (arith, sends_told, within.sends_at_most (λ command. 1) trace.gs);
      sleeps = λ move. omega (arith, sleeps_told, within.sleeps_at_most trace.gs (all_move move));
      ends = λ move unfinished. go move unfinished (leb answers (length ts)) refl;
    }
      where
        go : AllMove None (gives h m).told ts → result_of ts ≡ None → (b : Bool) → leb answers (length ts) ≡ b → length ts < answers
        go move unfinished false few = leb-false answers (length ts) few
        go move unfinished true many =
            let over = within.ends_after trace.gs (all_move move) (subst (λ (n : ℕ). answers ≤ n) (sym trace.as_many) (leb-true answers (length ts) many)) in
            absurd (none-some _ (sym unfinished ∙ (trace.ended over).1))
