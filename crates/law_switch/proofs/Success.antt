-- A switch is done exactly where a look of its last read of register 10 found the mode. Assumes nothing.
use Rattle.std.specs.Prelude.{None, Option, Some, Result, Ok, Err}
use Prim.Native.Nat.{ℕ, ◌+◌, ◌≤◌}
use mathlib.Core.Path.{◌≡◌, refl, sym, ap, ◌∙◌, subst}
use mathlib.Core.Bool.{Bool, true, true≢false}
use mathlib.Core.Logic.{◌⊎◌, inl, inr}
use mathlib.Core.List.{List, [], ◌∷◌, ◌++◌}
use native.Mathlib.Omega.{arith}
use Rattle.motor_core.specs.Bus.{motor_id_accepted}
use Rattle.time.specs.declared.Instant.{Instant}
use Rattle.time.specs.declared.Duration.{Duration}
use Rattle.registers.specs.declared.RegisterValue.TheVariants.{UInt32}
use Rattle.protocol_hold.specs.Mode.{mode_number}
use Rattle.protocol_hold.specs.declared.ControlMode.{ControlMode}
use Rattle.state_cache.specs.declared.Entry.{Entry}
use Rattle.state_cache.specs.declared.Entry.TheVariants.{Held}
use Rattle.state_cache.specs.declared.Place.TheVariants.{Reply}
use Rattle.run_want.specs.Want.{fits, reading_of, send_outcome}
use Rattle.run_want.specs.declared.Answer.{Answer}
use Rattle.run_want.specs.declared.Failure.{Failure}
use Rattle.run_want.specs.declared.Want.{Want}
use Rattle.run_want.specs.declared.message.Message.{Message}
use Rattle.run_want.specs.declared.Want.TheVariants.{Clock, Send, Sleep}
use Rattle.run_want.specs.declared.message.Message.TheVariants.{ReadRegister}
use Rattle.run_wait.specs.Wait.{poll_interval, wait_want}
use Rattle.run_wait.specs.declared.Wait.{Wait}
use Rattle.run_wait.specs.declared.Wait.TheVariants.{Checking, Napping}
use Rattle.run_wait.specs.declared.ask.Ask.{Ask}
use Rattle.run_wait.specs.declared.ask.Ask.TheVariants.{Opening, Sending, Waiting}
use Rattle.switch_stage.specs.Stage.{mode_value, switch_want, switch_place}
use Rattle.switch_step.specs.Switch.{switch_step}
use Rattle.switch_stage.specs.declared.Switch.{Switch}
use Rattle.switch_stage.specs.declared.Switch.TheVariants.{Starting}
use Rattle.run_machine.specs.Machine.{RunResult}
use Rattle.run_machine.specs.declared.Outcome.TheVariants as Outcome
use Rattle.session.specs.declared.Head.{Head}
use Rattle.session.specs.declared.Session.{Session}
use Rattle.session_step.specs.Parts.{caller_want, with_reading}
use Rattle.session_step.specs.declared.Told.TheVariants as Told
use Rattle.law_runs.specs.Ends.{wait_opening, Look, Since}
use Rattle.run_want.specs.Step.{Stepped}
use Rattle.std.specs.declared.ops.ControlFlow.TheVariants.{Continue, Break}
use Rattle.motor_core.proofs.Turned.{clash}
use Rattle.law_calls.specs.Turns.{Gave, Turn, gaves, once, count, a_send, wants_send, result_of, reading_or, gave_after, reading_after, a_want, send_to}
use Rattle.law_switch.specs.Claim.{wants_mode_read, mode_read, Looks, Found}
use Rattle.law_switch.proofs.ModeReads.{mode_ask, in_read, ask_of, Saw, Entered, Law, switch_law, EndsDone, ends_done, Quiet, WantsSend, StaysQuiet, sending_quiet, stays_quiet, quiet_sleep}
use Rattle.law_switch.proofs.Ran.{machine, gave_want, gave_result, seen, sees_mode, Took, Onward, onward_cases, Ran}
use Rattle.law_switch.proofs.Told.{reads_alike}
use Rattle.law_calls.proofs.Ended.{want_on, end_of}
use Rattle.std.proofs.lemmas.Option.{none-some}

-- an answer of the kind that is wanted
pub clock_read : (r : Option Instant) (a : Answer) → fits Clock a ≡ true → reading_or a r ≡ Some (reading_of a)
unfolding reading_or
clock_read r (Answer.Reading t) f = refl
clock_read r (Answer.Send result) f = absurd (true≢false (sym f))
clock_read r Answer.Slept f = absurd (true≢false (sym f))

is_sent : (a : Answer) (m : Want Message) → fits m a ≡ true → m ≡ Send (ReadRegister 10) → send_outcome a ≡ Ok tt → a ≡ Answer.Send (Ok tt)
is_sent a m f w s = go a (subst (λ (x : Want Message). fits x a ≡ true) w f) s
  where
    never : (x : Failure) → ◌≡◌ {A = Result (Unit {0}) Failure} (Err x) (Ok tt) → ⊥
    never x e = clash (cc)

    go : (a : Answer) → fits (Send (ReadRegister 10)) a ≡ true → send_outcome a ≡ Ok tt → a ≡ Answer.Send (Ok tt)
    go (Answer.Reading t) f s = absurd (true≢false (sym f))
    go (Answer.Send (Ok sent)) f s = refl
    go (Answer.Send (Err error)) f s = absurd (never _ s)
    go Answer.Slept f s = absurd (true≢false (sym f))

is_slept : (a : Answer) (d : Duration) → fits (Sleep d) a ≡ true → a ≡ Answer.Slept
is_slept (Answer.Reading t) d f = absurd (true≢false (sym f))
is_slept (Answer.Send result) d f = absurd (true≢false (sym f))
is_slept Answer.Slept d f = refl

-- ---- of options, results, lists and sums

abbrev or_else : Instant → Option Instant → Instant
or_else i None = i
or_else i (Some o) = o

not_done : (failure : Failure) → ◌≡◌ {A = Option RunResult} (Some (Err failure)) (Some (Ok Outcome.Done)) → ⊥
not_done failure e = subst IsDone (sym e) tt
  where
    done : RunResult → Type 0
    done (Ok outcome) = Unit {0}
    done (Err x) = ⊥

    IsDone : Option RunResult → Type 0
    IsDone None = ⊥
    IsDone (Some r) = done r

abbrev EmptyList : List Turn → Type 0
EmptyList [] = Unit {0}
EmptyList (t ∷ ts) = ⊥

not_empty : (us : List Turn) (look : Turn) (later : List Turn) → us ++ (look ∷ later) ≡ [] → ⊥
not_empty [] look later e = subst EmptyList (sym e) tt
not_empty (u ∷ us) look later e = subst EmptyList (sym e) tt

rest_empty : (before rest : List Turn) → before ++ rest ≡ [] → rest ≡ []
rest_empty [] rest e = e
rest_empty (t ∷ before) rest e = absurd (subst EmptyList (sym e) tt)

first_zero : (a b : ℕ) → a + b ≡ 0 → a ≡ 0
first_zero a b e = omega arith

rest_zero : (a b : ℕ) → a + b ≡ 0 → b ≡ 0
rest_zero a b e = omega arith

module _ (h : Head) (accepted : motor_id_accepted h.motor_id ≡ true) (mode : ControlMode) (timeout : Duration) where
  abbrev motor : ℕ
  motor = h.motor_id

  abbrev number : ℕ
  number = mode_number mode

  abbrev want_of : Switch → Gave
  want_of p = gave_want h mode timeout p

  abbrev Succeeds : Option Instant → Gave → List Turn → Type 0
  Succeeds r g ts = Found motor number r g ts

  -- counted of one turn
  abbrev reads_in : Gave → ℕ
  reads_in g = once (mode_read motor g)

  abbrev sending : Gave → Bool
  sending g = a_send g.told

  abbrev sends_in : Gave → ℕ
  sends_in g = once (sending g)

  -- what a read that is sent wants is a read of register 10
  pub is_read : (p : Switch) (o : Instant) → mode_ask p ≡ Some (Sending o) → mode_read motor (want_of p) ≡ true
  unfolding wants_send wants_mode_read
  is_read p o e = reads_alike h accepted mode p ∙ ap (λ (w : Want Message). wants_send wants_mode_read (Some w)) (in_read mode p (Sending o) e).0

  -- and what it wants in its wait is no send
  no_read : (w : Want Message) (x : Wait) → w ≡ wait_want x → reads_in (record { told = Ok (Told.Want (caller_want h w)); wants = Some w }) ≡ 0
  unfolding a_want send_to wants_send
  no_read w (Checking o) e = ap (λ (w : Want Message). reads_in (record { told = Ok (Told.Want (caller_want h w)); wants = Some w })) e
  no_read w (Napping o) e = ap (λ (w : Want Message). reads_in (record { told = Ok (Told.Want (caller_want h w)); wants = Some w })) e

  no_send : (w : Want Message) (x : Wait) → w ≡ wait_want x → sends_in (record { told = Ok (Told.Want (caller_want h w)); wants = Some w }) ≡ 0
  unfolding a_want send_to
  no_send w (Checking o) e = ap (λ (w : Want Message). sends_in (record { told = Ok (Told.Want (caller_want h w)); wants = Some w })) e
  no_send w (Napping o) e = ap (λ (w : Want Message). sends_in (record { told = Ok (Told.Want (caller_want h w)); wants = Some w })) e

  -- a read that is sent opened with the last reading
  abbrev pub Opened : Option Instant → Switch → Type 0
  Opened r p = (o : Instant) → mode_ask p ≡ Some (Sending o) → r ≡ Some o

  pub opened_on : (p q : Switch) (r : Option Instant) (e : Entry) (a : Answer) → fits (switch_want mode p) a ≡ true → switch_step mode timeout e p a ≡ Ok (Continue q) → Opened (reading_or a r) q
  opened_on p q r e a f goes o is =
      let entered : Entered mode timeout e a (mode_ask p) (Some (Sending o)) = subst (λ (x : Option Ask). Entered mode timeout e a (mode_ask p) x) is (law goes) in
      clock_read r a (subst (λ (w : Want Message). fits w a ≡ true) (in_read mode p Opening entered.0).0 f) ∙ ap Some entered.1
    where
      law : switch_step mode timeout e p a ≡ Ok (Continue q) → Entered mode timeout e a (mode_ask p) (mode_ask q)
      law goes = subst (λ (x : Stepped Switch (Unit {0})). Law mode timeout e a (mode_ask p) x) goes (switch_law mode timeout e a p)

  -- ---- done, so found

  -- in the wait of a read that opened with `o`
  record InWait (o : Instant) (ts : List Turn) : Type 0 where
    waited : List Turn
    look : Turn
    later : List Turn
    stamp : Instant
    whole : ts ≡ waited ++ (look ∷ later)
    silent : count sending (gaves waited) ≡ 0
    last : count (mode_read motor) (gaves (waited ++ (look ∷ later))) ≡ 0
    slept : look.answer ≡ Answer.Slept
    finds : look.sees (Reply 10) ≡ Held (UInt32 number) stamp
    fresh : o.0 ≤ stamp.0

  abbrev Sought : Option Instant → Switch → List Turn → Type 0
  Sought r p ts = Succeeds r (want_of p) ts ⊎ ((w : Wait) × (mode_ask p ≡ Some (Waiting w)) × InWait (wait_opening w) ts)

  extend : (r : Option Instant) (g : Gave) (t : Turn) (ts : List Turn) → Succeeds (reading_or t.answer r) t.gave ts → Succeeds r g (t ∷ ts)
  unfolding gave_after reading_after
  extend r g t ts f = record {
    before = t ∷ f.before;
    waited = f.waited;
    look = f.look;
    later = f.later;
    opening = f.opening;
    stamp = f.stamp;
    whole = ap (λ (ts : List Turn). t ∷ ts) f.whole;
    read = f.read;
    is_last = f.is_last;
    opens = f.opens;
    looks = f.looks;
    finds = f.finds;
    fresh = f.fresh;
  }

  module _ (p : Switch) (l : Instant) (r : Option Instant) (opened : Opened r p) (t : Turn) (ts : List Turn) (k : Took h mode timeout p l t) where
    abbrev next : Stepped Switch (Unit {0})
    next = switch_step mode timeout (seen p t) p t.answer

    law : (x : Stepped Switch (Unit {0})) → next ≡ x → Law mode timeout (seen p t) t.answer (mode_ask p) x
    law x e = subst (λ (x : Stepped Switch (Unit {0})). Law mode timeout (seen p t) t.answer (mode_ask p) x) e (switch_law mode timeout (seen p t) t.answer p)

    -- what comes after, in the wait
    seek_waited : (q : Switch) (w : Wait) → t.gave ≡ want_of q → mode_ask q ≡ Some (Waiting w) → InWait (wait_opening w) ts → (ask : Ask) → mode_ask p ≡ Some ask → Since ask t.answer (wait_opening w) → Sought r p (t ∷ ts)
    unfolding gave_after reading_after gaves count Looks
    seek_waited q w gave is x Opening at since = absurd since
    seek_waited q w gave is x (Sending o) at since =
        inl record {
          before = [];
          waited = t ∷ x.waited;
          look = x.look;
          later = x.later;
          opening = wait_opening w;
          stamp = x.stamp;
          whole = ap (λ (ts : List Turn). t ∷ ts) x.whole;
          read = is_read p o at;
          is_last = λ i. (ap reads_in gave ∙ no_read (switch_want mode q) w (in_read mode q (Waiting w) is).0) i + x.last i;
          opens = opened o at ∙ ap Some since.0;
          looks = (
            is_sent t.answer (switch_want mode p) k.fit (in_read mode p (Sending o) at).0 since.1,
            λ i. (ap sends_in gave ∙ no_send (switch_want mode q) w (in_read mode q (Waiting w) is).0) i + x.silent i,
            x.slept,
          );
          finds = x.finds;
          fresh = omega (arith, x.fresh);
        }
    seek_waited q w gave is x (Waiting w') at since =
        inr (
          w',
          at,
          record {
            waited = t ∷ x.waited;
            look = x.look;
            later = x.later;
            stamp = x.stamp;
            whole = ap (λ (ts : List Turn). t ∷ ts) x.whole;
            silent = λ i. (ap sends_in gave ∙ no_send (switch_want mode q) w (in_read mode q (Waiting w) is).0) i + x.silent i;
            last = λ i. (ap reads_in gave ∙ no_read (switch_want mode q) w (in_read mode q (Waiting w) is).0) i + x.last i;
            slept = x.slept;
            finds = x.finds;
            fresh = subst (λ (o : Instant). o.0 ≤ x.stamp.0) (sym since) x.fresh;
          },
        )

    seek_goes : (q : Switch) → next ≡ Ok (Continue q) → t.gave ≡ want_of q → Sought (reading_or t.answer r) q ts → Sought r p (t ∷ ts)
    seek_goes q e gave (inl f) = inl (extend r (want_of p) t ts (subst (λ (g : Gave). Succeeds (reading_or t.answer r) g ts) (sym gave) f))
    seek_goes q e gave (inr (w, is, x)) =
        let entered : Entered mode timeout (seen p t) t.answer (mode_ask p) (Some (Waiting w)) = subst (λ (o : Option Ask). Entered mode timeout (seen p t) t.answer (mode_ask p) o) is (law (Ok (Continue q)) e) in
        seek_waited q w gave is x entered.0 entered.1 entered.2

    -- where it ends
    seek_look : (ask : Ask) (o stamp : Instant) → t.gave ≡ gave_result h mode timeout (Ok Outcome.Done) → ts ≡ [] → mode_ask p ≡ Some ask → Look ask t.answer o → seen p t ≡ Held (mode_value mode) stamp → o.0 ≤ stamp.0 → Sought r p (t ∷ ts)
    unfolding gave_after reading_after gaves count Looks a_want send_to
    seek_look Opening o stamp gave stop at look holds fresh = absurd look
    seek_look (Sending x) o stamp gave stop at look holds fresh =
        inl record {
          before = [];
          waited = [];
          look = t;
          later = ts;
          opening = o;
          stamp = stamp;
          whole = refl;
          read = is_read p x at;
          is_last = λ i. ap reads_in gave i + ap (λ (ts : List Turn). count (mode_read motor) (gaves ts)) stop i;
          opens = opened x at ∙ ap Some look.0;
          looks = is_sent t.answer (switch_want mode p) k.fit (in_read mode p (Sending x) at).0 look.1;
          finds = sym (sees_mode p t (in_read mode p (Sending x) at).1) ∙ holds;
          fresh = omega (arith, fresh);
        }
    seek_look (Waiting (Checking x)) o stamp gave stop at look holds fresh = absurd look
    seek_look (Waiting (Napping x)) o stamp gave stop at look holds fresh =
        inr (
          Napping x,
          at,
          record {
            waited = [];
            look = t;
            later = ts;
            stamp = stamp;
            whole = refl;
            silent = refl;
            last = λ i. ap reads_in gave i + ap (λ (ts : List Turn). count (mode_read motor) (gaves ts)) stop i;
            slept = is_slept t.answer poll_interval (subst (λ (w : Want Message). fits w t.answer ≡ true) (in_read mode p (Waiting (Napping x)) at).0 k.fit);
            finds = sym (sees_mode p t (in_read mode p (Waiting (Napping x)) at).1) ∙ holds;
            fresh = subst (λ (i : Instant). i.0 ≤ stamp.0) (sym look) fresh;
          },
        )

    seek_done : next ≡ Ok (Break tt) → t.gave ≡ gave_result h mode timeout (Ok Outcome.Done) → ts ≡ [] → Sought r p (t ∷ ts)
    seek_done e gave stop =
        let s : Saw mode timeout (seen p t) t.answer (mode_ask p) = law (Ok (Break tt)) e in
        seek_look s.read s.opening s.found.stamp gave stop s.is s.look s.found.holds s.found.fresh

    onward_sought : (R : Switch → Type 0) → ((q : Switch) → R q → Opened (reading_or t.answer r) q → result_of ts ≡ Some (Ok Outcome.Done) → Sought (reading_or t.answer r) q ts)
        → (x : Stepped Switch (Unit {0})) → next ≡ x → Onward h mode timeout R x t ts → result_of (t ∷ ts) ≡ Some (Ok Outcome.Done) → Sought r p (t ∷ ts)
    onward_sought R rest (Ok (Continue q)) e (gave, ran) done = seek_goes q e gave (rest q ran (opened_on p q r (seen p t) t.answer k.fit e) (sym (want_on h t ts (machine h mode timeout q) gave) ∙ done))
    onward_sought R rest (Ok (Break ended)) e (gave, stop) done = seek_done e gave stop
    onward_sought R rest (Err failure) e (gave, stop) done = absurd (not_done failure (sym (end_of h t ts (Err failure) gave) ∙ done))

  sought : (z : Session) (ts : List Turn) (p : Switch) (l : Instant) (r : Option Instant) → Ran h mode timeout z p l ts → Opened r p → result_of ts ≡ Some (Ok Outcome.Done) → Sought r p ts
  unfolding Ran result_of
  sought z [] p l r ran opened done = absurd (none-some _ done)
  sought z (t ∷ ts) p l r (k, on) opened done =
      let l' = (with_reading k.head t.answer).last in
      onward_sought p l r opened t ts k (λ q. Ran h mode timeout z q l' ts) (λ q ran o d. sought z ts q l' (reading_or t.answer r) ran o d) (switch_step mode timeout (seen p t) p t.answer) refl on done

  -- from the start on
  pub done_found : (z : Session) (ts : List Turn) (l : Instant) → Ran h mode timeout z Starting l ts → result_of ts ≡ Some (Ok Outcome.Done) → Succeeds None (want_of Starting) ts
  done_found z ts l ran done = go (sought z ts Starting l None ran (λ o e. absurd (none-some _ e)) done)
    where
      go : Sought None Starting ts → Succeeds None (want_of Starting) ts
      go (inl f) = f
      go (inr (w, e, x)) = absurd (none-some _ e)

  -- ---- found, so done

  silent_want : (w : Want Message) → sends_in (record { told = Ok (Told.Want (caller_want h w)); wants = Some w }) ≡ 0 → WantsSend w → ⊥
  unfolding a_want send_to
  silent_want Clock e s = s
  silent_want (Send message) e s = omega arith
  silent_want (Sleep length) e s = s

  reads_at : (p : Switch) → mode_read motor (want_of p) ≡ true → (o : Instant) × (mode_ask p ≡ Some (Sending o))
  reads_at p e = ask_of mode p (sym (reads_alike h accepted mode p) ∙ e)

  module _ (z : Session) where
    abbrev Runs : Switch → Instant → List Turn → Type 0
    Runs p l ts = Ran h mode timeout z p l ts

    -- where some turns lead
    record Reached (g : Gave) (r : Option Instant) (ts : List Turn) : Type 0 where
      at : Switch
      from : Instant
      ran : Runs at from ts
      gave : g ≡ want_of at
      opened : Opened r at

    walk : (before rest : List Turn) (p : Switch) (l : Instant) (r : Option Instant) → (rest ≡ [] → ⊥) → Runs p l (before ++ rest) → Opened r p → Reached (gave_after (want_of p) before) (reading_after r before) rest × (result_of (before ++ rest) ≡ result_of rest)
    unfolding Ran gave_after reading_after
    walk [] rest p l r more ran opened = (record { at = p; from = l; ran = ran; gave = refl; opened = opened }, refl)
    walk (t ∷ before) rest p l r more (k, on) opened =
        onward_cases h mode timeout (λ q. Runs q (with_reading k.head t.answer).last (before ++ rest)) t (before ++ rest) (switch_step mode timeout (seen p t) p t.answer) on
        (λ q e gave ran.
        let x = walk before rest q (with_reading k.head t.answer).last (reading_or t.answer r) more ran (opened_on p q r (seen p t) t.answer k.fit e) in
        (subst (λ (g : Gave). Reached (gave_after g before) (reading_after (reading_or t.answer r) before) rest) (sym gave) x.0, want_on h t (before ++ rest) (machine h mode timeout q) gave ∙ x.1))
        (λ f e gave stop. absurd (more (rest_empty before rest stop)))

    -- the look
    module _ (look : Turn) (later : List Turn) (o stamp : Instant) (finds : look.sees (Reply 10) ≡ Held (UInt32 number) stamp) (fresh : o.0 ≤ stamp.0) where
      look_ends : (p : Switch) (l : Instant) → Runs p l (look ∷ later) → switch_place p ≡ Some (Reply 10) → switch_step mode timeout (Held (mode_value mode) stamp) p look.answer ≡ Ok (Break tt) → result_of (look ∷ later) ≡ Some (Ok Outcome.Done)
      unfolding Ran
      look_ends p l (k, on) place done =
          let e : switch_step mode timeout (seen p look) p look.answer ≡ Ok (Break tt) = ap (λ (e : Entry). switch_step mode timeout e p look.answer) (sees_mode p look place ∙ finds) ∙ done in
          let ended = subst (λ (x : Stepped Switch (Unit {0})). Onward h mode timeout (λ q. Runs q (with_reading k.head look.answer).last later) x look later) e on in
          end_of h look later (Ok Outcome.Done) ended.0

      sent_done : (p : Switch) (l : Instant) → Runs p l (look ∷ later) → mode_ask p ≡ Some (Sending o) → look.answer ≡ Answer.Send (Ok tt) → result_of (look ∷ later) ≡ Some (Ok Outcome.Done)
      sent_done p l ran at sent =
          look_ends p l ran (in_read mode p (Sending o) at).1 (subst (λ (x : Option Ask). EndsDone mode timeout stamp p x look.answer) at (ends_done mode timeout stamp p look.answer) (ap send_outcome sent) fresh)

      slept_done : (p : Switch) (l : Instant) → Runs p l (look ∷ later) → mode_ask p ≡ Some (Waiting (Napping o)) → result_of (look ∷ later) ≡ Some (Ok Outcome.Done)
      slept_done p l ran at =
          look_ends p l ran (in_read mode p (Waiting (Napping o)) at).1 (subst (λ (x : Option Ask). EndsDone mode timeout stamp p x look.answer) at (ends_done mode timeout stamp p look.answer) fresh)

      module _ (slept : look.answer ≡ Answer.Slept) where
        quiet_done : (us : List Turn) (p : Switch) (l : Instant) → Runs p l (us ++ (look ∷ later)) → Quiet o p → sends_in (want_of p) ≡ 0 → count sending (gaves us) ≡ 0 → result_of (us ++ (look ∷ later)) ≡ Some (Ok Outcome.Done)
        unfolding Ran gaves count
        quiet_done [] p l ran quiet silent none_sent =
            slept_done p l ran (quiet_sleep mode o p quiet (subst (λ (a : Answer). fits (switch_want mode p) a ≡ true) slept ran.0.fit))
        quiet_done (u ∷ us) p l (k, on) quiet silent none_sent =
            onward_cases h mode timeout (λ q. Runs q (with_reading k.head u.answer).last (us ++ (look ∷ later))) u (us ++ (look ∷ later)) (switch_step mode timeout (seen p u) p u.answer) on
            (λ q e gave ran. want_on h u (us ++ (look ∷ later)) (machine h mode timeout q) gave
            ∙ quiet_done us q (with_reading k.head u.answer).last ran
            (subst (StaysQuiet mode timeout (seen p u) u.answer o) e (stays_quiet mode timeout (seen p u) u.answer o p quiet (silent_want (switch_want mode p) silent)))
            (sym (ap sends_in gave) ∙ first_zero (sends_in u.gave) _ none_sent) (rest_zero (sends_in u.gave) _ none_sent))
            (λ r e gave stop. absurd (not_empty us look later stop))

        waited_done : (u : Turn) (us : List Turn) (p : Switch) (l : Instant) → Runs p l (u ∷ (us ++ (look ∷ later))) → mode_ask p ≡ Some (Sending o) → count sending (gaves (u ∷ us)) ≡ 0 → result_of (u ∷ (us ++ (look ∷ later))) ≡ Some (Ok Outcome.Done)
        unfolding Ran gaves count
        waited_done u us p l (k, on) at none_sent =
            onward_cases h mode timeout (λ q. Runs q (with_reading k.head u.answer).last (us ++ (look ∷ later))) u (us ++ (look ∷ later)) (switch_step mode timeout (seen p u) p u.answer) on
            (λ q e gave ran. want_on h u (us ++ (look ∷ later)) (machine h mode timeout q) gave
            ∙ quiet_done us q (with_reading k.head u.answer).last ran (subst (StaysQuiet mode timeout (seen p u) u.answer o) e (sending_quiet mode timeout (seen p u) u.answer o p at))
            (sym (ap sends_in gave) ∙ first_zero (sends_in u.gave) _ none_sent) (rest_zero (sends_in u.gave) _ none_sent))
            (λ r e gave stop. absurd (not_empty us look later stop))

    pub found_done : (ts : List Turn) (p : Switch) (l : Instant) (r : Option Instant) → Runs p l ts → Opened r p → Succeeds r (want_of p) ts → result_of ts ≡ Some (Ok Outcome.Done)
    unfolding Looks
    found_done ts p l r ran opened f =
        let ts' = f.waited ++ (f.look ∷ f.later) in
        let x = walk f.before ts' p l r (not_empty f.waited f.look f.later) (subst (λ (ts : List Turn). Runs p l ts) f.whole ran) opened in
        let reached = x.0 in
        let at = reads_at reached.at (ap (mode_read motor) (sym reached.gave) ∙ f.read) in
        let same : at.0 ≡ f.opening = ap (or_else f.opening) (sym (reached.opened at.0 at.1) ∙ f.opens) in
        ap result_of f.whole ∙ x.1 ∙ go f.waited reached.at reached.from reached.ran (at.1 ∙ ap (λ (o : Instant). Some (Sending o)) same) f.looks
      where
        go : (us : List Turn) (q : Switch) (l : Instant) → Runs q l (us ++ (f.look ∷ f.later)) → mode_ask q ≡ Some (Sending f.opening) → Looks us f.look.answer → result_of (us ++ (f.look ∷ f.later)) ≡ Some (Ok Outcome.Done)
        go [] q l ran at looks = sent_done f.look f.later f.opening f.stamp f.finds f.fresh q l ran at looks
        go (u ∷ us) q l ran at looks = waited_done f.look f.later f.opening f.stamp f.finds f.fresh looks.2 u us q l ran at looks.1
