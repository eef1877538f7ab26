-- The claim holds. Assumes nothing.
use Rattle.std.specs.Prelude.{None, Option, Some}
use Prim.Native.Nat.{ℕ}
use mathlib.Core.Path.{◌≡◌, refl, sym, ap, ◌∙◌, subst}
use mathlib.Core.Bool.{Bool, true, false}
use mathlib.Core.List.{List, ◌∷◌}
use native.Mathlib.Omega.{arith}
use Rattle.motor_core.specs.Bus.{motor_id_accepted}
use Rattle.time.specs.declared.Instant.{Instant}
use Rattle.time.specs.declared.Duration.{Duration}
use Rattle.protocol_hold.specs.Mode.{mode_number}
use Rattle.protocol_hold.specs.declared.ControlMode.{ControlMode}
use Rattle.run_want.specs.declared.Want.{Want}
use Rattle.run_want.specs.declared.message.Message.{Message}
use Rattle.switch_stage.specs.Stage.{switch_want}
use Rattle.switch_stage.specs.declared.Switch.{Switch}
use Rattle.switch_stage.specs.declared.Switch.TheVariants.{Starting}
use Rattle.run_machine.specs.declared.Machine.{Machine}
use Rattle.run_machine.specs.Machine.{RunResult, machine_want}
use Rattle.session.specs.declared.Head.{Head}
use Rattle.session.specs.declared.Session.{Session}
use Rattle.session_begin.specs.declared.Start.TheVariants.{EnsureControlMode}
use Rattle.session_call.specs.Step.{step}
use Rattle.session_call.specs.declared.Call.TheVariants as Call
use Rattle.law_runs.specs.Bounds.{Within, switch_sends}
use Rattle.law_runs.specs.Trace.{counted}
use Rattle.law_runs.specs.Trace as Trace
use Rattle.law_runs.specs.Systems.{running}
use Rattle.law_runs.proofs.Runs.{bounds}
use Rattle.law_calls.specs.Calls.{event, events, session_after}
use Rattle.law_calls.specs.Laws.{Alone, AsWanted, AtMost}
use Rattle.protocol_address.specs.Address.{own_frame}
use Rattle.law_calls.specs.Places.{nothing, seen_after}
use Rattle.law_calls.specs.Ran.{gives}
use Rattle.law_calls.specs.Ran as Run
use Rattle.law_calls.specs.Turns.{Gave, Turn, turns_after, result_in, result_of, gaves, once, count, a_want, send_to, wants_send}
use Rattle.law_calls.proofs.Laws.{laws}
use Rattle.std.proofs.lemmas.Option.{none-some}
use Rattle.law_calls.proofs.Sessions.{list_sound, refused_leaves}
use Rattle.law_calls.proofs.Started.{fresh_accepted, fresh_motor, fresh_sound}
use Rattle.law_calls.proofs.Traced.{Traced, traced}
use Rattle.law_switch.specs.Claim.{wants_mode_read, wants_mode_write, mode_read, mode_write, OfSwitch, EachSwitch, Claim}
use Rattle.law_switch.proofs.Ran.{machine, gave_want, gave_result, Ran, of_run, IsSwitch, stays_switch}
use Rattle.law_switch.proofs.Started.{switching}
use Rattle.law_switch.proofs.Success.{done_found, found_done}
use Rattle.law_switch.proofs.Told as Count

-- ---- of one switch, by how it ran

module _ (h : Head) (accepted : motor_id_accepted h.motor_id ≡ true) (mode : ControlMode) (timeout : Duration) (ts : List Turn) (end : Session) (l : Instant) (steps : Run.Ran h end (machine h mode timeout Starting) l ts) where
  abbrev first : Gave
  first = gave_want h mode timeout Starting

  abbrev motor : ℕ
  motor = h.motor_id

  how : Ran h mode timeout end Starting l ts
  how = of_run h mode timeout end ts Starting l steps

  abbrev start : Machine
  start = machine h mode timeout Starting

  trace : Traced h (IsSwitch mode timeout) (stays_switch mode timeout) start l ts
  trace = traced h (IsSwitch mode timeout) (stays_switch mode timeout) end ts start l (Starting, refl) steps

  abbrev counted_in : (Gave → Bool) → ℕ
  counted_in f = count f (first ∷ gaves ts)

  abbrev wanted_in : (Want Message → ℕ) → ℕ
  wanted_in w = Trace.total w (Trace.wants_from running trace.gs (Some start))

  -- by what each phase gives
  by_phase : (f : Gave → Bool) (w : Want Message → ℕ) → ((p : Switch) → once (f (gave_want h mode timeout p)) ≡ w (switch_want mode p)) → ((r : RunResult) → f (gave_result h mode timeout r) ≡ false) → counted_in f ≡ wanted_in w
  by_phase f w same never = trace.counts f w (λ q of. subst (λ (m : Machine). once (f (gives h m)) ≡ w (machine_want m)) of.1 (same of.0)) never

  -- counted in what was returned, or in what the definition wants: the same
  reads_as : counted_in (mode_read motor) ≡ wanted_in (counted 0 Count.mode_reads 0)
  unfolding a_want send_to
  reads_as = by_phase (mode_read motor) (counted 0 Count.mode_reads 0) (λ p. Count.reads_count h accepted mode p) (λ r. refl)

  reads_wanted : counted_in (λ g. wants_send wants_mode_read g.wants) ≡ wanted_in (counted 0 Count.mode_reads 0)
  unfolding wants_send
  reads_wanted = by_phase (λ g. wants_send wants_mode_read g.wants) (counted 0 Count.mode_reads 0) (λ p. Count.reads_weight h (switch_want mode p)) (λ r. refl)

  writes_as : counted_in (mode_write motor) ≡ wanted_in (counted 0 Count.mode_writes 0)
  unfolding a_want send_to
  writes_as = by_phase (mode_write motor) (counted 0 Count.mode_writes 0) (λ p. Count.writes_count h accepted mode p) (λ r. refl)

  writes_wanted : counted_in (λ g. wants_send wants_mode_write g.wants) ≡ wanted_in (counted 0 Count.mode_writes 0)
  unfolding wants_send
  writes_wanted = by_phase (λ g. wants_send wants_mode_write g.wants) (counted 0 Count.mode_writes 0) (λ p. Count.writes_weight h (switch_want mode p)) (λ r. refl)

  some_of : RunResult → Option RunResult → RunResult
  some_of r None = r
  some_of r (Some x) = x

  pub bounded : Alone first ts end → AsWanted first ts → AtMost first ts 21 449 947 → OfSwitch motor (mode_number mode) first ts end
  unfolding some_of result_in
  bounded alone wanted most =
      let within = bounds.switch mode timeout in
      record {
        reads = omega (arith, reads_as, within.sends_at_most Count.mode_reads trace.gs);
        writes = omega (arith, writes_as, within.sends_at_most Count.mode_writes trace.gs);
        sends = omega (arith, most.sends);
        reads_wanted = reads_as ∙ sym reads_wanted;
        writes_wanted = writes_as ∙ sym writes_wanted;
        sends_wanted = wanted.sends;
        sleeps_wanted = wanted.sleeps;
        sleeps = λ m. omega (arith, most.sleeps m);
        ends = λ m e. omega (arith, most.ends m e);
        answerable = alone.answerable;
        refuses = alone.refuses;
        closes = alone.closes;
        success = λ r e. (
          λ done. done_found h accepted mode timeout end ts l how (subst (λ (x : RunResult). result_of ts ≡ Some x) done e),
          λ f. ap (some_of r) (sym e ∙ found_done h accepted mode timeout end ts Starting l None how (λ o is. absurd (none-some _ is)) f),
        );
      }

-- ---- of each switch in each list

-- a switch in a list: its motor's id, its steps, and what holds of every run
pub record InList (h : Head) (mode : ControlMode) (timeout : Duration) (ts : List Turn) (end : Session) : Type 0 where
  pub accepted : motor_id_accepted h.motor_id ≡ true
  pub steps : Run.Ran h end (machine h mode timeout Starting) h.last ts
  pub alone : Alone (gave_want h mode timeout Starting) ts end
  pub as_wanted : AsWanted (gave_want h mode timeout Starting) ts
  pub at_most : AtMost (gave_want h mode timeout Starting) ts 21 449 947

-- what holds of such a one holds of each
pub each_switch : (P : ℕ → ℕ → Gave → List Turn → Session → Type 0)
    → ((h : Head) (mode : ControlMode) (timeout : Duration) (ts : List Turn) (end : Session) → InList h mode timeout ts end → P h.motor_id (mode_number mode) (gave_want h mode timeout Starting) ts end)
    → EachSwitch P
each_switch P holds motor feedback s₀ fresh before n timeout after w e accepted =
    let s = session_after s₀ before in
    let start = Call.Start (EnsureControlMode n timeout) in
    let run = laws.runs motor feedback s₀ fresh before (EnsureControlMode n timeout) after w e accepted in
    let x = switching n timeout run.machine run.opened in
    let end = session_after (step s start).session after in
    let own = own_frame motor feedback in
    let ts = turns_after own w (seen_after own nothing (events s₀ before)) (events (step s start).session after) in
    let began : Gave = record { told = w; wants = (event s start).wants } in
    let first : began ≡ gave_want s.head x.mode timeout Starting = run.wants ∙ ap (gives s.head) (sym x.opens) in
    let id : s.head.motor_id ≡ motor = (list_sound s₀.head before s₀ (fresh_sound motor feedback s₀ fresh)).motor_id ∙ fresh_motor motor feedback s₀ fresh in
    let within = subst (λ (m : Machine). Within m (switch_sends x.mode) 449 947) x.opens (bounds.switch x.mode timeout) in
    subst (λ (k : ℕ). P k n began ts end) id
    (subst (λ (k : ℕ). P s.head.motor_id k began ts end) x.number
    (subst (λ (g : Gave). P s.head.motor_id (mode_number x.mode) g ts end) (sym first)
    (holds s.head x.mode timeout ts end record {
      accepted = subst (λ (k : ℕ). motor_id_accepted k ≡ true) (sym id) (fresh_accepted motor feedback s₀ fresh);
      steps = subst (λ (m : Machine). Run.Ran s.head end m s.head.last ts) (sym x.opens) run.steps;
      alone = subst (λ (g : Gave). Alone g ts end) first run.alone;
      as_wanted = subst (λ (g : Gave). AsWanted g ts) first run.as_wanted;
      at_most = subst (λ (g : Gave). AtMost g ts 21 449 947) first (run.within (switch_sends x.mode) 449 947 within);
    })))

pub claim : Claim
claim = record {
  refusals = refused_leaves;
  shares = λ motor accepted mode. (Count.hold_shares motor accepted mode, λ s. Count.shared_id motor mode s.0 s.1);
  takes_own = laws.takes_own;
  switches = each_switch OfSwitch (λ h mode timeout ts end x. bounded h x.accepted mode timeout ts end h.last x.steps x.alone x.as_wanted x.at_most);
}
