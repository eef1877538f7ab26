-- Each answer takes from what a phase may still want at least the want that it answers; so does a whole run. Once for every way of weighing. Assumes nothing.
use Rattle.std.specs.Prelude.{None, Option, Some, Result, Ok, Err, option_map}
use Prim.Native.Nat.{ℕ, zero, suc, ◌+◌, ◌≤◌, min}
use mathlib.Core.Path.{◌≡◌, refl}
use mathlib.Core.Bool.{Bool, true, false, cond}
use mathlib.Core.List.{List, [], ◌∷◌}
use native.Mathlib.Omega.{arith}
use lib.Dec.{eqb}
use Rattle.time.specs.Time.{millis}
use Rattle.time.specs.declared.Instant.{Instant}
use Rattle.time.specs.declared.Duration.{Duration}
use Rattle.registers.specs.Value.{same_value, of_type}
use Rattle.registers.specs.declared.RegisterDataType.{RegisterDataType}
use Rattle.registers.specs.declared.RegisterDataType.TheVariants.{Float, UInt32}
use Rattle.registers.specs.declared.RegisterValue.{RegisterValue}
use Rattle.state_feedback.specs.declared.MotorFeedbackState.{MotorFeedbackState}
use Rattle.state_cache.specs.declared.Entry.{Entry}
use Rattle.state_cache.specs.declared.Entry.TheVariants.{Empty, Held}
use Rattle.run_want.specs.Want.{reading_of, send_outcome}
use Rattle.run_want.specs.declared.Answer.{Answer}
use Rattle.run_want.specs.declared.Failure.{Failure}
use Rattle.run_want.specs.declared.Failure.TheVariants.{Timeout, Mismatch, WrongType, SendFailed}
use Rattle.run_want.specs.declared.message.Message.{Message}
use Rattle.run_want.specs.declared.message.Message.TheVariants.{ReadRegister, RequestFeedback}
use Rattle.run_wait.specs.Ask.{ask_want, ask_waited, ask_step, looked}
use Rattle.state_cache.specs.Cache.{value_in}
use Rattle.run_wait.specs.Look.{fresh_entry, fresh_record}
use Rattle.run_wait.specs.Wait.{late, wait_want, wait_step}
use Rattle.run_wait.specs.declared.Wait.{Wait}
use Rattle.run_wait.specs.declared.Wait.TheVariants.{Checking, Napping}
use Rattle.run_wait.specs.declared.Waited.{Waited}
use Rattle.run_wait.specs.declared.ask.Ask.{Ask}
use Rattle.run_read.specs.Read.{read_by, get_by, get_step}
use Rattle.run_write.specs.Ack.{ack_timeout, ack_want, ack_waited, ack_step}
use Rattle.run_write.specs.Ack as AckSpec
use Rattle.run_write.specs.Write.{write_want, again, write_waited, write_step}
use Rattle.run_write.specs.declared.ack.AckWait.{AckWait}
use Rattle.run_write.specs.declared.Write.{Write}
use Rattle.run_fresh.specs.State.{state_by, state_step}
use Rattle.run_fresh.specs.Store.{state_timeout, store_want, by_status, store_asked, store_step}
use Rattle.run_fresh.specs.declared.store.Store.{Store}
use Rattle.protocol_hold.specs.declared.ControlMode.{ControlMode}
use Rattle.protocol_hold.specs.declared.ControlMode.TheVariants.{Mit, PosVel, Vel, ForcePos}
use Rattle.switch_stage.specs.Stage.{mode_value, switch_want}
use Rattle.switch_prepare.specs.Prepare.{prepare, after_hold_read, cleared, hold_timed}
use Rattle.switch_finish.specs.Finish.{finish}
use Rattle.switch_finish.specs.declared.Finishing.{Finishing}
use Rattle.switch_finish.specs.declared.Finishing.TheVariants as Finish
use Rattle.switch_write.specs.WriteMode.{after_prepare, after_mode_write, after_finish, settled}
use Rattle.switch_step.specs.Switch.{with_error, not_yet, after_mode_read, mode_timed, switch_step}
use Rattle.switch_time.specs.TimeLeft.{shorter, budget_cap, mode_read_cap, hold_read_cap, remaining_until, sleep_up_to_reserving}
use Rattle.switch_stage.specs.declared.ModeRead.{ModeRead}
use Rattle.switch_stage.specs.declared.ModeRead.TheVariants.{First, Verify}
use Rattle.switch_stage.specs.declared.Progress.{Progress}
use Rattle.switch_stage.specs.declared.Stage.TheVariants as Stage
use Rattle.switch_stage.specs.declared.Switch.{Switch}
use Rattle.run_machine.specs.Machine.{machine_want}
use Rattle.run_step.specs.Step.{machine_step}
use Rattle.run_machine.specs.declared.Outcome.TheVariants.{Done, Value, State}
use Rattle.run_want.specs.Step.{Stepped, goes, ends, map_stepped}
use Rattle.std.specs.declared.ops.ControlFlow.TheVariants.{Continue, Break}
use Rattle.state_feedback.specs.declared.FeedbackSnapshot.{FeedbackSnapshot}
use Rattle.motor_core.specs.AndThen.{and_then}
use Rattle.run_machine.specs.declared.Machine.{Machine}
use Rattle.run_machine.specs.declared.Machine.TheVariants.{GetRegister, WriteRegister, RequestFreshState, StoreParameters, EnsureControlMode}
use Rattle.law_runs.proofs.Weighing.{Budget, clearing, stepped_left, weigh, ask_left, asked_left, read_left, state_left, disabling, store_left, stored_left, ack_left, acked_left, more_tries, write_left, written_left, mode_reading, holding, finishing, more_rounds, rounds, preparing, unfound, switch_left, switched_left, machine_left, left}
use Rattle.law_runs.specs.Clock.{Clocked, known_after, fine, AllFine}
use Rattle.law_runs.specs.Systems.{still, waiting, phase_of, acking, running}
use Rattle.law_runs.specs.Trace.{Given, System, label, wants_from, total}

module _ {κ : Clocked} (β : Budget κ) where
  -- ---- the wait, by what comes of an answer

  abbrev waited_left : Duration → κ.Known → Waited Wait → ℕ
  waited_left l k (Waited.Goes w) = β.wait_left l k w
  waited_left l k (Waited.Looks o) = β.wait_left l k (Checking o)
  waited_left l k Waited.Late = 0

  pub wait_falls : (l : Duration) (k : κ.Known) (w : Wait) (a : Answer) → fine κ (wait_want w) a k → weigh β (wait_want w) + waited_left l (known_after κ (wait_want w) a k) (wait_step l w a) ≤ β.wait_left l k w
  wait_falls l k (Checking o) a f = go (late o l (reading_of a)) refl
    where
      go : (b : Bool) → late o l (reading_of a) ≡ b → β.clock + waited_left l (κ.hear (reading_of a)) (cond b Waited.Late (Waited.Goes (Napping o))) ≤ β.wait_left l k (Checking o)
      go true e = omega (arith, β.at_deadline l k o)
      go false e = β.before_deadline l k o (reading_of a) f e
  wait_falls l k (Napping o) a f = β.after_sleep l k o

  pub wait_covers : (l : Duration) (k : κ.Known) (w : Wait) → weigh β (wait_want w) ≤ β.wait_left l k w
  wait_covers l k (Checking o) = β.at_deadline l k o
  wait_covers l k (Napping o) = omega (arith, β.after_sleep l k o)

  -- ---- asking

  asked_waited : (m : Message) (l : Duration) (k : κ.Known) (x : Waited Wait) → asked_left β m l k (Ok (ask_waited x)) ≡ waited_left l k x
  asked_waited m l k (Waited.Goes w) = refl
  asked_waited m l k (Waited.Looks o) = refl
  asked_waited m l k Waited.Late = refl

  pub ask_falls : (m : Message) (l : Duration) (k : κ.Known) (q : Ask) (a : Answer) → fine κ (ask_want m q) a k → weigh β (ask_want m q) + asked_left β m l (known_after κ (ask_want m q) a k) (ask_step l q a) ≤ ask_left β m l k q
  ask_falls m l k Ask.Opening a f = omega (arith, β.opens l (reading_of a))
  ask_falls m l k (Ask.Sending o) a f = go (send_outcome a)
    where
      go : (x : Result (Unit {0}) Failure) → β.send (label m) + asked_left β m l k (and_then x (λ sent. Ok (Waited.Looks o))) ≤ β.send (label m) + β.wait_left l k (Checking o)
      go (Ok sent) = omega arith
      go (Err failure) = omega arith
  ask_falls m l k (Ask.Waiting w) a f = omega (arith, wait_falls l k w a f, asked_waited m l (known_after κ (wait_want w) a k) (wait_step l w a))

  pub ask_covers : (m : Message) (l : Duration) (k : κ.Known) (q : Ask) → weigh β (ask_want m q) ≤ ask_left β m l k q
  ask_covers m l k Ask.Opening = omega arith
  ask_covers m l k (Ask.Sending o) = omega arith
  ask_covers m l k (Ask.Waiting w) = wait_covers l k w

  looked_left : {T : Type 0} (m : Message) (l : Duration) (k : κ.Known) (o : Instant) (x : Option T) → stepped_left (ask_left β m l k) (Ok (looked o x)) ≤ β.wait_left l k (Checking o)
  looked_left m l k o None = omega arith
  looked_left m l k o (Some found) = omega arith

  -- ---- the register read

  read_by_left : (rid : ℕ) (l : Duration) (k : κ.Known) (e : Entry) (x : Result (Waited Ask) Failure) → read_left β rid l k (and_then x (read_by e)) ≤ asked_left β (ReadRegister rid) l k x
  read_by_left rid l k e (Ok (Waited.Goes q)) = omega arith
  read_by_left rid l k e (Ok (Waited.Looks o)) = looked_left (ReadRegister rid) l k o (value_in (fresh_entry o e))
  read_by_left rid l k e (Ok Waited.Late) = omega arith
  read_by_left rid l k e (Err failure) = omega arith

  get_by_left : (t : RegisterDataType) (rid : ℕ) (l : Duration) (k : κ.Known) (x : Stepped Ask RegisterValue) → read_left β rid l k (and_then x (get_by t)) ≤ read_left β rid l k x
  get_by_left t rid l k (Ok (Continue q)) = omega arith
  get_by_left t rid l k (Ok (Break value)) = go (of_type value t)
    where
      go : (b : Bool) → read_left β rid l k (and_then (cond b (Ok value) (Err WrongType)) ends) ≤ 0
      go true = omega arith
      go false = omega arith
  get_by_left t rid l k (Err failure) = omega arith

  pub get_falls : (t : RegisterDataType) (rid : ℕ) (l : Duration) (k : κ.Known) (e : Entry) (q : Ask) (a : Answer) → fine κ (ask_want (ReadRegister rid) q) a k → weigh β (ask_want (ReadRegister rid) q) + read_left β rid l (known_after κ (ask_want (ReadRegister rid) q) a k) (get_step t l e q a) ≤ ask_left β (ReadRegister rid) l k q
  get_falls t rid l k e q a f =
      let k' = known_after κ (ask_want (ReadRegister rid) q) a k in
      omega (arith, ask_falls (ReadRegister rid) l k q a f, read_by_left rid l k' e (ask_step l q a), get_by_left t rid l k' (and_then (ask_step l q a) (read_by e)))

  -- ---- the fresh-state request

  state_by_left : (l : Duration) (k : κ.Known) (latest : Option FeedbackSnapshot) (x : Result (Waited Ask) Failure) → state_left β l k (and_then x (state_by latest)) ≤ asked_left β RequestFeedback l k x
  state_by_left l k latest (Ok (Waited.Goes q)) = omega arith
  state_by_left l k latest (Ok (Waited.Looks o)) = looked_left RequestFeedback l k o (option_map (λ (s : FeedbackSnapshot). Some s.state) (fresh_record o latest))
  state_by_left l k latest (Ok Waited.Late) = omega arith
  state_by_left l k latest (Err failure) = omega arith

  pub state_falls : (l : Duration) (k : κ.Known) (latest : Option FeedbackSnapshot) (q : Ask) (a : Answer) → fine κ (ask_want RequestFeedback q) a k → weigh β (ask_want RequestFeedback q) + state_left β l (known_after κ (ask_want RequestFeedback q) a k) (state_step l latest q a) ≤ ask_left β RequestFeedback l k q
  state_falls l k latest q a f =
      omega (arith, ask_falls RequestFeedback l k q a f, state_by_left l (known_after κ (ask_want RequestFeedback q) a k) latest (ask_step l q a))

  -- ---- storing

  status_left : (k : κ.Known) (s : MotorFeedbackState) → store_left β k (by_status s) ≤ disabling β
  status_left k s = go (eqb s.status_code 0)
    where
      go : (b : Bool) → store_left β k (cond b Store.Storing Store.Disabling) ≤ disabling β
      go true = omega arith
      go false = omega arith

  store_asked_left : (k : κ.Known) (x : Stepped Ask (Option MotorFeedbackState)) → store_left β k (store_asked x) ≤ state_left β state_timeout k x + disabling β
  store_asked_left k (Ok (Continue q)) = omega arith
  store_asked_left k (Ok (Break (Some s))) = omega (arith, status_left k s)
  store_asked_left k (Ok (Break None)) = omega arith
  store_asked_left k (Err failure) = omega arith

  store_sent_left : (k : κ.Known) (after : Store) (x : Result (Unit {0}) Failure) → stored_left β k (and_then x (λ sent. goes after)) ≤ store_left β k after
  store_sent_left k after (Ok sent) = omega arith
  store_sent_left k after (Err failure) = omega arith

  pub store_falls : (k : κ.Known) (latest : Option FeedbackSnapshot) (s : Store) (a : Answer) → fine κ (store_want s) a k → weigh β (store_want s) + stored_left β (known_after κ (store_want s) a k) (store_step latest s a) ≤ store_left β k s
  store_falls k latest (Store.Asking q) a f =
      let k' = known_after κ (ask_want RequestFeedback q) a k in
      omega (arith, state_falls state_timeout k latest q a f, store_asked_left k' (state_step state_timeout latest q a))
  store_falls k latest Store.Disabling a f = omega (arith, store_sent_left k Store.Disabled (send_outcome a))
  store_falls k latest Store.Disabled a f = omega arith
  store_falls k latest Store.Storing a f = omega (arith, store_sent_left k Store.Stored (send_outcome a))
  store_falls k latest Store.Stored a f = omega arith

  pub store_covers : (k : κ.Known) (s : Store) → weigh β (store_want s) ≤ store_left β k s
  store_covers k (Store.Asking q) = omega (arith, ask_covers RequestFeedback state_timeout k q)
  store_covers k Store.Disabling = omega arith
  store_covers k Store.Disabled = omega arith
  store_covers k Store.Storing = omega arith
  store_covers k Store.Stored = omega arith

  -- ---- the confirmed write

  ack_found : (k : κ.Known) (o : Instant) (v : RegisterValue) (e : Entry) → acked_left β k (AckSpec.ack_found o v e) ≤ β.wait_left ack_timeout k (Checking o)
  ack_found k o v Empty = omega arith
  ack_found k o v (Held got stamp) = go (same_value got v)
    where
      go : (b : Bool) → acked_left β k (cond b (Ok (Break tt)) (Err (Mismatch got))) ≤ β.wait_left ack_timeout k (Checking o)
      go true = omega arith
      go false = omega arith

  ack_waited_left : (k : κ.Known) (v : RegisterValue) (e : Entry) (x : Waited Wait) → acked_left β k (ack_waited v e x) ≤ waited_left ack_timeout k x
  ack_waited_left k v e (Waited.Goes w) = omega arith
  ack_waited_left k v e (Waited.Looks o) = ack_found k o v (fresh_entry o e)
  ack_waited_left k v e Waited.Late = omega arith

  pub ack_falls : (k : κ.Known) (v : RegisterValue) (e : Entry) (q : AckWait) (a : Answer) → fine κ (ack_want q) a k → weigh β (ack_want q) + acked_left β (known_after κ (ack_want q) a k) (ack_step v e q a) ≤ ack_left β k q
  ack_falls k v e AckWait.Opening a f =
      let t = reading_of a in
      omega (arith, ack_found (κ.hear t) t v (fresh_entry t e), β.opens ack_timeout t)
  ack_falls k v e (AckWait.Waiting w) a f =
      omega (arith, wait_falls ack_timeout k w a f, ack_waited_left (known_after κ (wait_want w) a k) v e (wait_step ack_timeout w a))

  pub ack_covers : (k : κ.Known) (q : AckWait) → weigh β (ack_want q) ≤ ack_left β k q
  ack_covers k AckWait.Opening = omega arith
  ack_covers k (AckWait.Waiting w) = wait_covers ack_timeout k w

  again_left : (rid : ℕ) (v : RegisterValue) (k : κ.Known) (n : ℕ) (failure : Failure) → written_left β rid v k (again n failure) ≤ more_tries β rid v n
  unfolding more_tries
  again_left rid v k zero failure = omega arith
  again_left rid v k (suc n) failure = omega arith

  write_waited_left : (rid : ℕ) (v : RegisterValue) (k : κ.Known) (n : ℕ) (x : Stepped AckWait (Unit {0})) → written_left β rid v k (write_waited n x) ≤ acked_left β k x + more_tries β rid v n
  write_waited_left rid v k n (Ok (Continue q)) = omega arith
  write_waited_left rid v k n (Ok (Break acked)) = omega arith
  write_waited_left rid v k n (Err failure) = omega (arith, again_left rid v k n failure)

  write_sent_left : (rid : ℕ) (v : RegisterValue) (k : κ.Known) (n : ℕ) (x : Result (Unit {0}) Failure) → written_left β rid v k (and_then x (λ sent. goes (Write.Waiting n AckWait.Opening))) ≤ β.clock + β.opened ack_timeout + more_tries β rid v n
  write_sent_left rid v k n (Ok sent) = omega arith
  write_sent_left rid v k n (Err failure) = omega arith

  pub write_falls : (rid : ℕ) (v : RegisterValue) (k : κ.Known) (e : Entry) (w : Write) (a : Answer) → fine κ (write_want rid v w) a k → weigh β (write_want rid v w) + written_left β rid v (known_after κ (write_want rid v w) a k) (write_step v e w a) ≤ write_left β rid v k w
  write_falls rid v k e (Write.Sending n) a f = omega (arith, write_sent_left rid v k n (send_outcome a))
  write_falls rid v k e (Write.Waiting n q) a f =
      omega (arith, ack_falls k v e q a f, write_waited_left rid v (known_after κ (ack_want q) a k) n (ack_step v e q a))
  write_falls rid v k e (Write.Gap n) a f = omega arith

  pub write_covers : (rid : ℕ) (v : RegisterValue) (k : κ.Known) (w : Write) → weigh β (write_want rid v w) ≤ write_left β rid v k w
  write_covers rid v k (Write.Sending n) = omega arith
  write_covers rid v k (Write.Waiting n q) = omega (arith, ack_covers k q)
  write_covers rid v k (Write.Gap n) = omega arith

  -- ---- the mode switch

  unfound_left : (mode : ControlMode) (k : κ.Known) (which : ModeRead) (p : Progress) → switched_left β mode k (not_yet mode which p) ≤ unfound β mode which
  unfolding more_rounds
  unfound_left mode k First p = go mode
    where
      go : (m : ControlMode) → switched_left β mode k (after_prepare (prepare m p)) ≤ preparing β mode
      go Mit = omega arith
      go PosVel = omega arith
      go Vel = omega arith
      go ForcePos = omega arith
  unfound_left mode k (Verify zero) p = omega arith
  unfound_left mode k (Verify (suc n)) p = omega arith

  mode_read_left : (mode : ControlMode) (k : κ.Known) (which : ModeRead) (p : Progress) (l : Duration) (x : Stepped Ask RegisterValue) → switched_left β mode k (after_mode_read mode which p l x) ≤ read_left β 10 l k x + unfound β mode which
  mode_read_left mode k which p l (Ok (Continue q)) = omega arith
  mode_read_left mode k which p l (Ok (Break v)) = omega (arith, go (same_value v (mode_value mode)))
    where
      go : (b : Bool) → switched_left β mode k (cond b (Ok (Break tt)) (not_yet mode which (with_error p (Mismatch v)))) ≤ unfound β mode which
      go true = omega arith
      go false = unfound_left mode k which (with_error p (Mismatch v))
  mode_read_left mode k which p l (Err Timeout) = omega (arith, unfound_left mode k which (with_error p Timeout))
  mode_read_left mode k which p l (Err (Mismatch v)) = omega arith
  mode_read_left mode k which p l (Err WrongType) = omega arith
  mode_read_left mode k which p l (Err SendFailed) = omega arith

  hold_read_left : (mode : ControlMode) (k : κ.Known) (p : Progress) (l : Duration) (x : Stepped Ask RegisterValue) → switched_left β mode k (after_prepare (after_hold_read p l x)) ≤ read_left β 80 l k x + clearing β Vel + rounds β mode
  hold_read_left mode k p l (Ok (Continue q)) = omega arith
  hold_read_left mode k p l (Ok (Break v)) = omega arith
  hold_read_left mode k p l (Err failure) = omega arith

  finish_left : (mode : ControlMode) (k : κ.Known) (n : ℕ) (p : Progress) (x : Finishing) → switched_left β mode k (after_finish n p x) ≤ holding β mode + mode_reading β + more_rounds β mode n
  finish_left mode k n p Finish.Holds = omega arith
  finish_left mode k n p Finish.Done = omega arith

  written_mode_left : (mode : ControlMode) (k : κ.Known) (n : ℕ) (p : Progress) (x : Stepped Write (Unit {0})) → switched_left β mode k (after_mode_write n p x) ≤ written_left β 10 (mode_value mode) k x + finishing β mode + mode_reading β + more_rounds β mode n
  written_mode_left mode k n p (Ok (Continue w)) = omega arith
  written_mode_left mode k n p (Ok (Break written)) = omega arith
  written_mode_left mode k n p (Err failure) = omega arith

  held_left : (mode : ControlMode) (k : κ.Known) (n : ℕ) (p : Progress) (x : Result (Unit {0}) Failure) → switched_left β mode k (and_then x (λ sent. after_finish n p Finish.Done)) ≤ mode_reading β + more_rounds β mode n
  held_left mode k n p (Ok sent) = omega arith
  held_left mode k n p (Err failure) = omega arith

  cleared_left : (mode : ControlMode) (k : κ.Known) (c : ControlMode) (p : Progress) → holding β c + switched_left β mode k (after_prepare (cleared c p)) ≤ clearing β c + rounds β mode
  unfolding more_rounds
  cleared_left mode k Mit p = omega arith
  cleared_left mode k PosVel p = omega arith
  cleared_left mode k Vel p = omega arith
  cleared_left mode k ForcePos p = omega arith

  -- what the caps leave for a read
  within_cap : (total cap : Duration) (divisor : ℕ) (x : ℕ) → min x (budget_cap total cap divisor).0 ≤ cap.0
  within_cap total cap divisor x = omega arith

  mode_timed_left : (mode : ControlMode) (k : κ.Known) (which : ModeRead) (p : Progress) (total : Duration) (x : Option Duration) → β.clock + switched_left β mode k (mode_timed which p (option_map (λ left. shorter left (mode_read_cap total)) x)) ≤ mode_reading β + unfound β mode which
  mode_timed_left mode k which p total None = omega arith
  mode_timed_left mode k which p total (Some left) = omega (arith, β.grows (shorter left (mode_read_cap total)) (millis 100) (within_cap total (millis 100) 4 left.0))

  hold_timed_left : (mode : ControlMode) (k : κ.Known) (p : Progress) (total : Duration) (x : Option Duration) → β.clock + switched_left β mode k (after_prepare (hold_timed p (option_map (λ left. shorter left (hold_read_cap total)) x))) ≤ preparing β mode
  hold_timed_left mode k p total None = omega arith
  hold_timed_left mode k p total (Some left) = omega (arith, β.grows (shorter left (hold_read_cap total)) (millis 30) (within_cap total (millis 30) 6 left.0))

  settled_left : (mode : ControlMode) (k : κ.Known) (n : ℕ) (p : Progress) (x : Option Duration) → β.clock + switched_left β mode k (settled mode n p x) ≤ finishing β mode + mode_reading β + more_rounds β mode n
  settled_left mode k n p None = omega (arith, finish_left mode k n p (finish mode p.hold_position))
  settled_left mode k n p (Some l) = omega arith

  pub switch_falls : (mode : ControlMode) (total : Duration) (k : κ.Known) (e : Entry) (s : Switch) (a : Answer) → fine κ (switch_want mode s) a k → weigh β (switch_want mode s) + switched_left β mode (known_after κ (switch_want mode s) a k) (switch_step mode total e s a) ≤ switch_left β mode k s
  switch_falls mode total k e Switch.Starting a f = omega arith
  switch_falls mode total k e (Switch.Begun p (Stage.Remaining which)) a f = mode_timed_left mode (κ.hear (reading_of a)) which p total (remaining_until p.deadline (reading_of a))
  switch_falls mode total k e (Switch.Begun p (Stage.Reading which l q)) a f =
      let k' = known_after κ (ask_want (ReadRegister 10) q) a k in
      omega (arith, get_falls UInt32 10 l k e q a f, mode_read_left mode k' which p l (get_step UInt32 l e q a))
  switch_falls mode total k e (Switch.Begun p Stage.HoldRemaining) a f = hold_timed_left mode (κ.hear (reading_of a)) p total (remaining_until p.deadline (reading_of a))
  switch_falls mode total k e (Switch.Begun p (Stage.HoldReading l q)) a f =
      let k' = known_after κ (ask_want (ReadRegister 80) q) a k in
      omega (arith, get_falls Float 80 l k e q a f, hold_read_left mode k' p l (get_step Float l e q a))
  switch_falls mode total k e (Switch.Begun p (Stage.Clearing c)) a f = cleared_left mode k c p
  switch_falls mode total k e (Switch.Begun p (Stage.Writing n w)) a f =
      let v = mode_value mode in
      omega (arith, write_falls 10 v k e w a f, written_mode_left mode (known_after κ (write_want 10 v w) a k) n p (write_step v e w a))
  switch_falls mode total k e (Switch.Begun p (Stage.SettleRemaining n)) a f = settled_left mode (κ.hear (reading_of a)) n p (sleep_up_to_reserving p.deadline (mode_read_cap total) (reading_of a))
  switch_falls mode total k e (Switch.Begun p (Stage.SettleSleep n l)) a f = omega (arith, finish_left mode (κ.nap l k) n p (finish mode p.hold_position))
  switch_falls mode total k e (Switch.Begun p (Stage.Holding n)) a f = omega (arith, held_left mode k n p (send_outcome a))

  pub switch_covers : (mode : ControlMode) (k : κ.Known) (s : Switch) → weigh β (switch_want mode s) ≤ switch_left β mode k s
  switch_covers mode k Switch.Starting = omega arith
  switch_covers mode k (Switch.Begun p (Stage.Remaining which)) = omega arith
  switch_covers mode k (Switch.Begun p (Stage.Reading which l q)) = omega (arith, ask_covers (ReadRegister 10) l k q)
  switch_covers mode k (Switch.Begun p Stage.HoldRemaining) = omega arith
  switch_covers mode k (Switch.Begun p (Stage.HoldReading l q)) = omega (arith, ask_covers (ReadRegister 80) l k q)
  switch_covers mode k (Switch.Begun p (Stage.Clearing c)) = omega (arith, cleared_left mode k c p)
  switch_covers mode k (Switch.Begun p (Stage.Writing n w)) = omega (arith, write_covers 10 (mode_value mode) k w)
  switch_covers mode k (Switch.Begun p (Stage.SettleRemaining n)) = omega arith
  switch_covers mode k (Switch.Begun p (Stage.SettleSleep n l)) = omega arith
  switch_covers mode k (Switch.Begun p (Stage.Holding n)) = omega arith

  -- ---- a run's machine

  -- a step in terms of the run leaves what its phase leaves
  mapped_left : {S T R U : Type 0} (f : S → R) (g : T → U) (h : R → ℕ) (x : Stepped S T) → stepped_left h (map_stepped f g x) ≡ stepped_left (λ s. h (f s)) x
  mapped_left f g h (Ok (Continue s)) = refl
  mapped_left f g h (Ok (Break t)) = refl
  mapped_left f g h (Err failure) = refl

  pub falls : (k : κ.Known) (latest : Option FeedbackSnapshot) (e : Entry) (m : Machine) (a : Answer) → fine κ (machine_want m) a k → weigh β (machine_want m) + left β (known_after κ (machine_want m) a k) (machine_step latest e m a) ≤ machine_left β k m
  falls k latest e (GetRegister t rid l q) a f =
      let k' = known_after κ (ask_want (ReadRegister rid) q) a k in
      let step = get_step t l e q a in
      let mapped : left β k' (map_stepped (GetRegister t rid l) Value step) ≡ read_left β rid l k' step = mapped_left (GetRegister t rid l) Value (machine_left β k') step in
      omega (arith, get_falls t rid l k e q a f, mapped)
  falls k latest e (WriteRegister rid v w) a f =
      let k' = known_after κ (write_want rid v w) a k in
      let step = write_step v e w a in
      let mapped : left β k' (map_stepped (WriteRegister rid v) (λ written. Done) step) ≡ written_left β rid v k' step = mapped_left (WriteRegister rid v) (λ written. Done) (machine_left β k') step in
      omega (arith, write_falls rid v k e w a f, mapped)
  falls k latest e (RequestFreshState l q) a f =
      let k' = known_after κ (ask_want RequestFeedback q) a k in
      let step = state_step l latest q a in
      let mapped : left β k' (map_stepped (RequestFreshState l) State step) ≡ state_left β l k' step = mapped_left (RequestFreshState l) State (machine_left β k') step in
      omega (arith, state_falls l k latest q a f, mapped)
  falls k latest e (StoreParameters s) a f =
      let k' = known_after κ (store_want s) a k in
      let step = store_step latest s a in
      let mapped : left β k' (map_stepped StoreParameters (λ stored. Done) step) ≡ stored_left β k' step = mapped_left StoreParameters (λ stored. Done) (machine_left β k') step in
      omega (arith, store_falls k latest s a f, mapped)
  falls k latest e (EnsureControlMode mode total s) a f =
      let k' = known_after κ (switch_want mode s) a k in
      let step = switch_step mode total e s a in
      let mapped : left β k' (map_stepped (EnsureControlMode mode total) (λ switched. Done) step) ≡ switched_left β mode k' step = mapped_left (EnsureControlMode mode total) (λ switched. Done) (machine_left β k') step in
      omega (arith, switch_falls mode total k e s a f, mapped)

  pub covers : (k : κ.Known) (m : Machine) → weigh β (machine_want m) ≤ machine_left β k m
  covers k (GetRegister t rid l q) = ask_covers (ReadRegister rid) l k q
  covers k (WriteRegister rid v w) = write_covers rid v k w
  covers k (RequestFreshState l q) = ask_covers RequestFeedback l k q
  covers k (StoreParameters s) = store_covers k s
  covers k (EnsureControlMode mode total s) = switch_covers mode k s

  -- ---- any machine, over a list of answers

  abbrev pub option_left : {A : Type 0} → (κ.Known → A → ℕ) → κ.Known → Option A → ℕ
  option_left left_at k None = 0
  option_left left_at k (Some m) = left_at k m

  module _ (σ : System) (left_at : κ.Known → σ.At → ℕ) where
    pub bounded : ((k : κ.Known) (g : Given) (m : σ.At) → fine κ (σ.want m) g.answer k → weigh β (σ.want m) + option_left left_at (known_after κ (σ.want m) g.answer k) (σ.next g m) ≤ left_at k m)
        → ((k : κ.Known) (m : σ.At) → weigh β (σ.want m) ≤ left_at k m)
        → (gs : List Given) (k : κ.Known) (at : Option σ.At) → AllFine κ σ gs k at → total (weigh β) (wants_from σ gs at) ≤ option_left left_at k at
    unfolding wants_from total AllFine
    bounded down up [] k None f = omega arith
    bounded down up [] k (Some m) f = omega (arith, up k m)
    bounded down up (g ∷ gs) k None f = omega arith
    bounded down up (g ∷ gs) k (Some m) f = omega (arith, down k g m f.0, bounded down up gs (known_after κ (σ.want m) g.answer k) (σ.next g m) f.1)

  -- ---- a wait, an ack wait, and a run by themselves

  still_left : (l : Duration) (k : κ.Known) (find : Instant → Bool) (x : Waited Wait) → option_left (β.wait_left l) k (still find x) ≤ waited_left l k x
  still_left l k find (Waited.Goes w) = omega arith
  still_left l k find (Waited.Looks o) = go (find o)
    where
      go : (b : Bool) → option_left (β.wait_left l) k (cond b None (Some (Checking o))) ≤ β.wait_left l k (Checking o)
      go true = omega arith
      go false = omega arith
  still_left l k find Waited.Late = omega arith

  pub wait_bounded : (l : Duration) (finds : Given → Instant → Bool) (gs : List Given) (k : κ.Known) (w : Wait) → AllFine κ (waiting l finds) gs k (Some w) → total (weigh β) (wants_from (waiting l finds) gs (Some w)) ≤ β.wait_left l k w
  wait_bounded l finds gs k w =
      bounded (waiting l finds) (β.wait_left l)
      (λ k g w f. omega (arith, wait_falls l k w g.answer f, still_left l (known_after κ (wait_want w) g.answer k) (finds g) (wait_step l w g.answer)))
      (wait_covers l)
      gs
      k
      (Some w)

  on_option : {S T : Type 0} (left_at : κ.Known → S → ℕ) (k : κ.Known) (x : Stepped S T) → option_left left_at k (phase_of x) ≡ stepped_left (left_at k) x
  on_option left_at k (Ok (Continue s)) = refl
  on_option left_at k (Ok (Break t)) = refl
  on_option left_at k (Err failure) = refl

  pub ack_bounded : (v : RegisterValue) (gs : List Given) (k : κ.Known) (q : AckWait) → AllFine κ (acking v) gs k (Some q) → total (weigh β) (wants_from (acking v) gs (Some q)) ≤ ack_left β k q
  ack_bounded v gs k q =
      bounded (acking v) (ack_left β)
      (λ k g q f. omega (arith, ack_falls k v g.entry q g.answer f, on_option (ack_left β) (known_after κ (ack_want q) g.answer k) (ack_step v g.entry q g.answer)))
      ack_covers
      gs
      k
      (Some q)

  pub run_bounded : (gs : List Given) (k : κ.Known) (m : Machine) → AllFine κ running gs k (Some m) → total (weigh β) (wants_from running gs (Some m)) ≤ machine_left β k m
  run_bounded gs k m =
      bounded running (machine_left β)
      (λ k g m f. omega (arith, falls k g.latest g.entry m g.answer f, on_option (machine_left β) (known_after κ (machine_want m) g.answer k) (machine_step g.latest g.entry m g.answer)))
      covers
      gs
      k
      (Some m)
