-- The reads of register 10 in a switch, by its definition: where they open, where they look, and what ends them. Assumes nothing.
use Rattle.std.specs.Prelude.{None, Option, Some, Result, Ok, Err}
use Prim.Native.Nat.{ℕ, zero, suc, ◌≤◌}
use mathlib.Core.Path.{◌≡◌, refl, sym, ap, ◌∙◌, subst}
use mathlib.Core.Bool.{Bool, true, false, cond, true≢false}
use borrow.Author.Tests.{le-leb, eqb-true, eq-eqb}
use Rattle.time.specs.declared.Instant.{Instant}
use Rattle.time.specs.declared.Duration.{Duration}
use Rattle.registers.specs.Value.{same_value, of_type, type_of, bits_of}
use Rattle.registers.specs.declared.RegisterDataType.TheVariants as Typed
use Rattle.registers.specs.declared.RegisterValue.{RegisterValue}
use Rattle.registers.specs.declared.RegisterValue.TheVariants.{Float, Nan, UInt32}
use Rattle.protocol_hold.specs.Mode.{mode_number}
use Rattle.protocol_hold.specs.declared.ControlMode.{ControlMode}
use Rattle.protocol_hold.specs.declared.ControlMode.TheVariants.{Mit, PosVel, Vel, ForcePos}
use Rattle.state_cache.specs.Cache.{value_in}
use Rattle.state_cache.specs.declared.Entry.{Entry}
use Rattle.state_cache.specs.declared.Entry.TheVariants.{Empty, Held}
use Rattle.state_cache.specs.declared.Place.TheVariants.{Reply}
use Rattle.run_want.specs.Want.{fits, reading_of, send_outcome}
use Rattle.run_want.specs.declared.Answer.{Answer}
use Rattle.run_want.specs.declared.Answer.TheVariants.{Slept}
use Rattle.run_want.specs.declared.Failure.{Failure}
use Rattle.run_want.specs.declared.Want.{Want}
use Rattle.run_want.specs.declared.message.Message.{Message}
use Rattle.run_want.specs.declared.Want.TheVariants.{Clock, Send, Sleep}
use Rattle.motor_core.specs.AndThen.{and_then}
use Rattle.run_want.specs.Step.{Stepped}
use Rattle.std.specs.declared.ops.ControlFlow.TheVariants.{Continue, Break}
use Rattle.run_wait.specs.declared.Waited.TheVariants as Waited
use Rattle.run_write.specs.declared.Write.{Write}
use Rattle.run_wait.specs.Look.{fresh_entry}
use Rattle.run_wait.specs.declared.Wait.TheVariants.{Checking, Napping}
use Rattle.run_wait.specs.declared.ask.Ask.{Ask}
use Rattle.run_wait.specs.declared.ask.Ask.TheVariants.{Opening, Sending, Waiting}
use Rattle.run_wait.specs.Ask.{looked}
use Rattle.run_read.specs.Read.{read_want, read_by, get_by, get_step}
use Rattle.run_write.specs.declared.ack.AckWait.TheVariants as Ack
use Rattle.run_write.specs.Write.{write_step}
use Rattle.switch_stage.specs.Stage.{mode_value, switch_want, switch_place}
use Rattle.switch_prepare.specs.Prepare.{prepare, after_hold_read, cleared, hold_timed}
use Rattle.switch_finish.specs.Finish.{finish}
use Rattle.switch_finish.specs.declared.Finishing.{Finishing}
use Rattle.switch_finish.specs.declared.Finishing.TheVariants as Finish
use Rattle.switch_write.specs.WriteMode.{after_prepare, after_mode_write, after_finish, settled}
use Rattle.switch_step.specs.Switch.{with_error, not_yet, after_mode_read, mode_timed, switch_step}
use Rattle.switch_time.specs.TimeLeft.{mode_read_cap, hold_read_cap, capped_remaining, sleep_up_to_reserving}
use Rattle.switch_stage.specs.declared.ModeRead.{ModeRead}
use Rattle.switch_stage.specs.declared.ModeRead.TheVariants.{First, Verify}
use Rattle.switch_stage.specs.declared.Progress.{Progress}
use Rattle.switch_stage.specs.declared.Stage.TheVariants.{Remaining, Reading, HoldRemaining, HoldReading, Clearing, Writing, SettleRemaining, SettleSleep, Holding}
use Rattle.switch_stage.specs.declared.Switch.{Switch}
use Rattle.switch_stage.specs.declared.Switch.TheVariants.{Starting, Begun}
use Rattle.law_runs.specs.Ends.{wait_opening, HoldsFresh, Look, Since, GetSaw}
use Rattle.law_runs.proofs.Ends.{get_saw}
use Rattle.law_calls.specs.Turns.{wants_send}
use Rattle.law_switch.specs.Claim.{wants_mode_read}

-- the read of register 10 that a phase is in
abbrev pub mode_ask : Switch → Option Ask
mode_ask Starting = None
mode_ask (Begun p (Remaining which)) = None
mode_ask (Begun p (Reading which l ask)) = Some ask
mode_ask (Begun p HoldRemaining) = None
mode_ask (Begun p (HoldReading l ask)) = None
mode_ask (Begun p (Clearing channel)) = None
mode_ask (Begun p (Writing n write)) = None
mode_ask (Begun p (SettleRemaining n)) = None
mode_ask (Begun p (SettleSleep n l)) = None
mode_ask (Begun p (Holding n)) = None

-- what it wants, and where it looks
module _ (mode : ControlMode) where
  abbrev About : Switch → Option Ask → Type 0
  About p None = Unit {0}
  About p (Some ask) = (switch_want mode p ≡ read_want 10 ask) × (switch_place p ≡ Some (Reply 10))

  about : (p : Switch) → About p (mode_ask p)
  about Starting = tt
  about (Begun p (Remaining which)) = tt
  about (Begun p (Reading which l ask)) = (refl, refl)
  about (Begun p HoldRemaining) = tt
  about (Begun p (HoldReading l ask)) = tt
  about (Begun p (Clearing channel)) = tt
  about (Begun p (Writing n write)) = tt
  about (Begun p (SettleRemaining n)) = tt
  about (Begun p (SettleSleep n l)) = tt
  about (Begun p (Holding n)) = tt

  pub in_read : (p : Switch) (ask : Ask) → mode_ask p ≡ Some ask → (switch_want mode p ≡ read_want 10 ask) × (switch_place p ≡ Some (Reply 10))
  in_read p ask e = subst (About p) e (about p)

  -- and only a read that is to be sent wants the send of a read of register 10
  pub ask_of : (p : Switch) → wants_send wants_mode_read (Some (switch_want mode p)) ≡ true → (o : Instant) × (mode_ask p ≡ Some (Sending o))
  unfolding wants_send wants_mode_read
  ask_of Starting e = absurd (true≢false (sym e))
  ask_of (Begun p (Remaining which)) e = absurd (true≢false (sym e))
  ask_of (Begun p (Reading which l Opening)) e = absurd (true≢false (sym e))
  ask_of (Begun p (Reading which l (Sending o))) e = (o, refl)
  ask_of (Begun p (Reading which l (Waiting (Checking o)))) e = absurd (true≢false (sym e))
  ask_of (Begun p (Reading which l (Waiting (Napping o)))) e = absurd (true≢false (sym e))
  ask_of (Begun p HoldRemaining) e = absurd (true≢false (sym e))
  ask_of (Begun p (HoldReading l Opening)) e = absurd (true≢false (sym e))
  ask_of (Begun p (HoldReading l (Sending o))) e = absurd (true≢false (sym e))
  ask_of (Begun p (HoldReading l (Waiting (Checking o)))) e = absurd (true≢false (sym e))
  ask_of (Begun p (HoldReading l (Waiting (Napping o)))) e = absurd (true≢false (sym e))
  ask_of (Begun p (Clearing channel)) e = absurd (true≢false (sym e))
  ask_of (Begun p (Writing n (Write.Sending m))) e = absurd (true≢false (sym e))
  ask_of (Begun p (Writing n (Write.Waiting m Ack.Opening))) e = absurd (true≢false (sym e))
  ask_of (Begun p (Writing n (Write.Waiting m (Ack.Waiting (Checking o))))) e = absurd (true≢false (sym e))
  ask_of (Begun p (Writing n (Write.Waiting m (Ack.Waiting (Napping o))))) e = absurd (true≢false (sym e))
  ask_of (Begun p (Writing n (Write.Gap m))) e = absurd (true≢false (sym e))
  ask_of (Begun p (SettleRemaining n)) e = absurd (true≢false (sym e))
  ask_of (Begun p (SettleSleep n l)) e = absurd (true≢false (sym e))
  ask_of (Begun p (Holding n)) e = absurd (true≢false (sym e))

-- ---- one answer to a switch

-- the value that is the mode's
pub same_mode : (v : RegisterValue) (n : ℕ) → same_value v (UInt32 n) ≡ true → v ≡ UInt32 n
unfolding same_value type_of bits_of
same_mode (Float x) n e = absurd (true≢false (sym e))
same_mode (Nan b) n e = absurd (true≢false (sym e))
same_mode (UInt32 m) n e = ap UInt32 (eqb-true m n e)

module _ (mode : ControlMode) (timeout : Duration) (e : Entry) (a : Answer) where
  -- a read that is entered, by the read that was answered
  abbrev pub Entered : Option Ask → Option Ask → Type 0
  Entered ask None = Unit {0}
  Entered ask (Some Opening) = Unit {0}
  Entered ask (Some (Sending o)) = (ask ≡ Some Opening) × (reading_of a ≡ o)
  Entered ask (Some (Waiting w)) = (q : Ask) × (ask ≡ Some q) × Since q a (wait_opening w)

  -- done only by a look that found the mode
  pub record Saw (ask : Option Ask) : Type 0 where
    pub read : Ask
    pub is : ask ≡ Some read
    pub opening : Instant
    pub look : Look read a opening
    pub found : HoldsFresh opening e (mode_value mode)

  abbrev pub Law : Option Ask → Stepped Switch (Unit {0}) → Type 0
  Law ask (Ok (Continue q)) = Entered ask (mode_ask q)
  Law ask (Ok (Break done)) = Saw ask
  Law ask (Err failure) = Unit {0}

  not_yet_law : (ask : Option Ask) (which : ModeRead) (p : Progress) → Law ask (not_yet mode which p)
  not_yet_law ask First p = go mode
    where
      go : (m : ControlMode) → Law ask (after_prepare (prepare m p))
      go Mit = tt
      go PosVel = tt
      go Vel = tt
      go ForcePos = tt
  not_yet_law ask (Verify zero) p = tt
  not_yet_law ask (Verify (suc n)) p = tt

  finish_law : (n : ℕ) (p : Progress) (x : Finishing) → Law None (after_finish n p x)
  finish_law n p Finish.Holds = tt
  finish_law n p Finish.Done = tt

  held_law : (n : ℕ) (p : Progress) (x : Result (Unit {0}) Failure) → Law None (and_then x (λ sent. after_finish n p Finish.Done))
  held_law n p (Ok sent) = tt
  held_law n p (Err failure) = tt

  mode_read_law : (which : ModeRead) (p : Progress) (l : Duration) (ask : Ask) (x : Stepped Ask RegisterValue) → GetSaw Typed.UInt32 l e ask a x → Law (Some ask) (after_mode_read mode which p l x)
  mode_read_law which p l ask (Ok (Continue Opening)) saw = tt
  mode_read_law which p l ask (Ok (Continue (Sending o))) law = (ap Some law.0, law.1)
  mode_read_law which p l ask (Ok (Continue (Waiting w))) law = (ask, refl, law)
  mode_read_law which p l ask (Ok (Break v)) ((o, look, seen), typed) = go (same_value v (mode_value mode)) refl
    where
      go : (b : Bool) → same_value v (mode_value mode) ≡ b → Law (Some ask) (cond b (Ok (Break tt)) (not_yet mode which (with_error p (Failure.Mismatch v))))
      go true same = record { read = ask; is = refl; opening = o; look = look; found = subst (HoldsFresh o e) (same_mode v (mode_number mode) same) seen }
      go false same = not_yet_law (Some ask) which (with_error p (Failure.Mismatch v))
  mode_read_law which p l ask (Err Failure.Timeout) law = not_yet_law (Some ask) which (with_error p Failure.Timeout)
  mode_read_law which p l ask (Err (Failure.Mismatch v)) law = tt
  mode_read_law which p l ask (Err Failure.WrongType) law = tt
  mode_read_law which p l ask (Err Failure.SendFailed) law = tt

  hold_read_law : (p : Progress) (l : Duration) (x : Stepped Ask RegisterValue) → Law None (after_prepare (after_hold_read p l x))
  hold_read_law p l (Ok (Continue q)) = tt
  hold_read_law p l (Ok (Break v)) = tt
  hold_read_law p l (Err failure) = tt

  cleared_law : (c : ControlMode) (p : Progress) → Law None (after_prepare (cleared c p))
  cleared_law Mit p = tt
  cleared_law PosVel p = tt
  cleared_law Vel p = tt
  cleared_law ForcePos p = tt

  written_law : (n : ℕ) (p : Progress) (x : Stepped Write (Unit {0})) → Law None (after_mode_write n p x)
  written_law n p (Ok (Continue w)) = tt
  written_law n p (Ok (Break written)) = tt
  written_law n p (Err failure) = tt

  mode_timed_law : (which : ModeRead) (p : Progress) (x : Option Duration) → Law None (mode_timed which p x)
  mode_timed_law which p None = tt
  mode_timed_law which p (Some l) = tt

  hold_timed_law : (p : Progress) (x : Option Duration) → Law None (after_prepare (hold_timed p x))
  hold_timed_law p None = tt
  hold_timed_law p (Some l) = tt

  settled_law : (n : ℕ) (p : Progress) (x : Option Duration) → Law None (settled mode n p x)
  settled_law n p None = finish_law n p (finish mode p.hold_position)
  settled_law n p (Some l) = tt

  pub switch_law : (p : Switch) → Law (mode_ask p) (switch_step mode timeout e p a)
  switch_law Starting = tt
  switch_law (Begun p (Remaining which)) = mode_timed_law which p (capped_remaining p.deadline (mode_read_cap timeout) (reading_of a))
  switch_law (Begun p (Reading which l ask)) = mode_read_law which p l ask (get_step Typed.UInt32 l e ask a) (get_saw l a e Typed.UInt32 ask)
  switch_law (Begun p HoldRemaining) = hold_timed_law p (capped_remaining p.deadline (hold_read_cap timeout) (reading_of a))
  switch_law (Begun p (HoldReading l ask)) = hold_read_law p l (get_step Typed.Float l e ask a)
  switch_law (Begun p (Clearing c)) = cleared_law c p
  switch_law (Begun p (Writing n w)) = written_law n p (write_step (mode_value mode) e w a)
  switch_law (Begun p (SettleRemaining n)) = settled_law n p (sleep_up_to_reserving p.deadline (mode_read_cap timeout) (reading_of a))
  switch_law (Begun p (SettleSleep n l)) = finish_law n p (finish mode p.hold_position)
  switch_law (Begun p (Holding n)) = held_law n p (send_outcome a)

-- ---- a look that finds the mode ends the switch, done

module _ (mode : ControlMode) (timeout : Duration) (stamp : Instant) where
  abbrev holding_mode : Entry
  holding_mode = Held (mode_value mode) stamp

  found_done : (which : ModeRead) (p : Progress) (l : Duration) (o : Instant) → o.0 ≤ stamp.0 → after_mode_read mode which p l (get_by Typed.UInt32 (looked o (value_in (fresh_entry o holding_mode)))) ≡ Ok (Break tt)
  unfolding of_type same_value type_of bits_of
  found_done which p l o fresh =
      ap (λ (b : Bool). after_mode_read mode which p l (get_by Typed.UInt32 (looked o (value_in (cond b holding_mode Empty))))) (le-leb o.0 stamp.0 fresh)
      ∙ ap (λ (b : Bool). cond b (Ok (Break tt)) (not_yet mode which (with_error p (Failure.Mismatch (mode_value mode))))) (eq-eqb (mode_number mode) (mode_number mode) refl)

  abbrev pub EndsDone : Switch → Option Ask → Answer → Type 0
  EndsDone p None a = Unit {0}
  EndsDone p (Some Opening) a = Unit {0}
  EndsDone p (Some (Sending o)) a = send_outcome a ≡ Ok tt → o.0 ≤ stamp.0 → switch_step mode timeout holding_mode p a ≡ Ok (Break tt)
  EndsDone p (Some (Waiting (Checking o))) a = Unit {0}
  EndsDone p (Some (Waiting (Napping o))) a = o.0 ≤ stamp.0 → switch_step mode timeout holding_mode p a ≡ Ok (Break tt)

  pub ends_done : (p : Switch) (a : Answer) → EndsDone p (mode_ask p) a
  ends_done Starting a = tt
  ends_done (Begun p (Remaining which)) a = tt
  ends_done (Begun p (Reading which l Opening)) a = tt
  ends_done (Begun p (Reading which l (Sending o))) a = λ sent fresh.
      ap (λ (x : Result (Unit {0}) Failure). after_mode_read mode which p l (and_then (and_then (and_then x (λ sent. Ok (Waited.Looks o))) (read_by holding_mode)) (get_by Typed.UInt32))) sent ∙ found_done which p l o fresh
  ends_done (Begun p (Reading which l (Waiting (Checking o)))) a = tt
  ends_done (Begun p (Reading which l (Waiting (Napping o)))) a = λ fresh. found_done which p l o fresh
  ends_done (Begun p HoldRemaining) a = tt
  ends_done (Begun p (HoldReading l ask)) a = tt
  ends_done (Begun p (Clearing channel)) a = tt
  ends_done (Begun p (Writing n write)) a = tt
  ends_done (Begun p (SettleRemaining n)) a = tt
  ends_done (Begun p (SettleSleep n l)) a = tt
  ends_done (Begun p (Holding n)) a = tt

-- ---- what a switch may be in once a read is sent, until another send is wanted

abbrev pub Quiet : Instant → Switch → Type 0
Quiet o Starting = ⊥
Quiet o (Begun p (Remaining which)) = ⊥
Quiet o (Begun p (Reading which l Opening)) = ⊥
Quiet o (Begun p (Reading which l (Sending x))) = ⊥
Quiet o (Begun p (Reading which l (Waiting w))) = wait_opening w ≡ o
Quiet o (Begun p HoldRemaining) = Unit {0}
Quiet o (Begun p (HoldReading l Opening)) = Unit {0}
Quiet o (Begun p (HoldReading l (Sending x))) = Unit {0}
Quiet o (Begun p (HoldReading l (Waiting w))) = ⊥
Quiet o (Begun p (Clearing channel)) = Unit {0}
Quiet o (Begun p (Writing n (Write.Sending m))) = Unit {0}
Quiet o (Begun p (Writing n (Write.Waiting m ack))) = ⊥
Quiet o (Begun p (Writing n (Write.Gap m))) = ⊥
Quiet o (Begun p (SettleRemaining n)) = ⊥
Quiet o (Begun p (SettleSleep n l)) = ⊥
Quiet o (Begun p (Holding n)) = ⊥

abbrev pub WantsSend : Want Message → Type 0
WantsSend Clock = ⊥
WantsSend (Send message) = Unit {0}
WantsSend (Sleep length) = ⊥

module _ (mode : ControlMode) (timeout : Duration) (e : Entry) (a : Answer) (o : Instant) where
  abbrev pub StaysQuiet : Stepped Switch (Unit {0}) → Type 0
  StaysQuiet (Ok (Continue q)) = Quiet o q
  StaysQuiet (Ok (Break done)) = Unit {0}
  StaysQuiet (Err failure) = Unit {0}

  not_yet_quiet : (which : ModeRead) (p : Progress) → StaysQuiet (not_yet mode which p)
  not_yet_quiet First p = go mode
    where
      go : (m : ControlMode) → StaysQuiet (after_prepare (prepare m p))
      go Mit = tt
      go PosVel = tt
      go Vel = tt
      go ForcePos = tt
  not_yet_quiet (Verify zero) p = tt
  not_yet_quiet (Verify (suc n)) p = tt

  -- a read that goes on is in its wait
  abbrev Waits : Stepped Ask RegisterValue → Type 0
  Waits (Ok (Continue Opening)) = ⊥
  Waits (Ok (Continue (Sending x))) = ⊥
  Waits (Ok (Continue (Waiting w))) = wait_opening w ≡ o
  Waits (Ok (Break value)) = Unit {0}
  Waits (Err failure) = Unit {0}

  mode_read_quiet : (which : ModeRead) (p : Progress) (l : Duration) (x : Stepped Ask RegisterValue) → Waits x → StaysQuiet (after_mode_read mode which p l x)
  mode_read_quiet which p l (Ok (Continue Opening)) w = w
  mode_read_quiet which p l (Ok (Continue (Sending x))) w = w
  mode_read_quiet which p l (Ok (Continue (Waiting x))) w = w
  mode_read_quiet which p l (Ok (Break v)) w = go (same_value v (mode_value mode))
    where
      go : (b : Bool) → StaysQuiet (cond b (Ok (Break tt)) (not_yet mode which (with_error p (Failure.Mismatch v))))
      go true = tt
      go false = not_yet_quiet which (with_error p (Failure.Mismatch v))
  mode_read_quiet which p l (Err Failure.Timeout) w = not_yet_quiet which (with_error p Failure.Timeout)
  mode_read_quiet which p l (Err (Failure.Mismatch v)) w = tt
  mode_read_quiet which p l (Err Failure.WrongType) w = tt
  mode_read_quiet which p l (Err Failure.SendFailed) w = tt

  -- by the law of a read
  waits : (l : Duration) (ask : Ask) (x : Stepped Ask RegisterValue) → ((i : Instant) → Since ask a i → i ≡ o) → (ask ≡ Opening → ⊥) → GetSaw Typed.UInt32 l e ask a x → Waits x
  waits l ask (Ok (Continue Opening)) same sent law = law
  waits l ask (Ok (Continue (Sending x))) same sent law = sent law.0
  waits l ask (Ok (Continue (Waiting w))) same sent law = same (wait_opening w) law
  waits l ask (Ok (Break value)) same sent law = tt
  waits l ask (Err failure) same sent law = tt

  abbrev IsSent : Ask → Type 0
  IsSent Opening = ⊥
  IsSent (Sending x) = Unit {0}
  IsSent (Waiting w) = Unit {0}

  hold_timed_quiet : (p : Progress) (x : Option Duration) → StaysQuiet (after_prepare (hold_timed p x))
  hold_timed_quiet p None = tt
  hold_timed_quiet p (Some l) = tt

  reading_quiet : (which : ModeRead) (p : Progress) (l : Duration) (ask : Ask) → IsSent ask → ((i : Instant) → Since ask a i → i ≡ o) → StaysQuiet (after_mode_read mode which p l (get_step Typed.UInt32 l e ask a))
  reading_quiet which p l ask sent same =
      mode_read_quiet which p l (get_step Typed.UInt32 l e ask a) (waits l ask (get_step Typed.UInt32 l e ask a) same (λ h. subst IsSent h sent) (get_saw l a e Typed.UInt32 ask))

  -- from the send on
  abbrev SentQuiet : Switch → Option Ask → Type 0
  SentQuiet p None = Unit {0}
  SentQuiet p (Some Opening) = Unit {0}
  SentQuiet p (Some (Sending x)) = x ≡ o → StaysQuiet (switch_step mode timeout e p a)
  SentQuiet p (Some (Waiting w)) = Unit {0}

  sent_quiet : (p : Switch) → SentQuiet p (mode_ask p)
  sent_quiet Starting = tt
  sent_quiet (Begun p (Remaining which)) = tt
  sent_quiet (Begun p (Reading which l Opening)) = tt
  sent_quiet (Begun p (Reading which l (Sending x))) = λ is. reading_quiet which p l (Sending x) tt (λ i since. sym since.0 ∙ is)
  sent_quiet (Begun p (Reading which l (Waiting w))) = tt
  sent_quiet (Begun p HoldRemaining) = tt
  sent_quiet (Begun p (HoldReading l ask)) = tt
  sent_quiet (Begun p (Clearing channel)) = tt
  sent_quiet (Begun p (Writing n write)) = tt
  sent_quiet (Begun p (SettleRemaining n)) = tt
  sent_quiet (Begun p (SettleSleep n l)) = tt
  sent_quiet (Begun p (Holding n)) = tt

  pub sending_quiet : (p : Switch) → mode_ask p ≡ Some (Sending o) → StaysQuiet (switch_step mode timeout e p a)
  sending_quiet p is = subst (SentQuiet p) is (sent_quiet p) refl

  pub stays_quiet : (p : Switch) → Quiet o p → (WantsSend (switch_want mode p) → ⊥) → StaysQuiet (switch_step mode timeout e p a)
  stays_quiet Starting quiet silent = absurd quiet
  stays_quiet (Begun p (Remaining which)) quiet silent = absurd quiet
  stays_quiet (Begun p (Reading which l Opening)) quiet silent = absurd quiet
  stays_quiet (Begun p (Reading which l (Sending x))) quiet silent = absurd quiet
  stays_quiet (Begun p (Reading which l (Waiting w))) quiet silent = reading_quiet which p l (Waiting w) tt (λ i since. sym since ∙ quiet)
  stays_quiet (Begun p HoldRemaining) quiet silent = hold_timed_quiet p (capped_remaining p.deadline (hold_read_cap timeout) (reading_of a))
  stays_quiet (Begun p (HoldReading l Opening)) quiet silent = tt
  stays_quiet (Begun p (HoldReading l (Sending x))) quiet silent = absurd (silent tt)
  stays_quiet (Begun p (HoldReading l (Waiting w))) quiet silent = absurd quiet
  stays_quiet (Begun p (Clearing channel)) quiet silent = absurd (silent tt)
  stays_quiet (Begun p (Writing n (Write.Sending m))) quiet silent = absurd (silent tt)
  stays_quiet (Begun p (Writing n (Write.Waiting m ack))) quiet silent = absurd quiet
  stays_quiet (Begun p (Writing n (Write.Gap m))) quiet silent = absurd quiet
  stays_quiet (Begun p (SettleRemaining n)) quiet silent = absurd quiet
  stays_quiet (Begun p (SettleSleep n l)) quiet silent = absurd quiet
  stays_quiet (Begun p (Holding n)) quiet silent = absurd quiet

-- in it only the read's own wait sleeps
pub quiet_sleep : (mode : ControlMode) (o : Instant) (p : Switch) → Quiet o p → fits (switch_want mode p) Slept ≡ true → mode_ask p ≡ Some (Waiting (Napping o))
quiet_sleep mode o Starting quiet f = absurd quiet
quiet_sleep mode o (Begun p (Remaining which)) quiet f = absurd quiet
quiet_sleep mode o (Begun p (Reading which l Opening)) quiet f = absurd quiet
quiet_sleep mode o (Begun p (Reading which l (Sending x))) quiet f = absurd quiet
quiet_sleep mode o (Begun p (Reading which l (Waiting (Checking x)))) quiet f = absurd (true≢false (sym f))
quiet_sleep mode o (Begun p (Reading which l (Waiting (Napping x)))) quiet f = ap (λ (i : Instant). Some (Waiting (Napping i))) quiet
quiet_sleep mode o (Begun p HoldRemaining) quiet f = absurd (true≢false (sym f))
quiet_sleep mode o (Begun p (HoldReading l Opening)) quiet f = absurd (true≢false (sym f))
quiet_sleep mode o (Begun p (HoldReading l (Sending x))) quiet f = absurd (true≢false (sym f))
quiet_sleep mode o (Begun p (HoldReading l (Waiting w))) quiet f = absurd quiet
quiet_sleep mode o (Begun p (Clearing channel)) quiet f = absurd (true≢false (sym f))
quiet_sleep mode o (Begun p (Writing n (Write.Sending m))) quiet f = absurd (true≢false (sym f))
quiet_sleep mode o (Begun p (Writing n (Write.Waiting m ack))) quiet f = absurd quiet
quiet_sleep mode o (Begun p (Writing n (Write.Gap m))) quiet f = absurd quiet
quiet_sleep mode o (Begun p (SettleRemaining n)) quiet f = absurd quiet
quiet_sleep mode o (Begun p (SettleSleep n l)) quiet f = absurd quiet
quiet_sleep mode o (Begun p (Holding n)) quiet f = absurd quiet
