-- What a wait saw where it ends: something fresh, or its deadline. Assumes nothing.
use Rattle.std.specs.Prelude.{Option, Some, Result, Ok, Err, None, option_map}
use Prim.Native.Nat.{ℕ, zero, suc, ◌≤◌}
use mathlib.Core.Path.{◌≡◌, refl, sym, subst}
use mathlib.Core.Bool.{Bool, true, false, cond}
use mathlib.Core.Logic.{inl, inr}
use borrow.Author.Tests.{leb-true}
use lib.Dec.{leb}
use Rattle.time.specs.declared.Instant.{Instant}
use Rattle.time.specs.declared.Duration.{Duration}
use Rattle.registers.specs.Value.{same_value, of_type}
use Rattle.registers.specs.declared.RegisterDataType.{RegisterDataType}
use Rattle.registers.specs.declared.RegisterValue.{RegisterValue}
use Rattle.state_cache.specs.declared.Entry.{Entry}
use Rattle.state_cache.specs.declared.Entry.TheVariants.{Empty, Held}
use Rattle.run_want.specs.Want.{reading_of, send_outcome}
use Rattle.run_want.specs.declared.Answer.{Answer}
use Rattle.run_want.specs.declared.Failure.TheVariants.{Mismatch, WrongType}
use Rattle.run_wait.specs.Ask.{ask_waited, looked}
use Rattle.state_cache.specs.Cache.{value_in}
use Rattle.run_wait.specs.Look.{fresh_entry, fresh_record}
use Rattle.run_wait.specs.Wait.{late}
use Rattle.run_wait.specs.declared.Wait.TheVariants.{Checking, Napping}
use Rattle.run_wait.specs.declared.ask.Ask.{Ask}
use Rattle.run_wait.specs.declared.ask.Ask.TheVariants.{Opening, Sending, Waiting}
use Rattle.run_read.specs.Read.{read_by, read_step, get_by, get_step}
use Rattle.run_write.specs.Ack.{ack_timeout, ack_waited, ack_step}
use Rattle.run_write.specs.Ack as AckSpec
use Rattle.run_write.specs.declared.ack.AckWait.{AckWait}
use Rattle.run_write.specs.Write.{write_waited, write_step}
use Rattle.run_want.specs.Step.{Stepped, goes, ends}
use Rattle.run_want.specs.declared.Failure.{Failure}
use Rattle.std.specs.declared.ops.ControlFlow.TheVariants.{Continue, Break}
use Rattle.run_wait.specs.declared.Waited.{Waited}
use Rattle.state_feedback.specs.declared.FeedbackSnapshot.{FeedbackSnapshot}
use Rattle.state_feedback.specs.declared.MotorFeedbackState.{MotorFeedbackState}
use Rattle.motor_core.specs.AndThen.{and_then}
use Rattle.run_write.specs.declared.Write.{Write}
use Rattle.run_fresh.specs.State.{state_by, state_step}
use Rattle.law_runs.specs.Ends.{ask_opening, ack_opening, HoldsFresh, Look, Since, ReadSaw, GetSaw, AckSaw, StateSaw, WriteSaw}

module _ (l : Duration) (answer : Answer) where
  -- ---- the register read

  module _ (entry : Entry) where
    read_look_saw : (ask : Ask) (o : Instant) → Look ask answer o → Since ask answer o → ReadSaw l entry ask answer (Ok (looked o (value_in (fresh_entry o entry))))
    read_look_saw ask o look since = go entry refl
      where
        go : (e : Entry) → entry ≡ e → ReadSaw l entry ask answer (Ok (looked o (value_in (fresh_entry o e))))
        go Empty is = since
        go (Held value stamp) is = fresh (leb o.0 stamp.0) refl
          where
            fresh : (b : Bool) → leb o.0 stamp.0 ≡ b → ReadSaw l entry ask answer (Ok (looked o (value_in (cond b (Held value stamp) Empty))))
            fresh true e = (o, look, record { stamp = stamp; holds = is; fresh = leb-true _ _ e })
            fresh false e = since

    pub read_saw : (ask : Ask) → ReadSaw l entry ask answer (read_step l entry ask answer)
    read_saw Opening = (refl, refl)
    read_saw (Sending o) = go (send_outcome answer) refl
      where
        go : (x : Result (Unit {0}) Failure) → send_outcome answer ≡ x → ReadSaw l entry (Sending o) answer (and_then (and_then x (λ sent. Ok (Waited.Looks o))) (read_by entry))
        go (Ok sent) e = read_look_saw (Sending o) o (refl, e) (refl, e)
        go (Err failure) e = inl (o, refl, e)
    read_saw (Waiting (Checking o)) = go (late o l (reading_of answer)) refl
      where
        go : (b : Bool) → late o l (reading_of answer) ≡ b → ReadSaw l entry (Waiting (Checking o)) answer (read_by entry (ask_waited (cond b Waited.Late (Waited.Goes (Napping o)))))
        go true e = inr (o, refl, leb-true _ _ e, refl)
        go false e = refl
    read_saw (Waiting (Napping o)) = read_look_saw (Waiting (Napping o)) o refl refl

    pub get_saw : (data_type : RegisterDataType) (ask : Ask) → GetSaw data_type l entry ask answer (get_step data_type l entry ask answer)
    get_saw data_type ask = go (read_step l entry ask answer) (read_saw ask)
      where
        go : (x : Stepped Ask RegisterValue) → ReadSaw l entry ask answer x → GetSaw data_type l entry ask answer (and_then x (get_by data_type))
        go (Ok (Continue next)) saw = saw
        go (Ok (Break value)) saw = typed (of_type value data_type) refl
          where
            typed : (b : Bool) → of_type value data_type ≡ b → GetSaw data_type l entry ask answer (and_then (cond b (Ok value) (Err WrongType)) ends)
            typed true e = (saw, e)
            typed false e = inr (value, saw, e, refl)
        go (Err failure) saw = inl saw

  -- ---- the fresh-state request

  module _ (latest : Option FeedbackSnapshot) where
    abbrev state_in : FeedbackSnapshot → Option MotorFeedbackState
    state_in s = Some s.state

    state_look_saw : (ask : Ask) (o : Instant) → ask_opening ask ≡ Some o → StateSaw l latest ask answer (Ok (looked o (option_map state_in (fresh_record o latest))))
    state_look_saw ask o opened = go latest refl
      where
        go : (x : Option FeedbackSnapshot) → latest ≡ x → StateSaw l latest ask answer (Ok (looked o (option_map state_in (fresh_record o x))))
        go None is = tt
        go (Some s) is = fresh (leb o.0 s.received_at.0) refl
          where
            fresh : (b : Bool) → leb o.0 s.received_at.0 ≡ b → StateSaw l latest ask answer (Ok (looked o (option_map state_in (cond b (Some s) None))))
            fresh true e = (o, opened, record { snapshot = s; is_latest = is; its_state = refl; fresh = leb-true _ _ e })
            fresh false e = tt

    pub state_saw : (ask : Ask) → StateSaw l latest ask answer (state_step l latest ask answer)
    state_saw Opening = tt
    state_saw (Sending o) = go (send_outcome answer) refl
      where
        go : (x : Result (Unit {0}) Failure) → send_outcome answer ≡ x → StateSaw l latest (Sending o) answer (and_then (and_then x (λ sent. Ok (Waited.Looks o))) (state_by latest))
        go (Ok sent) e = state_look_saw (Sending o) o refl
        go (Err failure) e = (o, refl, e)
    state_saw (Waiting (Checking o)) = go (late o l (reading_of answer)) refl
      where
        go : (b : Bool) → late o l (reading_of answer) ≡ b → StateSaw l latest (Waiting (Checking o)) answer (state_by latest (ask_waited (cond b Waited.Late (Waited.Goes (Napping o)))))
        go true e = (o, refl, leb-true _ _ e)
        go false e = tt
    state_saw (Waiting (Napping o)) = state_look_saw (Waiting (Napping o)) o refl

-- ---- the ack wait

module _ (value : RegisterValue) (entry : Entry) (answer : Answer) where
  ack_look_saw : (ack : AckWait) (o : Instant) → ack_opening ack answer ≡ o → AckSaw value entry ack answer (AckSpec.ack_found o value (fresh_entry o entry))
  ack_look_saw ack o opened = go entry refl
    where
      go : (e : Entry) → entry ≡ e → AckSaw value entry ack answer (AckSpec.ack_found o value (fresh_entry o e))
      go Empty is = tt
      go (Held got stamp) is = fresh (leb o.0 stamp.0) refl
        where
          fresh : (b : Bool) → leb o.0 stamp.0 ≡ b → AckSaw value entry ack answer (AckSpec.ack_found o value (cond b (Held got stamp) Empty))
          fresh true e = same (same_value got value) refl
            where
              seen : HoldsFresh (ack_opening ack answer) entry got
              seen = record { stamp = stamp; holds = is; fresh = subst (λ (x : Instant). x.0 ≤ stamp.0) (sym opened) (leb-true _ _ e) }

              same : (b : Bool) → same_value got value ≡ b → AckSaw value entry ack answer (cond b (Ok (Break tt)) (Err (Mismatch got)))
              same true h = (got, seen, h)
              same false h = inl (got, seen, h, refl)
          fresh false e = tt

  pub ack_saw : (ack : AckWait) → AckSaw value entry ack answer (ack_step value entry ack answer)
  ack_saw AckWait.Opening = ack_look_saw AckWait.Opening (reading_of answer) refl
  ack_saw (AckWait.Waiting (Checking o)) = go (late o ack_timeout (reading_of answer)) refl
    where
      go : (b : Bool) → late o ack_timeout (reading_of answer) ≡ b → AckSaw value entry (AckWait.Waiting (Checking o)) answer (ack_waited value entry (cond b Waited.Late (Waited.Goes (Napping o))))
      go true e = inr (leb-true _ _ e, refl)
      go false e = tt
  ack_saw (AckWait.Waiting (Napping o)) = ack_look_saw (AckWait.Waiting (Napping o)) o refl

  -- ---- the confirmed write

  pub write_saw : (write : Write) → WriteSaw value entry write answer (write_step value entry write answer)
  write_saw (Write.Sending n) = go (send_outcome answer) refl
    where
      go : (x : Result (Unit {0}) Failure) → send_outcome answer ≡ x → WriteSaw value entry (Write.Sending n) answer (and_then x (λ sent. goes (Write.Waiting n AckWait.Opening)))
      go (Ok sent) e = tt
      go (Err failure) e = inl (n, refl, e)
  write_saw (Write.Waiting n ack) = go n (ack_step value entry ack answer) (ack_saw ack)
    where
      go : (n : ℕ) (x : Stepped AckWait (Unit {0})) → AckSaw value entry ack answer x → WriteSaw value entry (Write.Waiting n ack) answer (write_waited n x)
      go n (Ok (Continue next)) saw = tt
      go n (Ok (Break acked)) saw = (n, ack, refl, saw)
      go zero (Err failure) saw = inr (ack, refl, saw)
      go (suc m) (Err failure) saw = tt
  write_saw (Write.Gap n) = tt
