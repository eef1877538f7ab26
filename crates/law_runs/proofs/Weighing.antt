-- What each phase may still want, weighed. Assumes nothing.
use Rattle.std.specs.Prelude.{ℕ, zero, suc, ◌+◌, ◌≤◌, ◌≡◌, false, Option, Result, Ok, Err}
use Rattle.state_feedback.specs.declared.MotorFeedbackState.{MotorFeedbackState}
use Rattle.run_want.specs.Step.{Stepped}
use Rattle.run_want.specs.declared.Failure.{Failure}
use Rattle.std.specs.declared.ops.ControlFlow.TheVariants.{Continue, Break}
use Rattle.run_wait.specs.declared.Waited.{Waited}
use Rattle.run_machine.specs.declared.Outcome.{Outcome}
use Rattle.time.specs.Time.{millis}
use Rattle.time.specs.declared.Instant.{Instant}
use Rattle.time.specs.declared.Duration.{Duration}
use Rattle.registers.specs.Value.{bits_of}
use Rattle.registers.specs.declared.RegisterValue.{RegisterValue}
use Rattle.run_want.specs.declared.Want.{Want}
use Rattle.run_want.specs.declared.message.Message.{Message}
use Rattle.protocol_hold.specs.declared.ControlMode.{ControlMode}
use Rattle.protocol_hold.specs.declared.ControlMode.TheVariants.{Mit, PosVel, Vel, ForcePos}
use Rattle.run_wait.specs.Wait.{late, poll_interval}
use Rattle.run_wait.specs.declared.Wait.{Wait}
use Rattle.run_wait.specs.declared.Wait.TheVariants.{Checking, Napping}
use Rattle.run_wait.specs.declared.ask.Ask.{Ask}
use Rattle.run_write.specs.Ack.{ack_timeout}
use Rattle.run_write.specs.declared.ack.AckWait.{AckWait}
use Rattle.run_write.specs.declared.Write.{Write}
use Rattle.run_fresh.specs.Store.{state_timeout}
use Rattle.run_fresh.specs.declared.store.Store.{Store}
use Rattle.switch_stage.specs.Stage.{mode_value}
use Rattle.switch_stage.specs.declared.ModeRead.{ModeRead}
use Rattle.switch_stage.specs.declared.ModeRead.TheVariants.{First, Verify}
use Rattle.switch_stage.specs.declared.Stage.TheVariants as Stage
use Rattle.switch_stage.specs.declared.Switch.{Switch}
use Rattle.run_machine.specs.declared.Machine.{Machine}
use Rattle.run_machine.specs.declared.Machine.TheVariants.{GetRegister, WriteRegister, RequestFreshState, StoreParameters, EnsureControlMode}
use Rattle.law_runs.specs.Clock.{Clocked}
use Rattle.law_runs.specs.Trace.{Label, label, counted}

-- A way of weighing: what each want weighs, and what a wait may still want, by what is known of the clock.
pub record Budget (κ : Clocked) : Type 1 where
  pub clock : ℕ
  pub send : Label → ℕ
  pub sleep : ℕ
  pub wait_left : Duration → κ.Known → Wait → ℕ
  -- what one that has just opened may want
  pub opened : Duration → ℕ
  pub grows : (l m : Duration) → l.0 ≤ m.0 → opened l ≤ opened m
  pub opens : (l : Duration) (o : Instant) → wait_left l (κ.hear o) (Checking o) ≤ opened l
  -- the reading that ends the wait
  pub at_deadline : (l : Duration) (k : κ.Known) (o : Instant) → clock ≤ wait_left l k (Checking o)
  -- one that does not, and leaves less
  pub before_deadline : (l : Duration) (k : κ.Known) (o t : Instant) → κ.Fine k t → late o l t ≡ false → clock + wait_left l (κ.hear t) (Napping o) ≤ wait_left l k (Checking o)
  -- the sleep after it
  pub after_sleep : (l : Duration) (k : κ.Known) (o : Instant) → sleep + wait_left l (κ.nap poll_interval k) (Checking o) ≤ wait_left l k (Napping o)

-- what a step leaves to a run, by what its phase leaves: nothing where it ends or fails
abbrev pub stepped_left : {S T : Type 0} → (S → ℕ) → Stepped S T → ℕ
stepped_left left (Ok (Continue s)) = left s
stepped_left left (Ok (Break t)) = 0
stepped_left left (Err failure) = 0

module _ {κ : Clocked} (β : Budget κ) where
  abbrev pub weigh : Want Message → ℕ
  weigh = counted β.clock β.send β.sleep

  -- asking, by the message that is sent; a look that finds nothing leaves a wait
  abbrev pub ask_left : Message → Duration → κ.Known → Ask → ℕ
  ask_left m l k Ask.Opening = β.clock + β.send (label m) + β.opened l
  ask_left m l k (Ask.Sending o) = β.send (label m) + β.wait_left l k (Checking o)
  ask_left m l k (Ask.Waiting w) = β.wait_left l k w

  abbrev pub asked_left : Message → Duration → κ.Known → Result (Waited Ask) Failure → ℕ
  asked_left m l k (Ok (Waited.Goes ask)) = ask_left m l k ask
  asked_left m l k (Ok (Waited.Looks o)) = β.wait_left l k (Checking o)
  asked_left m l k (Ok Waited.Late) = 0
  asked_left m l k (Err failure) = 0

  abbrev pub read_left : ℕ → Duration → κ.Known → Stepped Ask RegisterValue → ℕ
  read_left rid l k = stepped_left (ask_left (Message.ReadRegister rid) l k)

  abbrev pub state_left : Duration → κ.Known → Stepped Ask (Option MotorFeedbackState) → ℕ
  state_left l k = stepped_left (ask_left Message.RequestFeedback l k)

  -- storing, after its request
  abbrev pub storing : ℕ
  storing = β.send Label.store + β.sleep

  abbrev pub disabling : ℕ
  disabling = β.send Label.disable + β.sleep + storing

  abbrev pub store_left : κ.Known → Store → ℕ
  store_left k (Store.Asking ask) = ask_left Message.RequestFeedback state_timeout k ask + disabling
  store_left k Store.Disabling = disabling
  store_left k Store.Disabled = β.sleep + storing
  store_left k Store.Storing = storing
  store_left k Store.Stored = β.sleep

  abbrev pub stored_left : κ.Known → Stepped Store (Unit {0}) → ℕ
  stored_left k = stepped_left (store_left k)

  abbrev pub ack_left : κ.Known → AckWait → ℕ
  ack_left k AckWait.Opening = β.clock + β.opened ack_timeout
  ack_left k (AckWait.Waiting w) = β.wait_left ack_timeout k w

  abbrev pub acked_left : κ.Known → Stepped AckWait (Unit {0}) → ℕ
  acked_left k = stepped_left (ack_left k)

  -- one try of a write, and the tries after it, each after a gap
  abbrev pub one_try : ℕ → RegisterValue → ℕ
  one_try rid value = β.send (Label.write rid (bits_of value)) + β.clock + β.opened ack_timeout

  unfoldable pub more_tries : ℕ → RegisterValue → ℕ → ℕ
  more_tries rid value zero = 0
  more_tries rid value (suc n) = β.sleep + one_try rid value + more_tries rid value n

  abbrev pub write_left : ℕ → RegisterValue → κ.Known → Write → ℕ
  write_left rid value k (Write.Sending n) = one_try rid value + more_tries rid value n
  write_left rid value k (Write.Waiting n ack) = ack_left k ack + more_tries rid value n
  write_left rid value k (Write.Gap n) = β.sleep + one_try rid value + more_tries rid value n

  abbrev pub written_left : ℕ → RegisterValue → κ.Known → Stepped Write (Unit {0}) → ℕ
  written_left rid value k = stepped_left (write_left rid value k)

  -- a read of the mode, with the reading of the time that is left for it, and that of the position to hold
  abbrev pub reading_in : ℕ → Duration → ℕ
  reading_in rid l = β.clock + (β.clock + β.send (Label.read rid) + β.opened l)

  abbrev pub mode_reading : ℕ
  mode_reading = reading_in 10 (millis 100)

  -- after a write: a sleep and a hold frame
  abbrev pub holding : ControlMode → ℕ
  holding mode = β.send (Label.hold mode)

  abbrev pub finishing : ControlMode → ℕ
  finishing mode = β.clock + β.sleep + holding mode

  -- a write of the mode with what comes after it, up to the end of the next read
  abbrev pub round : ControlMode → ℕ
  round mode = one_try 10 (mode_value mode) + more_tries 10 (mode_value mode) 2 + finishing mode + mode_reading

  unfoldable pub more_rounds : ControlMode → ℕ → ℕ
  more_rounds mode zero = 0
  more_rounds mode (suc n) = round mode + more_rounds mode n

  -- from a clearing frame on
  abbrev pub clearing : ControlMode → ℕ
  clearing Mit = holding Mit
  clearing ForcePos = holding ForcePos + holding Mit
  clearing PosVel = holding PosVel + holding ForcePos + holding Mit
  clearing Vel = holding Vel + holding PosVel + holding ForcePos + holding Mit

  abbrev pub rounds : ControlMode → ℕ
  rounds mode = more_rounds mode 3

  abbrev pub preparing : ControlMode → ℕ
  preparing mode = reading_in 80 (millis 30) + clearing Vel + rounds mode

  -- after a read that did not find the mode
  abbrev pub unfound : ControlMode → ModeRead → ℕ
  unfound mode First = preparing mode
  unfound mode (Verify n) = more_rounds mode n

  abbrev pub switch_left : ControlMode → κ.Known → Switch → ℕ
  switch_left mode k Switch.Starting = β.clock + mode_reading + preparing mode
  switch_left mode k (Switch.Begun p (Stage.Remaining which)) = mode_reading + unfound mode which
  switch_left mode k (Switch.Begun p (Stage.Reading which l ask)) = ask_left (Message.ReadRegister 10) l k ask + unfound mode which
  switch_left mode k (Switch.Begun p Stage.HoldRemaining) = preparing mode
  switch_left mode k (Switch.Begun p (Stage.HoldReading l ask)) = ask_left (Message.ReadRegister 80) l k ask + clearing Vel + rounds mode
  switch_left mode k (Switch.Begun p (Stage.Clearing channel)) = clearing channel + rounds mode
  switch_left mode k (Switch.Begun p (Stage.Writing n write)) = write_left 10 (mode_value mode) k write + finishing mode + mode_reading + more_rounds mode n
  switch_left mode k (Switch.Begun p (Stage.SettleRemaining n)) = finishing mode + mode_reading + more_rounds mode n
  switch_left mode k (Switch.Begun p (Stage.SettleSleep n l)) = β.sleep + holding mode + mode_reading + more_rounds mode n
  switch_left mode k (Switch.Begun p (Stage.Holding n)) = holding mode + mode_reading + more_rounds mode n

  abbrev pub switched_left : ControlMode → κ.Known → Stepped Switch (Unit {0}) → ℕ
  switched_left mode k = stepped_left (switch_left mode k)

  -- each run's machine
  abbrev pub machine_left : κ.Known → Machine → ℕ
  machine_left k (GetRegister data_type rid l ask) = ask_left (Message.ReadRegister rid) l k ask
  machine_left k (WriteRegister rid value write) = write_left rid value k write
  machine_left k (RequestFreshState l ask) = ask_left Message.RequestFeedback l k ask
  machine_left k (StoreParameters store) = store_left k store
  machine_left k (EnsureControlMode mode l switch) = switch_left mode k switch

  abbrev pub left : κ.Known → Stepped Machine Outcome → ℕ
  left k = stepped_left (machine_left k)
