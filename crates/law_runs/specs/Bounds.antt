-- What a wait and a whole run want at most. Definitions only.
use Rattle.std.specs.Prelude.{ℕ, ◌+◌, ◌*◌, ◌≤◌, ◌≡◌, Bool, List, length, None, Some}
use Rattle.time.specs.declared.Instant.{Instant}
use Rattle.time.specs.declared.Duration.{Duration}
use Rattle.registers.specs.Value.{bits_of}
use Rattle.registers.specs.declared.RegisterDataType.{RegisterDataType}
use Rattle.registers.specs.declared.RegisterValue.{RegisterValue}
use Rattle.protocol_hold.specs.Mode.{mode_number}
use Rattle.protocol_hold.specs.declared.ControlMode.{ControlMode}
use Rattle.protocol_hold.specs.declared.ControlMode.TheVariants.{Mit, PosVel, Vel, ForcePos}
use Rattle.run_wait.specs.declared.Wait.TheVariants.{Checking}
use Rattle.run_wait.specs.declared.ask.Ask.TheVariants.{Opening}
use Rattle.run_write.specs.Write.{first_try}
use Rattle.run_write.specs.declared.ack.AckWait.TheVariants as AckWait
use Rattle.run_fresh.specs.declared.store.Store.TheVariants.{Asking}
use Rattle.switch_stage.specs.declared.Switch.TheVariants.{Starting}
use Rattle.run_machine.specs.declared.Machine.{Machine}
use Rattle.run_machine.specs.declared.Machine.TheVariants.{GetRegister, WriteRegister, RequestFreshState, StoreParameters, EnsureControlMode}
use Rattle.law_runs.specs.Clock.{unheard, heard, Moving, polls}
use Rattle.law_runs.specs.Systems.{waiting, acking, running}
use Rattle.law_runs.specs.Trace.{Given, Label, wants_from, after, counted, one_sleep, total}

-- These sends at most, by any weight of their commands, whatever the clock does. If its sleeps move the clock, so many sleeps, and ended after so many answers.
pub record Within (start : Machine) (sends : (Label → ℕ) → ℕ) (sleeps answers : ℕ) : Type 0 where
  pub sends_at_most : (weight : Label → ℕ) (gs : List Given) → total (counted 0 weight 0) (wants_from running gs (Some start)) ≤ sends weight
  pub sleeps_at_most : (gs : List Given) → Moving running gs unheard (Some start) → total one_sleep (wants_from running gs (Some start)) ≤ sleeps
  pub ends_after : (gs : List Given) → Moving running gs unheard (Some start) → answers ≤ length gs → after running gs (Some start) ≡ None

-- of a switch four reads of the mode, nine writes, the read of the position, four clearing frames and three hold frames
abbrev pub switch_sends : ControlMode → (Label → ℕ) → ℕ
switch_sends mode w = 4 * w (Label.read 10) + 9 * w (Label.write 10 (mode_number mode)) + w (Label.read 80) + (w (Label.hold Vel) + w (Label.hold PosVel) + w (Label.hold ForcePos) + w (Label.hold Mit)) + 3 * w (Label.hold mode)

pub record Bounds : Type 0 where
  -- a wait by itself, and one for an ack: sleeps that fit its length, rounded up, if they move the clock
  pub wait : (l : Duration) (finds : Given → Instant → Bool) (o : Instant) (gs : List Given) → Moving (waiting l finds) gs (heard o) (Some (Checking o)) → total one_sleep (wants_from (waiting l finds) gs (Some (Checking o))) ≤ polls l.0
  pub ack_wait : (value : RegisterValue) (gs : List Given) → Moving (acking value) gs unheard (Some AckWait.Opening) → total one_sleep (wants_from (acking value) gs (Some AckWait.Opening)) ≤ 25
  -- the runs
  pub read : (data_type : RegisterDataType) (rid : ℕ) (l : Duration) → Within (GetRegister data_type rid l Opening) (λ w. w (Label.read rid)) (polls l.0) (3 + 2 * polls l.0)
  pub request : (l : Duration) → Within (RequestFreshState l Opening) (λ w. w Label.request) (polls l.0) (3 + 2 * polls l.0)
  -- three tries with 25 sleeps each, and two gaps
  pub write : (rid : ℕ) (value : RegisterValue) → Within (WriteRegister rid value first_try) (λ w. 3 * w (Label.write rid (bits_of value))) 77 161
  pub store : Within (StoreParameters (Asking Opening)) (λ w. w Label.request + w Label.disable + w Label.store) 27 57
  pub switch : (mode : ControlMode) (l : Duration) → Within (EnsureControlMode mode l Starting) (switch_sends mode) 449 947
