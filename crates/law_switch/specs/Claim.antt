-- Demand 3: what holds of every mode switch in every list of calls on one session: the last paragraph of document 01's 'The runs'. It stands on `law_calls`: `Calls` has the list, `Places` the last replies and acks that were taken, `Turns` a run's turns with its wants, its result and its sleeps. It speaks of the calls and of what they returned; the run's definition is asked only for what it wants. Definitions only.
use Rattle.std.specs.Prelude.{ℕ, ◌/◌, ◌^◌, ◌≤◌, ◌<◌, ◌≡◌, Bool, true, false, not, ◌&&◌, ◌||◌, ◌↔◌, List, [], ◌∷◌, ◌++◌, eqb, length, None, Option, Some, Ok, Err}
use Rattle.motor_core.specs.Bus.{motor_id_accepted}
use Rattle.motor_core.specs.declared.bus.CanFrame.{CanFrame}
use Rattle.motor_core.specs.declared.error.Refusal.TheVariants.{RunOpen}
use Rattle.time.specs.declared.Instant.{Instant}
use Rattle.time.specs.declared.Duration.{Duration}
use Rattle.registers.specs.declared.RegisterValue.TheVariants.{UInt32}
use Rattle.protocol_request.specs.Request.{request_id, register_read_data, register_write_data}
use Rattle.protocol_hold.specs.Mode.{hold_id}
use Rattle.protocol_hold.specs.declared.ControlMode.{ControlMode}
use Rattle.protocol_hold.specs.declared.ControlMode.TheVariants.{ForcePos}
use Rattle.state_cache.specs.declared.Entry.TheVariants.{Held}
use Rattle.state_cache.specs.declared.Place.TheVariants.{Reply}
use Rattle.protocol_address.specs.Address.{own_frame}
use Rattle.run_want.specs.declared.Answer.{Answer}
use Rattle.run_want.specs.declared.message.Message.{Message}
use Rattle.run_want.specs.declared.message.Message.TheVariants.{ReadRegister, WriteRegister, RequestFeedback, Disable, StoreParams, Setpoint}
use Rattle.run_machine.specs.Machine.{RunResult}
use Rattle.run_machine.specs.declared.Outcome.TheVariants.{Done}
use Rattle.session.specs.declared.Session.{Session}
use Rattle.session_begin.specs.declared.Start.{Start}
use Rattle.session_begin.specs.declared.Start.TheVariants.{EnsureControlMode}
use Rattle.session_call.specs.Step.{step}
use Rattle.session_call.specs.declared.Call.{Call}
use Rattle.session_call.specs.declared.Returned.TheVariants as Returned
use Rattle.law_calls.specs.Calls.{Fresh, Event, event, events, session_after, Answered, Accepted, IsRefusal}
use Rattle.law_calls.specs.Places.{nothing, seen_after}
use Rattle.law_calls.specs.Turns.{Gave, Turn, turns_after, result, gave_after, gaves, count, a_want, send_to, a_send, a_sleep, wants_send, wants_sleep, any, AllMove, reading_after}

-- ---- the reads and writes of register 10

-- a send on 0x7FF of such data bytes
abbrev pub on_7ff : (ℕ → Bool) → Answered → Bool
on_7ff of = a_want (send_to (λ id bytes. eqb id request_id && of bytes))

-- the bytes of a read of register 10; of a write of it, whatever the value: the first four
abbrev pub read_bytes : ℕ → ℕ → Bool
read_bytes motor bytes = eqb bytes (register_read_data motor 10)

abbrev pub write_bytes : ℕ → ℕ → Bool
write_bytes motor bytes = eqb (bytes / 2 ^ 32) (register_write_data motor 10 0 / 2 ^ 32)

-- the motor id that puts a setpoint frame on 0x7FF too; of those that are accepted it is the only one, by `shares` of the claim
unfoldable pub shares_7ff : ℕ → Bool
shares_7ff motor = eqb motor 0x4ff

unfoldable pub wants_mode_read : Message → Bool
wants_mode_read (ReadRegister rid) = eqb rid 10
wants_mode_read (WriteRegister rid bits) = false
wants_mode_read RequestFeedback = false
wants_mode_read Disable = false
wants_mode_read StoreParams = false
wants_mode_read (Setpoint mode position) = false

unfoldable pub wants_mode_write : Message → Bool
wants_mode_write (ReadRegister rid) = false
wants_mode_write (WriteRegister rid bits) = eqb rid 10
wants_mode_write RequestFeedback = false
wants_mode_write Disable = false
wants_mode_write StoreParams = false
wants_mode_write (Setpoint mode position) = false

-- A read or write of register 10 is its frame on 0x7FF; where a setpoint frame may be the same, only if the definition wants that command.
abbrev pub mode_read : ℕ → Gave → Bool
mode_read motor g = on_7ff (read_bytes motor) g.told && (not (shares_7ff motor) || wants_send wants_mode_read g.wants)

abbrev pub mode_write : ℕ → Gave → Bool
mode_write motor g = on_7ff (write_bytes motor) g.told && (not (shares_7ff motor) || wants_send wants_mode_write g.wants)

-- ---- success: what the last read of register 10 found

-- A read looks in the call that accepts its sent, and in each that accepts a slept of its wait, which lasts while no other send is wanted. `us` are the turns since its send was wanted, `a` the next answer.
unfoldable pub Looks : List Turn → Answer → Type 0
Looks [] a = a ≡ Answer.Send (Ok tt)
Looks (u ∷ us) a = (u.answer ≡ Answer.Send (Ok tt)) × (count (λ g. a_send g.told) (gaves (u ∷ us)) ≡ 0) × (a ≡ Answer.Slept)

-- The last read of register 10 is wanted after the turns `before` and opens with the last reading accepted by then; its look in the turn `look` finds a reply that holds the mode, stamped no earlier. `so_far` is the last reading accepted before all these turns, which from a switch's start on is none.
pub record Found (motor mode : ℕ) (so_far : Option Instant) (first : Gave) (ts : List Turn) : Type 0 where
  pub before : List Turn
  pub waited : List Turn
  pub look : Turn
  pub later : List Turn
  pub opening : Instant
  pub stamp : Instant
  pub whole : ts ≡ before ++ (waited ++ (look ∷ later))
  pub read : mode_read motor (gave_after first before) ≡ true
  pub is_last : count (mode_read motor) (gaves (waited ++ (look ∷ later))) ≡ 0
  pub opens : reading_after so_far before ≡ Some opening
  pub looks : Looks waited look.answer
  pub finds : look.sees (Reply 10) ≡ Held (UInt32 mode) stamp
  pub fresh : opening.0 ≤ stamp.0

-- ---- the claim

-- Of one switch: what its calls gave, from its start on; its turns after that; and the session at the end of the list.
pub record OfSwitch (motor mode : ℕ) (first : Gave) (ts : List Turn) (end : Session) : Type 0 where
  -- at most four reads of register 10, nine writes of it and 21 sends
  pub reads : count (mode_read motor) (first ∷ gaves ts) ≤ 4
  pub writes : count (mode_write motor) (first ∷ gaves ts) ≤ 9
  pub sends : count (λ g. a_send g.told) (first ∷ gaves ts) ≤ 21
  -- the definition counts the same
  pub reads_wanted : count (mode_read motor) (first ∷ gaves ts) ≡ count (λ g. wants_send wants_mode_read g.wants) (first ∷ gaves ts)
  pub writes_wanted : count (mode_write motor) (first ∷ gaves ts) ≡ count (λ g. wants_send wants_mode_write g.wants) (first ∷ gaves ts)
  pub sends_wanted : count (λ g. a_send g.told) (first ∷ gaves ts) ≡ count (λ g. wants_send any g.wants) (first ∷ gaves ts)
  pub sleeps_wanted : count (λ g. a_sleep g.told) (first ∷ gaves ts) ≡ count (λ g. wants_sleep g.wants) (first ∷ gaves ts)
  -- if its sleeps move the clock on, at most 449 of them, and while it has no result fewer than 947 accepted answers
  pub sleeps : AllMove None first.told ts → count (λ g. a_sleep g.told) (first ∷ gaves ts) ≤ 449
  pub ends : AllMove None first.told ts → result first ts ≡ None → length ts < 947
  -- while it has none, some answer is accepted, and every start is refused with 8, so that its turns are its own; with it the run is closed
  pub answerable : result first ts ≡ None → (a : Answer) × (w : Answered) × ((step end (Call.Answer a)).told ≡ Returned.Run w) × Accepted w
  pub refuses : result first ts ≡ None → (other : Start) → (step end (Call.Start other)).told ≡ Returned.Run (Err RunOpen)
  pub closes : (r : RunResult) → result first ts ≡ Some r → (gave_after first ts).wants ≡ None
  -- done exactly if the last read of register 10 found the mode
  pub success : (r : RunResult) → result first ts ≡ Some r → (r ≡ Ok Done) ↔ Found motor mode None first ts

-- each switch, by its accepted start, in each list of calls from a fresh session. Only this motor's frames count: of the replies of register 10, a turn sees the one in the last frame that was taken before its call, is this motor's and is such a reply
abbrev pub EachSwitch : (ℕ → ℕ → Gave → List Turn → Session → Type 0) → Type 0
EachSwitch P = (motor feedback : ℕ) (s₀ : Session) → Fresh motor feedback s₀ → (before : List Call) (mode : ℕ) (timeout : Duration) (after : List Call) →
    (let own = own_frame motor feedback in
    let s = session_after s₀ before in
    let began = event s (Call.Start (EnsureControlMode mode timeout)) in
    let s' = (step s (Call.Start (EnsureControlMode mode timeout))).session in
    (w : Answered) → began.returned ≡ Returned.Run w → Accepted w →
    P motor mode (record { told = w; wants = began.wants })
    (turns_after own w (seen_after own nothing (events s₀ before)) (events s' after))
    (session_after s' after))

pub record Claim : Type 0 where
  -- a refused call leaves the session that it got
  pub refusals : (s : Session) (c : Call) → IsRefusal (step s c).told → (step s c).session ≡ s
  -- an accepted motor id puts a mode's setpoints on 0x7FF exactly if it is the one that shares it and the mode is force-position
  pub shares : (motor : ℕ) → motor_id_accepted motor ≡ true → (mode : ControlMode) → (hold_id motor mode ≡ request_id) ↔ ((shares_7ff motor ≡ true) × (mode ≡ ForcePos))
  -- every frame that a call in a list took is this motor's
  pub takes_own : (motor feedback : ℕ) (s : Session) → Fresh motor feedback s → (cs : List Call) (before later : List Event) (v : Event) (f : CanFrame) (reading : Instant) → events s cs ≡ before ++ (v ∷ later) →
      v.call ≡ Call.Frame f reading → v.returned ≡ Returned.Frame (Ok tt) → own_frame motor feedback f ≡ true
  pub switches : EachSwitch OfSwitch
