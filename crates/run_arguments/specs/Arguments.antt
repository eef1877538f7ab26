-- The arguments of a start: document 01's 'Turned back'. Definitions only.
use Rattle.std.specs.Prelude.{ℕ, cond, Option, Some, None, Result, Ok, Err}
use Rattle.motor_core.specs.AndThen.{and_then}
use Rattle.motor_core.specs.declared.error.Refusal.{Refusal}
use Rattle.time.specs.Time.{timeout_accepted}
use Rattle.time.specs.declared.Duration.{Duration}
use Rattle.registers.specs.Registers.{known, info_of}
use Rattle.registers.specs.Value.{of_type}
use Rattle.registers.specs.declared.RegisterAccess.{RegisterAccess}
use Rattle.registers.specs.declared.RegisterAccess.TheVariants.{ReadOnly, ReadWrite}
use Rattle.registers.specs.declared.RegisterDataType.{RegisterDataType}
use Rattle.registers.specs.declared.RegisterInfo.{RegisterInfo}
use Rattle.registers.specs.declared.RegisterValue.{RegisterValue}
use Rattle.protocol_hold.specs.Mode.{control_mode}
use Rattle.run_wait.specs.declared.ask.Ask.TheVariants.{Opening}
use Rattle.run_write.specs.Write.{first_try}
use Rattle.run_fresh.specs.declared.store.Store.TheVariants.{Asking}
use Rattle.switch_stage.specs.declared.Switch.TheVariants.{Starting}
use Rattle.run_machine.specs.declared.Machine.{Machine}
use Rattle.run_machine.specs.declared.Machine.TheVariants.{GetRegister, WriteRegister, RequestFreshState, StoreParameters, EnsureControlMode}

abbrev pub checked_timeout : Duration → Result Duration Refusal
checked_timeout timeout = cond (timeout_accepted timeout) (Ok timeout) (Err Refusal.Timeout)

-- a read: the register, then the timeout
abbrev pub get_start : RegisterDataType → ℕ → Duration → Result Machine Refusal
get_start data_type rid timeout = cond (known rid) (and_then (checked_timeout timeout) (λ t. Ok (GetRegister data_type rid t Opening))) (Err Refusal.Register)

-- a write: the register, then its access, then the value's type
abbrev pub write_known : RegisterAccess → RegisterDataType → ℕ → RegisterValue → Result Machine Refusal
write_known ReadOnly data_type rid value = Err Refusal.ReadOnly
write_known ReadWrite data_type rid value = cond (of_type value data_type) (Ok (WriteRegister rid value first_try)) (Err Refusal.ValueType)

abbrev pub write_by : Option RegisterInfo → ℕ → RegisterValue → Result Machine Refusal
write_by None rid value = Err Refusal.Register
write_by (Some info) rid value = write_known info.access info.data_type rid value

abbrev pub write_start : ℕ → RegisterValue → Result Machine Refusal
write_start rid value = write_by (info_of rid) rid value

-- a fresh-state request: the timeout
abbrev pub fresh_state_start : Duration → Result Machine Refusal
fresh_state_start timeout = and_then (checked_timeout timeout) (λ t. Ok (RequestFreshState t Opening))

-- storing is refused only where a run is open
abbrev pub store_start : Machine
store_start = StoreParameters (Asking Opening)

-- a mode switch: the mode, then the timeout
abbrev pub mode_start : ℕ → Duration → Result Machine Refusal
mode_start mode timeout = and_then (control_mode mode) (λ m. and_then (checked_timeout timeout) (λ t. Ok (EnsureControlMode m t Starting)))
