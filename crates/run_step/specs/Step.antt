-- The step of each run's machine, with the latest record and the entry at the machine's place. Definitions only.
use Rattle.std.specs.Prelude.{Option}
use Rattle.state_feedback.specs.declared.FeedbackSnapshot.{FeedbackSnapshot}
use Rattle.state_cache.specs.declared.Entry.{Entry}
use Rattle.run_want.specs.Step.{Stepped, map_stepped}
use Rattle.run_want.specs.declared.Answer.{Answer}
use Rattle.run_read.specs.Read.{get_step}
use Rattle.run_write.specs.Write.{write_step}
use Rattle.run_fresh.specs.State.{state_step}
use Rattle.run_fresh.specs.Store.{store_step}
use Rattle.switch_step.specs.Switch.{switch_step}
use Rattle.run_machine.specs.declared.Machine.{Machine}
use Rattle.run_machine.specs.declared.Machine.TheVariants.{GetRegister, WriteRegister, RequestFreshState, StoreParameters, EnsureControlMode}
use Rattle.run_machine.specs.declared.Outcome.{Outcome}
use Rattle.run_machine.specs.declared.Outcome.TheVariants.{Done, Value, State}

-- a part's step in terms of the run: a read ends with the value, a fresh-state request with the state if there is one
abbrev pub machine_step : Option FeedbackSnapshot → Entry → Machine → Answer → Stepped Machine Outcome
machine_step latest entry (GetRegister data_type rid timeout ask) answer = map_stepped (GetRegister data_type rid timeout) Value (get_step data_type timeout entry ask answer)
machine_step latest entry (WriteRegister rid value write) answer = map_stepped (WriteRegister rid value) (λ written. Done) (write_step value entry write answer)
machine_step latest entry (RequestFreshState timeout ask) answer = map_stepped (RequestFreshState timeout) State (state_step timeout latest ask answer)
machine_step latest entry (StoreParameters store) answer = map_stepped StoreParameters (λ stored. Done) (store_step latest store answer)
machine_step latest entry (EnsureControlMode mode timeout switch) answer = map_stepped (EnsureControlMode mode timeout) (λ switched. Done) (switch_step mode timeout entry switch answer)
