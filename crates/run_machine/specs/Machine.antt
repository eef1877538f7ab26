-- Each run's machine: what it wants and where it looks. Definitions only.
use Rattle.std.specs.Prelude.{Option, Some, None, Result}
use Rattle.state_cache.specs.declared.Place.{Place}
use Rattle.state_cache.specs.declared.Place.TheVariants.{Reply, Ack}
use Rattle.run_want.specs.declared.Failure.{Failure}
use Rattle.run_want.specs.declared.Want.{Want}
use Rattle.run_want.specs.declared.message.Message.{Message}
use Rattle.run_read.specs.Read.{read_want}
use Rattle.run_write.specs.Write.{write_want}
use Rattle.run_fresh.specs.State.{state_want}
use Rattle.run_fresh.specs.Store.{store_want}
use Rattle.switch_stage.specs.Stage.{switch_want, switch_place}
use Rattle.run_machine.specs.declared.Machine.{Machine}
use Rattle.run_machine.specs.declared.Outcome.{Outcome}
use Rattle.run_machine.specs.declared.Machine.TheVariants.{GetRegister, WriteRegister, RequestFreshState, StoreParameters, EnsureControlMode}

abbrev pub machine_want : Machine → Want Message
machine_want (GetRegister data_type rid timeout ask) = read_want rid ask
machine_want (WriteRegister rid value write) = write_want rid value write
machine_want (RequestFreshState timeout ask) = state_want ask
machine_want (StoreParameters store) = store_want store
machine_want (EnsureControlMode mode timeout switch) = switch_want mode switch

-- a read looks at its register's reply, a write at its ack, a switch by its stage; the others look at the record
abbrev pub machine_place : Machine → Option Place
machine_place (GetRegister data_type rid timeout ask) = Some (Reply rid)
machine_place (WriteRegister rid value write) = Some (Ack rid)
machine_place (RequestFreshState timeout ask) = None
machine_place (StoreParameters _) = None
machine_place (EnsureControlMode mode timeout switch) = switch_place switch

-- what a run ends with
abbrev pub RunResult : Type 0
RunResult = Result Outcome Failure
