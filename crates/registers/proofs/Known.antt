-- What is said of a register that is known. Assumes nothing.
use mathlib.Core.Path.{◌≡◌, ap}
use Prim.Native.Nat.{ℕ}
use mathlib.Core.Bool.{Bool, true, cond}
use Rattle.std.specs.Prelude.{Some, None}
use Rattle.registers.specs.Registers.{known, access_of, data_type_of, info_of}
use Rattle.registers.specs.declared.RegisterInfo.{RegisterInfo}

abbrev pub info : ℕ → RegisterInfo
info rid = record { access = access_of rid; data_type = data_type_of rid }

pub info_known : (rid : ℕ) → known rid ≡ true → info_of rid ≡ Some (info rid)
unfolding info_of
info_known rid e = ap (λ (k : Bool). cond k (Some (info rid)) None) e
