-- The motor ids that are accepted are those that leave room for 0x300. Assumes nothing.
use Rattle.std.specs.Prelude.{◌↔◌}
use Prim.Native.Nat.{ℕ, ◌+◌}
use mathlib.Core.Path.{◌≡◌}
use mathlib.Core.Bool.{true}
use native.Mathlib.Omega.{arith}
use borrow.Author.Tests.{leb-true, le-leb}
use Rattle.motor_core.specs.Bus.{id_fits, motor_id_accepted}

pub accepted_fits : (motor : ℕ) → (motor_id_accepted motor ≡ true) ↔ id_fits (0x300 + motor)
accepted_fits motor = (λ accepted. omega (arith, leb-true motor _ accepted), λ fits. le-leb motor _ (omega (arith, fits)))
