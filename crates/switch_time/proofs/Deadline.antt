-- The deadline of an accepted reading and timeout is their sum. Assumes nothing.
use Prim.Native.Nat.{◌+◌}
use mathlib.Core.Path.{◌≡◌}
use mathlib.Core.Bool.{true}
use native.Mathlib.Omega.{arith}
use borrow.Author.Tests.{leb-true}
use Rattle.time.specs.Time.{reading_accepted, timeout_accepted}
use Rattle.time.specs.declared.Instant.{Instant}
use Rattle.time.specs.declared.Duration.{Duration}
use Rattle.time.proofs.Readings.{between}
use Rattle.switch_time.specs.TimeLeft.{deadline_after}

pub deadline_is_sum : (last now : Instant) (timeout : Duration) → reading_accepted last now ≡ true → timeout_accepted timeout ≡ true → (deadline_after now timeout).0 ≡ now.0 + timeout.0
deadline_is_sum last now timeout read short = omega (arith, (between last now read).1, leb-true timeout.0 60_000_000_000 short)
