-- The numbers of feedbacks: one more each time, until the greatest, which stays. Assumes nothing.
use Prim.Native.Nat.{ℕ, ◌+◌, ◌-◌, ◌^◌, ◌<◌}
use mathlib.Core.Path.{◌≡◌, refl}
use native.Mathlib.Nat.{min-eq_left}
use native.Mathlib.Omega.{arith}
use Rattle.state_feedback.specs.Feedback.{next_sequence}

pub number_next : (n : ℕ) → n < 2 ^ 64 - 1 → next_sequence n ≡ n + 1
number_next n h = min-eq_left (omega arith)

pub number_stays : next_sequence (2 ^ 64 - 1) ≡ 2 ^ 64 - 1
number_stays = refl
