-- The time that a switch has for its parts: document 01's 'The runs'. Definitions only.
use Rattle.std.specs.Prelude.{ℕ, ◌+◌, ◌-◌, ◌/◌, ◌^◌, min, max, cond, leb, Option, Some, None, option_map, option_and_then}
use Rattle.time.specs.Time.{millis}
use Rattle.time.specs.declared.Instant.{Instant}
use Rattle.time.specs.declared.Duration.{Duration}
use Rattle.run_wait.specs.Wait.{poll_interval}

abbrev pub shorter : Duration → Duration → Duration
shorter a b = record { 0 = min a.0 b.0 }

abbrev pub longer : Duration → Duration → Duration
longer a b = record { 0 = max a.0 b.0 }

-- `budget_cap`: a part of the whole, the rest of the division dropped, 2 ms at least and the cap at most
abbrev pub budget_cap : Duration → Duration → ℕ → Duration
budget_cap total cap divisor = shorter (longer (record { 0 = total.0 / divisor }) poll_interval) cap

-- for a read of the mode, and for the read of the position to hold
abbrev pub mode_read_cap : Duration → Duration
mode_read_cap total = budget_cap total (millis 100) 4

abbrev pub hold_read_cap : Duration → Duration
hold_read_cap total = budget_cap total (millis 30) 6

-- The deadline. A sum that 64 bits cannot hold stays at the greatest that they can: no accepted reading and timeout have one.
abbrev pub deadline_after : Instant → Duration → Instant
deadline_after now timeout = record { 0 = min (now.0 + timeout.0) (2 ^ 64 - 1) }

-- none past the deadline; at it, 0
abbrev pub remaining_until : Instant → Instant → Option Duration
remaining_until deadline now = cond (leb now.0 deadline.0) (Some (record { 0 = deadline.0 - now.0 })) None

abbrev pub capped_remaining : Instant → Duration → Instant → Option Duration
capped_remaining deadline cap now = option_map (λ left. shorter left cap) (remaining_until deadline now)

-- the settling sleep: 20 ms, or less so that the reserve is left, or none
abbrev pub settle_length : Duration
settle_length = millis 20

abbrev pub beyond : Duration → Duration → Option Duration
beyond left reserve = cond (leb left.0 reserve.0) None (Some (shorter settle_length (record { 0 = left.0 - reserve.0 })))

abbrev pub sleep_up_to_reserving : Instant → Duration → Instant → Option Duration
sleep_up_to_reserving deadline reserve now = option_and_then (λ left. beyond left reserve) (remaining_until deadline now)
