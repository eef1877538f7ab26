-- Readings of the clock and lengths of time. Definitions only.
use Rattle.std.specs.Prelude.{ℕ, ◌*◌, ◌^◌, Bool, ◌&&◌, leb}
use Rattle.time.specs.declared.Instant.{Instant}
use Rattle.time.specs.declared.Duration.{Duration}

-- 'Turned back', 3: a reading is accepted from the last one up to 2^62, both included
abbrev pub reading_accepted : Instant → Instant → Bool
reading_accepted last reading = leb last.0 reading.0 && leb reading.0 (2 ^ 62)

-- so many milliseconds
abbrev pub millis : ℕ → Duration
millis n = record { 0 = n * 1_000_000 }

-- 'Turned back', 7: a timeout is accepted up to 60 s, included
abbrev pub timeout_accepted : Duration → Bool
timeout_accepted timeout = leb timeout.0 (millis 60_000).0
