-- Of which register a frame speaks. Definitions only.
use Rattle.std.specs.Prelude.{ℕ, ◌≡◌, true}
use Rattle.registers.specs.Registers.{known}
use Rattle.protocol_received.specs.declared.Received.{Received}
use Rattle.protocol_received.specs.declared.Received.TheVariants.{Reply, Ack, Feedback}

-- a reply or an ack is of register n, and n is known; of a feedback nothing is said
abbrev pub OfRegister : Received → ℕ → Type 0
OfRegister (Reply rid value) n = (rid ≡ n) × (known n ≡ true)
OfRegister (Ack rid value) n = (rid ≡ n) × (known n ≡ true)
OfRegister (Feedback f) n = Unit {0}
