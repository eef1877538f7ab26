-- `protocol_hold::still_at` meets its contract: 0.0 is the float of 0. Assumes nothing.
use mathlib.Core.Path.{refl}
use lib.Ieee.{of_bits, of_int}
use Rattle.protocol_hold.proofs.still_at.Goals as goal

pub returns : goal.returns
unfolding of_bits of_int
returns c = refl
