-- `protocol_codes::full_scale` meets its contract. Assumes nothing.
use mathlib.Core.Path.{sym, ap}
use lib.Ieee.{of_bits, of_int}
use Rattle.protocol_codes.specs.Codes.{full, bits_in}
use Rattle.protocol_codes.specs.declared.Width.{Width}
use Rattle.protocol_codes.proofs.full_scale.Goals as goal

pub returns-in-Twelve : goal.returns-in-Twelve
unfolding of_bits of_int
returns-in-Twelve c = sym (ap (λ (w : Width). full (bits_in w)) c.in-Twelve.is)

pub returns-in-Sixteen : goal.returns-in-Sixteen
unfolding of_bits of_int
returns-in-Sixteen c = sym (ap (λ (w : Width). full (bits_in w)) c.in-Sixteen.is)
