-- `protocol_hold::hold_data` meets its contract. Assumes nothing.
use mathlib.Core.Path.{sym, ap, ◌∙◌}
use lib.Ieee.{of_bits, of_int}
use Rattle.protocol_hold.specs.Mode.{hold_data}
use Rattle.protocol_hold.proofs.hold_data.Goals as goal

pub returns-in-ForcePos : goal.returns-in-ForcePos
unfolding of_bits of_int
returns-in-ForcePos c = c.encode_force_pos_cmd.ensures ∙ sym (ap (λ m. hold_data c.args.limits m c.args.position.0) c.in-ForcePos.is)
