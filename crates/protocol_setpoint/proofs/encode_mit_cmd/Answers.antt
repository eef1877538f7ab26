-- `protocol_setpoint::encode_mit_cmd` meets its contract. Assumes nothing.
use mathlib.Core.Path.{◌∙◌}
use lib.Ieee.{of_bits, of_int}
use Rattle.protocol_setpoint.specs.Setpoint.{mit_fields, mit_data}
use Rattle.protocol_setpoint.proofs.encode_mit_cmd.Goals as goal

pub returns : goal.returns
unfolding mit_data of_bits of_int
returns c = c.mit_fields.ensures
    ∙ (λ i. mit_fields (c.float_to_uint.ensures i) (c.float_to_uint-2.ensures i) (c.float_to_uint-3.ensures i) (c.float_to_uint-4.ensures i) (c.float_to_uint-5.ensures i))
