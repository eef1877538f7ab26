-- `protocol_setpoint::encode_force_pos_cmd` meets its contract. Assumes nothing.
use lib.Ieee.{of_bits, of_int}
use lib.Ieee.Casts.{to_unsigned-lt}
use Rattle.protocol_setpoint.specs.Setpoint.{force_pos_data, scaled}
use Rattle.protocol_setpoint.proofs.Words.{two_words}
use Rattle.protocol_setpoint.proofs.encode_force_pos_cmd.Goals as goal

pub returns : goal.returns
unfolding force_pos_data scaled of_bits of_int
returns c = rw (c.swapped-2.ensures, c.swapped.ensures, c.as_u16-i_des.ensures, c.clamp-2.ensures, c.as_u16-v_des.ensures, c.clamp.ensures, c.from.ensures, c.reversed-high.ensures)
    (two_words _ _ _ (to_unsigned-lt 16 _) (to_unsigned-lt 16 _))
