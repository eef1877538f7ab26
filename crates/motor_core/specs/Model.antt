-- The limits that are accepted, and the record that three maxima make. Definitions only.
use Rattle.std.specs.Prelude.{Bool, ◌&&◌, false, cond, pos, negsuc, Float, Result, Ok, Err}
use Rattle.std.specs.Float.{fin}
use Rattle.std.specs.Float.Ieee.{le, neg}
use Rattle.motor_core.specs.declared.error.Refusal.{Refusal}
use Rattle.motor_core.specs.declared.error.Refusal.TheVariants.{Limit}
use Rattle.motor_core.specs.declared.model.Maxima.{Maxima}
use Rattle.motor_core.specs.declared.model.PvTLimits.{PvTLimits}

-- 'Turned back', 1: accepted from 1/1024 to 65,536, both included. A NaN compares with neither, an infinity lies beyond
unfoldable pub limit_accepted : Float → Bool
limit_accepted max = le (fin false 1 (negsuc 9)) max && le max (fin false 1 (pos 16))

-- 'The feedback on the screen', limits: six floats from three maxima, a minimum being its maximum negated
abbrev pub from_maxima : Maxima → PvTLimits
from_maxima m = record { p_min = neg m.p_max; p_max = m.p_max; v_min = neg m.v_max; v_max = m.v_max; t_min = neg m.t_max; t_max = m.t_max }

unfoldable pub limits_of : Maxima → Result PvTLimits Refusal
limits_of m = cond (limit_accepted m.p_max && limit_accepted m.v_max && limit_accepted m.t_max) (Ok (from_maxima m)) (Err Limit)
