-- A start by name from a list whose limits are all accepted. Definitions only.
use Rattle.std.specs.Prelude.{ℕ, Bool, true, ◌&&◌, cond, List, [], ◌∷◌, Result, Ok, Err}
use Rattle.motor_core.specs.Bus.{motor_id_accepted}
use Rattle.motor_core.specs.Model.{limit_accepted, from_maxima}
use Rattle.motor_core.specs.AndThen.{and_then}
use Rattle.motor_core.specs.declared.error.Refusal.{Refusal}
use Rattle.motor_core.specs.declared.error.Refusal.TheVariants.{MotorId}
use Rattle.motor_core.specs.declared.model.Maxima.{Maxima}
use Rattle.model_list.specs.declared.MotorModelSpec.{MotorModelSpec}
use Rattle.session.specs.Session.{fresh}
use Rattle.session.specs.declared.Session.{Session}

abbrev pub maxima_accepted : Maxima → Bool
maxima_accepted m = limit_accepted m.p_max && limit_accepted m.v_max && limit_accepted m.t_max

unfoldable pub all_accepted : List MotorModelSpec → Bool
all_accepted [] = true
all_accepted (spec ∷ rest) = maxima_accepted spec.maxima && all_accepted rest

-- a start whose limits are not tested
abbrev pub by_motor_id : ℕ → ℕ → Maxima → Result Session Refusal
by_motor_id motor_id feedback_id m = cond (motor_id_accepted motor_id) (Ok (fresh motor_id feedback_id (from_maxima m))) (Err MotorId)

abbrev pub untested : ℕ → ℕ → Result Maxima Refusal → Result Session Refusal
untested motor_id feedback_id found = and_then found (by_motor_id motor_id feedback_id)
