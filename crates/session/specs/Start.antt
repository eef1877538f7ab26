-- A session's start. Definitions only.
use Rattle.std.specs.Prelude.{ℕ, cond, List, Result, Ok, Err}
use Rattle.motor_core.specs.Bus.{motor_id_accepted}
use Rattle.motor_core.specs.Model.{limits_of}
use Rattle.motor_core.specs.AndThen.{and_then}
use Rattle.motor_core.specs.declared.error.Refusal.{Refusal}
use Rattle.motor_core.specs.declared.error.Refusal.TheVariants.{MotorId}
use Rattle.motor_core.specs.declared.model.Maxima.{Maxima}
use Rattle.motor_core.specs.declared.model.PvTLimits.{PvTLimits}
use Rattle.model_list.specs.Models.{limits_by_name}
use Rattle.model_list.specs.declared.MotorModelSpec.{MotorModelSpec}
use Rattle.session.specs.Session.{fresh}
use Rattle.session.specs.declared.Session.{Session}

-- 'Turned back', start: the limits are tested first, 1, then the motor id, 2
abbrev pub with_limits : ℕ → ℕ → PvTLimits → Result Session Refusal
with_limits motor_id feedback_id limits = cond (motor_id_accepted motor_id) (Ok (fresh motor_id feedback_id limits)) (Err MotorId)

unfoldable pub from_limits : ℕ → ℕ → Maxima → Result Session Refusal
from_limits motor_id feedback_id m = and_then (limits_of m) (with_limits motor_id feedback_id)

-- by a model's name: refused where the list lacks it, else as from its limits
unfoldable pub from_model : ℕ → ℕ → List MotorModelSpec → List ℕ → Result Session Refusal
from_model motor_id feedback_id models name = and_then (limits_by_name models name) (from_limits motor_id feedback_id)
