-- A model's limits by its name. Definitions only.
use Rattle.std.specs.Prelude.{ℕ, cond, List, [], ◌∷◌, Result, Ok, Err}
use Rattle.text.specs.Text.{same}
use Rattle.motor_core.specs.declared.error.Refusal.{Refusal}
use Rattle.motor_core.specs.declared.error.Refusal.TheVariants.{Model}
use Rattle.motor_core.specs.declared.model.Maxima.{Maxima}
use Rattle.motor_core.specs.Name.{spelling}
use Rattle.model_list.specs.declared.MotorModelSpec.{MotorModelSpec}

-- the maxima of the first model of that name; 'Turned back', 12
unfoldable pub limits_by_name : List MotorModelSpec → List ℕ → Result Maxima Refusal
limits_by_name [] name = Err Model
limits_by_name (spec ∷ rest) name = cond (same (spelling spec.model) name) (Ok spec.maxima) (limits_by_name rest name)
