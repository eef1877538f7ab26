-- The models that match a query. Definitions only.
use Rattle.std.specs.Prelude.{Bool, false, ◌&&◌, List, filter, Float, Result}
use Rattle.std.specs.Float.{nan, inf, fin}
use Rattle.std.specs.Float.Ieee.{le}
use Rattle.float.specs.Arithmetic.{◌⊖◌}
use Rattle.motor_core.specs.declared.error.Refusal.{Refusal}
use Rattle.motor_core.specs.declared.name.Name.{Name}
use Rattle.model_list.specs.Counted.{models_of, model_names}
use Rattle.model_query.specs.declared.Query.{Query}
use Rattle.model_list.specs.declared.MotorModelSpec.{MotorModelSpec}
use Rattle.model_list.specs.declared.ModelList.{ModelList}
use Rattle.model_query.specs.Query.{answer}

-- a float's sign dropped
unfoldable pub magnitude : Float → Float
magnitude nan = nan
magnitude (inf s) = inf false
magnitude (fin s m e) = fin false m e

-- the difference in f32 is at most the tolerance. With a NaN nothing is
unfoldable pub within : Float → Float → Float → Bool
within tolerance x y = le (magnitude (x ⊖ y)) tolerance

-- all three are
unfoldable pub matches : Query → Float → MotorModelSpec → Bool
matches query tolerance spec =
    within tolerance spec.maxima.p_max query.p
    && within tolerance spec.maxima.v_max query.v
    && within tolerance spec.maxima.t_max query.t

-- 'The model list', `match_models_by_limits`
unfoldable pub matching_names : List MotorModelSpec → Query → Float → List Name
matching_names specs query tolerance = model_names (filter (matches query tolerance) specs)

abbrev pub match_models : ModelList → Query → Float → Result (List Name) Refusal
match_models list query tolerance = answer query (matching_names (models_of list) query tolerance)
