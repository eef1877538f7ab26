-- A list's models, and their names. Definitions only.
use Rattle.std.specs.Prelude.{List, map, take}
use Rattle.motor_core.specs.declared.name.Name.{Name}
use Rattle.model_list.specs.declared.MotorModelSpec.{MotorModelSpec}
use Rattle.model_list.specs.declared.ModelList.{ModelList}
pub use Rattle.model_list.specs.Places.{model_places}

-- the models of a list
abbrev pub models_of : ModelList → List MotorModelSpec
models_of list = take list.count list.models

-- their names
abbrev pub model_names : List MotorModelSpec → List Name
model_names specs = map (λ (spec : MotorModelSpec). spec.model) specs
