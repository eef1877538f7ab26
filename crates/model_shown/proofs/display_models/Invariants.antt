use mathlib.Core.Path.{◌≡◌}
use mathlib.Core.List.{[]}
use lib.ListN.{take}
use Rattle.model_list.specs.Places.{model_places}
use Rattle.model_shown.specs.Display as Spec
use Rattle.model_shown.proofs.display_models.Given as goal

abbrev pub invariant-loop-model : goal.invariant-loop-model
invariant-loop-model l = l.shown ≡ take model_places (Spec.display_after [] (take l.model-index l.models))
