-- `model_list::Names::new` meets its contract. Assumes nothing.
use Rattle.std.proofs.Common.{rules, refl}
use Rattle.model_list.specs.Places.{in_places}
use Rattle.model_list.proofs.Names.new.Goals as goal

pub invariant_of-result : goal.invariant_of-result
unfolding in_places
invariant_of-result c = record { room = search rules; counted = refl; empty_after = refl }
