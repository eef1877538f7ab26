-- `model_list::Names::push` meets its contract. Assumes nothing.
use Rattle.std.proofs.Common.{arith}
use Rattle.model_list.proofs.FirstPlaces.{only_next}
use Rattle.model_list.proofs.Names.push.Goals as goal

pub invariant_of-self : goal.invariant_of-self
invariant_of-self c = only_next _ _ _ _ _ (omega arith) c.self.view_is c.self.invariant (omega arith)
