-- `model_query::queryable` meets its contract. Assumes nothing.
use Rattle.std.proofs.Common.{rules}
use lib.Ieee.{of_bits, neg}
use Rattle.model_query.specs.Query as Spec
use Rattle.model_query.proofs.queryable.Goals as goal

pub returns-then-x : goal.returns-then-x
unfolding Spec.queryable of_bits neg
returns-then-x c = search rules

pub returns-else-x : goal.returns-else-x
unfolding Spec.queryable of_bits neg
returns-else-x c = search rules
