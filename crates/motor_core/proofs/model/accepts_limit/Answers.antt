-- `motor_core::model::accepts_limit` meets its contract. Assumes nothing.
use Rattle.std.proofs.Common.{rules}
use lib.Ieee.{of_bits}
use Rattle.motor_core.specs.Model.{limit_accepted}
use Rattle.motor_core.proofs.model.accepts_limit.Goals as goal

pub returns-then-max : goal.returns-then-max
unfolding limit_accepted of_bits
returns-then-max c = search rules

pub returns-else-max : goal.returns-else-max
unfolding limit_accepted of_bits
returns-else-max c = search rules
