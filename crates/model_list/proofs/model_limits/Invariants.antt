use Rattle.std.proofs.Common.{◌≡◌, drop}
use Rattle.model_list.specs.Models.{limits_by_name}
use Rattle.model_list.proofs.model_limits.Given as goal

abbrev pub invariant-loop-spec : goal.invariant-loop-spec
invariant-loop-spec l = limits_by_name l.spec-items l.name ≡ limits_by_name (drop l.spec-index l.spec-items) l.name
