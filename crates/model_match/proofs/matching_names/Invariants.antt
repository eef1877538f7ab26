use Prim.Native.Nat.{◌≤◌}
use mathlib.Core.Path.{◌≡◌}
use lib.ListN.{length, take}
use Rattle.model_match.specs.Matching as Spec
use Rattle.model_match.proofs.matching_names.Given as goal

abbrev pub invariant-loop-spec : goal.invariant-loop-spec
invariant-loop-spec l = (length l.found ≤ l.spec-index) × (l.found ≡ Spec.matching_names (take l.spec-index l.models) l.query l.tol)
