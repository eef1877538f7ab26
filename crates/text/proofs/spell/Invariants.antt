use Prim.Native.Nat.{◌≤◌}
use mathlib.Core.Path.{◌≡◌}
use mathlib.Core.List.{◌++◌}
use lib.ListN.{length}
use lib.Seq.{slice}
use Rattle.text.specs.Text.{digits}
use Rattle.text.proofs.spell.Given as goal

abbrev pub invariant-loop-i : goal.invariant-loop-i
invariant-loop-i l = (length l.out ≡ length l.initial.out) × (l.i ≤ l.k) × (digits l.base l.i l.rest ++ slice l.i l.k l.out ≡ digits l.base l.k l.n)
