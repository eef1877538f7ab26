-- What the functions on floats mean beyond the logic's own account of IEEE 754 (`lib.Ieee`). Definitions only.
use Rattle.std.specs.Prelude.{Bool, false, not, cond, Float}
use Rattle.std.specs.Float.{nan, inf, fin}
use Rattle.std.specs.Float.Ieee.{lt}

-- clipped to the limits: the minimum where x is below it, then the maximum where that is above it. A NaN is neither
unfoldable pub clip : Float → Float → Float → Float
clip x min max = let y = cond (lt x min) min x in cond (lt max y) max y

-- from +0 up to the infinity: no NaN, and not -0
unfoldable pub at_least_zero : Float → Bool
at_least_zero nan = false
at_least_zero (inf s) = not s
at_least_zero (fin s m e) = not s
