-- `float::of_bits` meets its contract. Assumes nothing.
use mathlib.Core.Path.{sym, ◌∙◌}
use lib.Ieee.{div, of_bits}
use Rattle.float.proofs.Nans.{nan_pattern}
use Rattle.float.proofs.of_bits.Goals as goal

pub returns-then-is_nan_pattern : goal.returns-then-is_nan_pattern
unfolding div of_bits
returns-then-is_nan_pattern c = sym (nan_pattern c.args.bits.0 (sym c.is_nan_pattern.ensures ∙ c.if-is_nan_pattern.true))
