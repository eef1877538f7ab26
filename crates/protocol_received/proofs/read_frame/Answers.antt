-- `protocol_received::read_frame` meets its contract. Assumes nothing.
use mathlib.Core.Path.{◌∙◌}
use Rattle.protocol_received.proofs.Sorting.{sorted_read}
use Rattle.protocol_received.proofs.read_frame.Goals as goal

pub returns : goal.returns
returns c = c.read_sorted.ensures ∙ sorted_read c.args.«data» _ c.sort_frame.ensures c.args.limits
