-- `protocol_received::read_sorted` meets its contract. Assumes nothing.
use mathlib.Core.Path.{sym, ap, ◌∙◌}
use Rattle.protocol_received.specs.Received.{read_as}
use Rattle.protocol_received.specs.declared.Sorted.{Sorted}
use Rattle.protocol_received.specs.declared.Received.TheVariants.{Reply}
use Rattle.protocol_frame.specs.Layout.{d}
use Rattle.protocol_received.proofs.read_sorted.Goals as goal

pub returns-in-Reply : goal.returns-in-Reply
returns-in-Reply c = ap (Reply (d c.args.«data» 3)) c.typed_value.ensures ∙ ap (λ (s : Sorted). read_as s c.args.limits c.args.«data») (sym c.in-Reply.is)
