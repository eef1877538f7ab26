-- `protocol_received::frame_class` meets its contract. Assumes nothing.
use mathlib.Core.Path.{sym, ap, ◌∙◌}
use Rattle.protocol_received.specs.Received.{class_in}
use Rattle.protocol_received.proofs.Sorting.{sorted_class}
use Rattle.protocol_received.proofs.frame_class.Goals as goal

pub returns-in-Reply : goal.returns-in-Reply
returns-in-Reply c = ap class_in (sym c.in-Reply.is) ∙ sorted_class _ _ c.sort_frame-sorted.ensures

pub returns-in-Ack : goal.returns-in-Ack
returns-in-Ack c = ap class_in (sym c.in-Ack.is) ∙ sorted_class _ _ c.sort_frame-sorted.ensures

pub returns-in-Feedback : goal.returns-in-Feedback
returns-in-Feedback c = ap class_in (sym c.in-Feedback.is) ∙ sorted_class _ _ c.sort_frame-sorted.ensures
