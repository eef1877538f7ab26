-- `session_frame::frame_step` meets its contract. Assumes nothing.
use mathlib.Core.Path.{sym, ap, ◌∙◌}
use Rattle.std.specs.Prelude.{Ok}
use Rattle.protocol_received.specs.declared.Received.{Received}
use Rattle.session_frame.specs.Frame.{taken_step}
use Rattle.session_frame.proofs.Outcomes.{stepped}
use Rattle.session_frame.proofs.frame_step.Goals as goal

pub returns-in-Some : goal.returns-in-Some
returns-in-Some c =
    ap Ok (c.taken_step.ensures ∙ ap (λ (r : Received). taken_step c.args.head.feedback c.args.frame.arbitration_id r c.args.reading) c.read_sorted-received.ensures)
    ∙ stepped _ _ _ (sym c.accepts_reading.ensures ∙ c.if-not-accepts_reading.false) _ (sym c.sort_own.ensures ∙ c.in-Some.is)
