-- `session_answer::answer_lent` meets its contract. Assumes nothing.
use mathlib.Core.Path.{ap, ◌∙◌}
use Rattle.session_answer.specs.Answer.{entry_at}
use Rattle.session_answer.proofs.Lent.{left}
use Rattle.session_answer.proofs.answer_lent.Goals as goal

pub returns-clause-session : goal.returns-clause-session
returns-clause-session c =
    let s = c.args.session.now in
    left s c.args.answer _ _ c.in_ok-step.step _ (c.entry_at-entry.ensures ∙ ap (entry_at s.replies s.acks) c.run_place.ensures) c.answer_step.ensures c.in_ok-step.was c.with_reading-session.ensures
