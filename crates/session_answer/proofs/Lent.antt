-- What an answer leaves of the session that is lent, as the code puts it there. Assumes nothing.
use mathlib.Core.Path.{◌≡◌, sym, ap, ◌∙◌}
use Rattle.std.specs.Prelude.{Result, Ok}
use Rattle.motor_core.specs.declared.error.Refusal.{Refusal}
use Rattle.state_cache.specs.declared.Entry.{Entry}
use Rattle.run_want.specs.declared.Answer.{Answer}
use Rattle.session.specs.Session.{with_head, with_run}
use Rattle.session.specs.declared.Head.{Head}
use Rattle.session.specs.declared.Session.{Session}
use Rattle.session_step.specs.Parts.{with_reading, answer_step}
use Rattle.session_step.specs.declared.AnswerStep.{AnswerStep}
use Rattle.session_step.proofs.Cases.{head_after}
use Rattle.session_answer.specs.Answer.{with_step, answer_run}
use Rattle.session_answer.proofs.Effects.{entry}

-- e is the entry that was looked at, r what the step gave, h the head that was put back
pub left : (s : Session) (a : Answer) (e : Entry) (r : Result AnswerStep Refusal) (step : AnswerStep) (h : Head)
    → e ≡ entry s → r ≡ answer_step s.head e s.run a → r ≡ Ok step → h ≡ with_reading s.head a
    → with_run (with_head s h) step.run ≡ (answer_run s a).session
unfolding answer_run
left s a e r step h looked gave was kept =
    ap (λ (x : Head). with_run (with_head s x) step.run) (kept ∙ sym (head_after s.head (entry s) s.run a step whole))
    ∙ ap (λ (x : Result AnswerStep Refusal). (with_step s x).session) (sym whole)
  where
    whole : answer_step s.head (entry s) s.run a ≡ Ok step
    whole = ap (λ (x : Entry). answer_step s.head x s.run a) (sym looked) ∙ sym gave ∙ was
