-- `session_lent::process_feedback_frame` meets its contract. Assumes nothing.
use mathlib.Core.Path.{sym, ap, ◌∙◌}
use Prim.Native.Nat.{ℕ}
use lib.ListN.{set}
use Rattle.std.specs.Prelude.{Err}
use Rattle.std.proofs.lemmas.Result.{err_from_is_err_and}
use Rattle.session.specs.Session.{with_replies, with_acks}
use Rattle.state_cache.specs.declared.Place.{Place}
use Rattle.session_frame.specs.declared.FrameStep.TheVariants.{Kept}
use Rattle.session_lent.proofs.ByParts.{taken_session, refused_outcome}
use Rattle.session_lent.proofs.PutBack.{stamped, put}
use Rattle.session_lent.proofs.process_feedback_frame.Goals as goal

pub returns-in_err-step-clause-outcome : goal.returns-in_err-step-clause-outcome
returns-in_err-step-clause-outcome c =
    let (y, is, same) = err_from_is_err_and _ c.from_residual.ensures.1 in
    is ∙ ap Err same ∙ refused_outcome _ _ _ _ c.frame_step.ensures _ c.in_err-step.was

pub returns-in-Latest-clause-session : goal.returns-in-Latest-clause-session
returns-in-Latest-clause-session c =
    ap (put (stamped c.args.session.now c.args.reading)) (sym c.in-Latest.is)
    ∙ taken_session _ _ _ _ c.frame_step.ensures _ c.in_ok-step.was

pub returns-in-Reply-clause-session : goal.returns-in-Reply-clause-session
returns-in-Reply-clause-session c =
    let s = stamped c.args.session.now c.args.reading in
    ap (λ (p : ℕ). with_replies s (set s.replies p c.in-Kept.entry)) c.slot_index.ensures
    ∙ ap (put s) (sym (c.in-Kept.is ∙ ap (λ (p : Place). Kept p c.in-Kept.entry) c.in-Reply.is))
    ∙ taken_session _ _ _ _ c.frame_step.ensures _ c.in_ok-step.was

pub returns-in-Ack-clause-session : goal.returns-in-Ack-clause-session
returns-in-Ack-clause-session c =
    let s = stamped c.args.session.now c.args.reading in
    ap (λ (p : ℕ). with_acks s (set s.acks p c.in-Kept.entry)) c.slot_index-in-Ack.ensures
    ∙ ap (put s) (sym (c.in-Kept.is ∙ ap (λ (p : Place). Kept p c.in-Kept.entry) c.in-Ack.is))
    ∙ taken_session _ _ _ _ c.frame_step.ensures _ c.in_ok-step.was
