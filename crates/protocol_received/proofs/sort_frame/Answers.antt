-- `protocol_received::sort_frame` meets its contract. Assumes nothing.
use mathlib.Core.Path.{refl, sym, ◌∙◌}
use mathlib.Core.Bool.{true, false}
use borrow.Author.Tests.{eq-eqb, ne_eqb}
use Rattle.protocol_received.specs.declared.FrameClass.TheVariants as Class
use Rattle.protocol_received.proofs.Classes.{unmarked, unlisted, marked}
use Rattle.protocol_received.proofs.Sorting.{not_known, is_known, sorted_by}
use Rattle.protocol_received.proofs.sort_frame.Goals as goal

pub returns-then-not-marks_register : goal.returns-then-not-marks_register
returns-then-not-marks_register c = sorted_by _ Class.Feedback _ (unmarked _ _ _ (sym c.marks_register.ensures ∙ c.if-not-marks_register.true)) refl

pub returns-in-None : goal.returns-in-None
returns-in-None c = sorted_by _ Class.Feedback _ (unlisted _ _ _ (not_known _ _ c.register_info.ensures c.in-None.is)) refl

pub returns-in-Some : goal.returns-in-Some
returns-in-Some c = let known = is_known _ _ c.register_info.ensures _ c.in-Some.is in
    sorted_by _ _ _ (marked _ _ _ true (sym c.marks_register.ensures ∙ c.if-not-marks_register.false) known.0 (eq-eqb _ _ c.if-marker-eq-REPLY.true)) known.1

pub returns-in-Some-2 : goal.returns-in-Some-2
returns-in-Some-2 c = let known = is_known _ _ c.register_info.ensures _ c.in-Some.is in
    sorted_by _ _ _ (marked _ _ _ false (sym c.marks_register.ensures ∙ c.if-not-marks_register.false) known.0 (ne_eqb _ _ c.if-marker-eq-REPLY.false)) known.1
