-- `protocol_address::sort_own` meets its contract. Assumes nothing.
use mathlib.Core.Path.{sym, ap, ◌∙◌}
use mathlib.Core.Bool.{Bool, cond}
use Rattle.std.specs.Prelude.{None, Some}
use Rattle.protocol_address.proofs.Own.{elsewhere, named}
use Rattle.protocol_address.proofs.sort_own.Goals as goal

pub returns-then-not-is_plain_on : goal.returns-then-not-is_plain_on
returns-then-not-is_plain_on c = elsewhere _ _ _ (sym c.is_plain_on.ensures ∙ c.if-not-is_plain_on.true)

pub returns-then-names_motor : goal.returns-then-names_motor
returns-then-names_motor c =
    let s = c.sort_frame-sorted.result in
    ap (λ (b : Bool). cond b (Some s) None) (sym c.if-names_motor.true)
    ∙ named _ _ _ (sym c.is_plain_on.ensures ∙ c.if-not-is_plain_on.false) s c.sort_frame-sorted.ensures _ c.names_motor.ensures

pub returns-else-names_motor : goal.returns-else-names_motor
returns-else-names_motor c =
    let s = c.sort_frame-sorted.result in
    ap (λ (b : Bool). cond b (Some s) None) (sym c.if-names_motor.false)
    ∙ named _ _ _ (sym c.is_plain_on.ensures ∙ c.if-not-is_plain_on.false) s c.sort_frame-sorted.ensures _ c.names_motor.ensures
