-- `text::zeros` meets its contract: the place that the search finds. Assumes nothing.
use Rattle.std.proofs.Common.{◌≡◌, ◌≤◌, ◌-◌, rules, tests, eqb, not, length, drop, subst, sym, ap, ◌∙◌, ℕ, Option}
use Rattle.std.specs.Option.{unwrap_or}
use Rattle.std.proofs.lemmas.Iterator.{YieldsList-from_slice}
use Rattle.std.proofs.lemmas.Iterator.Search.{position_from_yields_List}
use Rattle.text.proofs.Buffers.{front, front_le, front_is}
use Rattle.text.proofs.zeros.Goals as goal

pub returns : goal.returns
returns c =
    let s = c.args.text.now in
    let found = position_from_yields_List (λ d. not (eqb d 48)) _ _ c.position.result c.position.ensures.ran (YieldsList-from_slice s c.iter.ensures.rest) (λ x b q k. search (rules, tests)) in
    let front : c.unwrap_or.result ≡ front s =
    c.unwrap_or.ensures ∙ ap (unwrap_or c.position.result) c.saturating_sub-last.ensures ∙ ap (λ (o : Option ℕ). unwrap_or o (length s - 1)) found in
    (subst (λ (n : ℕ). n ≤ length s) (sym front) (front_le s), ap (λ (n : ℕ). drop n s) front ∙ front_is s)
