-- `script::lines::call_of` meets its contract. The invariant: what is left are the words after those that the loop took. Assumes nothing.
use Rattle.script_words.proofs.Fields.{by_kind}
use Rattle.std.proofs.Common.{◌∙◌, rules, tests, eqb, drop, List, arith, sym, ap, length-set, replicate}
use Rattle.std.proofs.lemmas.Iterator.Splits.{YieldsList-from_slice_split}
use Rattle.std.proofs.lemmas.Iterator.Consumers.{YieldsList-from_enumerate}
use Rattle.std.proofs.lemmas.Iterator.Adapters.{YieldsList-from_skip}
use Rattle.std.proofs.lemmas.List.{nil_from_length, length_push}
use Rattle.script_words.specs.Word.{split}
use Rattle.script_words.specs.declared.Kind.{Kind}
use Rattle.script.specs.Line.{fields_of, call_from}
use Rattle.script.proofs.Parsing.{turn, over, named, unlent, allowed, whole, missing, extra, many, wrong, right, goes_on, with_next}
use Rattle.script.proofs.lines.call_of.Goals as goal

pub returns-in_default : goal.returns-in_default
unfolding call_from
returns-in_default c = sym (named c.args.is_lent c.args.words.now c.word_at.result.now c.row_of.result _ c.word_at.ensures c.row_of.ensures c.in_default.is)

pub returns-then-not-lends : goal.returns-then-not-lends
returns-then-not-lends c =
    sym (named c.args.is_lent c.args.words.now c.word_at.result.now c.row_of.result _ c.word_at.ensures c.row_of.ensures c.in-Some.is ∙ unlent c.args.is_lent c.in-Some.field-0 (drop 1 (split c.args.words.now)) c.if-is_lent.true c.if-not-lends.true)

pub loop-place-init : goal.loop-place-init
loop-place-init c =
    record {
      words = YieldsList-from_enumerate (YieldsList-from_skip 1 (YieldsList-from_slice_split _ (λ b. eqb b 32) c.args.words.now (cc) (cc) c.split.ensures.closure (λ x b q k. search (rules, tests))) (cc)) (cc);
      call =
          named c.args.is_lent c.args.words.now c.word_at.result.now c.row_of.result _ c.word_at.ensures c.row_of.ensures c.in-Some.is
          ∙ allowed c.args.is_lent c.in-Some.field-0 (drop 1 (split c.args.words.now)) (search rules)
          ∙ ap (λ (kinds : List Kind). fields_of kinds (drop 1 (split c.args.words.now)) c.in-Some.field-0.1 c.args.is_lent 0 (replicate 9 0)) (sym c.iter-kinds.ensures.rest);
      room = search rules;
    }

pub returns-in_default-next : goal.returns-in_default-next
returns-in_default-next c =
    let l = c.loop-place in
    let t = turn _ _ _ _ c.next.new.self (c.in-Some-2.place, c.in-Some-2.word) l.invariant.words c.in-Some-2.ensures.steps in
    sym (l.invariant.call ∙ extra _ _ _ _ _ _ _ _ (nil_from_length _ c.in_default-next.ensures.steps.0) t.1)

pub returns-then-place-ge9 : goal.returns-then-place-ge9
returns-then-place-ge9 c =
    let l = c.loop-place in
    let t = turn _ _ _ _ c.next.new.self (c.in-Some-2.place, c.in-Some-2.word) l.invariant.words c.in-Some-2.ensures.steps in
    sym (l.invariant.call ∙ many _ _ _ _ _ _ _ _ _ _ c.in-Some-next.ensures.steps t.1 (omega arith))

pub returns-in_default-field : goal.returns-in_default-field
returns-in_default-field c =
    let l = c.loop-place in
    let t = turn _ _ _ _ c.next.new.self (c.in-Some-2.place, c.in-Some-2.word) l.invariant.words c.in-Some-2.ensures.steps in
    sym (l.invariant.call ∙ wrong _ _ _ _ _ _ _ _ _ _ c.in-Some-next.ensures.steps t.1 _ (omega arith) (omega arith) (by_kind _ c.field.ensures.1 c.field.ensures.2 ∙ c.in_default-field.is))

pub loop-place-preserved : goal.loop-place-preserved
loop-place-preserved c =
    let l = c.loop-place in
    let t = turn _ _ _ _ c.next.new.self (c.in-Some-2.place, c.in-Some-2.word) l.invariant.words c.in-Some-2.ensures.steps in
    let m = length_push l.yielded (c.in-Some-2.place, c.in-Some-2.word) in
    record {
      words = goes_on (split c.args.words.now) _ _ m _ _ t.2;
      call =
          l.invariant.call
          ∙ right _ _ _ _ _ _ _ _ _ _ c.in-Some-next.ensures.steps t.1 _ (omega arith) (by_kind _ c.field.ensures.1 c.field.ensures.2 ∙ c.in-Some-field.is)
          ∙ with_next (split c.args.words.now) _ _ m _ _ _ _ _ _ t.0;
      room = simp length-set l.invariant.room;
    }

pub returns-in-Some-next-2 : goal.returns-in-Some-next-2
returns-in-Some-next-2 c =
    let l = c.loop-place in
    let none = over _ _ _ _ c.next.new.self l.invariant.words c.in-None.ensures.steps in
    sym (l.invariant.call ∙ missing _ _ _ _ _ _ _ _ c.in-Some-next-2.ensures.steps none)

pub returns-in-None-next : goal.returns-in-None-next
returns-in-None-next c =
    let l = c.loop-place in
    let none = over _ _ _ _ c.next.new.self l.invariant.words c.in-None.ensures.steps in
    sym (l.invariant.call ∙ whole _ _ _ _ _ _ (nil_from_length _ c.in-None-next.ensures.steps.0) none)
