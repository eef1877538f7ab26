-- `script_words::word_at` meets its contract: the part at this place of those that the iterator gives. Assumes nothing.
use Rattle.std.proofs.Common.{◌∙◌, ap, rules, tests, eqb, [], List, ℕ, Option}
use Rattle.std.specs.Option.{unwrap_or}
use Rattle.std.proofs.lemmas.Iterator.Consumers.{nth_from_yields_List}
use Rattle.std.proofs.lemmas.Iterator.Splits.{YieldsList-from_slice_split}
use Rattle.script_words.specs.Word.{word_at}
use Rattle.script_words.proofs.Words.{or_empty}
use Rattle.script_words.proofs.word_at.Goals as goal

pub returns : goal.returns
unfolding word_at
returns c =
    or_empty c.nth.result _ c.unwrap_or_default.ensures
    ∙ ap (λ (o : Option (List ℕ)). unwrap_or o [])
    (nth_from_yields_List c.nth.result c.nth.new.self c.args.place c.nth.ensures.ran
    (YieldsList-from_slice_split _ (λ b. eqb b 32) c.args.line.now c.split.ensures.rest c.split.ensures.done c.split.ensures.closure (λ x b q k. search (rules, tests))))
