-- `script::calls::row_of` meets its contract: what the search finds, in the table whose rows are the forms of `calls`. Assumes nothing.
use Rattle.std.proofs.Common.{◌∙◌, ap, rules, tests, List, map, find}
use Rattle.std.specs.Str.{bytes_eq}
use Rattle.std.specs.Option.{option_map}
use Rattle.std.proofs.lemmas.Iterator.{YieldsList-from_slice}
use Rattle.std.proofs.lemmas.Iterator.Search.{find_from_yields_List}
use Rattle.text.specs.Text.{same}
use Rattle.text.specs.Ascii.{ascii}
use Rattle.script.specs.Line.{Form, calls, form_of}
use Rattle.script.proofs.Table.{form_found}
use Rattle.script.proofs.calls.row_of.Goals as goal

pub returns : goal.returns
unfolding calls ascii
returns c =
    let word = c.args.word.now in
    let rows = c.iter.result.rest.now in
    let found = find_from_yields_List (λ r. bytes_eq r.0.now word) _ _ c.find.result c.find.ensures.ran (YieldsList-from_slice rows cc) (λ x b q k. search (rules, tests)) in
    ap (option_map form_of) c.copied.ensures
    ∙ ap (option_map form_of) found
    ∙ form_found rows word
    ∙ ap (λ (forms : List Form). find (λ f. same f.word word) forms) (ap (map form_of) c.iter.ensures.rest)
