-- Laws of the table of the calls. Assumes nothing.
use Rattle.std.proofs.Common.{◌≡◌, ℕ, Bool, true, false, cond, List, [], ◌∷◌, refl, ap, ◌∙◌, Some, map, find}
use Rattle.std.specs.Str.{bytes_eq}
use Rattle.std.specs.Option.{option_map}
use Rattle.text.specs.Text.{same}
use Rattle.text.proofs.Same.{same_is}
use Rattle.script.specs.Line.{form_of}
use Rattle.script.specs.declared.calls.Row.{Row}

-- the first form with this word is that of the first row with it
pub form_found : (rows : List Row) (word : List ℕ) → option_map form_of (find (λ r. bytes_eq r.0.now word) rows) ≡ find (λ f. same f.word word) (map form_of rows)
form_found [] word = refl
form_found (r ∷ rows) word =
    by (bytes_eq r.0.now word) (form_found rows word)
    ∙ ap (λ (t : Bool). cond t (Some (form_of r)) (find (λ f. same f.word word) (map form_of rows))) (same_is r.0.now word)
  where
    by : (t : Bool) → option_map form_of (find (λ r. bytes_eq r.0.now word) rows) ≡ find (λ f. same f.word word) (map form_of rows)
        → option_map form_of (cond t (Some r) (find (λ r. bytes_eq r.0.now word) rows)) ≡ cond t (Some (form_of r)) (find (λ f. same f.word word) (map form_of rows))
    by true e = refl
    by false e = e
