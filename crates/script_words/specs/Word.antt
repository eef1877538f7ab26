-- The words of a line: what stands between its spaces. Two spaces in a row, or one at either end, make an empty word.
use Rattle.std.specs.Prelude.{ℕ, List, [], ◌∷◌, eqb}
use Rattle.std.specs.List.{slice_split, slice_get}
use Rattle.std.specs.Option.{unwrap_or}
use Prim.Native.Char.{code}

abbrev pub split : List ℕ → List (List ℕ)
split line = slice_split (λ b. eqb b (code " ")) line

-- the word at this place, or an empty one
unfoldable pub word_at : ℕ → List (List ℕ) → List ℕ
word_at place words = unwrap_or (slice_get words place) []

unfoldable pub second : List (List ℕ) → List ℕ
second [] = []
second (word ∷ []) = []
second (word ∷ (other ∷ words)) = other
