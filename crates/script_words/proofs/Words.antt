-- Laws of `specs/Word.antt`, and of what an iterator that finds nothing stands for. Assumes nothing.
use Rattle.std.proofs.Common.{◌≡◌, ℕ, List, [], ◌∷◌, refl, ap, Option, Some, None, Bor}
use Rattle.std.specs.Option.{unwrap_or, option_map, UnwrapsOrElse}
use Rattle.script_words.specs.Word.{word_at, second}

-- a slice that is there, or the empty one
pub or_empty : (o : Option (Bor (List ℕ))) (r : Bor (List ℕ)) → UnwrapsOrElse o (λ x. x.now ≡ []) r → r.now ≡ unwrap_or (option_map (λ x. x.now) o) []
or_empty None r h = h
or_empty (Some x) r h = ap (λ (y : Bor (List ℕ)). y.now) h

-- the second word is the one at place 1
pub second_at : (words : List (List ℕ)) → word_at 1 words ≡ second words
unfolding word_at second
second_at [] = refl
second_at (word ∷ []) = refl
second_at (word ∷ (other ∷ words)) = refl
