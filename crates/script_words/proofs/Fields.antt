-- Laws of `specs/Number.antt`'s numbers and fields, by the tests of the code. Assumes nothing.
use Rattle.std.proofs.Common.{◌≡◌, ℕ, length, List, [], ◌∷◌, refl, Some, None, ◌≤◌, ◌<◌, cond, take, drop}
use Rattle.std.specs.Prelude.{Option}
use mathlib.Core.Path.{sym, ap, ◌∙◌}
use Rattle.std.specs.Str.{bytes_eq}
use mathlib.Core.Bool.{and-false, and-true}
use borrow.Author.Tests.{le-leb, lt-leb}
use Rattle.script_words.specs.Number.{digits_of, number_of, limit_of, at_most, name_of, field_of}
use Rattle.script_words.specs.declared.Kind.{Kind}
use Rattle.script_words.specs.declared.Kind.TheVariants.{Flag, U8, U16, U32, U64, Name}

-- decimal or hexadecimal, by the first two bytes
pub by_prefix : (s : List ℕ) → number_of s ≡ cond (bytes_eq (take 2 s) (48 ∷ (120 ∷ []))) (digits_of 16 (drop 2 s)) (digits_of 10 s)
unfolding number_of digits_of
by_prefix [] = refl
by_prefix (a ∷ []) = simp (and-false)
by_prefix (a ∷ (b ∷ rest)) = simp (and-true)

-- a field, by its kind
pub a_name : (s : List ℕ) → (length s ≡ 0 → ⊥) → field_of Name s ≡ Some (length s)
unfolding field_of name_of
a_name [] h = absurd (h refl)
a_name (b ∷ rest) h = refl

pub no_name : (s : List ℕ) → length s ≡ 0 → field_of Name s ≡ None
unfolding field_of name_of
no_name [] h = refl
no_name (b ∷ rest) h = cc

pub a_number : (kind : Kind) (s : List ℕ) → (kind ≡ Name → ⊥) → field_of kind s ≡ at_most (limit_of kind) (number_of s)
unfolding field_of
a_number Flag s h = refl
a_number U8 s h = refl
a_number U16 s h = refl
a_number U32 s h = refl
a_number U64 s h = refl
a_number Name s h = absurd (h refl)

pub within : (limit n : ℕ) → n ≤ limit → at_most limit (Some n) ≡ Some n
unfolding at_most
within limit n h = simp (le-leb n limit h)

pub beyond : (limit n : ℕ) → limit < n → at_most limit (Some n) ≡ None
unfolding at_most
beyond limit n h = simp (lt-leb n limit h)

pub bad : (limit : ℕ) → at_most limit None ≡ None
unfolding at_most
bad limit = refl

pub ruleset field_rules = (a_name, no_name, a_number, within, beyond, bad)

-- a field by its kind itself
pub by_kind : {kind of_kind : Kind} {read : Option ℕ} (word : List ℕ) → of_kind ≡ kind → read ≡ field_of of_kind word → field_of kind word ≡ read
by_kind word same is = sym (is ∙ ap (λ (k : Kind). field_of k word) same)
