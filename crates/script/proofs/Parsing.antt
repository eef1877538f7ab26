-- Laws of `specs/Line.antt`, by the tests of the code. Assumes nothing.
use Rattle.std.proofs.Common.{eqb, ◌≡◌, ℕ, suc, ◌+◌, ◌<◌, ◌≤◌, List, [], ◌∷◌, length, drop, refl, sym, ap, ◌∙◌, Option, Some, None, Bor, find, arith, set, subst, add-one, drop-drop, take, replicate, cond, Bool, true, false, not, ◌&&◌, ◌||◌, Result, Ok, Err}
use Rattle.std.specs.List.{enumerate_from}
use Rattle.std.specs.Option.{option_map}
use Rattle.std.proofs.lemmas.Iterator.{YieldsList}
use Rattle.std.proofs.lemmas.List.Splits.{length-slice_split}
use Rattle.std.proofs.lemmas.Bool.Decides.{nat_tests}
use Rattle.std.specs.Str.{bytes_eq}
use borrow.Author.Tests.{lt-ltb, le-ltb}
use Rattle.text.specs.Ascii.{ascii}
use Rattle.text.specs.Text.{same}
use Rattle.text.proofs.Same.{same_is}
use Rattle.script_words.specs.Number.{field_of}
use Rattle.script_words.specs.Word.{split, word_at}
use Rattle.script_words.specs.declared.Kind.{Kind}
use Rattle.script.specs.Line.{Form, form_of, calls, with_value, fields_of, call_from, call_of, call_in, has, passed_over, some_call, parsed}
use Rattle.script.specs.declared.Call.{Call}
use Rattle.script.specs.declared.Fault.{Fault}
use Rattle.script.specs.declared.Fault.TheVariants.{LongLine, ControlByte, NotLent, TooFew, TooMany, WrongArgument}
use Rattle.script.specs.declared.calls.Row.{Row}
use Rattle.script.specs.declared.calls.CallName.{CallName}

-- ---- the words that are left, each with its place
module _ {S : Type 0} (steps : S → Option (ℕ × Bor (List ℕ)) → S → Type 0) where
  abbrev pub Gives : S → ℕ → List (List ℕ) → Type 0
  Gives s n words = YieldsList {B = ℕ × List ℕ} steps (λ p. (p.0, p.1.now)) s (enumerate_from n words)

  pub turn : (n : ℕ) (words : List (List ℕ)) (s t : S) (x : ℕ × Bor (List ℕ)) → Gives s n words → steps s (Some x) t
      → (x.0 ≡ n) × (words ≡ x.1.now ∷ drop 1 words) × Gives t (n + 1) (drop 1 words)
  turn n [] s t x h k = absurd (h.runs x t k)
  turn n (word ∷ words) s t x h k =
      let m = h.runs.1 x t k in
      (ap (λ (p : ℕ × List ℕ). p.0) m.0, ap (λ (p : ℕ × List ℕ). p.1 ∷ words) (sym m.0), record { runs = m.1 })

  pub over : (n : ℕ) (words : List (List ℕ)) (s t : S) → Gives s n words → steps s None t → words ≡ []
  over n [] s t h k = refl
  over n (word ∷ words) s t h k = absurd (h.runs.0 t k)

-- ---- the row of the first word
begun : (lent : Bool) (forms : List Form) (words : List (List ℕ)) → 0 < length words
    → call_of lent forms words ≡ call_from lent (find (λ f. same f.word (word_at 0 words)) forms) (drop 1 words)
unfolding call_of word_at
begun lent forms [] h = absurd (omega arith)
begun lent forms (word ∷ words) h = refl

pub named : (lent : Bool) (line word : List ℕ) (o r : Option Row) → word ≡ word_at 0 (split line) → option_map form_of o ≡ find (λ f. same f.word word) calls → o ≡ r
    → call_of lent calls (split line) ≡ call_from lent (option_map form_of r) (drop 1 (split line))
named lent line word o r q e h =
    begun lent calls (split line) (omega (arith, length-slice_split (λ b. eqb b 32) line))
    ∙ ap (λ (w : List ℕ). call_from lent (find (λ f. same f.word w) calls) (drop 1 (split line))) (sym q)
    ∙ ap (λ (f : Option Form). call_from lent f (drop 1 (split line))) (sym e ∙ ap (option_map form_of) h)

-- ---- a call that may not be lent, and one that is taken as it is
module _ (lent : Bool) (r : Row) (words : List (List ℕ)) where
  pub unlent : lent ≡ true → r.3 ≡ false → call_from lent (Some (form_of r)) words ≡ Err (NotLent r.1)
  unfolding call_from
  unlent h k = rw (h, k)

  pub allowed : (lent && not r.3) ≡ false → call_from lent (Some (form_of r)) words ≡ fields_of r.2.now words r.1 lent 0 (replicate 9 0)
  unfolding call_from
  allowed h = rw h

-- ---- the arguments from place i on
module _ (kinds : List Kind) (words : List (List ℕ)) (name : CallName) (lent : Bool) (i : ℕ) (args : List ℕ) where
  abbrev left : Result Call Fault
  left = fields_of kinds words name lent i args

  pub whole : kinds ≡ [] → words ≡ [] → left ≡ Ok (record { name = name; args = args; is_lent = lent })
  unfolding fields_of
  whole h k = rw (h, k)

  pub missing : (kind : Kind) (rest : List Kind) → kinds ≡ kind ∷ rest → words ≡ [] → left ≡ Err (TooFew name)
  unfolding fields_of
  missing kind rest h k = rw (h, k)

  pub extra : (word : List ℕ) (more : List (List ℕ)) → kinds ≡ [] → words ≡ word ∷ more → left ≡ Err (TooMany name)
  unfolding fields_of
  extra word more h k = rw (h, k)

  module _ (kind : Kind) (rest : List Kind) (word : List ℕ) (more : List (List ℕ)) (h : kinds ≡ kind ∷ rest) (k : words ≡ word ∷ more) where
    pub many : 9 ≤ i → left ≡ Err (TooMany name)
    unfolding fields_of
    many n = rw (h, k, le-ltb i 9 n)

    taken : (r : Option ℕ) → i < 9 → field_of kind word ≡ r → left ≡ with_value r (λ v. fields_of rest more name lent (suc i) (set args i v)) (WrongArgument name (suc i) kind)
    unfolding fields_of
    taken r n p = rw (h, k, lt-ltb i 9 n, p)

    pub wrong : (place : ℕ) → place ≡ i + 1 → i < 9 → field_of kind word ≡ None → left ≡ Err (WrongArgument name place kind)
    wrong place e n p = taken None n p ∙ ap (λ (k : ℕ). Err (WrongArgument name k kind)) (sym (e ∙ add-one i))

    pub right : (v : ℕ) → i < 9 → field_of kind word ≡ Some v → left ≡ fields_of rest more name lent (suc i) (set args i v)
    right v n p = taken (Some v) n p

-- ---- a turn of the loop, after which n words are taken and not m
module _ (words : List (List ℕ)) (m n : ℕ) (e : n ≡ m + 1) where
  pub goes_on : {S : Type 0} (steps : S → Option (ℕ × Bor (List ℕ)) → S → Type 0) (s : S) → Gives steps s (m + 1) (drop 1 (drop (m + 1) words)) → Gives steps s n (drop (n + 1) words)
  goes_on {S} steps s h =
      subst (λ (k : ℕ). Gives steps s k (drop (k + 1) words)) (sym e) (subst (λ (l : List (List ℕ)). Gives steps s (m + 1) l) (drop-drop 1 (m + 1) words) h)

  pub with_next : (kinds : List Kind) (name : CallName) (lent : Bool) (args : List ℕ) (v place : ℕ) → place ≡ m
      → fields_of kinds (drop 1 (drop (m + 1) words)) name lent (suc m) (set args m v) ≡ fields_of kinds (drop (n + 1) words) name lent n (set args place v)
  with_next kinds name lent args v place q =
      ap (λ (l : List (List ℕ)). fields_of kinds l name lent (suc m) (set args m v)) (drop-drop 1 (m + 1) words)
      ∙ ap (λ (k : ℕ). fields_of kinds (drop (m + 1 + 1) words) name lent k (set args m v)) (sym (add-one m))
      ∙ ap (λ (k : ℕ). fields_of kinds (drop (k + 1) words) name lent k (set args m v)) (sym e)
      ∙ ap (λ (k : ℕ). fields_of kinds (drop (n + 1) words) name lent n (set args k v)) (sym q)

-- ---- the word before a call
pub by_word : (line : List ℕ) → call_in line
    ≡ cond (bytes_eq (take 5 line) (108 ∷ (101 ∷ (110 ∷ (116 ∷ (32 ∷ [])))))) (call_of true calls (split (drop 5 line))) (call_of false calls (split line))
unfolding call_in ascii
by_word line = ap (λ (t : Bool). cond t (call_of true calls (split (drop 5 line))) (call_of false calls (split line))) (sym (same_is (take 5 line) (108 ∷ (101 ∷ (110 ∷ (116 ∷ (32 ∷ [])))))))

-- ---- a line, by the tests that come first
pub too_long : (line : List ℕ) → 4095 < length line → parsed line ≡ Err LongLine
unfolding parsed
too_long line h = simp (lt-ltb 4095 (length line) h)

pub nothing : (line : List ℕ) → length line ≡ 0 → parsed line ≡ Ok None
unfolding parsed
nothing [] h = refl
nothing (b ∷ line) h = cc

begins : (line : List ℕ) (t : Bool) → (length line ≡ 0 → ⊥) → bytes_eq (35 ∷ []) (take 1 line) ≡ t → passed_over line ≡ t
begins [] t n e = absurd (n refl)
begins (b ∷ line) t n e = grind (arith, nat_tests)

module _ (line : List ℕ) (h : length line ≤ 4095) (n : length line ≡ 0 → ⊥) where
  pub comment : bytes_eq (35 ∷ []) (take 1 line) ≡ true → parsed line ≡ Ok None
  unfolding parsed
  comment e = simp (le-ltb 4095 (length line) h, begins line true n e)

  module _ (e : bytes_eq (35 ∷ []) (take 1 line) ≡ false) where
    kept : parsed line ≡ cond (has 9 line || has 13 line) (Err ControlByte) (some_call (call_in line))
    unfolding parsed
    kept = simp (le-ltb 4095 (length line) h, begins line false n e)

    pub tabbed : has 9 line ≡ true → parsed line ≡ Err ControlByte
    tabbed t = kept ∙ simp t

    module _ (t : has 9 line ≡ false) where
      pub returned : has 13 line ≡ true → parsed line ≡ Err ControlByte
      returned r = kept ∙ simp (t, r)

      pub called : has 13 line ≡ false → parsed line ≡ some_call (call_in line)
      called r = kept ∙ simp (t, r)

pub ruleset parse_rules = (too_long, nothing, comment, tabbed, returned, called)
