-- Laws of `specs/Number.antt`'s digits. Assumes nothing.
use Rattle.std.proofs.Common.{◌≡◌, ℕ, ◌+◌, ◌*◌, ◌^◌, ◌≤◌, ◌<◌, arith, sym, ap, ◌∙◌, List, [], ◌∷◌, length, get_or, drop, Some, None, add-one, refl}
use Rattle.std.proofs.Math.Seq.{drop-cons}
use Rattle.std.proofs.Math.ListN.{drop_of_length-le}
use Rattle.std.proofs.lemmas.Bool.Decides.{nat_tests}
use Rattle.std.specs.Char.{digit_value}
use borrow.Author.Tests.{lt-ltb, le-ltb}
use mathlib.Core.Bool.{and-false}
use native.Mathlib.Nat.{le_trans, le_refl, le_of_eq, mul-le-mul_left, mul-one}
use Rattle.script_words.specs.Number.{digit_of, all_digits, value_of, digits_after, digits_of}

-- the library's value of a digit of the base is the digit's, and what it takes for none is none
pub digit_is : (b base : ℕ) → base ≤ 16 → digit_value b < base → digit_of b ≡ digit_value b
unfolding digit_of
digit_is b base h k = grind (arith, nat_tests)

pub no_digit : (b base : ℕ) → base ≤ 16 → (digit_value b < base → ⊥) → base ≤ digit_of b
unfolding digit_of
no_digit b base h k = grind (arith, nat_tests)

grows : (base : ℕ) → 0 < base → (s : List ℕ) (v : ℕ) → v ≤ value_of base v s
unfolding value_of
grows base h [] v = le_refl v
grows base h (b ∷ rest) v = le_trans (more v base (digit_of b) (le_trans (le_of_eq (sym (mul-one v))) (mul-le-mul_left v h))) (grows base h rest (v * base + digit_of b))
  where
    more : (v base d : ℕ) → v ≤ v * base → v ≤ v * base + d
    more v base d h = omega arith

-- ---- the digits from i on, by what the library says of the one at i
module _ (base v : ℕ) (s : List ℕ) (i : ℕ) (h : i < length s) (high : base ≤ 16) where
  pub stops : (digit_value (get_or s i 0) < base → ⊥) → digits_after base v (drop i s) ≡ None
  unfolding digits_after all_digits
  stops k = ap (digits_after base v) (drop-cons s i 0 h) ∙ simp (le-ltb (digit_of (get_or s i 0)) base (no_digit (get_or s i 0) base high k))

  module _ (d : ℕ) (k : digit_value (get_or s i 0) < base) (e : digit_value (get_or s i 0) ≡ d) where
    pub next : digits_after base v (drop i s) ≡ digits_after base (v * base + d) (drop (i + 1) s)
    unfolding digits_after all_digits value_of
    next =
        let is = digit_is (get_or s i 0) base high k in
        let below : digit_of (get_or s i 0) < base = omega arith in
        ap (digits_after base v) (drop-cons s i 0 h)
        ∙ (simp (lt-ltb (digit_of (get_or s i 0)) base below, add-one))
        ∙ ap (λ (n : ℕ). digits_after base (v * base + n) (drop (i + 1) s)) (is ∙ e)

    pub too_large : (v * base + d < 2 ^ 64 → ⊥) → 0 < base → digits_after base v (drop i s) ≡ None
    unfolding digits_after
    too_large large pos =
        let w = v * base + d in
        let over : 2 ^ 64 ≤ w = omega arith in
        next ∙ simp (le-ltb (value_of base w (drop (i + 1) s)) (2 ^ 64) (le_trans over (grows base pos (drop (i + 1) s) w)), and-false)

-- ---- the first and the last
pub none : (base : ℕ) (s : List ℕ) → length s ≡ 0 → digits_of base s ≡ None
unfolding digits_of
none base [] h = refl
none base (b ∷ rest) h = cc

pub first : (base : ℕ) (s : List ℕ) → (length s ≡ 0 → ⊥) → digits_of base s ≡ digits_after base 0 s
unfolding digits_of
first base [] h = absurd (h refl)
first base (b ∷ rest) h = refl

pub last : (base v : ℕ) (s : List ℕ) (i : ℕ) → length s ≤ i → v < 2 ^ 64 → digits_after base v (drop i s) ≡ Some v
unfolding digits_after all_digits value_of
last base v s i h k = ap (digits_after base v) (drop_of_length-le s h) ∙ simp (lt-ltb v (2 ^ 64) k)

pub ruleset digits_rules = (none, first, stops, next, too_large, last)
