-- Laws of `specs/Text.antt`. Assumes nothing.
use Prim.Native.Nat.{ℕ, zero, suc, ◌+◌, ◌-◌, ◌/◌, ◌%◌, ◌≤◌, ◌<◌}
use mathlib.Core.Path.{◌≡◌, refl, sym, ap, subst, ◌∙◌}
use mathlib.Core.List.{List, [], ◌∷◌, ◌++◌}
use native.Mathlib.Nat.{le_of_suc-le-suc, not-suc-le-zero}
use native.Mathlib.Numerals.{sub-one}
use native.Mathlib.Omega.{arith}
use lib.ListN.{length, take, drop, set}
use lib.Seq.{slice, length-take-le, take-set-lt, append_snoc}
use Rattle.std.proofs.Common.{not, unwrap_or, eqb, ltb, cond, true, false, Bool, Some, None}
use Rattle.std.specs.List.{position, prefix_len}
use Rattle.std.proofs.lemmas.Bool.Decides.{nat_tests}
use Rattle.std.proofs.lemmas.List.Sums.{prefix_len-le-length}
use Rattle.text.specs.Text.{glyph, digits, trimmed}

-- ---- digits, written from the last one on
-- after a store at j, the list from j on begins with what was stored
stored : (t : List ℕ) (j g : ℕ) → j < length t → drop j (set t j g) ≡ g ∷ drop (suc j) t
stored [] j g h = absurd (not-suc-le-zero h)
stored (x ∷ xs) zero g h = refl
stored (x ∷ xs) (suc j) g h = stored xs j g (le_of_suc-le-suc h)

-- a turn moves the last of the digits that are still to write to the front of those that are written
pub moved : (b i k rest g : ℕ) (out : List ℕ) → 0 < i → i ≤ k → k ≤ length out → g ≡ glyph (rest % b)
    → digits b (i - 1) (rest / b) ++ slice (i - 1) k (set out (i - 1) g) ≡ digits b i rest ++ slice i k out
unfolding digits
moved b zero k rest g out some h room e = absurd (not-suc-le-zero some)
moved b (suc j) k rest g out some h room e =
    let todo = digits b j (rest / b) in
    let done = slice (suc j) k out in
    let within : j < length (take k out) = subst (λ (n : ℕ). j < n) (sym (length-take-le k out room)) h in
    ap (λ (m : ℕ). digits b m (rest / b) ++ slice m k (set out m g)) (sub-one (suc j))
    ∙ ap (λ (l : List ℕ). todo ++ drop j l) (take-set-lt k out j g h)
    ∙ ap (λ (l : List ℕ). todo ++ l) (stored (take k out) j g within)
    ∙ ap (λ (x : ℕ). todo ++ x ∷ done) e
    ∙ sym (append_snoc todo (glyph (rest % b)) done)

-- ---- zeros in front
-- the place of the first digit that is no zero, or else of the last one
abbrev pub front : List ℕ → ℕ
front s = unwrap_or (position (λ d. not (eqb d 48)) s) (length s - 1)

pub front_le : (s : List ℕ) → front s ≤ length s
front_le s = grind (arith, nat_tests, prefix_len-le-length {X = ℕ})

-- the same, for n digits of which m zeros stand in front, behind one that is a zero or not
behind : Bool → ℕ → ℕ → ℕ
behind t m n = unwrap_or (cond (ltb (cond (not (not t)) (1 + m) 0) (suc n)) (Some (cond (not (not t)) (1 + m) 0)) None) (suc n - 1)

after_zero : (m n : ℕ) → 0 < n → behind true m n ≡ suc (unwrap_or (cond (ltb m n) (Some m) None) (n - 1))
unfolding behind
after_zero m n h = grind (arith, nat_tests)

after_other : (m n : ℕ) → behind false m n ≡ 0
unfolding behind
after_other m n = grind (arith, nat_tests)

alone : (t : Bool) → behind t 0 0 ≡ 0
unfolding behind
alone true = refl
alone false = refl

pub front_is : (s : List ℕ) → drop (front s) s ≡ trimmed s
unfolding trimmed behind
front_is [] = refl
front_is (d ∷ []) = ap (λ (n : ℕ). drop n (d ∷ [])) (alone (eqb d 48))
front_is (d ∷ (e ∷ rest)) = by (eqb d 48) refl (front_is (e ∷ rest))
  where
    by : (t : Bool) → eqb d 48 ≡ t → drop (front (e ∷ rest)) (e ∷ rest) ≡ trimmed (e ∷ rest) → drop (front (d ∷ (e ∷ rest))) (d ∷ (e ∷ rest)) ≡ cond t (trimmed (e ∷ rest)) (d ∷ (e ∷ rest))
    by true h k =
        let m = prefix_len (λ x. not (not (eqb x 48))) (e ∷ rest) in
        ap (λ (z : Bool). drop (behind z m (length (e ∷ rest))) (d ∷ (e ∷ rest))) h
        ∙ ap (λ (n : ℕ). drop n (d ∷ (e ∷ rest))) (after_zero m (length (e ∷ rest)) (omega arith))
        ∙ k
    by false h k =
        let m = prefix_len (λ x. not (not (eqb x 48))) (e ∷ rest) in
        ap (λ (z : Bool). drop (behind z m (length (e ∷ rest))) (d ∷ (e ∷ rest))) h
        ∙ ap (λ (n : ℕ). drop n (d ∷ (e ∷ rest))) (after_other m (length (e ∷ rest)))
