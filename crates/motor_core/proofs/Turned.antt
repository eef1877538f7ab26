-- A test that turns back: `if !t { return a }` with b after it is `cond t b a`, and `if t { return a }` is `cond t a b`. Constructors that differ. Assumes nothing.
use Rattle.std.specs.Prelude.{Result, Ok, Err}
use Rattle.std.specs.Cmp.{first_so, second_so}
use mathlib.Core.Path.{◌≡◌, refl, sym, ap, ◌∙◌}
use mathlib.Core.Bool.{Bool, true, false, cond, ◌&&◌}
use Prim.Native.Nat.{ℕ}
use native.Mathlib.Omega.{arith}

-- `cc` proves this equation from one of two constructors that differ
pub clash : ◌≡◌ {A = ℕ} 0 1 → ⊥
clash e = omega arith

module _ {A : Type 0} (t test : Bool) (a b : A) (e : t ≡ test) where
  pub turned : t ≡ false → a ≡ cond test b a
  turned h = ap (λ (s : Bool). cond s b a) (sym h ∙ e)

  pub passed : t ≡ true → b ≡ cond test b a
  passed h = ap (λ (s : Bool). cond s b a) (sym h ∙ e)

  pub met : t ≡ true → a ≡ cond test a b
  met h = ap (λ (s : Bool). cond s a b) (sym h ∙ e)

  pub unmet : t ≡ false → b ≡ cond test a b
  unmet h = ap (λ (s : Bool). cond s a b) (sym h ∙ e)

-- both tests hold where both together do
pub both : (p q : Bool) → (p && q) ≡ true → (p ≡ true) × (q ≡ true)
both p q e = (first_so p q e, second_so p q e)

-- what a test lets through is what was there
module _ {A N : Type 0} (x y : A) (n : N) where
  pub same_ok : ◌≡◌ {A = Result A N} (Ok x) (Ok y) → x ≡ y
  same_ok e = cc

  pub let_through : (test : Bool) → ◌≡◌ {A = Result A N} (cond test (Ok x) (Err n)) (Ok y) → (test ≡ true) × (x ≡ y)
  let_through true e = (refl, same_ok e)
  let_through false e = absurd (clash (cc))
