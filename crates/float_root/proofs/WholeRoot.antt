-- The whole part of a root: its square is at most n, and it is the greatest such number. Assumes nothing.
use mathlib.Core.Path.{◌≡◌, sym, subst}
use mathlib.Core.Logic.{◌⊎◌, inl, inr}
use Prim.Native.Nat.{ℕ, zero, suc, ◌+◌, ◌*◌, ◌≤◌, ◌<◌, zero-le}
use native.Mathlib.Nat.{le_trans, le_of_eq, le_of_suc-le-suc, lt_of_not-le, not-le_of_lt, eq-or-lt_of_le, mul-le-mul, mul-le-mul_left, mul-one, zero-lt-suc}
use native.Mathlib.Numerals.{add-one}
use mathlib.Core.Bool.{Bool, true, false, cond}
use lib.Dec.{T, leb, leb→le, le→leb}
use Rattle.float_root.specs.Root.{greatest, whole_root}

greatest_passes : (test : ℕ → Bool) (n : ℕ) → T (test 0) → T (test (greatest test n))
unfolding greatest
greatest_passes test zero t = t
greatest_passes test (suc n) t = go (test (suc n)) (λ h. h) (greatest_passes test n t)
  where
    go : (b : Bool) → (T b → T (test (suc n))) → T (test (greatest test n)) → T (test (cond b (suc n) (greatest test n)))
    go true h r = h tt
    go false h r = r

greatest_above : (test : ℕ → Bool) (n s : ℕ) → s ≤ n → T (test s) → s ≤ greatest test n
unfolding greatest
greatest_above test zero s h t = h
greatest_above test (suc n) s h t = go (test (suc n)) (λ k. k) (λ l. greatest_above test n s l t)
  where
    below : (T (test (suc n)) → ⊥) → (s ≡ suc n) ⊎ (s < suc n) → s ≤ n
    below never (inl e) = absurd (never (subst (λ (x : ℕ). T (test x)) e t))
    below never (inr l) = le_of_suc-le-suc l

    go : (b : Bool) → (T (test (suc n)) → T b) → (s ≤ n → s ≤ greatest test n) → s ≤ cond b (suc n) (greatest test n)
    go true k r = h
    go false k r = r (below k (eq-or-lt_of_le h))

-- ---- squares
pub sq_le : {a b : ℕ} → a ≤ b → a * a ≤ b * b
sq_le h = mul-le-mul h h

pub lt_of_sq_lt : (a b : ℕ) → a * a < b * b → a < b
lt_of_sq_lt a b h = lt_of_not-le (λ (g : b ≤ a). not-le_of_lt h (sq_le g))

le_sq : (s : ℕ) → s ≤ s * s
le_sq zero = zero-le
le_sq (suc s) = le_trans (le_of_eq (sym (mul-one (suc s)))) (mul-le-mul_left (suc s) (zero-lt-suc s))

-- ---- the whole part
pub root_sq_le : (n : ℕ) → whole_root n * whole_root n ≤ n
unfolding whole_root
root_sq_le n = leb→le (whole_root n * whole_root n) n (greatest_passes (λ (s : ℕ). leb (s * s) n) n (le→leb 0 n zero-le))

pub root_ge : (n s : ℕ) → s * s ≤ n → s ≤ whole_root n
unfolding whole_root
root_ge n s h = greatest_above (λ (x : ℕ). leb (x * x) n) n s (le_trans (le_sq s) h) (le→leb (s * s) n h)

pub root_lt : (n s : ℕ) → n < s * s → whole_root n < s
root_lt n s h = lt_of_not-le (λ (g : s ≤ whole_root n). not-le_of_lt h (le_trans (sq_le g) (root_sq_le n)))

pub lt_next_sq : (n : ℕ) → n < (whole_root n + 1) * (whole_root n + 1)
lt_next_sq n = lt_of_not-le (λ (g : (whole_root n + 1) * (whole_root n + 1) ≤ n). not-le_of_lt (le_of_eq (sym (add-one (whole_root n)))) (root_ge n (whole_root n + 1) g))
