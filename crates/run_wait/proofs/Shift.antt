-- The time that has passed since an opening, compared without a sum. Assumes nothing.
use Prim.Native.Nat.{ℕ, ◌+◌, ◌-◌, ◌≤◌}
use mathlib.Core.Path.{◌≡◌, refl, sym, ◌∙◌}
use mathlib.Core.Bool.{Bool, true, false}
use native.Mathlib.Omega.{arith}
use borrow.Author.Tests.{leb-true, leb-false, le-leb, lt-leb}
use lib.Dec.{leb}

pub passed_since : (opening length now : ℕ) → opening ≤ now → leb length (now - opening) ≡ leb (opening + length) now
passed_since o l t h = go (leb l (t - o)) refl
  where
    go : (b : Bool) → leb l (t - o) ≡ b → leb l (t - o) ≡ leb (o + l) t
    go true e = e ∙ sym (le-leb (o + l) t (omega (arith, leb-true l (t - o) e)))
    go false e = e ∙ sym (lt-leb (o + l) t (omega (arith, leb-false l (t - o) e)))
