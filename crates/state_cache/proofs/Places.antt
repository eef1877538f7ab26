-- Where a register's slot stands. Assumes nothing.
use Prim.Native.Nat.{ℕ, ◌<◌}
use mathlib.Core.Path.{◌≡◌, refl, ap, ◌∙◌, subst, sym}
use mathlib.Core.Bool.{Bool, true, false, cond}
use native.Mathlib.Omega.{arith}
use borrow.Author.Tests.{ltb-true, lt-ltb}
use lib.Dec.{ltb}
use Rattle.state_cache.specs.Cache.{slot_index}

module _ (rid r : ℕ) (at : r ≡ slot_index rid) where
  pub slot_below : r < 82
  unfolding slot_index
  slot_below = subst (λ (n : ℕ). n < 82) (sym at) (by (ltb rid 82) refl)
    where
      by : (b : Bool) → ltb rid 82 ≡ b → cond b rid 0 < 82
      by true e = ltb-true _ _ e
      by false e = omega arith

  pub own_slot : rid < 82 → r ≡ rid
  unfolding slot_index
  own_slot h = at ∙ ap (λ (b : Bool). cond b rid 0) (lt-ltb rid 82 h)
