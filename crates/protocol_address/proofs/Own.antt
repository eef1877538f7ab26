-- This motor's frame by the tests that are made of it, one after the other. Assumes nothing.
use mathlib.Core.Path.{◌≡◌, refl, sym, ap, ◌∙◌}
use mathlib.Core.Bool.{Bool, true, false, ◌&&◌, cond}
use Prim.Native.Nat.{ℕ}
use Rattle.std.specs.Prelude.{None, Option, Some}
use Rattle.std.proofs.lemmas.Option.{none-some}
use Rattle.motor_core.specs.declared.bus.CanFrame.{CanFrame}
use Rattle.protocol_received.specs.Received.{class_of, class_in, sorted}
use Rattle.protocol_received.specs.declared.FrameClass.{FrameClass}
use Rattle.protocol_received.specs.declared.Sorted.{Sorted}
use Rattle.protocol_received.proofs.Sorting.{sorted_class}
use Rattle.protocol_address.specs.Address.{is_plain_on, names_motor, own_frame, sorted_if_own}

module _ (motor feedback : ℕ) (f : CanFrame) where
  pub elsewhere : is_plain_on feedback f ≡ false → None ≡ sorted_if_own motor feedback f
  unfolding own_frame
  elsewhere e = ap (λ (here : Bool). cond (here && names_motor motor (class_of f.«data») f.«data») (Some (sorted f.«data»)) None) (sym e)

  pub named : is_plain_on feedback f ≡ true → (s : Sorted) → s ≡ sorted f.«data» → (names : Bool) → names ≡ names_motor motor (class_in s) f.«data» → cond names (Some s) None ≡ sorted_if_own motor feedback f
  unfolding own_frame
  named e s is names tested =
      let whole = tested ∙ ap (λ (k : FrameClass). names_motor motor k f.«data») (sorted_class f.«data» s is) in
      λ i. cond (sym e i && whole i) (Some (is i)) None

  -- where one is sorted, it is this motor's
  pub own_sorted : (s : Sorted) → sorted_if_own motor feedback f ≡ Some s → (own_frame motor feedback f ≡ true) × (s ≡ sorted f.«data»)
  own_sorted s = go (own_frame motor feedback f) refl
    where
      the_same : ◌≡◌ {A = Option Sorted} (Some (sorted f.«data»)) (Some s) → s ≡ sorted f.«data»
      the_same e = cc

      go : (b : Bool) → own_frame motor feedback f ≡ b → cond b (Some (sorted f.«data»)) None ≡ Some s → (own_frame motor feedback f ≡ true) × (s ≡ sorted f.«data»)
      go true own e = (own, the_same e)
      go false own e = absurd (none-some _ e)
