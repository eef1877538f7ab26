-- A reading is accepted just where it lies between the last one and 2^62. Assumes nothing.
use Prim.Native.Nat.{◌≤◌, ◌^◌}
use mathlib.Core.Path.{◌≡◌, refl, sym}
use mathlib.Core.Bool.{Bool, true, false, ◌&&◌, true≢false}
use borrow.Author.Tests.{leb-true, le-leb}
use lib.Dec.{leb}
use Rattle.time.specs.Time.{reading_accepted}
use Rattle.time.specs.declared.Instant.{Instant}

module _ (last t : Instant) where
  pub between : reading_accepted last t ≡ true → (last.0 ≤ t.0) × (t.0 ≤ 2 ^ 62)
  between e = go (leb last.0 t.0) (leb t.0 (2 ^ 62)) (leb-true last.0 t.0) (leb-true t.0 (2 ^ 62)) e
    where
      go : (forward early : Bool) → (forward ≡ true → last.0 ≤ t.0) → (early ≡ true → t.0 ≤ 2 ^ 62) → (forward && early) ≡ true → (last.0 ≤ t.0) × (t.0 ≤ 2 ^ 62)
      go true true f g e = (f refl, g refl)
      go true false f g e = absurd (true≢false (sym e))
      go false early f g e = absurd (true≢false (sym e))

  pub in_order : last.0 ≤ t.0 → t.0 ≤ 2 ^ 62 → reading_accepted last t ≡ true
  in_order forward early = λ i. le-leb last.0 t.0 forward i && le-leb t.0 (2 ^ 62) early i
