-- Names in places, and one more. Assumes nothing.
use Prim.Native.Nat.{ℕ, suc, ◌+◌, ◌-◌, ◌<◌}
use mathlib.Core.Path.{◌≡◌, sym, ap, ◌∙◌}
use mathlib.Core.List.{List, [], ◌∷◌, ◌++◌, append_assoc}
use native.Mathlib.Omega.{arith}
use lib.ListN.{length, take, set, replicate, length-append}
use lib.Seq.{set-append_seam, take-append_seam}
use Rattle.motor_core.specs.declared.name.Name.{Name}
use Rattle.model_list.specs.Places.{model_places, empty_place, in_places, OnlyFirst}

set_next : (xs : List Name) (x : Name) → length xs < model_places → set (in_places xs) (length xs) x ≡ in_places (xs ++ (x ∷ []))
unfolding in_places
set_next xs x h =
    ap (λ (k : ℕ). set (xs ++ replicate k empty_place) (length xs) x) (one_less (length xs) h)
    ∙ set-append_seam xs empty_place (replicate (model_places - suc (length xs)) empty_place) x
    ∙ sym (append_assoc xs (x ∷ []) (replicate (model_places - suc (length xs)) empty_place))
    ∙ ap (λ (k : ℕ). (xs ++ (x ∷ [])) ++ replicate k empty_place) (rest (length xs) (length (xs ++ (x ∷ []))) (length-append xs (x ∷ [])))
  where
    one_less : (n : ℕ) → n < model_places → model_places - n ≡ suc (model_places - suc n)
    one_less n h = omega arith

    rest : (n m : ℕ) → m ≡ n + 1 → model_places - suc n ≡ model_places - m
    rest n m h = omega arith

-- the place after the first `count` is `at`
module _ (count at : ℕ) (names xs : List Name) (x : Name) (is : at ≡ count) (first : take count names ≡ xs) (only : OnlyFirst count names) (room : at < model_places) where
  counted : count ≡ length xs
  counted = only.counted ∙ ap length first

  set_is : set names at x ≡ in_places (xs ++ (x ∷ []))
  set_is = (λ i. set (only.empty_after i) (is i) x) ∙ (λ i. set (in_places (first i)) (counted i) x) ∙ set_next xs x (omega (arith, counted, is, room))

  next_count : count + 1 ≡ length (xs ++ (x ∷ []))
  next_count = ap (λ (k : ℕ). k + 1) counted ∙ sym (length-append xs (x ∷ []))

  first_next : take (count + 1) (set names at x) ≡ xs ++ (x ∷ [])
  unfolding in_places
  first_next = (λ i. take (next_count i) (set_is i)) ∙ take-append_seam (xs ++ (x ∷ [])) _

  pub only_next : OnlyFirst (count + 1) (set names at x)
  only_next = record { room = omega (arith, is, room); counted = next_count ∙ ap length (sym first_next); empty_after = set_is ∙ ap in_places (sym first_next) }
