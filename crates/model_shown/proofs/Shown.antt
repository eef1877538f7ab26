-- The names shown so far, with the next, as many as there are places for. Assumes nothing.
use Rattle.std.specs.Prelude.{ℕ, ◌+◌, ◌≤◌, ◌<◌, ltb}
use mathlib.Core.Path.{◌≡◌, refl, sym, ap, ◌∙◌}
use mathlib.Core.Bool.{Bool, true, false, cond}
use mathlib.Core.List.{List, [], ◌∷◌, ◌++◌}
use native.Mathlib.Nat.{le_refl, le_of_eq, le-add_right}
use native.Mathlib.Omega.{arith}
use borrow.Author.Tests.{ltb-true, ltb-false}
use lib.ListN.{length, take, get_or, length-append}
use Rattle.std.proofs.lemmas.List.{take_more, take_all, take-take, take-append-le, length-take-le}
use Rattle.motor_core.specs.declared.name.Name.{Name}
use Rattle.model_list.specs.Places.{model_places, put_last}
use Rattle.model_shown.specs.Display.{display_name, among, with_name, display_after}

-- where no place is left, the next name changes nothing
full : (names : List Name) (name : Name) → model_places ≤ length names → take model_places (with_name names name) ≡ take model_places names
unfolding with_name
full names name h = by (among name names)
  where
    by : (b : Bool) → take model_places (cond b names (names ++ (name ∷ []))) ≡ take model_places names
    by true = refl
    by false = take-append-le model_places names (name ∷ []) h

-- as many names as there are places for: none is cut off
pub none_cut : (names : List Name) → length names ≤ model_places → take model_places names ≡ names
none_cut names room = take_all model_places names room

-- a name that is put last has the next place, or is cut off
pub put_kept : (names : List Name) (name : Name) → length names ≤ model_places → put_last names name ≡ take model_places (names ++ (name ∷ []))
unfolding put_last
put_kept names name room = by (ltb (length names) model_places) refl
  where
    by : (b : Bool) → ltb (length names) model_places ≡ b → cond b (names ++ (name ∷ [])) names ≡ take model_places (names ++ (name ∷ []))
    by true h = sym (none_cut (names ++ (name ∷ [])) (omega (arith, length-append names (name ∷ []), ltb-true (length names) model_places h)))
    by false h = sym (none_cut names room) ∙ sym (take-append-le model_places names (name ∷ []) (ltb-false (length names) model_places h))

-- the next names by what a search of the names says: the name is there already, or it is new
next_by : (names held : List Name) (name : Name) (found b : Bool) → held ≡ names → found ≡ among name held → found ≡ b → take model_places (with_name names name) ≡ take model_places (cond b names (names ++ (name ∷ [])))
unfolding with_name
next_by names held name found b same says is = ap (λ (b : Bool). take model_places (cond b names (names ++ (name ∷ [])))) (ap (among name) (sym same) ∙ sym says ∙ is)

pub there : (names held : List Name) (name : Name) (found : Bool) → held ≡ names → length held ≤ model_places → found ≡ among name held → found ≡ true → names ≡ take model_places (with_name names name)
there names held name found same room says is =
    sym (next_by names held name found true same says is ∙ none_cut names (omega (arith, ap length same, room)))

pub new : (names held : List Name) (name : Name) (found : Bool) → held ≡ names → length held ≤ model_places → found ≡ among name held → found ≡ false → put_last names name ≡ take model_places (with_name names name)
new names held name found same room says is =
    put_kept names name (omega (arith, ap length same, room)) ∙ sym (next_by names held name found false same says is)

-- of the names so far those that have places say which the next ones are
kept : (names : List Name) (name : Name) → take model_places (with_name (take model_places names) name) ≡ take model_places (with_name names name)
kept names name = by (ltb (length names) model_places) refl
  where
    by : (b : Bool) → ltb (length names) model_places ≡ b → take model_places (with_name (take model_places names) name) ≡ take model_places (with_name names name)
    by true h = ap (λ (xs : List Name). take model_places (with_name xs name)) (none_cut names (omega (arith, ltb-true (length names) model_places h)))
    by false h =
        full (take model_places names) name (omega (arith, length-take-le model_places names (ltb-false (length names) model_places h)))
        ∙ take-take model_places model_places names (le_refl model_places)
        ∙ sym (full names name (ltb-false (length names) model_places h))

display_append : (shown names : List Name) (name : Name) → display_after shown (names ++ (name ∷ [])) ≡ with_name (display_after shown names) (display_name name)
unfolding display_after
display_append shown [] name = refl
display_append shown (x ∷ names) name = display_append (with_name shown (display_name x)) names name

-- the names so far, with the next
pub display_next : (names : List Name) (i : ℕ) (d : Name) → i < length names → display_after [] (take (i + 1) names) ≡ with_name (display_after [] (take i names)) (display_name (get_or names i d))
display_next names i d h = ap (display_after []) (take_more names i d h) ∙ display_append [] (take i names) (get_or names i d)

-- those of them that have places
pub next_kept : (names : List Name) (i : ℕ) (d : Name) → i < length names → take model_places (display_after [] (take (i + 1) names)) ≡ take model_places (with_name (take model_places (display_after [] (take i names))) (display_name (get_or names i d)))
next_kept names i d h = ap (take model_places) (display_next names i d h) ∙ sym (kept (display_after [] (take i names)) (display_name (get_or names i d)))

-- with each name there is one more at most, so no more are shown than there are
pub with_length : (names : List Name) (name : Name) → length (with_name names name) ≤ length names + 1
unfolding with_name
with_length names name = by (among name names)
  where
    by : (b : Bool) → length (cond b names (names ++ (name ∷ []))) ≤ length names + 1
    by true = le-add_right (length names) 1
    by false = le_of_eq (length-append names (name ∷ []))

pub display_length : (shown names : List Name) → length (display_after shown names) ≤ length shown + length names
unfolding display_after
display_length shown [] = le-add_right (length shown) 0
display_length shown (name ∷ names) = omega (arith, display_length (with_name shown (display_name name)) names, with_length shown (display_name name))

-- so none is cut off where there are few
pub all_kept : (names shown : List Name) → shown ≡ take model_places (display_after [] names) → length names ≤ model_places → shown ≡ display_after [] names
all_kept names shown is few = is ∙ none_cut (display_after [] names) (omega (arith, display_length [] names, few))
