-- Names in a fixed number of places. Definitions only.
use Rattle.std.specs.Prelude.{ℕ, ◌-◌, ◌≤◌, ◌≡◌, cond, ltb, List, [], ◌∷◌, ◌++◌, length, replicate, take}
use Rattle.motor_core.specs.declared.name.Name.{Name}

-- how many models a list has room for, and so how many names an answer has
abbrev pub model_places : ℕ
model_places = 16

abbrev pub empty_place : Name
empty_place = record { bytes = replicate 15 0; len = 0 }

-- names, the places after them empty
unfoldable pub in_places : List Name → List Name
in_places names = names ++ replicate (model_places - length names) empty_place

-- a name put last, if there is room
unfoldable pub put_last : List Name → Name → List Name
put_last names name = cond (ltb (length names) model_places) (names ++ name ∷ []) names

-- the first `count` places have names, and the others are empty
pub record OnlyFirst (count : ℕ) (names : List Name) : Type 0 where
  pub room : count ≤ model_places
  pub counted : count ≡ length (take count names)
  pub empty_after : names ≡ in_places (take count names)
