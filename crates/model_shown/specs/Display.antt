-- The names that are shown to people. Definitions only.
use Rattle.std.specs.Prelude.{Bool, cond, List, [], ◌∷◌, ◌++◌}
use Rattle.std.specs.List.{list_any}
use Rattle.text.specs.Ascii.{ascii}
use Rattle.text.specs.Text.{same}
use Rattle.motor_core.specs.Name.{name_of, spelling, spell_same}
use Rattle.motor_core.specs.declared.name.Name.{Name}

-- `display_model_name`: one model is shown under another name
unfoldable pub display_name : Name → Name
unfolding ascii
display_name name = cond (same (spelling name) (ascii "4340_v20")) (name_of "4340X") name

-- whether one of the names spells the same
unfoldable pub among : Name → List Name → Bool
among name names = list_any (λ (other : Name). spell_same other name) names

-- the name put last, unless it is there
unfoldable pub with_name : List Name → Name → List Name
with_name names name = cond (among name names) names (names ++ (name ∷ []))

-- `display_models`: each model's name as it is shown, once, after those that stand already
unfoldable pub display_after : List Name → List Name → List Name
display_after shown [] = shown
display_after shown (name ∷ rest) = display_after (with_name shown (display_name name)) rest
