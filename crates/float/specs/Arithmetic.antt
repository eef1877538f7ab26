-- The operations of f32, each rounded once to nearest even. Definitions only.
use Rattle.std.specs.Prelude.{ℕ, pos, Float}
use Rattle.std.specs.Float.{binary32}
use Rattle.std.specs.Float.Ieee.{add, sub, mul, div, of_int}

infixl 60 ◌⊕◌ ◌⊖◌
infixl 70 ◌⊗◌ ◌⊘◌
abbrev pub ◌⊕◌ : Float → Float → Float
x ⊕ y = add binary32 x y

abbrev pub ◌⊖◌ : Float → Float → Float
x ⊖ y = sub binary32 x y

abbrev pub ◌⊗◌ : Float → Float → Float
x ⊗ y = mul binary32 x y

abbrev pub ◌⊘◌ : Float → Float → Float
x ⊘ y = div binary32 x y

-- a whole number as a float
abbrev pub float : ℕ → Float
float n = of_int binary32 (pos n)
