-- A word as a number: decimal digits, or `0x` and hexadecimal digits of either case; at least one digit; below 2 ^ 64.
-- What an argument may be is its kind's: a flag, 8, 16, 32 or 64 bits, or a name.
use Rattle.std.specs.Prelude.{ℕ, ◌+◌, ◌-◌, ◌*◌, ◌^◌, Bool, true, cond, ◌&&◌, List, [], ◌∷◌, length, ltb, leb, eqb, Option, Some, None}
use Prim.Native.Char.{code}
use Rattle.script_words.specs.declared.Kind.{Kind}
use Rattle.script_words.specs.declared.Kind.TheVariants.{Flag, U8, U16, U32, U64, Name}

abbrev pub between : ℕ → ℕ → ℕ → Bool
between low high b = leb low b && leb b high

-- a digit's value, or 16, which is a digit of neither base
unfoldable pub digit_of : ℕ → ℕ
digit_of b =
    cond (between (code "0") (code "9") b) (b - code "0")
    (cond (between (code "A") (code "F") b) (b - code "A" + 10)
    (cond (between (code "a") (code "f") b) (b - code "a" + 10)
    16))

unfoldable pub all_digits : ℕ → List ℕ → Bool
all_digits base [] = true
all_digits base (b ∷ rest) = ltb (digit_of b) base && all_digits base rest

-- the value of digits that follow others of value v
unfoldable pub value_of : ℕ → ℕ → List ℕ → ℕ
value_of base v [] = v
value_of base v (b ∷ rest) = value_of base (v * base + digit_of b) rest

-- digits that follow others of value v, as a number
unfoldable pub digits_after : ℕ → ℕ → List ℕ → Option ℕ
digits_after base v s =
    cond (all_digits base s && ltb (value_of base v s) (2 ^ 64)) (Some (value_of base v s)) None

unfoldable pub digits_of : ℕ → List ℕ → Option ℕ
digits_of base [] = None
digits_of base (b ∷ rest) = digits_after base 0 (b ∷ rest)

unfoldable pub number_of : List ℕ → Option ℕ
number_of [] = None
number_of (a ∷ []) = digits_of 10 (a ∷ [])
number_of (a ∷ (b ∷ rest)) =
    cond (eqb a (code "0") && eqb b (code "x")) (digits_of 16 rest) (digits_of 10 (a ∷ (b ∷ rest)))

-- the kind that a letter stands for
unfoldable pub kind_of : ℕ → Kind
kind_of letter =
    cond (eqb letter (code "f")) Flag
    (cond (eqb letter (code "b")) U8
    (cond (eqb letter (code "i")) U16
    (cond (eqb letter (code "w")) U32
    (cond (eqb letter (code "n")) Name
    U64))))

-- the largest number of a field
unfoldable pub limit_of : Kind → ℕ
limit_of Flag = 1
limit_of U8 = 2 ^ 8 - 1
limit_of U16 = 2 ^ 16 - 1
limit_of U32 = 2 ^ 32 - 1
limit_of U64 = 2 ^ 64 - 1
limit_of Name = 2 ^ 64 - 1

unfoldable pub at_most : ℕ → Option ℕ → Option ℕ
at_most limit (Some n) = cond (leb n limit) (Some n) None
at_most limit None = None

-- a name's length, of a name that is not empty
unfoldable pub name_of : List ℕ → Option ℕ
name_of [] = None
name_of (b ∷ rest) = Some (length (b ∷ rest))

unfoldable pub field_of : Kind → List ℕ → Option ℕ
field_of Name word = name_of word
field_of kind word = at_most (limit_of kind) (number_of word)
