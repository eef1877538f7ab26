-- Texts that are the same, numbers as text, and text put into a buffer.
use Rattle.std.specs.Prelude.{ℕ, zero, suc, ◌+◌, ◌-◌, ◌/◌, ◌%◌, min, Bool, true, false, cond, ◌&&◌, List, [], ◌∷◌, ◌++◌, length, ltb, eqb}
use Prim.Native.Char.{code}
use Rattle.std.proofs.Math.Seq.{paste}

unfoldable pub same : List ℕ → List ℕ → Bool
same [] [] = true
same [] (y ∷ ys) = false
same (x ∷ xs) [] = false
same (x ∷ xs) (y ∷ ys) = eqb x y && same xs ys

-- how many bytes of the text the buffer has room for, from place at on
abbrev pub fitting : List ℕ → ℕ → List ℕ → ℕ
fitting buffer at text = min (length text) (length buffer - at)

-- the buffer with those bytes at that place
unfoldable pub put_at : List ℕ → ℕ → List ℕ → List ℕ
put_at buffer at text = paste buffer at text (fitting buffer at text)

-- the place after them
unfoldable pub place_after : List ℕ → ℕ → List ℕ → ℕ
place_after buffer at text = at + fitting buffer at text

unfoldable pub glyph : ℕ → ℕ
glyph d = cond (ltb d 10) (code "0" + d) (code "A" + (d - 10))

-- the last k digits of n in this base, the highest first
unfoldable pub digits : ℕ → ℕ → ℕ → List ℕ
digits base zero n = []
digits base (suc k) n = digits base k (n / base) ++ (glyph (n % base) ∷ [])

-- without the zeros in front, but for a last digit
unfoldable pub trimmed : List ℕ → List ℕ
trimmed [] = []
trimmed (d ∷ []) = d ∷ []
trimmed (d ∷ (e ∷ rest)) = cond (eqb d (code "0")) (trimmed (e ∷ rest)) (d ∷ (e ∷ rest))

-- 2 ^ 64 has twenty digits
unfoldable pub decimal : ℕ → List ℕ
decimal n = trimmed (digits 10 20 n)

-- the last digits of n in base 16, sixteen at most
unfoldable pub hexadecimal : ℕ → ℕ → List ℕ
hexadecimal width n = digits 16 (min width 16) n
