-- The order of bits is the order of values, from 0 up. Assumes nothing.
use mathlib.Core.Path.{◌≡◌, refl, sym, ap, ◌∙◌}
use Prim.Native.Nat.{ℕ, ◌+◌, ◌-◌, ◌*◌, ◌/◌, ◌^◌, ◌≤◌, ◌<◌}
use native.Mathlib.Nat.{le_trans, le_of_eq, le_antisymm, le_of_lt, lt_of_le_of_lt, lt_of_not-le, mul-le-mul_right, le_of_mul-le-mul_right, le-div_iff_mul-le, eq-or-lt_of_le}
use native.Mathlib.Omega.{arith}
use mathlib.Core.Bool.{Bool, true, false, ◌&&◌, ◌||◌}
use mathlib.Core.Logic.{◌⊎◌, inl, inr}
use lib.IntN.{ℤ}
use lib.Dec.{T, leb, ltb, eqb}
use lib.Pow.{pow-add, pow_pos}
use lib.Ieee.{Float, nan, inf, fin, binary32, up, down, size, fits, le, to_bits, of_bits}
use lib.Ieee.Digits.{size-lt, size-le, size_reaches}
use lib.Ieee.Fits.{down_pos, kept-lt}
use lib.Ieee.Bits.{of_bits-to_bits}
use lib.Ieee.Nearest.{div_mono}
use lib.Ieee.Order.{transfer}
use lib.Ieee.Positive.{num, den}
use borrow.Author.Tests.{leb-true, leb-false, le-leb, lt-leb, lt-ltb, le-ltb, eq-eqb, ne_eqb}
use Rattle.float.specs.Float.{at_least_zero}
use Rattle.float_root.specs.Root.{in_units}
use Rattle.float_root.proofs.RootRound.{pattern, pattern_of}
use Rattle.float_root.proofs.RootNear.{units_of, in_units_is, in_units_value}

-- ---- more units have no lower pattern
pattern_mono : (a b : ℕ) → a ≤ b → pattern a ≤ pattern b
pattern_mono a b h = go (eq-or-lt_of_le (fewer (size a) (size b) (size-le a (size b) (lt_of_le_of_lt h (size-lt b)))))
  where
    j : ℕ
    j = size a - 24

    k : ℕ
    k = size b - 24

    fewer : (x y : ℕ) → x ≤ y → x - 24 ≤ y - 24
    fewer x y h = omega arith

    all_in_use : (z i : ℕ) → i < z - 24 → 23 + (z - 24) < z
    all_in_use z i h = omega arith

    same : (k x y : ℕ) → x ≤ y → 0 + k * 8388608 + x ≤ 0 + k * 8388608 + y
    same k x y h = omega arith

    more : (j k x y : ℕ) → j < k → x < 16777216 → 8388608 ≤ y → 0 + j * 8388608 + x ≤ 0 + k * 8388608 + y
    more j k x y h l g = omega arith

    go : (j ≡ k) ⊎ (j < k) → pattern a ≤ pattern b
    go (inl e) = rw e (same k (a / 2 ^ k) (b / 2 ^ k) (div_mono a (2 ^ k) b (2 ^ k) (pow_pos k) (pow_pos k) (mul-le-mul_right (2 ^ k) h)))
    go (inr l) =
        more j k (a / 2 ^ j) (b / 2 ^ k) l (kept-lt 24 a)
        ((le-div_iff_mul-le (pow_pos k)).1 (le_trans (le_of_eq (sym (pow-add 2 23 k))) (size_reaches b (23 + k) (all_in_use (size b) j l))))

-- below 2 ^ 128 the pattern is below the infinity's
pattern_lt : (a : ℕ) → a < 2 ^ 277 → pattern a < 2139095040
pattern_lt a h = under (size a) (a / 2 ^ (size a - 24)) (size-le a 277 h) (kept-lt 24 a)
  where
    under : (z q : ℕ) → z ≤ 277 → q < 16777216 → 0 + (z - 24) * 8388608 + q < 2139095040
    under z q h l = omega arith

apart : (a b : ℕ) → b < a → a ≡ b → ⊥
apart a b l e = omega arith

-- `lt` or `eq`, as one test
at_most : (a b : ℕ) → (ltb a b || (eqb a b && true)) ≡ leb a b
at_most a b = go (leb a b) refl
  where
    by : (a ≡ b) ⊎ (a < b) → (ltb a b || (eqb a b && true)) ≡ true
    by (inl e) = rw (le-ltb a b (le_of_eq (sym e)), eq-eqb a b e)
    by (inr l) = rw (lt-ltb a b l)

    go : (t : Bool) → leb a b ≡ t → (ltb a b || (eqb a b && true)) ≡ leb a b
    go true e = by (eq-or-lt_of_le (leb-true a b e)) ∙ sym e
    go false e = let l : b < a = leb-false a b e in rw (le-ltb a b (le_of_lt l), ne_eqb a b (apart a b l), e)

bits_lt : (m : ℕ) (e : ℤ) → T (fits binary32 (fin false m e)) → to_bits binary32 (fin false m e) < 2139095040
bits_lt m e f =
    let w = units_of false m e f in
    rw (pattern_of (fin false m e) (in_units (fin false m e)) (in_units_value false m e f), in_units_is false m e w) (pattern_lt (m * 2 ^ w.power) w.fine)

-- ---- two finite values, as fractions
keeps : (m : ℕ) (e : ℤ) (n : ℕ) (d : ℤ) → T (fits binary32 (fin false m e)) → T (fits binary32 (fin false n d)) → m * up e * down d ≤ n * up d * down e
    → to_bits binary32 (fin false m e) ≤ to_bits binary32 (fin false n d)
keeps m e n d f g h =
    let a = in_units (fin false m e) in
    let b = in_units (fin false n d) in
    let v = in_units_value false m e f in
    let w = in_units_value false n d g in
    rw (pattern_of (fin false m e) a v, pattern_of (fin false n d) b w)
    (pattern_mono a b
    (le_of_mul-le-mul_right (transfer a b (2 ^ 149) (2 ^ 149) (m * up e) (n * up d) (down e) (down d) (down_pos e) (down_pos d) (sym v.1) (sym w.1) h) (pow_pos 149)))

-- a larger value's bits are no lower, and they differ, since the bits give the value back
pub bits_order : (x y : Float) → T (fits binary32 x) → T (fits binary32 y) → T (at_least_zero x) → T (at_least_zero y) → leb (to_bits binary32 x) (to_bits binary32 y) ≡ le x y
unfolding at_least_zero le to_bits
bits_order nan y f g p q = absurd p
bits_order (inf true) y f g p q = absurd p
bits_order (fin true m e) y f g p q = absurd p
bits_order (inf false) nan f g p q = absurd q
bits_order (inf false) (inf true) f g p q = absurd q
bits_order (inf false) (fin true n d) f g p q = absurd q
bits_order (fin false m e) nan f g p q = absurd q
bits_order (fin false m e) (inf true) f g p q = absurd q
bits_order (fin false m e) (fin true n d) f g p q = absurd q
bits_order (inf false) (inf false) f g p q = refl
bits_order (inf false) (fin false n d) f g p q = lt-leb 2139095040 (to_bits binary32 (fin false n d)) (bits_lt n d g)
bits_order (fin false m e) (inf false) f g p q = le-leb (to_bits binary32 (fin false m e)) 2139095040 (le_of_lt (bits_lt m e f))
bits_order (fin false m e) (fin false n d) f g p q = go (leb a b) refl ∙ sym (at_most a b)
  where
    x : Float
    x = fin false m e

    y : Float
    y = fin false n d

    a : ℕ
    a = m * up e * down d

    b : ℕ
    b = n * up d * down e

    own : to_bits binary32 x ≡ to_bits binary32 y → x ≡ y
    own h = sym (of_bits-to_bits binary32 x f) ∙ ap (of_bits binary32) h ∙ of_bits-to_bits binary32 y g

    cross : x ≡ y → a ≡ b
    cross h = λ i. num (h i) * den (sym h i)

    go : (t : Bool) → leb a b ≡ t → leb (to_bits binary32 x) (to_bits binary32 y) ≡ leb a b
    go true h = le-leb (to_bits binary32 x) (to_bits binary32 y) (keeps m e n d f g (leb-true a b h)) ∙ sym h
    go false h =
        let l : b < a = leb-false a b h in
        lt-leb (to_bits binary32 x) (to_bits binary32 y) (lt_of_not-le (λ k. apart a b l (cross (own (le_antisymm k (keeps n d m e g f (le_of_lt l))))))) ∙ sym h
