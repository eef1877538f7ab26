-- `Ieee.to_unsigned 32` of an `f32`, from its bit pattern: what `as_u32` returns on each of its ways. Assumes nothing.
use mathlib.Core.Path.{◌≡◌, refl, sym, ap, ◌∙◌, subst}
use Prim.Native.Nat.{ℕ, zero, suc, ◌+◌, ◌-◌, ◌*◌, ◌/◌, ◌%◌, ◌^◌, ◌≤◌, ◌<◌, min}
use native.Mathlib.Nat.{le-add_right, lt_of_lt_of_le, not-le_of_lt, mod-eq_of_lt, mul_assoc, mul-one, mul-le-mul, div-eq_of_lt, mul-div-mul_right, mul-div_cancel, le-div_iff_mul-le}
use native.Mathlib.Omega.{arith}
use mathlib.Core.Bool.{Bool, true, false, not, cond, true≢false}
use lib.Dec.{T, leb, eqb, le→leb, leb→le, nleb→lt, lt→ltb, eqb→eq, not_T, T_not, lit≤}
use lib.Pow.{pow-add, pow_pos, pow_mono, shl_lt, shr_lt}
use lib.Ieee.{Float, nan, inf, fin, binary32, up, down, odd, of_fields, of_bits, to_unsigned, is_nan}
use lib.Ieee.Fits.{down_pos}
use lib.Ieee.Bits.{is_true, is_false, cond_no, nan_bits_is, nan_bits_above}
use lib.Ieee.Exact.{HasValue, odd_sign}
use lib.Ieee.Nearest.{div_same}

-- ---- a value a / c that is not negative, cut
pub unsigned_of_value : (w : ℕ) (x : Float) (a c : ℕ) → 0 < c → HasValue x false a c → to_unsigned w x ≡ min (a / c) (2 ^ w - 1)
unfolding to_unsigned
unsigned_of_value w nan a c C h = absurd h
unsigned_of_value w (inf s) a c C h = absurd h
unsigned_of_value w (fin true m e) a c C h = absurd (true≢false h.0)
unsigned_of_value w (fin false m e) a c C h = ap (λ (q : ℕ). min q (2 ^ w - 1)) (div_same (m * up e) (down e) a c (down_pos e) C h.1)

-- ---- what the fields are read as
pub bits_are : (b : ℕ) → of_bits binary32 b ≡ of_fields binary32 (leb 2147483648 b) (b % 2147483648 / 8388608) (b % 8388608)
unfolding of_bits
bits_are b = refl

odd_negative : (w d q k l : ℕ) → to_unsigned w (odd d true q k l) ≡ 0
unfolding odd to_unsigned
odd_negative w d zero k l = refl
odd_negative w d (suc q) k l = refl

fields_negative : (w x t : ℕ) → to_unsigned w (of_fields binary32 true x t) ≡ 0
unfolding of_fields
fields_negative w zero t = odd_negative w 24 t 0 149
fields_negative w (suc x) t = go (eqb (suc x) 255) (eqb t 0)
  where
    go : (a b : Bool) → to_unsigned w (cond a (cond b (inf true) nan) (odd 24 true (8388608 + t) x 149)) ≡ 0
    go true true = unfold to_unsigned in refl
    go true false = unfold to_unsigned in refl
    go false b = odd_negative w 24 (8388608 + t) x 149

pub negative : (b : ℕ) → 2147483648 ≤ b → to_unsigned 32 (of_bits binary32 b) ≡ 0
negative b h =
    ap (to_unsigned 32) (bits_are b ∙ ap (λ (s : Bool). of_fields binary32 s (b % 2147483648 / 8388608) (b % 8388608)) (is_true (leb 2147483648 b) (le→leb 2147483648 b h)))
    ∙ fields_negative 32 (b % 2147483648 / 8388608) (b % 8388608)

plain : (b : ℕ) → b < 2147483648 → of_bits binary32 b ≡ of_fields binary32 false (b / 8388608) (b % 8388608)
plain b u =
    bits_are b
    ∙ ap (λ (s : Bool). of_fields binary32 s (b % 2147483648 / 8388608) (b % 8388608)) (is_false (leb 2147483648 b) (not_T (leb 2147483648 b) (λ t. not-le_of_lt u (leb→le 2147483648 b t))))
    ∙ ap (λ (x : ℕ). of_fields binary32 false (x / 8388608) (b % 8388608)) (mod-eq_of_lt u)

-- a field of 0: below the smallest normal value
low_field : (t : ℕ) → HasValue (of_fields binary32 false 0 t) false (t * 2 ^ 0) (2 ^ 149)
unfolding of_fields
low_field t = odd_sign 24 false t 0 149

mid_field : (x t : ℕ) → (suc x ≡ 255 → ⊥) → HasValue (of_fields binary32 false (suc x) t) false ((8388608 + t) * 2 ^ x) (2 ^ 149)
unfolding of_fields
mid_field x t n =
    subst (λ (v : Float). HasValue v false ((8388608 + t) * 2 ^ x) (2 ^ 149))
    (sym (cond_no (eqb (suc x) 255) (cond (eqb t 0) (inf false) nan) (odd 24 false (8388608 + t) x 149) (not_T (eqb (suc x) 255) (λ u. n (eqb→eq (suc x) 255 u)))))
    (odd_sign 24 false (8388608 + t) x 149)

top_field : (t : ℕ) → t ≡ 0 → to_unsigned 32 (of_fields binary32 false 255 t) ≡ 4294967295
unfolding of_fields to_unsigned
top_field t e = ap (λ (k : ℕ). to_unsigned 32 (cond (eqb k 0) (inf false) nan)) e

-- ---- the digits, and the number in units of 2 ^ -149, of a pattern with the exponent's field from 1 to 254
abbrev pub digits : ℕ → ℕ
digits b = b % 8388608 + 8388608

abbrev pub val : ℕ → ℕ
val b = digits b * 2 ^ (b / 8388608 - 1)

pub bits_value : (b : ℕ) → 8388608 ≤ b → b < 2139095040 → HasValue (of_bits binary32 b) false (val b) (2 ^ 149)
bits_value b l u =
    subst (λ (v : Float). HasValue v false (val b) (2 ^ 149)) (sym (plain b (wide b u) ∙ ap (λ (x : ℕ). of_fields binary32 false x (b % 8388608)) (sym (field b l))))
    (subst (λ (q : ℕ). HasValue (of_fields binary32 false (suc (b / 8388608 - 1)) (b % 8388608)) false (q * 2 ^ (b / 8388608 - 1)) (2 ^ 149)) (turn (b % 8388608))
    (mid_field (b / 8388608 - 1) (b % 8388608) (under b l u)))
  where
    wide : (b : ℕ) → b < 2139095040 → b < 2147483648
    wide b h = omega arith

    field : (b : ℕ) → 8388608 ≤ b → suc (b / 8388608 - 1) ≡ b / 8388608
    field b h = omega arith

    under : (b : ℕ) → 8388608 ≤ b → b < 2139095040 → suc (b / 8388608 - 1) ≡ 255 → ⊥
    under b h k e = omega arith

    turn : (t : ℕ) → 8388608 + t ≡ t + 8388608
    turn t = omega arith

cut_at : (b : ℕ) → 8388608 ≤ b → b < 2139095040 → to_unsigned 32 (of_bits binary32 b) ≡ min (val b / 2 ^ 149) 4294967295
cut_at b l u = unsigned_of_value 32 (of_bits binary32 b) (val b) (2 ^ 149) (pow_pos 149) (bits_value b l u)

digits_lt : (b : ℕ) → digits b < 2 ^ 24
digits_lt b = omega arith

digits_ge : (b : ℕ) → 2 ^ 23 ≤ digits b
digits_ge b = omega arith

-- ---- below 1
no_whole : (a : ℕ) → a < 2 ^ 149 → min (a / 2 ^ 149) 4294967295 ≡ 0
no_whole a h = ap (λ (q : ℕ). min q 4294967295) (div-eq_of_lt h)

pub below_one : (b : ℕ) → b < 0x3f80_0000 → to_unsigned 32 (of_bits binary32 b) ≡ 0
below_one b u = go (leb 8388608 b) (leb→le 8388608 b) (nle b)
  where
    nle : (b : ℕ) → T (not (leb 8388608 b)) → b < 8388608
    nle b t = nleb→lt 8388608 b t

    up_to : (b : ℕ) → b < 0x3f80_0000 → 24 + (b / 8388608 - 1) ≤ 149
    up_to b h = omega arith

    under : (b : ℕ) → b < 0x3f80_0000 → b < 2139095040
    under b h = omega arith

    none : (b : ℕ) → b < 8388608 → b / 8388608 ≡ 0
    none b h = omega arith

    sub_normal : (b : ℕ) → b < 8388608 → b * 1 < 2 ^ 149
    sub_normal b h = lt_of_lt_of_le (subst (λ (x : ℕ). x < 8388608) (sym (mul-one b)) h) (lit≤ tt)

    wide : (b : ℕ) → b < 8388608 → b < 2147483648
    wide b h = omega arith

    go : (s : Bool) → (T s → 8388608 ≤ b) → (T (not s) → b < 8388608) → to_unsigned 32 (of_bits binary32 b) ≡ 0
    go true l k = cut_at b (l tt) (under b u) ∙ no_whole (val b) (lt_of_lt_of_le (shl_lt 24 (b / 8388608 - 1) (digits_lt b)) (pow_mono (up_to b u)))
    go false l k =
        ap (to_unsigned 32) (plain b (wide b (k tt)) ∙ ap (λ (x : ℕ). of_fields binary32 false x (b % 8388608)) (none b (k tt)) ∙ ap (λ (t : ℕ). of_fields binary32 false 0 t) (mod-eq_of_lt (k tt)))
        ∙ unsigned_of_value 32 (of_fields binary32 false 0 b) (b * 1) (2 ^ 149) (pow_pos 149) (low_field b)
        ∙ no_whole (b * 1) (sub_normal b (k tt))

-- ---- from 1 to 2 ^ 24: a shift to the right
not_capped : (q : ℕ) → q < 2 ^ 32 → min q 4294967295 ≡ q
not_capped q h = omega arith

pub shifted_right : (b : ℕ) → 0x3f80_0000 ≤ b → b / 8388608 ≤ 150 → to_unsigned 32 (of_bits binary32 b) ≡ digits b / 2 ^ (150 - b / 8388608)
shifted_right b l k =
    let x = b / 8388608 in
    cut_at b (normal b l) (under b k)
    ∙ ap (λ (c : ℕ). min (val b / c) 4294967295) (ap (λ (n : ℕ). 2 ^ n) (sym (join b l k)) ∙ pow-add 2 (150 - x) (x - 1))
    ∙ ap (λ (q : ℕ). min q 4294967295) (mul-div-mul_right (digits b) (2 ^ (150 - x)) (pow_pos (x - 1)))
    ∙ not_capped (digits b / 2 ^ (150 - x)) (short b)
  where
    normal : (b : ℕ) → 0x3f80_0000 ≤ b → 8388608 ≤ b
    normal b h = omega arith

    under : (b : ℕ) → b / 8388608 ≤ 150 → b < 2139095040
    under b h = omega arith

    join : (b : ℕ) → 0x3f80_0000 ≤ b → b / 8388608 ≤ 150 → 150 - b / 8388608 + (b / 8388608 - 1) ≡ 149
    join b h j = omega arith

    short : (b : ℕ) → digits b / 2 ^ (150 - b / 8388608) < 2 ^ 32
    short b = lt_of_lt_of_le (shr_lt 24 (150 - b / 8388608) (lt_of_lt_of_le (digits_lt b) (pow_mono (le-add_right 24 (150 - b / 8388608))))) (lit≤ tt)

-- ---- below 2 ^ 24: a shift to the right, which leaves nothing below 1
pub fraction_dropped : (b n : ℕ) → b < 0x4b80_0000 → n ≡ min (150 - b / 8388608) 24 → to_unsigned 32 (of_bits binary32 b) ≡ digits b / 2 ^ n
fraction_dropped b n u e = go (leb 0x3f80_0000 b) (leb→le 0x3f80_0000 b) (nleb→lt 0x3f80_0000 b)
  where
    some : (b : ℕ) → b < 0x4b80_0000 → b / 8388608 ≤ 150
    some b h = omega arith

    part : (b n : ℕ) → n ≡ min (150 - b / 8388608) 24 → 0x3f80_0000 ≤ b → 150 - b / 8388608 ≡ n
    part b n h k = omega arith

    every : (b n : ℕ) → n ≡ min (150 - b / 8388608) 24 → b < 0x3f80_0000 → 24 ≡ n
    every b n h k = omega arith

    go : (s : Bool) → (T s → 0x3f80_0000 ≤ b) → (T (not s) → b < 0x3f80_0000) → to_unsigned 32 (of_bits binary32 b) ≡ digits b / 2 ^ n
    go true l k = shifted_right b (l tt) (some b u) ∙ ap (λ (m : ℕ). digits b / 2 ^ m) (part b n e (l tt))
    go false l k = below_one b (k tt) ∙ sym (div-eq_of_lt (digits_lt b)) ∙ ap (λ (m : ℕ). digits b / 2 ^ m) (every b n e (k tt))

-- ---- from 2 ^ 24 to 2 ^ 32: a shift to the left
pub shifted_left : (b : ℕ) → 150 < b / 8388608 → b < 0x4f80_0000 → to_unsigned 32 (of_bits binary32 b) ≡ digits b * 2 ^ (b / 8388608 - 150) % 2 ^ 32
shifted_left b k u =
    let x = b / 8388608 in
    let y = digits b * 2 ^ (x - 150) in
    let small : y < 2 ^ 32 = lt_of_lt_of_le (shl_lt 24 (x - 150) (digits_lt b)) (pow_mono (room b u)) in
    cut_at b (normal b k) (under b u)
    ∙ ap (λ (v : ℕ). min (v / 2 ^ 149) 4294967295) (ap (λ (n : ℕ). digits b * 2 ^ n) (sym (join b k)) ∙ ap (λ (p : ℕ). digits b * p) (pow-add 2 (x - 150) 149) ∙ sym (mul_assoc (digits b) (2 ^ (x - 150)) (2 ^ 149)))
    ∙ ap (λ (q : ℕ). min q 4294967295) (mul-div_cancel y (pow_pos 149))
    ∙ not_capped y small
    ∙ sym (mod-eq_of_lt small)
  where
    normal : (b : ℕ) → 150 < b / 8388608 → 8388608 ≤ b
    normal b h = omega arith

    under : (b : ℕ) → b < 0x4f80_0000 → b < 2139095040
    under b h = omega arith

    join : (b : ℕ) → 150 < b / 8388608 → b / 8388608 - 150 + 149 ≡ b / 8388608 - 1
    join b h = omega arith

    room : (b : ℕ) → b < 0x4f80_0000 → 24 + (b / 8388608 - 150) ≤ 32
    room b h = omega arith

-- ---- 2 ^ 32 and more, an infinity included
pub large : (b : ℕ) → 0x4f80_0000 ≤ b → b < 0x8000_0000 → T (not (is_nan (of_bits binary32 b))) → to_unsigned 32 (of_bits binary32 b) ≡ 4294967295
large b l u n = go (leb 2139095040 b) (leb→le 2139095040 b) (nleb→lt 2139095040 b)
  where
    normal : (b : ℕ) → 0x4f80_0000 ≤ b → 8388608 ≤ b
    normal b h = omega arith

    high : (b : ℕ) → 0x4f80_0000 ≤ b → 158 ≤ b / 8388608 - 1
    high b h = omega arith

    capped : (q : ℕ) → 2 ^ 32 ≤ q → min q 4294967295 ≡ 4294967295
    capped q h = omega arith

    only : (b : ℕ) → 2139095040 ≤ b → b < 0x8000_0000 → (2139095040 < b → ⊥) → b ≡ 2139095040
    only b h k o = omega arith

    no_more : 2139095040 < b → ⊥
    no_more h =
        T_not (is_nan (of_bits binary32 b)) n
        (subst T (sym (nan_bits_above binary32 b) ∙ nan_bits_is binary32 b)
        (lt→ltb 2139095040 (b % 2147483648) (subst (λ (x : ℕ). 2139095040 < x) (sym (mod-eq_of_lt u)) h)))

    go : (s : Bool) → (T s → 2139095040 ≤ b) → (T (not s) → b < 2139095040) → to_unsigned 32 (of_bits binary32 b) ≡ 4294967295
    go true h k =
        let e : b ≡ 2139095040 = only b (h tt) u no_more in
        ap (to_unsigned 32) (plain b u) ∙ ap (λ (c : ℕ). to_unsigned 32 (of_fields binary32 false (c / 8388608) (c % 8388608))) e ∙ top_field 0 refl
    go false h k = cut_at b (normal b l) (k tt) ∙ capped (val b / 2 ^ 149) ((le-div_iff_mul-le (pow_pos 149)).1 (mul-le-mul (digits_ge b) (pow_mono (high b l))))

-- ---- cut to 16 bits, by way of 32
pub narrow : (x : Float) → to_unsigned 16 x ≡ min (to_unsigned 32 x) 65535
unfolding to_unsigned
narrow nan = refl
narrow (inf true) = refl
narrow (inf false) = refl
narrow (fin true m e) = refl
narrow (fin false m e) = twice_capped (m * up e / down e)
  where
    twice_capped : (q : ℕ) → min q 65535 ≡ min (min q 4294967295) 65535
    twice_capped q = omega arith
