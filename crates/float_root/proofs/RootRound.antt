-- `rounded_root` of m * 4 ^ k, with an m of 47 or 48 binary digits, by the whole part s of m's root: s units of 2 ^ k, or s + 1. The cut to whole units does not show, since k is 51 at least. Assumes nothing.
use mathlib.Core.Path.{◌≡◌, refl, sym, ap, ◌∙◌, subst}
use Prim.Native.Nat.{ℕ, suc, ◌+◌, ◌-◌, ◌*◌, ◌/◌, ◌%◌, ◌^◌, ◌≤◌, ◌<◌, compare, Ordering}
use native.Mathlib.Nat.{le_refl, le_trans, le_of_eq, le_antisymm, le_of_suc-le-suc, lt_of_le_of_lt, lt_of_lt_of_le, lt_of_not-le, not-le_of_lt, le-add_right, mul-le-mul_right, mul-lt-mul_of_pos_right, mul-pos, mul_assoc, mul-div_cancel, pow-suc, add-zero, le-div_iff_mul-le, div-lt_iff_lt-mul}
use native.Mathlib.Numerals.{add-one}
use native.Mathlib.Omega.{arith}
use mathlib.Core.Bool.{Bool, true, false, not, cond}
use lib.Dec.{T, leb, leb→le, nleb→lt, lit≤}
use lib.Pow.{pow-add, pow_pos, pow_mono, pow-lt, high, low}
use lib.Ieee.{Float, nan, inf, fin, binary32, prec, hid, top, down, size, nearest, round, fits, to_bits, of_bits}
use lib.Ieee.Digits.{size-lt, size-le}
use lib.Ieee.Fits.{down_pos, round-fits}
use lib.Ieee.Bits.{of_bits-to_bits, of_bits-fits}
use lib.Ieee.Exact.{HasValue}
use lib.Ieee.Nearest.{closest, closest_same, div_same}
use lib.Ieee.Order.{drop}
use lib.Ieee.Scale.{grid, round_val}
use Rattle.float_root.specs.Root.{whole_root, rounded_root, in_units}
use Rattle.float.proofs.Rounding.{Cmp, cmp}
use Rattle.float.proofs.Truncating.{val, bits_value}
use Rattle.float_root.proofs.WholeRoot.{lt_of_sq_lt, root_sq_le, root_ge, root_lt}

-- ---- a value's size in units, and the value of a size
pub units_of_value : (x : Float) (a : ℕ) → HasValue x false a (2 ^ 149) → in_units x ≡ a
units_of_value nan a h = absurd h
units_of_value (inf s) a h = absurd h
units_of_value (fin s m e) a h = ap (λ (x : ℕ). x / down e) h.1 ∙ mul-div_cancel a (down_pos e)

abbrev pub pattern : ℕ → ℕ
pattern a = cond false (top binary32) 0 + (size a - prec binary32) * hid binary32 + a / 2 ^ (size a - prec binary32)

pub pattern_of : (x : Float) (a : ℕ) → HasValue x false a (2 ^ 149) → to_bits binary32 x ≡ pattern a
unfolding to_bits
pattern_of nan a h = absurd h
pattern_of (inf s) a h = absurd h
pattern_of (fin s m e) a h =
    let n = in_units (fin s m e) in
    ap (λ (t : Bool). cond t (top binary32) 0 + (size n - prec binary32) * hid binary32 + n / 2 ^ (size n - prec binary32)) h.0
    ∙ ap pattern (units_of_value (fin s m e) a h)

pub same_value : (x y : Float) (a : ℕ) → T (fits binary32 x) → T (fits binary32 y) → HasValue x false a (2 ^ 149) → HasValue y false a (2 ^ 149) → x ≡ y
same_value x y a fx fy hx hy = sym (of_bits-to_bits binary32 x fx) ∙ ap (of_bits binary32) (pattern_of x a hx ∙ sym (pattern_of y a hy)) ∙ of_bits-to_bits binary32 y fy

-- ---- the bit pattern of y * 2 ^ k units, for a y of 24 digits or 2 ^ 24
pub pattern_value : (k y : ℕ) → 2 ^ 23 ≤ y → y ≤ 2 ^ 24 → k < 250 → HasValue (of_bits binary32 (k * 8388608 + y)) false (y * 2 ^ k) (2 ^ 149)
pattern_value k y lo hi K =
    subst (λ (a : ℕ). HasValue (of_bits binary32 (k * 8388608 + y)) false a (2 ^ 149)) (go (leb 16777216 y) (leb→le 16777216 y) (nleb→lt 16777216 y))
    (bits_value (k * 8388608 + y) (enough k y lo) (under k y hi K))
  where
    enough : (k y : ℕ) → 8388608 ≤ y → 8388608 ≤ k * 8388608 + y
    enough k y h = omega arith

    under : (k y : ℕ) → y ≤ 16777216 → k < 250 → k * 8388608 + y < 2139095040
    under k y h j = omega arith

    field : (k y : ℕ) → 8388608 ≤ y → y < 16777216 → (k * 8388608 + y) / 8388608 - 1 ≡ k
    field k y a b = omega arith

    rest : (k y : ℕ) → 8388608 ≤ y → y < 16777216 → (k * 8388608 + y) % 8388608 + 8388608 ≡ y
    rest k y a b = omega arith

    field' : (k y : ℕ) → y ≡ 16777216 → (k * 8388608 + y) / 8388608 - 1 ≡ suc k
    field' k y a = omega arith

    rest' : (k y : ℕ) → y ≡ 16777216 → (k * 8388608 + y) % 8388608 + 8388608 ≡ 8388608
    rest' k y a = omega arith

    twice : (y p : ℕ) → y ≡ 16777216 → 8388608 * (p * 2) ≡ y * p
    twice y p e = omega (arith, ap (λ (z : ℕ). z * p) e)

    go : (b : Bool) → (T b → 16777216 ≤ y) → (T (not b) → y < 16777216) → val (k * 8388608 + y) ≡ y * 2 ^ k
    go true a c =
        let e : y ≡ 16777216 = le_antisymm hi (a tt) in
        ap (λ (q : ℕ). q * 2 ^ ((k * 8388608 + y) / 8388608 - 1)) (rest' k y e) ∙ ap (λ (x : ℕ). 8388608 * 2 ^ x) (field' k y e) ∙ ap (λ (x : ℕ). 8388608 * x) (pow-suc 2 k) ∙ twice y (2 ^ k) e
    go false a c = ap (λ (q : ℕ). q * 2 ^ ((k * 8388608 + y) / 8388608 - 1)) (rest k y lo (c tt)) ∙ ap (λ (x : ℕ). y * 2 ^ x) (field k y lo (c tt))

-- ---- s * p + r, with p = 2 ^ k and r below p, rounded: by r against the half of p
closest_is : (s k r : ℕ) → r < 2 ^ k → closest (s * 2 ^ k + r) (2 ^ k) ≡ nearest s (compare (r * 2) (2 ^ k))
closest_is s k r h =
    ap (λ (q : ℕ). nearest q (compare ((s * 2 ^ k + r) % 2 ^ k * 2) (2 ^ k))) (high s k h)
    ∙ ap (λ (x : ℕ). nearest s (compare (x * 2) (2 ^ k))) (low s k h)

nearest_lt : (s a b : ℕ) → a < b → nearest s (compare a b) ≡ s
nearest_lt s a b h = go (compare a b) (cmp a b)
  where
    same : (a b : ℕ) → a < b → a ≡ b → ⊥
    same a b h e = omega arith

    over : (a b : ℕ) → a < b → b < a → ⊥
    over a b h e = omega arith

    go : (o : Ordering) → Cmp o a b → nearest s o ≡ s
    go Ordering.lt c = refl
    go Ordering.eq c = absurd (same a b h c)
    go Ordering.gt c = absurd (over a b h c)

nearest_gt : (s a b : ℕ) → b < a → nearest s (compare a b) ≡ suc s
nearest_gt s a b h = go (compare a b) (cmp a b)
  where
    same : (a b : ℕ) → b < a → a ≡ b → ⊥
    same a b h e = omega arith

    over : (a b : ℕ) → b < a → a < b → ⊥
    over a b h e = omega arith

    go : (o : Ordering) → Cmp o a b → nearest s o ≡ suc s
    go Ordering.lt c = absurd (over a b h c)
    go Ordering.eq c = absurd (same a b h c)
    go Ordering.gt c = refl

size_gt : (n j : ℕ) → 2 ^ j ≤ n → j < size n
size_gt n j h = lt_of_not-le (λ (g : size n ≤ j). not-le_of_lt (lt_of_lt_of_le (size-lt n) (pow_mono g)) h)

-- w parts of a unit that has 2 ^ t of them, between s * 2 ^ k units and (s + 1) * 2 ^ k, for an s of 24 digits: it drops k
drops : (s k t w : ℕ) → 2 ^ 23 ≤ s → s < 2 ^ 24 → s * 2 ^ k * 2 ^ t ≤ w → w < (s + 1) * 2 ^ k * 2 ^ t → drop 24 (w * 2 ^ 149) (2 ^ (149 + t)) ≡ k
drops s k t w lo hi a b =
    let q = w / 2 ^ t in
    let over : s * 2 ^ k ≤ q = (le-div_iff_mul-le (pow_pos t)).1 a in
    let under : q < (s + 1) * 2 ^ k = (div-lt_iff_lt-mul (pow_pos t)).1 b in
    ap (λ (q : ℕ). size q - 24) (div_same (w * 2 ^ 149) (2 ^ (149 + t)) w (2 ^ t) (pow_pos (149 + t)) (pow_pos t) (mul_assoc w (2 ^ 149) (2 ^ t) ∙ ap (λ (x : ℕ). w * x) (sym (pow-add 2 149 t))))
    ∙ exact (size q) k (size_gt q (23 + k) (le_trans (le_of_eq (pow-add 2 23 k)) (le_trans (mul-le-mul_right (2 ^ k) lo) over)))
    (size-le q (24 + k) (lt_of_lt_of_le under (le_trans (mul-le-mul_right (2 ^ k) (le_trans (le_of_eq (add-one s)) hi)) (le_of_eq (sym (pow-add 2 24 k))))))
  where
    exact : (z k : ℕ) → 23 + k < z → z ≤ 24 + k → z - 24 ≡ k
    exact z k h j = omega arith

grid_is : (s k t w y : ℕ) → 2 ^ 23 ≤ s → s < 2 ^ 24 → s * 2 ^ k * 2 ^ t ≤ w → w < (s + 1) * 2 ^ k * 2 ^ t → closest w (2 ^ (k + t)) ≡ y → grid binary32 w (2 ^ (149 + t)) ≡ y * 2 ^ k
grid_is s k t w y lo hi a b e =
    ap (λ (j : ℕ). closest (w * 2 ^ 149) (2 ^ (149 + t) * 2 ^ j) * 2 ^ j) (drops s k t w lo hi a b)
    ∙ ap (λ (q : ℕ). q * 2 ^ k) (closest_same (w * 2 ^ 149) (2 ^ (149 + t) * 2 ^ k) w (2 ^ (k + t)) (mul-pos (pow_pos (149 + t)) (pow_pos k)) (pow_pos (k + t)) same ∙ e)
  where
    around : (w a b c : ℕ) → w * a * (b * c) ≡ w * (a * c * b)
    around w a b c = omega arith

    same : w * 2 ^ 149 * 2 ^ (k + t) ≡ w * (2 ^ (149 + t) * 2 ^ k)
    same = ap (λ (x : ℕ). w * 2 ^ 149 * x) (pow-add 2 k t) ∙ around w (2 ^ 149) (2 ^ k) (2 ^ t) ∙ ap (λ (x : ℕ). w * (x * 2 ^ k)) (sym (pow-add 2 149 t))

-- so where w is closest to y * 2 ^ k units it rounds to the pattern
pub rounds_to : (s k t w y : ℕ) → 2 ^ 23 ≤ s → s < 2 ^ 24 → s ≤ y → y ≤ s + 1 → k < 250 → s * 2 ^ (k + t) ≤ w → w < (s + 1) * 2 ^ (k + t) → closest w (2 ^ (k + t)) ≡ y → round binary32 false w (2 ^ (149 + t)) ≡ of_bits binary32 (k * 8388608 + y)
rounds_to s k t w y lo hi sy ys K a b e =
    same_value (round binary32 false w (2 ^ (149 + t))) (of_bits binary32 (k * 8388608 + y)) (y * 2 ^ k) (round-fits binary32 false w (2 ^ (149 + t))) (of_bits-fits binary32 (k * 8388608 + y))
    (subst (λ (g : ℕ). HasValue (round binary32 false w (2 ^ (149 + t))) false g (2 ^ 149)) is (round_val binary32 w (2 ^ (149 + t)) (subst (λ (g : ℕ). g < 2 ^ 277) (sym is) fine)))
    (pattern_value k y (le_trans lo sy) top_y K)
  where
    parts : (s : ℕ) → s * 2 ^ (k + t) ≡ s * 2 ^ k * 2 ^ t
    parts s = ap (λ (x : ℕ). s * x) (pow-add 2 k t) ∙ sym (mul_assoc s (2 ^ k) (2 ^ t))

    is : grid binary32 w (2 ^ (149 + t)) ≡ y * 2 ^ k
    is = grid_is s k t w y lo hi (subst (λ (x : ℕ). x ≤ w) (parts s) a) (subst (λ (x : ℕ). w < x) (parts (s + 1)) b) e

    top_y : y ≤ 2 ^ 24
    top_y = le_trans ys (le_trans (le_of_eq (add-one s)) hi)

    room : (k : ℕ) → k < 250 → 24 + k < 277
    room k h = omega arith

    fine : y * 2 ^ k < 2 ^ 277
    fine = lt_of_le_of_lt (le_trans (mul-le-mul_right (2 ^ k) top_y) (le_of_eq (sym (pow-add 2 24 k)))) (pow-lt (room k K))

-- w whole units
rounds_units : (s k w y : ℕ) → 2 ^ 23 ≤ s → s < 2 ^ 24 → s ≤ y → y ≤ s + 1 → k < 250 → s * 2 ^ k ≤ w → w < (s + 1) * 2 ^ k → closest w (2 ^ k) ≡ y → round binary32 false w (2 ^ 149) ≡ of_bits binary32 (k * 8388608 + y)
rounds_units s k w y lo hi sy ys K a b e =
    rounds_to s k 0 w y lo hi sy ys K (subst (λ (j : ℕ). s * 2 ^ j ≤ w) (sym (add-zero k)) a) (subst (λ (j : ℕ). w < (s + 1) * 2 ^ j) (sym (add-zero k)) b) (ap (λ (j : ℕ). closest w (2 ^ j)) (add-zero k) ∙ e)

-- ---- the whole root w of m * p * p against the multiples of p, and against their halves
from_below : (m s p : ℕ) → s * s ≤ m → s * p ≤ whole_root (m * (p * p))
from_below m s p h = root_ge (m * (p * p)) (s * p) (le_trans (le_of_eq (square s p)) (mul-le-mul_right (p * p) h))
  where
    square : (s p : ℕ) → s * p * (s * p) ≡ s * s * (p * p)
    square s p = omega arith

from_above : (m s p : ℕ) → 0 < p → m < (s + 1) * (s + 1) → whole_root (m * (p * p)) < (s + 1) * p
from_above m s p P h = root_lt (m * (p * p)) ((s + 1) * p) (lt_of_lt_of_le (mul-lt-mul_of_pos_right h (mul-pos P P)) (le_of_eq (square s p)))
  where
    square : (s p : ℕ) → (s + 1) * (s + 1) * (p * p) ≡ (s + 1) * p * ((s + 1) * p)
    square s p = omega arith

below_half : (m s p : ℕ) → 0 < p → m ≤ s * s + s → 2 * whole_root (m * (p * p)) < (2 * s + 1) * p
below_half m s p P h =
    let w = whole_root (m * (p * p)) in
    lt_of_sq_lt (2 * w) ((2 * s + 1) * p) (squares w m s p (root_sq_le (m * (p * p))) (mul-le-mul_right (p * p) h) (mul-pos P P))
  where
    squares : (w m s p : ℕ) → w * w ≤ m * (p * p) → m * (p * p) ≤ (s * s + s) * (p * p) → 0 < p * p → 2 * w * (2 * w) < (2 * s + 1) * p * ((2 * s + 1) * p)
    squares w m s p a b c = omega arith

-- p is 2 h
above_half : (m s h : ℕ) → 4 * s + 2 ≤ h → 0 < h → s * s + s < m → (2 * s + 1) * h < whole_root (m * ((h + h) * (h + h)))
above_half m s h small H g =
    le_trans (le_of_eq (sym (add-one ((2 * s + 1) * h))))
    (root_ge (m * ((h + h) * (h + h))) ((2 * s + 1) * h + 1) (squares m s h (mul-le-mul_right h small) (mul-pos H H) (mul-le-mul_right (h * h) g)))
  where
    squares : (m s h : ℕ) → (4 * s + 2) * h ≤ h * h → 0 < h * h → suc (s * s + s) * (h * h) ≤ m * (h * h) → ((2 * s + 1) * h + 1) * ((2 * s + 1) * h + 1) ≤ m * ((h + h) * (h + h))
    squares m s h a b c = omega arith

-- ---- which of the two is closest
pub closest_down : (s k w : ℕ) → s * 2 ^ k ≤ w → w < (s + 1) * 2 ^ k → 2 * w < (2 * s + 1) * 2 ^ k → closest w (2 ^ k) ≡ s
closest_down s k w a b h =
    let p = 2 ^ k in
    ap (λ (x : ℕ). closest x p) (sym (split s p w a)) ∙ closest_is s k (w - s * p) (rest s p w a b) ∙ nearest_lt s ((w - s * p) * 2) p (half s p w a h)
  where
    split : (s p w : ℕ) → s * p ≤ w → s * p + (w - s * p) ≡ w
    split s p w h = omega arith

    rest : (s p w : ℕ) → s * p ≤ w → w < (s + 1) * p → w - s * p < p
    rest s p w a b = omega arith

    half : (s p w : ℕ) → s * p ≤ w → 2 * w < (2 * s + 1) * p → (w - s * p) * 2 < p
    half s p w a h = omega arith

pub closest_up : (s k w : ℕ) → s * 2 ^ k ≤ w → w < (s + 1) * 2 ^ k → (2 * s + 1) * 2 ^ k < 2 * w → closest w (2 ^ k) ≡ s + 1
closest_up s k w a b h =
    let p = 2 ^ k in
    ap (λ (x : ℕ). closest x p) (sym (split s p w a)) ∙ closest_is s k (w - s * p) (rest s p w a b) ∙ nearest_gt s ((w - s * p) * 2) p (half s p w a h) ∙ sym (add-one s)
  where
    split : (s p w : ℕ) → s * p ≤ w → s * p + (w - s * p) ≡ w
    split s p w h = omega arith

    rest : (s p w : ℕ) → s * p ≤ w → w < (s + 1) * p → w - s * p < p
    rest s p w a b = omega arith

    half : (s p w : ℕ) → s * p ≤ w → (2 * s + 1) * p < 2 * w → p < (w - s * p) * 2
    half s p w a h = omega arith

-- ---- s has 24 digits
pub digits_ge : (m s : ℕ) → 2 ^ 46 ≤ m → m < (s + 1) * (s + 1) → 2 ^ 23 ≤ s
digits_ge m s h k = le_of_suc-le-suc (subst (λ (x : ℕ). 2 ^ 23 < x) (add-one s) (lt_of_sq_lt (2 ^ 23) (s + 1) (lt_of_le_of_lt h k)))

pub digits_lt : (m s : ℕ) → m < 2 ^ 48 → s * s ≤ m → s < 2 ^ 24
digits_lt m s h k = lt_of_sq_lt s (2 ^ 24) (lt_of_le_of_lt k h)

-- ---- the law, for each of the two
module _ (m k s : ℕ) (m_ge : 2 ^ 46 ≤ m) (m_lt : m < 2 ^ 48) (k_ge : 51 ≤ k) (k_lt : k < 250) (lo : s * s ≤ m) (hi : m < (s + 1) * (s + 1)) where
  s_ge : 2 ^ 23 ≤ s
  s_ge = digits_ge m s m_ge hi

  s_lt : s < 2 ^ 24
  s_lt = digits_lt m s m_lt lo

  square : m * 2 ^ (k + k) ≡ m * (2 ^ k * 2 ^ k)
  square = ap (λ (x : ℕ). m * x) (pow-add 2 k k)

  at_square : (y : ℕ) → round binary32 false (whole_root (m * (2 ^ k * 2 ^ k))) (2 ^ 149) ≡ of_bits binary32 (k * 8388608 + y) → rounded_root (m * 2 ^ (k + k)) ≡ of_bits binary32 (k * 8388608 + y)
  unfolding rounded_root
  at_square y e = ap rounded_root square ∙ e

  pub rounded_down : m ≤ s * s + s → rounded_root (m * 2 ^ (k + k)) ≡ of_bits binary32 (k * 8388608 + s)
  rounded_down h =
      let p = 2 ^ k in
      let w = whole_root (m * (p * p)) in
      let a = from_below m s p lo in
      let b = from_above m s p (pow_pos k) hi in
      at_square s (rounds_units s k w s s_ge s_lt (le_refl s) (le-add_right s 1) k_lt a b (closest_down s k w a b (below_half m s p (pow_pos k) h)))

  over_half : s * s + s < m → (2 * s + 1) * 2 ^ k < 2 * whole_root (m * (2 ^ k * 2 ^ k))
  over_half h =
      subst (λ (p : ℕ). (2 * s + 1) * p < 2 * whole_root (m * (p * p))) (sym doubled)
      (twice s (2 ^ (k - 1)) (whole_root (m * ((2 ^ (k - 1) + 2 ^ (k - 1)) * (2 ^ (k - 1) + 2 ^ (k - 1)))))
      (above_half m s (2 ^ (k - 1)) (le_trans (small s s_lt) (le_trans (lit≤ tt) (pow_mono {i = 50} (before k k_ge)))) (pow_pos (k - 1)) h))
    where
      small : (s : ℕ) → s < 16777216 → 4 * s + 2 ≤ 67108864
      small s h = omega arith

      before : (k : ℕ) → 51 ≤ k → 50 ≤ k - 1
      before k h = omega arith

      back : (k : ℕ) → 51 ≤ k → k ≡ suc (k - 1)
      back k h = omega arith

      double : (x : ℕ) → x * 2 ≡ x + x
      double x = omega arith

      doubled : 2 ^ k ≡ 2 ^ (k - 1) + 2 ^ (k - 1)
      doubled = ap (λ (x : ℕ). 2 ^ x) (back k k_ge) ∙ pow-suc 2 (k - 1) ∙ double (2 ^ (k - 1))

      twice : (s h w : ℕ) → (2 * s + 1) * h < w → (2 * s + 1) * (h + h) < 2 * w
      twice s h w g = omega arith

  pub rounded_up : s * s + s < m → rounded_root (m * 2 ^ (k + k)) ≡ of_bits binary32 (k * 8388608 + (s + 1))
  rounded_up h =
      let p = 2 ^ k in
      let w = whole_root (m * (p * p)) in
      let a = from_below m s p lo in
      let b = from_above m s p (pow_pos k) hi in
      at_square (s + 1) (rounds_units s k w (s + 1) s_ge s_lt (le-add_right s 1) (le_refl (s + 1)) k_lt a b (closest_up s k w a b (over_half h)))
