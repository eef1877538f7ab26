-- The library's `sqrt`, which takes the root to 2271 places of a value's and notes whether it goes on, is `root`. Assumes nothing.
use mathlib.Core.Path.{◌≡◌, refl, sym, ap, ◌∙◌, subst}
use Prim.Native.Nat.{ℕ, zero, suc, ◌+◌, ◌*◌, ◌/◌, ◌^◌, ◌≤◌, ◌<◌}
use native.Mathlib.Nat.{le_refl, le_trans, le_of_eq, le_of_lt, lt_of_le_of_lt, lt_of_lt_of_le, le-add_right, mul_assoc, mul-one, one-mul, mul-le-mul_right, mul-lt-mul_of_pos_right, mul-pos, mul-div_cancel, pow-suc, zero-lt-suc}
use native.Mathlib.Omega.{arith}
use mathlib.Core.Bool.{Bool, true, false, not, cond}
use lib.IntN.{ℤ, pos, negsuc}
use lib.Dec.{T, eqb, eqb→eq, leb, leb→le, nleb→lt}
use lib.Pow.{pow-add, pow_pos}
use borrow.Author.Tests.{eqb-true}
use lib.Ieee.{Float, nan, inf, fin, binary32, up, down, size, root_below, root_twice, round, sqrt, fits, of_bits}
use lib.Ieee.Fits.{down_pos}
use lib.Ieee.Root.{whole_part}
use Rattle.float_root.specs.Root.{whole_root, rounded_root, root}
use Rattle.float_root.proofs.WholeRoot.{lt_of_sq_lt, root_sq_le, lt_next_sq}
use Rattle.float_root.proofs.RootRound.{digits_ge, digits_lt, rounds_to, closest_down, closest_up, rounded_down, rounded_up}
use Rattle.float_root.proofs.RootNear.{Units, units_of, in_units_is}
use Rattle.float_root.proofs.RootLaw.{Scaled, scaled}

-- ---- twice the root of n, and where it goes on the odd number after, against an even number
module _ (n : ℕ) where
  abbrev r : ℕ
  r = root_below (size n) n

  abbrev odd_one : ℕ
  odd_one = cond (eqb (r * r) n) 0 1

  twice : root_twice n ≡ 2 * r + odd_one
  unfolding root_twice
  twice = refl

  one_at_most : odd_one ≤ 1
  one_at_most = go (eqb (r * r) n)
    where
      go : (b : Bool) → cond b 0 1 ≤ 1
      go true = omega arith
      go false = omega arith

  within : (c : ℕ) → c * c ≤ n → c ≤ r
  within c h = omega (arith, lt_of_sq_lt c (r + 1) (lt_of_le_of_lt h (whole_part n).1))

  pub twice_ge : (c : ℕ) → c * c ≤ n → 2 * c ≤ root_twice n
  twice_ge c h = omega (arith, twice, within c h)

  pub twice_lt : (c : ℕ) → n < c * c → root_twice n < 2 * c
  twice_lt c h = omega (arith, twice, one_at_most, lt_of_sq_lt r c (lt_of_le_of_lt (whole_part n).0 h))

  pub twice_gt : (c : ℕ) → c * c < n → 2 * c < root_twice n
  twice_gt c h = go (eqb (r * r) n) refl
    where
      go : (b : Bool) → eqb (r * r) n ≡ b → 2 * c < root_twice n
      go true e = let g : c < r = lt_of_sq_lt c r (subst (λ (x : ℕ). c * c < x) (sym (eqb-true (r * r) n e)) h) in omega (arith, twice, g)
      go false e = omega (arith, twice, within c (le_of_lt h), ap {B = ℕ} (λ (b : Bool). cond b 0 1) e)

-- ---- the root of m * 4 ^ k units, for an m of 47 or 48 digits. h is 2 ^ (k + 2121), a quarter of 2 ^ k units in the library's parts
module _ (m k s : ℕ) (m_ge : 2 ^ 46 ≤ m) (m_lt : m < 2 ^ 48) (k_lt : k < 250) (lo : s * s ≤ m) (hi : m < (s + 1) * (s + 1)) where
  abbrev h : ℕ
  h = 2 ^ (k + 2121)

  H : 0 < h
  H = pow_pos (k + 2121)

  abbrev n : ℕ
  n = m * ((h + h) * (h + h))

  four : 2 ^ (k + 2123) ≡ 4 * h
  four = pow-add 2 k 2123 ∙ around (2 ^ k) ∙ ap (λ (x : ℕ). 4 * x) (sym (pow-add 2 k 2121))
    where
      around : (x : ℕ) → x * 2 ^ 2123 ≡ 4 * (x * 2 ^ 2121)
      around x = omega arith

  least : s * 2 ^ (k + 2123) ≤ root_twice n
  least = le_trans (le_of_eq (ap (λ (x : ℕ). s * x) four ∙ double s h)) (twice_ge n (s * (h + h)) (le_trans (le_of_eq (square s h)) (mul-le-mul_right ((h + h) * (h + h)) lo)))
    where
      double : (s h : ℕ) → s * (4 * h) ≡ 2 * (s * (h + h))
      double s h = omega arith

      square : (s h : ℕ) → s * (h + h) * (s * (h + h)) ≡ s * s * ((h + h) * (h + h))
      square s h = omega arith

  most : root_twice n < (s + 1) * 2 ^ (k + 2123)
  most = lt_of_lt_of_le (twice_lt n ((s + 1) * (h + h)) (lt_of_lt_of_le (mul-lt-mul_of_pos_right hi (both h H)) (le_of_eq (square s h)))) (le_of_eq (double s h ∙ ap (λ (x : ℕ). (s + 1) * x) (sym four)))
    where
      both : (h : ℕ) → 0 < h → 0 < (h + h) * (h + h)
      both h H = mul-pos (two h H) (two h H)
        where
          two : (h : ℕ) → 0 < h → 0 < h + h
          two h H = omega arith

      double : (s h : ℕ) → 2 * ((s + 1) * (h + h)) ≡ (s + 1) * (4 * h)
      double s h = omega arith

      square : (s h : ℕ) → (s + 1) * (s + 1) * ((h + h) * (h + h)) ≡ (s + 1) * (h + h) * ((s + 1) * (h + h))
      square s h = omega arith

  pub library_down : m ≤ s * s + s → round binary32 false (root_twice n) (2 ^ 2272) ≡ of_bits binary32 (k * 8388608 + s)
  library_down g =
      rounds_to s k 2123 (root_twice n) s (digits_ge m s m_ge hi) (digits_lt m s m_lt lo) (le_refl s) (le-add_right s 1) k_lt least most
      (closest_down s (k + 2123) (root_twice n) least most
      (lt_of_lt_of_le (half (root_twice n) ((2 * s + 1) * h) (twice_lt n ((2 * s + 1) * h) (squares m s h (mul-le-mul_right (h * h) g) (mul-pos H H)))) (le_of_eq (double s h ∙ ap (λ (x : ℕ). (2 * s + 1) * x) (sym four)))))
    where
      squares : (m s h : ℕ) → m * (h * h) ≤ (s * s + s) * (h * h) → 0 < h * h → m * ((h + h) * (h + h)) < (2 * s + 1) * h * ((2 * s + 1) * h)
      squares m s h a b = omega arith

      half : (w c : ℕ) → w < 2 * c → 2 * w < 4 * c
      half w c a = omega arith

      double : (s h : ℕ) → 4 * ((2 * s + 1) * h) ≡ (2 * s + 1) * (4 * h)
      double s h = omega arith

  pub library_up : s * s + s < m → round binary32 false (root_twice n) (2 ^ 2272) ≡ of_bits binary32 (k * 8388608 + (s + 1))
  library_up g =
      rounds_to s k 2123 (root_twice n) (s + 1) (digits_ge m s m_ge hi) (digits_lt m s m_lt lo) (le-add_right s 1) (le_refl (s + 1)) k_lt least most
      (closest_up s (k + 2123) (root_twice n) least most
      (lt_of_le_of_lt (le_of_eq (ap (λ (x : ℕ). (2 * s + 1) * x) four ∙ double s h)) (half (root_twice n) ((2 * s + 1) * h) (twice_gt n ((2 * s + 1) * h) (squares m s h (mul-le-mul_right (h * h) g) (mul-pos H H))))))
    where
      squares : (m s h : ℕ) → suc (s * s + s) * (h * h) ≤ m * (h * h) → 0 < h * h → (2 * s + 1) * h * ((2 * s + 1) * h) < m * ((h + h) * (h + h))
      squares m s h a b = omega arith

      half : (w c : ℕ) → 2 * c < w → 4 * c < 2 * w
      half w c a = omega arith

      double : (s h : ℕ) → (2 * s + 1) * (4 * h) ≡ 4 * ((2 * s + 1) * h)
      double s h = omega arith

-- ---- of u units the library takes the root of u * 2 ^ 4393
same_root : (u : ℕ) → Scaled (u * 2 ^ 149) → round binary32 false (root_twice (u * 2 ^ 4393)) (2 ^ 2272) ≡ rounded_root (u * 2 ^ 149)
same_root u w =
    ap (λ (x : ℕ). round binary32 false (root_twice x) (2 ^ 2272)) parts
    ∙ go (leb w.m (s * s + s)) (leb→le w.m (s * s + s)) (nleb→lt w.m (s * s + s))
    ∙ ap rounded_root (sym w.is)
  where
    s : ℕ
    s = whole_root w.m

    h : ℕ
    h = 2 ^ (w.k + 2121)

    parts : u * 2 ^ 4393 ≡ w.m * ((h + h) * (h + h))
    parts =
        split u
        ∙ ap (λ (x : ℕ). x * 2 ^ 4244) (w.is ∙ ap (λ (x : ℕ). w.m * x) (pow-add 2 w.k w.k))
        ∙ around w.m (2 ^ w.k)
        ∙ ap (λ (x : ℕ). w.m * ((x + x) * (x + x))) (sym (pow-add 2 w.k 2121))
      where
        split : (u : ℕ) → u * 2 ^ 4393 ≡ u * 2 ^ 149 * 2 ^ 4244
        split u = ap (λ (x : ℕ). u * x) (pow-add 2 149 4244) ∙ sym (mul_assoc u (2 ^ 149) (2 ^ 4244))

        around : (m p : ℕ) → m * (p * p) * 2 ^ 4244 ≡ m * ((p * 2 ^ 2121 + p * 2 ^ 2121) * (p * 2 ^ 2121 + p * 2 ^ 2121))
        around m p = ap (λ (x : ℕ). m * (p * p) * x) four ∙ squares m p (2 ^ 2121)
          where
            four : 2 ^ 4244 ≡ 4 * (2 ^ 2121 * 2 ^ 2121)
            four = pow-add 2 2 4242 ∙ ap (λ (x : ℕ). 4 * x) (pow-add 2 2121 2121)

            squares : (m p q : ℕ) → m * (p * p) * (4 * (q * q)) ≡ m * ((p * q + p * q) * (p * q + p * q))
            squares m p q = omega arith

    go : (b : Bool) → (T b → w.m ≤ s * s + s) → (T (not b) → s * s + s < w.m) → round binary32 false (root_twice (w.m * ((h + h) * (h + h)))) (2 ^ 2272) ≡ rounded_root (w.m * 2 ^ (w.k + w.k))
    go true a b =
        library_down w.m w.k s w.m_ge w.m_lt w.k_lt (root_sq_le w.m) (lt_next_sq w.m) (a tt)
        ∙ sym (rounded_down w.m w.k s w.m_ge w.m_lt w.k_ge w.k_lt (root_sq_le w.m) (lt_next_sq w.m) (a tt))
    go false a b =
        library_up w.m w.k s w.m_ge w.m_lt w.k_lt (root_sq_le w.m) (lt_next_sq w.m) (b tt)
        ∙ sym (rounded_up w.m w.k s w.m_ge w.m_lt w.k_ge w.k_lt (root_sq_le w.m) (lt_next_sq w.m) (b tt))

in_parts : (m : ℕ) (e : ℤ) (w : Units m e) → m * up e * 2 ^ 4542 / down e ≡ m * 2 ^ w.power * 2 ^ 4393
in_parts m e w = ap (λ (x : ℕ). x / down e) (split (m * up e) ∙ ap (λ (x : ℕ). x * 2 ^ 4393) w.is ∙ around (m * 2 ^ w.power) (down e) (2 ^ 4393)) ∙ mul-div_cancel (m * 2 ^ w.power * 2 ^ 4393) (down_pos e)
  where
    split : (u : ℕ) → u * 2 ^ 4542 ≡ u * 2 ^ 149 * 2 ^ 4393
    split u = ap (λ (x : ℕ). u * x) (pow-add 2 149 4393) ∙ sym (mul_assoc u (2 ^ 149) (2 ^ 4393))

    around : (a b c : ℕ) → a * b * c ≡ a * c * b
    around a b c = omega arith

even : (k : ℕ) → 2 ^ suc k ≡ 1 → ⊥
even k e = omega (arith, e, pow-suc 2 k, pow_pos k)

library_root : (x : Float) → T (fits binary32 x) → sqrt binary32 x ≡ root x
unfolding sqrt root fits
library_root nan f = refl
library_root (inf true) f = refl
library_root (inf false) f = refl
library_root (fin s zero (pos zero)) f = refl
library_root (fin s zero (pos (suc k))) f = absurd (even k (sym (mul-one (2 ^ suc k)) ∙ eqb→eq (2 ^ suc k * 1) 1 f))
library_root (fin s zero (negsuc k)) f = absurd (even k (sym (one-mul (2 ^ suc k)) ∙ eqb→eq (1 * 2 ^ suc k) 1 f))
library_root (fin true (suc m) e) f = refl
library_root (fin false (suc m) e) f =
    let w = units_of false (suc m) e f in
    ap (λ (x : ℕ). round binary32 false (root_twice x) (2 ^ 2272)) (in_parts (suc m) e w)
    ∙ same_root (suc m * 2 ^ w.power) (scaled (suc m) w.power (zero-lt-suc m) w.few w.fine)
    ∙ ap (λ (u : ℕ). rounded_root (u * 2 ^ 149)) (sym (in_units_is false (suc m) e w))

-- and of every `f32`
pub root_is : (x : Float) → fits binary32 x ≡ true → sqrt binary32 x ≡ root x
root_is x f = library_root x (subst T (sym f) tt)
