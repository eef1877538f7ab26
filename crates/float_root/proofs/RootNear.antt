-- `NearRoot`, of the same two patterns: what the root of m * 4 ^ k rounds to is nearer to it than any other `f32` is. Assumes nothing.
use mathlib.Core.Path.{◌≡◌, refl, sym, ap, ◌∙◌, subst}
use mathlib.Core.Logic.{◌⊎◌, inl, inr}
use Prim.Native.Nat.{ℕ, zero, suc, ◌+◌, ◌-◌, ◌*◌, ◌/◌, ◌%◌, ◌^◌, ◌≤◌, ◌<◌, zero-le}
use native.Mathlib.Nat.{le_refl, le_trans, le_of_eq, le_of_lt, le_of_suc-le-suc, lt_of_le_of_lt, lt_of_lt_of_le, lt_of_not-le, not-le_of_lt, lt_irrefl, le-add_right, add_comm, add-le-add, add-lt-add_of_le_of_lt, sub-add_cancel, mul-one, one-mul, mul_assoc, mul_right_comm, mul-pos, mul-le-mul_left, mul-le-mul_right, mul-lt-mul_of_pos_right, lt_of_mul-lt-mul_right, mul-div_cancel}
use native.Mathlib.Numerals.{add-one}
use native.Mathlib.Omega.{arith}
use mathlib.Core.Bool.{Bool, true, false, not, ◌&&◌}
use lib.IntN.{ℤ, pos, negsuc}
use lib.Dec.{T, leb, ltb, eqb, leb→le, nleb→lt, ltb→lt, lit<}
use lib.Pow.{pow-add, pow_pos, pow_mono, pow-lt}
use lib.Ieee.{Float, nan, inf, fin, binary32, up, down, fits, of_bits}
use lib.Ieee.Fits.{and_l, and_r, down_pos}
use lib.Ieee.Bits.{of_bits-fits}
use lib.Ieee.Exact.{HasValue}
use lib.Ieee.Positive.{positive_of_value}
use Rattle.float_root.specs.Root.{in_units, NearRoot}
use Rattle.float_root.proofs.WholeRoot.{sq_le}
use Rattle.float_root.proofs.RootRound.{units_of_value, pattern_value, digits_ge, digits_lt}

-- ---- every finite `f32` is m * 2 ^ j units, with an m of 24 digits at most
pow_le_back : (a l : ℕ) → 2 ^ a ≤ 2 ^ l → a ≤ l
pow_le_back a l h = le_of_suc-le-suc (lt_of_not-le (λ (g : suc l ≤ a). lt_irrefl (2 ^ l) (lt_of_lt_of_le (pow-lt g) h)))

scale_of : (d : ℤ) → down d ≤ 2 ^ 149 → (j : ℕ) × (up d * 2 ^ 149 ≡ 2 ^ j * down d)
scale_of (pos a) h = (a + 149, sym (pow-add 2 a 149) ∙ sym (mul-one (2 ^ (a + 149))))
scale_of (negsuc a) h = (149 - suc a, one-mul (2 ^ 149) ∙ ap (λ (x : ℕ). 2 ^ x) (sym (join (suc a) (pow_le_back (suc a) 149 h))) ∙ pow-add 2 (149 - suc a) (suc a))
  where
    join : (a : ℕ) → a ≤ 149 → 149 - a + a ≡ 149
    join a h = omega arith

pub record Units (m : ℕ) (e : ℤ) : Type 0 where
  pub power : ℕ
  pub few : m < 2 ^ 24
  pub is : m * up e * 2 ^ 149 ≡ m * 2 ^ power * down e
  pub fine : m * 2 ^ power < 2 ^ 277

pub units_of : (s : Bool) (m : ℕ) (e : ℤ) → T (fits binary32 (fin s m e)) → Units m e
unfolding fits
units_of s zero e t = record { power = 0; few = lit< tt; is = nil (up e) (2 ^ 149) (down e); fine = lit< tt }
  where
    nil : (a b c : ℕ) → 0 * a * b ≡ 0 * 1 * c
    nil a b c = omega arith
units_of s (suc m) e t =
    let A = eqb (suc m % 2) 1 in
    let C = ltb (suc m) (2 ^ 24) in
    let D = leb (down e) (2 ^ 149) in
    let F = ltb (suc m * up e) (2 ^ 128 * down e) in
    let z = scale_of e (leb→le (down e) (2 ^ 149) (and_r (A && C) D (and_l (A && C && D) F t))) in
    let same : suc m * up e * 2 ^ 149 ≡ suc m * 2 ^ z.0 * down e = mul_assoc (suc m) (up e) (2 ^ 149) ∙ ap (λ (x : ℕ). suc m * x) z.1 ∙ sym (mul_assoc (suc m) (2 ^ z.0) (down e)) in
    record {
      power = z.0;
      few = ltb→lt (suc m) (2 ^ 24) (and_r A C (and_l (A && C) D (and_l (A && C && D) F t)));
      is = same;
      fine =
          lt_of_mul-lt-mul_right (down e)
          (lt_of_le_of_lt (le_of_eq (sym same))
          (lt_of_lt_of_le (mul-lt-mul_of_pos_right (ltb→lt (suc m * up e) (2 ^ 128 * down e) (and_r (A && C && D) F t)) (pow_pos 149)) (le_of_eq (mul_right_comm (2 ^ 128) (down e) (2 ^ 149)))));
    }

pub in_units_is : (s : Bool) (m : ℕ) (e : ℤ) (w : Units m e) → in_units (fin s m e) ≡ m * 2 ^ w.power
in_units_is s m e w = ap (λ (x : ℕ). x / down e) w.is ∙ mul-div_cancel (m * 2 ^ w.power) (down_pos e)

pub in_units_value : (s : Bool) (m : ℕ) (e : ℤ) → T (fits binary32 (fin s m e)) → HasValue (fin s m e) s (in_units (fin s m e)) (2 ^ 149)
in_units_value s m e f = let w = units_of s m e f in (refl, w.is ∙ ap (λ (x : ℕ). x * down e) (sym (in_units_is s m e w)))

-- no such value lies between s * 2 ^ k units and (s + 1) * 2 ^ k, for an s of 24 digits
between : (s k n j : ℕ) → 2 ^ 23 ≤ s → n < 2 ^ 24 → (n * 2 ^ j ≤ s * 2 ^ k) ⊎ ((s + 1) * 2 ^ k ≤ n * 2 ^ j)
between s k n j h l = go (leb k j) (leb→le k j) (nleb→lt k j)
  where
    whole : (z : ℕ) → n * 2 ^ j ≡ z * 2 ^ k → (b : Bool) → (T b → z ≤ s) → (T (not b) → s < z) → (n * 2 ^ j ≤ s * 2 ^ k) ⊎ ((s + 1) * 2 ^ k ≤ n * 2 ^ j)
    whole z e true a c = inl (le_trans (le_of_eq e) (mul-le-mul_right (2 ^ k) (a tt)))
    whole z e false a c = inr (le_trans (mul-le-mul_right (2 ^ k) (le_trans (le_of_eq (add-one s)) (c tt))) (le_of_eq (sym e)))

    room : (j k : ℕ) → j < k → 24 + j ≤ 23 + k
    room j k h = omega arith

    go : (b : Bool) → (T b → k ≤ j) → (T (not b) → j < k) → (n * 2 ^ j ≤ s * 2 ^ k) ⊎ ((s + 1) * 2 ^ k ≤ n * 2 ^ j)
    go true a c =
        let z = n * 2 ^ (j - k) in
        whole z (ap (λ (x : ℕ). n * x) (ap (λ (x : ℕ). 2 ^ x) (sym (sub-add_cancel (a tt))) ∙ pow-add 2 (j - k) k) ∙ sym (mul_assoc n (2 ^ (j - k)) (2 ^ k))) (leb z s) (leb→le z s) (nleb→lt z s)
    go false a c =
        inl
        (le_trans (mul-le-mul_right (2 ^ j) (le_of_lt l))
        (le_trans (le_of_eq (sym (pow-add 2 24 j)))
        (le_trans (pow_mono (room j k (c tt)))
        (le_trans (le_of_eq (pow-add 2 23 k)) (mul-le-mul_right (2 ^ k) h)))))

sq_lt : (a b : ℕ) → a < b → a * a < b * b
sq_lt a b h = lt_of_le_of_lt (mul-le-mul_left a (le_of_lt h)) (mul-lt-mul_of_pos_right h (lt_of_le_of_lt zero-le h))

-- ---- with p for 2 ^ k, y the units of the result, z those of another value
abbrev Picked : ℕ → ℕ → ℕ → ℕ → Type 0
Picked m p y z = (y < z → 4 * (m * (p * p)) < (y + z) * (y + z)) × (z < y → (y + z) * (y + z) < 4 * (m * (p * p)))

-- the midpoint of s * p and (s + 1) * p, doubled and squared, against 4 m p p
under_odd : (m s p : ℕ) → 0 < p → m ≤ s * s + s → 4 * (m * (p * p)) < (s * p + (s + 1) * p) * (s * p + (s + 1) * p)
under_odd m s p P h = squares m s p (mul-le-mul_right (p * p) h) (mul-pos P P)
  where
    squares : (m s p : ℕ) → m * (p * p) ≤ (s * s + s) * (p * p) → 0 < p * p → 4 * (m * (p * p)) < (s * p + (s + 1) * p) * (s * p + (s + 1) * p)
    squares m s p h k = omega arith

over_odd : (m s p : ℕ) → 0 < p → s * s + s < m → (s * p + (s + 1) * p) * (s * p + (s + 1) * p) < 4 * (m * (p * p))
over_odd m s p P h = squares m s p (mul-le-mul_right (p * p) h) (mul-pos P P)
  where
    squares : (m s p : ℕ) → suc (s * s + s) * (p * p) ≤ m * (p * p) → 0 < p * p → (s * p + (s + 1) * p) * (s * p + (s + 1) * p) < 4 * (m * (p * p))
    squares m s p h k = omega arith

under_even : (m s p : ℕ) → s * s ≤ m → (s * p + s * p) * (s * p + s * p) ≤ 4 * (m * (p * p))
under_even m s p h = squares m s p (mul-le-mul_right (p * p) h)
  where
    squares : (m s p : ℕ) → s * s * (p * p) ≤ m * (p * p) → (s * p + s * p) * (s * p + s * p) ≤ 4 * (m * (p * p))
    squares m s p h = omega arith

over_even : (m s p : ℕ) → m ≤ s * s → 4 * (m * (p * p)) ≤ (s * p + s * p) * (s * p + s * p)
over_even m s p h = squares m s p (mul-le-mul_right (p * p) h)
  where
    squares : (m s p : ℕ) → m * (p * p) ≤ s * s * (p * p) → 4 * (m * (p * p)) ≤ (s * p + s * p) * (s * p + s * p)
    squares m s p h = omega arith

-- the root is nearer to s than to s + 1
down_picked : (m s p z : ℕ) → 0 < p → s * s ≤ m → m ≤ s * s + s → (z ≤ s * p) ⊎ ((s + 1) * p ≤ z) → Picked m p (s * p) z
down_picked m s p z P lo hi w = (over w, λ g. lt_of_lt_of_le (sq_lt (s * p + z) (s * p + s * p) (add-lt-add_of_le_of_lt (le_refl (s * p)) g)) (under_even m s p lo))
  where
    over : (z ≤ s * p) ⊎ ((s + 1) * p ≤ z) → s * p < z → 4 * (m * (p * p)) < (s * p + z) * (s * p + z)
    over (inl a) g = absurd (not-le_of_lt g a)
    over (inr a) g = lt_of_lt_of_le (under_odd m s p P hi) (sq_le (add-le-add (le_refl (s * p)) a))

-- and the other way round
up_picked : (m s p z : ℕ) → 0 < p → s * s + s < m → m < (s + 1) * (s + 1) → (z ≤ s * p) ⊎ ((s + 1) * p ≤ z) → Picked m p ((s + 1) * p) z
up_picked m s p z P lo hi w = (
  λ g. lt_of_le_of_lt (over_even m (s + 1) p (le_of_lt hi)) (sq_lt ((s + 1) * p + (s + 1) * p) ((s + 1) * p + z) (add-lt-add_of_le_of_lt (le_refl ((s + 1) * p)) g)),
  under w,
)
  where
    under : (z ≤ s * p) ⊎ ((s + 1) * p ≤ z) → z < (s + 1) * p → ((s + 1) * p + z) * ((s + 1) * p + z) < 4 * (m * (p * p))
    under (inl a) g = lt_of_le_of_lt (sq_le (le_trans (add-le-add (le_refl ((s + 1) * p)) a) (le_of_eq (add_comm ((s + 1) * p) (s * p))))) (over_odd m s p P lo)
    under (inr a) g = absurd (not-le_of_lt g a)

-- ---- from the numbers to the floats
module _ (u m k : ℕ) (scaled : u * 2 ^ 149 ≡ m * 2 ^ (k + k)) (k_lt : k < 250) where
  squared : u * 2 ^ 149 ≡ m * (2 ^ k * 2 ^ k)
  squared = scaled ∙ ap (λ (x : ℕ). m * x) (pow-add 2 k k)

  from_picked : (y : ℕ) → 2 ^ 23 ≤ y → y ≤ 2 ^ 24 → ((n j : ℕ) → n < 2 ^ 24 → Picked m (2 ^ k) (y * 2 ^ k) (n * 2 ^ j)) → NearRoot u (of_bits binary32 (k * 8388608 + y))
  from_picked y lo hi picked =
      let r = of_bits binary32 (k * 8388608 + y) in
      let v = pattern_value k y lo hi k_lt in
      let e : y * 2 ^ k ≡ in_units r = sym (units_of_value r (y * 2 ^ k) v) in
      let near : (z : Float) → T (fits binary32 z) → Picked m (2 ^ k) (in_units r) (in_units z) = λ z f. subst (λ (x : ℕ). Picked m (2 ^ k) x (in_units z)) e (both z f) in
      record {
        is_f32 = of_bits-fits binary32 (k * 8388608 + y);
        above_zero = positive_of_value r (y * 2 ^ k) (2 ^ 149) v (mul-pos (lt_of_lt_of_le (lit< tt) lo) (pow_pos k));
        over = λ z f h. subst (λ (x : ℕ). 4 * x < (in_units r + in_units z) * (in_units r + in_units z)) (sym squared) ((near z f).0 h);
        under = λ z f h. subst (λ (x : ℕ). (in_units r + in_units z) * (in_units r + in_units z) < 4 * x) (sym squared) ((near z f).1 h);
      }
    where
      both : (z : Float) → T (fits binary32 z) → Picked m (2 ^ k) (y * 2 ^ k) (in_units z)
      both nan f = picked 0 0 (lit< tt)
      both (inf s) f = picked 0 0 (lit< tt)
      both (fin s n g) f = let w = units_of s n g f in subst (λ (x : ℕ). Picked m (2 ^ k) (y * 2 ^ k) x) (sym (in_units_is s n g w)) (picked n w.power w.few)

  module _ (s : ℕ) (m_ge : 2 ^ 46 ≤ m) (m_lt : m < 2 ^ 48) (lo : s * s ≤ m) (hi : m < (s + 1) * (s + 1)) where
    pub near_down : m ≤ s * s + s → NearRoot u (of_bits binary32 (k * 8388608 + s))
    near_down h =
        let s_ge = digits_ge m s m_ge hi in
        from_picked s s_ge (le_of_lt (digits_lt m s m_lt lo)) (λ n j l. down_picked m s (2 ^ k) (n * 2 ^ j) (pow_pos k) lo h (between s k n j s_ge l))

    pub near_up : s * s + s < m → NearRoot u (of_bits binary32 (k * 8388608 + (s + 1)))
    near_up h =
        let s_ge = digits_ge m s m_ge hi in
        from_picked (s + 1) (le_trans s_ge (le-add_right s 1)) (le_trans (le_of_eq (add-one s)) (digits_lt m s m_lt lo))
        (λ n j l. up_picked m s (2 ^ k) (n * 2 ^ j) (pow_pos k) h hi (between s k n j s_ge l))
