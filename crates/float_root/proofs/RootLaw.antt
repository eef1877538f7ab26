-- The definition of the root is right: for every `f32` x, `root x` is what `IsRoot x` asks for (`nearest`), so above 0 the `f32` nearest to the exact root, and nothing else is (`only`). Assumes nothing.
use mathlib.Core.Path.{◌≡◌, refl, sym, ap, ◌∙◌, subst}
use Prim.Native.Nat.{ℕ, zero, suc, ◌+◌, ◌-◌, ◌*◌, ◌/◌, ◌%◌, ◌^◌, ◌≤◌, ◌<◌}
use native.Mathlib.Nat.{le_trans, le_of_eq, lt_of_le_of_lt, lt_of_lt_of_le, lt_of_not-le, not-le_of_lt, lt_irrefl, lt_trans, add_comm, mul_assoc, mul-le-mul_right, mul-lt-mul_of_pos_right, zero-lt-suc}
use native.Mathlib.Omega.{arith}
use mathlib.Core.Bool.{Bool, true, false, not}
use lib.Dec.{T, leb, leb→le, nleb→lt}
use lib.Pow.{pow-add, pow_pos, pow_mono}
use lib.Ieee.{Float, nan, inf, fin, binary32, size, fits}
use lib.Ieee.Digits.{size-lt, size-le, size_reaches}
use lib.Ieee.Exact.{HasValue}
use lib.Ieee.Positive.{positive}
use Rattle.float_root.specs.Root.{in_units, whole_root, rounded_root, root, NearRoot, IsRoot}
use Rattle.float_root.proofs.WholeRoot.{root_sq_le, lt_next_sq}
use Rattle.float_root.proofs.RootRound.{same_value, rounded_down, rounded_up}
use Rattle.float_root.proofs.RootNear.{units_of, in_units_is, in_units_value, near_down, near_up}

-- n as m * 4 ^ k, with an m of 47 or 48 digits
pub record Scaled (n : ℕ) : Type 0 where
  pub m : ℕ
  pub k : ℕ
  pub is : n ≡ m * 2 ^ (k + k)
  pub m_ge : 2 ^ 46 ≤ m
  pub m_lt : m < 2 ^ 48
  pub k_ge : 51 ≤ k
  pub k_lt : k < 250

power_lt : (a b : ℕ) → 2 ^ a < 2 ^ b → a < b
power_lt a b h = lt_of_not-le (λ (g : b ≤ a). not-le_of_lt h (pow_mono g))

-- d * 2 ^ j units, where d has z digits: 47 - z or 48 - z of the power's 2s go to the digits
pub scaled : (d j : ℕ) → 0 < d → d < 2 ^ 24 → d * 2 ^ j < 2 ^ 277 → Scaled (d * 2 ^ j * 2 ^ 149)
scaled d j D few fine =
    let z = size d in
    let some : 0 < z = lt_of_not-le (λ (g : z ≤ 0). not-le_of_lt (lt_of_lt_of_le (size-lt d) (pow_mono g)) D) in
    let z_le : z ≤ 24 = size-le d 24 few in
    let reach : 2 ^ (z - 1) ≤ d = size_reaches d (z - 1) (before z some) in
    let t = 47 - z + (j + 102 + z) % 2 in
    let h = (j + 102 + z) / 2 in
    record {
      m = d * 2 ^ t;
      k = h;
      is =
          mul_assoc d (2 ^ j) (2 ^ 149)
          ∙ ap (λ (x : ℕ). d * x) (sym (pow-add 2 j 149) ∙ ap (λ (x : ℕ). 2 ^ x) (join j z z_le) ∙ pow-add 2 t (h + h))
          ∙ sym (mul_assoc d (2 ^ t) (2 ^ (h + h)));
      m_ge = le_trans (pow_mono (least j z some z_le)) (le_trans (le_of_eq (pow-add 2 (z - 1) t)) (mul-le-mul_right (2 ^ t) reach));
      m_lt = lt_of_lt_of_le (mul-lt-mul_of_pos_right (size-lt d) (pow_pos t)) (le_trans (le_of_eq (sym (pow-add 2 z t))) (pow_mono (most j z z_le)));
      k_ge = low_k j z some;
      k_lt = high_k j z z_le (power_lt (z - 1 + j) 277 (lt_of_le_of_lt (le_trans (le_of_eq (pow-add 2 (z - 1) j)) (mul-le-mul_right (2 ^ j) reach)) fine));
    }
  where
    before : (z : ℕ) → 0 < z → z - 1 < z
    before z h = omega arith

    join : (j z : ℕ) → z ≤ 24 → j + 149 ≡ 47 - z + (j + 102 + z) % 2 + ((j + 102 + z) / 2 + (j + 102 + z) / 2)
    join j z h = omega arith

    least : (j z : ℕ) → 0 < z → z ≤ 24 → 46 ≤ z - 1 + (47 - z + (j + 102 + z) % 2)
    least j z h k = omega arith

    most : (j z : ℕ) → z ≤ 24 → z + (47 - z + (j + 102 + z) % 2) ≤ 48
    most j z h = omega arith

    low_k : (j z : ℕ) → 0 < z → 51 ≤ (j + 102 + z) / 2
    low_k j z h = omega arith

    high_k : (j z : ℕ) → z ≤ 24 → z - 1 + j < 277 → (j + 102 + z) / 2 < 250
    high_k j z h k = omega arith

near : (u : ℕ) → Scaled (u * 2 ^ 149) → NearRoot u (rounded_root (u * 2 ^ 149))
near u w =
    subst (λ (n : ℕ). NearRoot u (rounded_root n)) (sym w.is)
    (go (leb w.m (s * s + s)) (leb→le w.m (s * s + s)) (nleb→lt w.m (s * s + s)))
  where
    s : ℕ
    s = whole_root w.m

    go : (b : Bool) → (T b → w.m ≤ s * s + s) → (T (not b) → s * s + s < w.m) → NearRoot u (rounded_root (w.m * 2 ^ (w.k + w.k)))
    go true h j =
        subst (NearRoot u) (sym (rounded_down w.m w.k s w.m_ge w.m_lt w.k_ge w.k_lt (root_sq_le w.m) (lt_next_sq w.m) (h tt)))
        (near_down u w.m w.k w.is w.k_lt s w.m_ge w.m_lt (root_sq_le w.m) (lt_next_sq w.m) (h tt))
    go false h j =
        subst (NearRoot u) (sym (rounded_up w.m w.k s w.m_ge w.m_lt w.k_ge w.k_lt (root_sq_le w.m) (lt_next_sq w.m) (j tt)))
        (near_up u w.m w.k w.is w.k_lt s w.m_ge w.m_lt (root_sq_le w.m) (lt_next_sq w.m) (j tt))

pub nearest : (x : Float) → T (fits binary32 x) → IsRoot x (root x)
unfolding IsRoot root
nearest nan f = refl
nearest (inf true) f = refl
nearest (inf false) f = refl
nearest (fin s zero e) f = refl
nearest (fin true (suc m) e) f = refl
nearest (fin false (suc m) e) f =
    let w = units_of false (suc m) e f in
    subst (λ (u : ℕ). NearRoot u (rounded_root (u * 2 ^ 149))) (sym (in_units_is false (suc m) e w))
    (near (suc m * 2 ^ w.power) (scaled (suc m) w.power (zero-lt-suc m) w.few w.fine))

-- ---- and no other value is
value_in_units : (r : Float) → T (fits binary32 r) → T (positive r) → HasValue r false (in_units r) (2 ^ 149)
value_in_units nan f p = absurd p
value_in_units (inf s) f p = absurd p
value_in_units (fin true m e) f p = absurd p
value_in_units (fin false m e) f p = in_units_value false m e f

one_near : (u : ℕ) (r t : Float) → NearRoot u r → NearRoot u t → r ≡ t
one_near u r t h k =
    same_value r t (in_units r) h.is_f32 k.is_f32 (value_in_units r h.is_f32 h.above_zero)
    (subst (λ (a : ℕ). HasValue t false a (2 ^ 149)) (sym (level (in_units r) (in_units t) (no_gap r t h k) (no_gap t r k h))) (value_in_units t k.is_f32 k.above_zero))
  where
    level : (a b : ℕ) → (a < b → ⊥) → (b < a → ⊥) → a ≡ b
    level a b h k = omega arith

    -- the root would be on both sides of their midpoint
    no_gap : (r t : Float) → NearRoot u r → NearRoot u t → in_units r < in_units t → ⊥
    no_gap r t h k g =
        lt_irrefl (4 * (u * 2 ^ 149))
        (lt_trans (h.over t k.is_f32 g) (subst (λ (x : ℕ). x * x < 4 * (u * 2 ^ 149)) (add_comm (in_units t) (in_units r)) (k.under r h.is_f32 g)))

pub only : (x r : Float) → T (fits binary32 x) → IsRoot x r → r ≡ root x
unfolding IsRoot root
only nan r f h = h
only (inf true) r f h = h
only (inf false) r f h = h
only (fin s zero e) r f h = h
only (fin true (suc m) e) r f h = h
only (fin false (suc m) e) r f h = one_near (in_units (fin false (suc m) e)) r (root (fin false (suc m) e)) h (nearest (fin false (suc m) e) f)
