-- A code of b bits is below 2 ^ b, for every x, a NaN and the infinities included, and for all limits that are accepted: `range`, for any b from 1 to 23. The rounded quotient is at most 2 ^ b - 1/2, which is an f32 up to b = 23; from 24 on it may be rounded up to 2 ^ b. Assumes nothing.
use mathlib.Core.Path.{◌≡◌, refl, sym, ◌∙◌, subst}
use mathlib.Core.Logic.{◌⊎◌, inl, inr}
use Prim.Native.Nat.{ℕ, ◌+◌, ◌-◌, ◌*◌, ◌/◌, ◌^◌, ◌≤◌, ◌<◌}
use native.Mathlib.Nat.{le_trans, le_of_eq, le_of_lt, mul-one, one-mul, lt_of_le_of_lt, lt_of_lt_of_le, mul-le-mul, mul-le-mul_right, le_of_mul-le-mul_right, mul-pos, mul_assoc, zero-lt-suc, mul-lt-mul_of_pos_right}
use native.Mathlib.Omega.{arith}
use mathlib.Core.Bool.{true, false}
use lib.IntN.{ℤ, pos, negsuc}
use lib.Dec.{T, lit<, lit≤}
use lib.Pow.{pow_pos, pow_mono}
use lib.Ieee.{Float, nan, inf, fin, binary32, up, down, round, neg, sub, mul, div, le, of_int, to_unsigned, size}
use lib.Ieee.Fits.{and_l, and_r, down_pos}
use lib.Ieee.Exact.{HasValue, round_exact}
use lib.Ieee.Back.{round_whole}
use lib.Ieee.Order.{round_mono}
use lib.Ieee.Scale.{grid, round_val, round_under, round_same, normal_of_fraction}
use lib.Ieee.Positive.{positive, between, positive-finite, positive_of_value, values_of_le, le→cross}
use Rattle.motor_core.specs.Model.{limit_accepted}
use Rattle.float.specs.Arithmetic.{float}
use Rattle.protocol_codes.specs.Codes.{float_to_uint}
use Rattle.float.specs.Float.{clip}
use Rattle.float.proofs.AtMost.{AtMost, weaker, clip_at_most, mul_at_most, div_at_most, sub_minus, sub_nothing, span_minus, span_nothing, cut_at_most}
use Rattle.float.proofs.Rounding.{round_up}

pub of_int_is : (n : ℕ) → of_int binary32 (pos n) ≡ round binary32 false n 1
unfolding of_int
of_int_is n = refl

-- ---- the arithmetic. L is 2 ^ 149, S the span and P the rounded product, in units of 2 ^ -149; N is 2 ^ b - 1
cancel : (P y L v u : ℕ) → 0 < L → P * L * v ≤ y * L * u → P * v ≤ y * u
cancel P y L v u H h = le_of_mul-le-mul_right (omega (arith, h)) H

half_more : (P S N : ℕ) → N < 2 ^ 23 → P * 16777216 ≤ S * N * 16777217 → 2 * P ≤ (2 * N + 1) * S
half_more P S N n h = omega (arith, mul-le-mul_right S n)

at_twice : (P N S L : ℕ) → 2 * P ≤ (2 * N + 1) * S → P * (2 * L) ≤ (2 * N + 1) * S * L
at_twice P N S L h = omega (arith, mul-le-mul_right L h)

regroup : (H S L : ℕ) → H * S * L * 2 ≡ H * (2 * L * S)
regroup H S L = omega arith

once : (P : ℕ) → P ≤ 2 * P
once P = omega arith

odd_lt : (N : ℕ) → N < 2 ^ 23 → 2 * N + 1 < 2 ^ 24
odd_lt N h = omega arith

halved : (N c : ℕ) → c ≤ (2 * N + 1) / 2 → c ≤ N
halved N c h = omega arith

-- ---- the law, by the span and the difference
half_value : (N : ℕ) → N < 2 ^ 23 → HasValue (round binary32 false (2 * N + 1) 2) false (2 * N + 1) 2
half_value N n =
    round_exact binary32 false (2 * N + 1) 2 (2 * N + 1) 148 (zero-lt-suc 1) (odd_lt N n)
    (lt_of_lt_of_le (mul-lt-mul_of_pos_right (odd_lt N n) (pow_pos 148)) (lit≤ tt))
    (sym (mul_assoc (2 * N + 1) (2 ^ 148) 2))

pub code_at_most : (N : ℕ) → 0 < N → N < 2 ^ 23 → (diff span : Float) (S : ℕ) → 2 ^ 23 ≤ S → S ≤ 2 ^ 166 → HasValue span false S (2 ^ 149) → AtMost diff S (2 ^ 149)
    → to_unsigned 32 (div binary32 (mul binary32 diff (of_int binary32 (pos N))) span) ≤ N
code_at_most N N0 n diff span S lo hi vS vD =
    let L = 2 ^ 149 in
    let P = grid binary32 (S * N) L in
    let big : 2 ^ 23 ≤ S * N = le_trans (le_of_eq refl) (mul-le-mul lo N0) in
    let normal : 24 ≤ size (S * N * L / L) = normal_of_fraction binary32 (S * N) L (pow_pos 149) (mul-le-mul_right L big) in
    let up_to : P * 16777216 ≤ S * N * 16777217 = cancel P (S * N) L 16777216 16777217 (pow_pos 149) (round_up binary32 (S * N) L (pow_pos 149) normal) in
    let two_P : 2 * P ≤ (2 * N + 1) * S = half_more P S N n up_to in
    let fine : P < 2 ^ 277 = lt_of_le_of_lt (le_trans (once P) (le_trans two_P (mul-le-mul (le_of_lt (odd_lt N n)) hi))) (lit< tt) in
    let vN : HasValue (of_int binary32 (pos N)) false N 1 = subst (λ (z : Float). HasValue z false N 1) (sym (of_int_is N)) (round_whole binary32 false N (le_trans (le_of_lt n) (lit≤ tt))) in
    let prod : AtMost (mul binary32 diff (of_int binary32 (pos N))) P L = mul_at_most binary32 diff (of_int binary32 (pos N)) S L N 1 P L (pow_pos 149) (zero-lt-suc 0) vD vN (round_val binary32 (S * N) L fine) in
    let H = 2 * N + 1 in
    let S0 : 0 < S = lt_of_lt_of_le (lit< tt) lo in
    let L2 : 0 < 2 * L = lit< tt in
    let quot : AtMost (div binary32 (mul binary32 diff (of_int binary32 (pos N))) span) H 2 =
    div_at_most binary32 (mul binary32 diff (of_int binary32 (pos N))) span (H * S) (2 * L) S L H 2 L2 S0
    (weaker (mul binary32 diff (of_int binary32 (pos N))) P L (H * S) (2 * L) (pow_pos 149) (at_twice P N S L two_P) prod) vS
    (subst (λ (z : Float). HasValue z false H 2) (sym (round_same binary32 false (H * S * L) (2 * L * S) H 2 (mul-pos L2 S0) (zero-lt-suc 1) (regroup H S L))) (half_value N n)) in
    halved N (to_unsigned 32 (div binary32 (mul binary32 diff (of_int binary32 (pos N))) span)) (cut_at_most 32 (div binary32 (mul binary32 diff (of_int binary32 (pos N))) span) H 2 (zero-lt-suc 1) quot)

-- ---- the span of k times a limit that is taken
pub accepted_positive : (hi : Float) → T (limit_accepted hi) → T (positive hi)
unfolding limit_accepted
accepted_positive hi t = between (fin false 1 (negsuc 9)) hi (fin false 1 (pos 16)) tt tt (and_l (le (fin false 1 (negsuc 9)) hi) (le hi (fin false 1 (pos 16))) t) (and_r (le (fin false 1 (negsuc 9)) hi) (le hi (fin false 1 (pos 16))) t)

least_value : HasValue (round binary32 false 1 1024) false 1 1024
least_value = round_exact binary32 false 1 1024 1 139 (lit< tt) (lit< tt) (lit< tt) refl

most_value : HasValue (round binary32 false 131072 1) false 131072 1
most_value = round_whole binary32 false 131072 (lit≤ tt)

at_least : (k x q : ℕ) → 1 ≤ k → 1 * q ≤ x * 1024 → 1 * q ≤ k * x * 1024
at_least k x q h j = omega (arith, mul-le-mul_right x h)

at_most : (k x q : ℕ) → k ≤ 2 → x * 1 ≤ 65536 * q → k * x * 1 ≤ 131072 * q
at_most k x q h j = omega (arith, mul-le-mul_right x h)

abbrev Span : Float → Type 0
Span r = (S : ℕ) × ((2 ^ 23 ≤ S) × ((S ≤ 2 ^ 166) × HasValue r false S (2 ^ 149)))

span_in : (k n : ℕ) (d : ℤ) → 1 ≤ k → k ≤ 2 → T (limit_accepted (fin false n d)) → Span (round binary32 false (k * (n * up d)) (down d))
unfolding limit_accepted
span_in k n d k1 k2 t =
    let hi = fin false n d in
    let X = n * up d in
    let p = accepted_positive hi t in
    let low : 1 * down d ≤ X * 1024 = le→cross (fin false 1 (negsuc 9)) hi tt p (and_l (le (fin false 1 (negsuc 9)) hi) (le hi (fin false 1 (pos 16))) t) in
    let high : X * 1 ≤ 65536 * down d = le→cross hi (fin false 1 (pos 16)) p tt (and_r (le (fin false 1 (negsuc 9)) hi) (le hi (fin false 1 (pos 16))) t) in
    let least = round binary32 false 1 1024 in
    let most = round binary32 false 131072 1 in
    let R = round binary32 false (k * X) (down d) in
    let l : T (le least R) = round_mono binary32 1 1024 (k * X) (down d) (lit< tt) (down_pos d) (at_least k X (down d) k1 low) in
    let h : T (le R most) = round_mono binary32 (k * X) (down d) 131072 1 (down_pos d) (lit< tt) (at_most k X (down d) k2 high) in
    let pl : T (positive least) = positive_of_value least 1 1024 least_value (lit< tt) in
    let pm : T (positive most) = positive_of_value most 131072 1 most_value (lit< tt) in
    let pR : T (positive R) = between least R most pl pm l h in
    let S = grid binary32 (k * X) (down d) in
    let v : HasValue R false S (2 ^ 149) = round_val binary32 (k * X) (down d) (round_under binary32 (k * X) (down d) (positive-finite R pR)) in (
      S,
      (le_trans {m = 2 ^ 139} (lit≤ tt) (le_of_mul-le-mul_right (values_of_le least R 1 1024 S (2 ^ 149) pl pR least_value v l) (lit< tt)), (subst (λ (z : ℕ). z ≤ 2 ^ 166) (mul-one S) (values_of_le R most S (2 ^ 149) 131072 1 pR pm v most_value h), v)),
    )

-- ---- the law
below_ones : (N c p : ℕ) → N ≡ p - 1 → 0 < p → c ≤ N → c < p
below_ones N c p e P h = omega arith

ones_pos : (p : ℕ) → 2 ≤ p → 0 < p - 1
ones_pos p h = omega arith

ones_small : (p : ℕ) → 2 ≤ p → p ≤ 2 ^ 23 → p - 1 < 2 ^ 23
ones_small p h k = omega arith

by_parts : (b : ℕ) → 0 < b → b ≤ 23 → (diff span : Float) (s : Span span) → AtMost diff s.0 (2 ^ 149) → to_unsigned 32 (div binary32 (mul binary32 diff (of_int binary32 (pos (2 ^ b - 1)))) span) < 2 ^ b
by_parts b b0 b23 diff span s h =
    let p2 : 2 ≤ 2 ^ b = pow_mono b0 in
    below_ones (2 ^ b - 1) (to_unsigned 32 (div binary32 (mul binary32 diff (of_int binary32 (pos (2 ^ b - 1)))) span)) (2 ^ b) refl (pow_pos b)
    (code_at_most (2 ^ b - 1) (ones_pos (2 ^ b) p2) (ones_small (2 ^ b) p2 (pow_mono b23)) diff span s.0 s.1.0 s.1.1.0 s.1.1.1 h)

range_minus : (b : ℕ) → 0 < b → b ≤ 23 → (x : Float) (n : ℕ) (d : ℤ) → T (limit_accepted (fin false n d)) → float_to_uint b x (fin true n d) (fin false n d) < 2 ^ b
unfolding float_to_uint
range_minus b b0 b23 x n d t =
    let s = span_in 2 n d (lit≤ tt) (lit≤ tt) t in
    subst (λ (z : Float). to_unsigned 32 (div binary32 (mul binary32 (sub binary32 (clip x (fin true n d) (fin false n d)) (fin true n d)) (of_int binary32 (pos (2 ^ b - 1)))) z) < 2 ^ b) (sym (span_minus binary32 n d))
    (by_parts b b0 b23 (sub binary32 (clip x (fin true n d) (fin false n d)) (fin true n d)) (round binary32 false (2 * (n * up d)) (down d)) s
    (sub_minus binary32 (clip x (fin true n d) (fin false n d)) n d s.0 (2 ^ 149) (clip_at_most x (fin true n d) (fin false n d) (n * up d) (down d) (refl, refl)) s.1.1.1))

range_nothing : (b : ℕ) → 0 < b → b ≤ 23 → (x : Float) (n : ℕ) (d : ℤ) → T (limit_accepted (fin false n d)) → float_to_uint b x (fin false 0 (pos 0)) (fin false n d) < 2 ^ b
unfolding float_to_uint
range_nothing b b0 b23 x n d t =
    let s : Span (round binary32 false (n * up d) (down d)) = subst (λ (z : ℕ). Span (round binary32 false z (down d))) (one-mul (n * up d)) (span_in 1 n d (lit≤ tt) (lit≤ tt) t) in
    subst (λ (z : Float). to_unsigned 32 (div binary32 (mul binary32 (sub binary32 (clip x (fin false 0 (pos 0)) (fin false n d)) (fin false 0 (pos 0))) (of_int binary32 (pos (2 ^ b - 1)))) z) < 2 ^ b) (sym (span_nothing binary32 n d))
    (by_parts b b0 b23 (sub binary32 (clip x (fin false 0 (pos 0)) (fin false n d)) (fin false 0 (pos 0))) (round binary32 false (n * up d) (down d)) s
    (sub_nothing binary32 (clip x (fin false 0 (pos 0)) (fin false n d)) n d s.0 (2 ^ 149) (clip_at_most x (fin false 0 (pos 0)) (fin false n d) (n * up d) (down d) (refl, refl)) s.1.1.1))

neg_is : (n : ℕ) (d : ℤ) → neg (fin false n d) ≡ fin true n d
unfolding neg
neg_is n d = refl

-- limits that are taken: from -hi to hi, or from 0 to hi
abbrev pub Taken : Float → Float → Type 0
Taken lo hi = T (limit_accepted hi) × ((lo ≡ neg hi) ⊎ (lo ≡ float 0))

pub range : (b : ℕ) → 0 < b → b ≤ 23 → (x lo hi : Float) → Taken lo hi → float_to_uint b x lo hi < 2 ^ b
unfolding of_int
range b b0 b23 x lo hi h = go hi h.0 (accepted_positive hi h.0) h.1
  where
    go : (hi : Float) → T (limit_accepted hi) → T (positive hi) → (lo ≡ neg hi) ⊎ (lo ≡ fin false 0 (pos 0)) → float_to_uint b x lo hi < 2 ^ b
    go nan t p k = absurd p
    go (inf s) t p k = absurd p
    go (fin true n d) t p k = absurd p
    go (fin false n d) t p (inl e) = subst (λ (z : Float). float_to_uint b x z (fin false n d) < 2 ^ b) (sym (e ∙ neg_is n d)) (range_minus b b0 b23 x n d t)
    go (fin false n d) t p (inr e) = subst (λ (z : Float). float_to_uint b x z (fin false n d) < 2 ^ b) (sym e) (range_nothing b b0 b23 x n d t)
