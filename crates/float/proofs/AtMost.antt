-- Upper bounds of floats that hold through the operations. `AtMost x a c`, for a c above 0, says that x is not above a / c: it is a NaN, or it is negative, or it is finite and a / c at most.
-- So a bound on what is cut to a whole number (`cut_at_most`) needs nothing of the NaN or of the sign on the way. Assumes nothing.
use mathlib.Core.Path.{◌≡◌, sym, ap, ◌∙◌, subst}
use mathlib.Core.Logic.{◌⊎◌, inl, inr}
use Prim.Native.Nat.{ℕ, zero, suc, ◌+◌, ◌-◌, ◌*◌, ◌/◌, ◌^◌, ◌≤◌, ◌<◌, zero-le, min}
use native.Mathlib.Nat.{le_trans, le_of_eq, le_of_lt, mul-le-mul_right, mul-le-mul, le_of_mul-le-mul_right, mul-mul-mul_comm, mul-pos, min-le_left, lt_irrefl, sub-le, sub-eq-zero_of_le, zero-mul, zero-lt-suc}
use native.Mathlib.Omega.{arith}
use mathlib.Core.Bool.{Bool, true, false, not, ◌&&◌, ◌||◌, cond, true≢false}
use lib.IntN.{ℤ, pos}
use lib.Dec.{T, ltb, eqb, eqb→eq, ltb→lt, nltb→le}
use lib.Ieee.{Float, nan, inf, fin, Format, prec, emax, low, unlike, up, down, odd, units, round, add, sub, mul, div, lt, le, to_unsigned}
use lib.Ieee.Fits.{round_is, up_pos, down_pos, and_l}
use lib.Ieee.Exact.{HasValue}
use lib.Ieee.Nearest.{div_mono}
use lib.Ieee.Order.{round_mono, drop, kept}
use lib.Ieee.Scale.{round_same}
use Rattle.float.specs.Float.{clip}

abbrev pub AtMost : Float → ℕ → ℕ → Type 0
AtMost nan a c = Unit
AtMost (inf true) a c = Unit
AtMost (inf false) a c = ⊥
AtMost (fin true m e) a c = Unit
AtMost (fin false m e) a c = m * up e * c ≤ a * down e

-- ---- from the order of floats
or_split : (a b : Bool) → T (a || b) → T a ⊎ T b
or_split true b t = inl tt
or_split false b t = inr t

lt_or_eq : (a b : ℕ) → T (ltb a b || (eqb a b && true)) → a ≤ b
lt_or_eq a b t = elim (or_split (ltb a b) (eqb a b && true) t) [ inl u ↦ le_of_lt (ltb→lt a b u) | inr u ↦ le_of_eq (eqb→eq a b (and_l (eqb a b) true u)) ]

chain : (x y a c p q : ℕ) → 0 < q → x * q ≤ y * p → y * c ≡ a * q → x * c ≤ a * p
chain x y a c p q Q h e = le_of_mul-le-mul_right (omega (arith, mul-le-mul_right c h, ap (λ (z : ℕ). z * p) e)) Q

pub le_at_most : (x y : Float) (a c : ℕ) → T (le x y) → HasValue y false a c → AtMost x a c
unfolding le
le_at_most nan y a c h v = tt
le_at_most (inf true) y a c h v = tt
le_at_most (inf false) nan a c h v = absurd v
le_at_most (inf false) (inf t) a c h v = absurd v
le_at_most (inf false) (fin t n d) a c h v = absurd h
le_at_most (fin true m e) y a c h v = tt
le_at_most (fin false m e) nan a c h v = absurd v
le_at_most (fin false m e) (inf t) a c h v = absurd v
le_at_most (fin false m e) (fin true n d) a c h v = absurd (true≢false v.0)
le_at_most (fin false m e) (fin false n d) a c h v = chain (m * up e) (n * up d) a c (down e) (down d) (down_pos d) (lt_or_eq (m * up e * down d) (n * up d * down e) h) v.1

pub weaker : (x : Float) (a c b d : ℕ) → 0 < c → a * d ≤ b * c → AtMost x a c → AtMost x b d
weaker nan a c b d C h v = tt
weaker (inf true) a c b d C h v = tt
weaker (inf false) a c b d C h v = v
weaker (fin true m e) a c b d C h v = tt
weaker (fin false m e) a c b d C h v = le_of_mul-le-mul_right (omega (arith, mul-le-mul_right d v, mul-le-mul_right (down e) h)) C

-- ---- `round`
odd_negative : (d q k l a c : ℕ) → AtMost (odd d true q k l) a c
unfolding odd
odd_negative d zero k l a c = tt
odd_negative d (suc q) k l a c = tt

units_negative : (f : Format) (q k a c : ℕ) → AtMost (units f true q k) a c
unfolding units
units_negative f q k a c = go (ltb (q * 2 ^ k) (2 ^ (low f + suc (emax f))))
  where
    go : (b : Bool) → AtMost (cond b (odd (suc (prec f)) true q k (low f)) (inf true)) a c
    go true = odd_negative (suc (prec f)) q k (low f) a c
    go false = tt

pub round_negative : (f : Format) (p q a c : ℕ) → AtMost (round f true p q) a c
round_negative f p q a c =
    subst (λ (z : Float). AtMost z a c) (sym (round_is f true p q))
    (units_negative f (kept (prec f) (p * 2 ^ low f) q) (drop (prec f) (p * 2 ^ low f) q) a c)

-- a fraction p / q that is r / t at most, where r / t rounds to a / c
pub round_at_most : (f : Format) (s : Bool) (p q r t a c : ℕ) → 0 < q → 0 < t → p * t ≤ r * q → HasValue (round f false r t) false a c → AtMost (round f s p q) a c
round_at_most f true p q r t a c Q R h v = round_negative f p q a c
round_at_most f false p q r t a c Q R h v = le_at_most (round f false p q) (round f false r t) a c (round_mono f p q r t Q R h) v

-- ---- the product with a value b / d that is not negative, and the quotient by one above 0
pub mul_at_most : (f : Format) (x y : Float) (a c b d v w : ℕ) → 0 < c → 0 < d → AtMost x a c → HasValue y false b d → HasValue (round f false (a * b) (c * d)) false v w → AtMost (mul f x y) v w
unfolding mul
mul_at_most f x nan a c b d v w C D h k r = absurd k
mul_at_most f x (inf t) a c b d v w C D h k r = absurd k
mul_at_most f x (fin true n g) a c b d v w C D h k r = absurd (true≢false k.0)
mul_at_most f nan (fin false n g) a c b d v w C D h k r = tt
mul_at_most f (inf true) (fin false n g) a c b d v w C D h k r = go (eqb n 0)
  where
    go : (z : Bool) → AtMost (cond z nan (inf true)) v w
    go true = tt
    go false = tt
mul_at_most f (inf false) (fin false n g) a c b d v w C D h k r = absurd h
mul_at_most f (fin true m e) (fin false n g) a c b d v w C D h k r = round_negative f (m * up e * (n * up g)) (down e * down g) v w
mul_at_most f (fin false m e) (fin false n g) a c b d v w C D h k r =
    round_at_most f false (m * up e * (n * up g)) (down e * down g) (a * b) (c * d) v w (mul-pos (down_pos e) (down_pos g)) (mul-pos C D)
    (le_trans (le_of_eq (mul-mul-mul_comm (m * up e) (n * up g) c d))
    (le_trans (mul-le-mul h (le_of_eq k.1)) (le_of_eq (mul-mul-mul_comm a (down e) b (down g)))))
    r

not_zero : (n u d b q : ℕ) → n * u * d ≡ b * q → 0 < b → 0 < q → n ≡ 0 → ⊥
not_zero n u d b q e B Q z = lt_irrefl 0 (subst (λ (x : ℕ). 0 < x) (sym e ∙ omega (arith, ap (λ (x : ℕ). x * u * d) z)) (mul-pos B Q))

positive_of : (n : ℕ) → (n ≡ 0 → ⊥) → 0 < n
positive_of n h = omega arith

pub div_at_most : (f : Format) (x y : Float) (a c b d v w : ℕ) → 0 < c → 0 < b → AtMost x a c → HasValue y false b d → HasValue (round f false (a * d) (c * b)) false v w → AtMost (div f x y) v w
unfolding div
div_at_most f x nan a c b d v w C B h k r = absurd k
div_at_most f x (inf t) a c b d v w C B h k r = absurd k
div_at_most f x (fin true n g) a c b d v w C B h k r = absurd (true≢false k.0)
div_at_most f nan (fin false n g) a c b d v w C B h k r = tt
div_at_most f (inf true) (fin false n g) a c b d v w C B h k r = tt
div_at_most f (inf false) (fin false n g) a c b d v w C B h k r = absurd h
div_at_most f (fin s m e) (fin false n g) a c b d v w C B h k r = go s h (eqb n 0) (eqb→eq n 0)
  where
    no : n ≡ 0 → ⊥
    no = not_zero n (up g) d b (down g) k.1 B (down_pos g)

    go : (s : Bool) → AtMost (fin s m e) a c → (z : Bool) → (T z → n ≡ 0)
        → AtMost (cond z (cond (eqb m 0) nan (inf (unlike s false))) (round f (unlike s false) (m * up e * down g) (n * up g * down e))) v w
    go s h true z = absurd (no (z tt))
    go true h false z = round_negative f (m * up e * down g) (n * up g * down e) v w
    go false h false z =
        round_at_most f false (m * up e * down g) (n * up g * down e) (a * d) (c * b) v w (mul-pos (mul-pos (positive_of n no) (up_pos g)) (down_pos e)) (mul-pos C B)
        (cross (m * up e) (down g) c b a d (n * up g) (down e) h k.1)
        r
      where
        cross : (x q c b a d y p : ℕ) → x * c ≤ a * p → y * d ≡ b * q → x * q * (c * b) ≤ a * d * (y * p)
        cross x q c b a d y p h e = omega (arith, mul-le-mul_right (b * q) h, ap (λ (z : ℕ). a * p * z) e)

-- ---- the difference with -hi, and with 0, for an x that is hi at most. hi is n * 2 ^ d
pub sub_minus : (f : Format) (x : Float) (n : ℕ) (d : ℤ) (v w : ℕ) → AtMost x (n * up d) (down d) → HasValue (round f false (2 * (n * up d)) (down d)) false v w → AtMost (sub f x (fin true n d)) v w
unfolding sub add
sub_minus f nan n d v w h r = tt
sub_minus f (inf true) n d v w h r = tt
sub_minus f (inf false) n d v w h r = absurd h
sub_minus f (fin false m e) n d v w h r =
    round_at_most f false (m * up e * down d + n * up d * down e) (down e * down d) (2 * (n * up d)) (down d) v w (mul-pos (down_pos e) (down_pos d)) (down_pos d)
    (both (m * up e) (n * up d) (down e) (down d) h) r
  where
    both : (x y p q : ℕ) → x * q ≤ y * p → (x * q + y * p) * q ≤ 2 * y * (p * q)
    both x y p q h = omega (arith, mul-le-mul_right q h)
sub_minus f (fin true m e) n d v w h r = go (ltb (m * up e * down d) (n * up d * down e)) (ltb (n * up d * down e) (m * up e * down d)) (nltb→le (n * up d * down e) (m * up e * down d))
  where
    rest : (x y p q : ℕ) → (y * p - x) * q ≤ 2 * y * (p * q)
    rest x y p q = le_trans (mul-le-mul_right q (sub-le (y * p) x)) (omega arith)

    none : (x y p q : ℕ) → x ≤ y → (x - y) * q ≤ p
    none x y p q h = le_trans (le_of_eq (ap (λ (z : ℕ). z * q) (sub-eq-zero_of_le h) ∙ zero-mul q)) zero-le

    go : (s t : Bool) → (T (not t) → m * up e * down d ≤ n * up d * down e)
        → AtMost (cond s (round f false (n * up d * down e - m * up e * down d) (down e * down d)) (round f (true && t) (m * up e * down d - n * up d * down e) (down e * down d))) v w
    go true t k = round_at_most f false (n * up d * down e - m * up e * down d) (down e * down d) (2 * (n * up d)) (down d) v w (mul-pos (down_pos e) (down_pos d)) (down_pos d) (rest (m * up e * down d) (n * up d) (down e) (down d)) r
    go false true k = round_negative f (m * up e * down d - n * up d * down e) (down e * down d) v w
    go false false k =
        round_at_most f false (m * up e * down d - n * up d * down e) (down e * down d) (2 * (n * up d)) (down d) v w (mul-pos (down_pos e) (down_pos d)) (down_pos d)
        (none (m * up e * down d) (n * up d * down e) (2 * (n * up d) * (down e * down d)) (down d) (k tt)) r

pub sub_nothing : (f : Format) (x : Float) (n : ℕ) (d : ℤ) (v w : ℕ) → AtMost x (n * up d) (down d) → HasValue (round f false (n * up d) (down d)) false v w → AtMost (sub f x (fin false 0 (pos 0))) v w
unfolding sub add
sub_nothing f nan n d v w h r = tt
sub_nothing f (inf true) n d v w h r = tt
sub_nothing f (inf false) n d v w h r = absurd h
sub_nothing f (fin true m e) n d v w h r = round_negative f (m * up e * 1 + 0 * 1 * down e) (down e * 1) v w
sub_nothing f (fin false m e) n d v w h r = go (ltb (m * up e * 1) (0 * 1 * down e))
  where
    same : (x y p q z : ℕ) → x * q ≤ y * p → (x * 1 - z) * q ≤ y * (p * 1)
    same x y p q z h = le_trans (mul-le-mul_right q (sub-le (x * 1) z)) (omega (arith, h))

    go : (s : Bool) → AtMost (cond s (round f true (0 * 1 * down e - m * up e * 1) (down e * 1)) (round f false (m * up e * 1 - 0 * 1 * down e) (down e * 1))) v w
    go true = round_negative f (0 * 1 * down e - m * up e * 1) (down e * 1) v w
    go false =
        round_at_most f false (m * up e * 1 - 0 * 1 * down e) (down e * 1) (n * up d) (down d) v w (mul-pos (down_pos e) (zero-lt-suc 0)) (down_pos d)
        (same (m * up e) (n * up d) (down e) (down d) (0 * 1 * down e) h) r

-- hi - -hi, and hi - 0
pub span_minus : (f : Format) (n : ℕ) (d : ℤ) → sub f (fin false n d) (fin true n d) ≡ round f false (2 * (n * up d)) (down d)
unfolding sub add
span_minus f n d =
    round_same f false (n * up d * down d + n * up d * down d) (down d * down d) (2 * (n * up d)) (down d) (mul-pos (down_pos d) (down_pos d)) (down_pos d) (twice (n * up d) (down d))
  where
    twice : (x p : ℕ) → (x * p + x * p) * p ≡ 2 * x * (p * p)
    twice x p = omega arith

pub span_nothing : (f : Format) (n : ℕ) (d : ℤ) → sub f (fin false n d) (fin false 0 (pos 0)) ≡ round f false (n * up d) (down d)
unfolding sub add
span_nothing f n d = go (ltb (n * up d * 1) (0 * down d)) (ltb→lt (n * up d * 1) (0 * down d))
  where
    never : (x p : ℕ) → x < 0 * p → ⊥
    never x p h = omega arith

    same : (x p : ℕ) → (x * 1 - 0 * p) * p ≡ x * (p * 1)
    same x p = ap (λ (z : ℕ). z * p) (less x p) ∙ omega arith
      where
        less : (x p : ℕ) → x * 1 - 0 * p ≡ x
        less x p = omega arith

    go : (s : Bool) → (T s → n * up d * 1 < 0 * down d)
        → cond s (round f true (0 * down d - n * up d * 1) (down d * 1)) (round f false (n * up d * 1 - 0 * down d) (down d * 1)) ≡ round f false (n * up d) (down d)
    go true h = absurd (never (n * up d * 1) (down d) (h tt))
    go false h = round_same f false (n * up d * 1 - 0 * down d) (down d * 1) (n * up d) (down d) (mul-pos (down_pos d) (zero-lt-suc 0)) (down_pos d) (same (n * up d) (down d))

-- ---- and cut to a whole number
pub cut_at_most : (w : ℕ) (x : Float) (a c : ℕ) → 0 < c → AtMost x a c → to_unsigned w x ≤ a / c
unfolding to_unsigned
cut_at_most w nan a c C h = zero-le
cut_at_most w (inf true) a c C h = zero-le
cut_at_most w (inf false) a c C h = absurd h
cut_at_most w (fin true m e) a c C h = zero-le
cut_at_most w (fin false m e) a c C h = le_trans (min-le_left (m * up e / down e) (2 ^ w - 1)) (div_mono (m * up e) (down e) a c (down_pos e) C h)

-- ---- what is clipped is at most the maximum
pub clip_at_most : (x min max : Float) (a c : ℕ) → HasValue max false a c → AtMost (clip x min max) a c
unfolding clip
clip_at_most x min nan a c v = absurd v
clip_at_most x min (inf s) a c v = absurd v
clip_at_most x min (fin true n d) a c v = absurd (true≢false v.0)
clip_at_most x min (fin false n d) a c v = go (cond (lt x min) min x)
  where
    pick : (m : ℕ) (e : ℤ) (b : Bool) → (T (not b) → m * up e * down d ≤ n * up d * down e) → AtMost (cond b (fin false n d) (fin false m e)) a c
    pick m e true h = le_of_eq v.1
    pick m e false h = chain (m * up e) (n * up d) a c (down e) (down d) (down_pos d) (h tt) v.1

    go : (y : Float) → AtMost (cond (lt (fin false n d) y) (fin false n d) y) a c
    go nan = unfold lt in tt
    go (inf true) = unfold lt in tt
    go (inf false) = unfold lt in le_of_eq v.1
    go (fin true m e) = unfold lt in tt
    go (fin false m e) = unfold lt in pick m e (ltb (n * up d * down e) (m * up e * down d)) (nltb→le (n * up d * down e) (m * up e * down d))
