-- A float that is tested for a NaN, by `is_nan` or by its bits. Assumes nothing.
use mathlib.Core.Path.{◌≡◌, refl, sym, ◌∙◌, ap, subst}
use Prim.Native.Nat.{ℕ}
use mathlib.Core.Bool.{Bool, true, false, not, true≢false}
use lib.Dec.{T}
use lib.Ieee.{Float, nan, inf, fin, binary32, is_nan, to_bits, of_bits, nan_bits}
use lib.Ieee.Bits.{nan_bits_is}

pub nan_of_test : (x : Float) → is_nan x ≡ true → x ≡ nan
unfolding is_nan
nan_of_test nan e = refl
nan_of_test (inf s) e = absurd (true≢false (sym e))
nan_of_test (fin s m e) h = absurd (true≢false (sym h))

pub no_nan : (x : Float) → is_nan x ≡ false → T (not (is_nan x))
no_nan x e = subst (λ (b : Bool). T (not b)) (sym e) tt

pub nan_to_bits : (x : Float) → is_nan x ≡ true → to_bits binary32 x ≡ 0x7fc0_0000
unfolding to_bits
nan_to_bits x e = ap (to_bits binary32) (nan_of_test x e)

pub nan_pattern : (b : ℕ) → nan_bits binary32 b ≡ true → of_bits binary32 b ≡ nan
nan_pattern b e = nan_of_test (of_bits binary32 b) (sym (nan_bits_is binary32 b) ∙ e)
