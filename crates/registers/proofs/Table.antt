-- A table in rows that holds f at each place: the checker computes it whole and compares, and `in_rows` says the rule at one place. Assumes nothing.
use mathlib.Core.Path.{◌≡◌, sym, ap, ◌∙◌}
use mathlib.Core.List.{List, [], ◌∷◌}
use Prim.Native.Nat.{ℕ, zero, suc, ◌+◌, ◌*◌, ◌/◌, ◌%◌, ◌<◌}
use native.Mathlib.Nat.{add-zero, zero-add, add-suc, suc-add, le_of_suc-le-suc, not-suc-le-zero, mod-lt, div-add-mod'}
use lib.ListN.{get_or}

-- f at n places from i on
abbrev pub tabulate : {A : Type 0} → (ℕ → A) → ℕ → ℕ → List A
tabulate f i zero = []
tabulate f i (suc n) = f i ∷ tabulate f (suc i) n

from : {A : Type 0} (f : ℕ → A) (d : A) (n i k : ℕ) → k < n → get_or (tabulate f i n) k d ≡ f (i + k)
from f d zero i k h = absurd (not-suc-le-zero h)
from f d (suc n) i zero h = ap f (sym (add-zero i))
from f d (suc n) i (suc k) h = from f d n (suc i) k (le_of_suc-le-suc h) ∙ ap f (suc-add i k ∙ sym (add-suc i k))

-- n rows of w places each
abbrev pub rows : {A : Type 0} → (ℕ → A) → ℕ → ℕ → List (List A)
rows f w n = tabulate (λ r. tabulate f (r * w) w) 0 n

pub in_rows : {A : Type 0} (f : ℕ → A) (d : A) (w n k : ℕ) → 0 < w → k / w < n → get_or (get_or (rows f w n) (k / w) []) (k % w) d ≡ f k
in_rows f d w n k wide h =
    ap (λ row. get_or row (k % w) d) (from (λ r. tabulate f (r * w) w) [] n 0 (k / w) h ∙ ap (λ r. tabulate f (r * w) w) (zero-add (k / w)))
    ∙ from f d w (k / w * w) (k % w) (mod-lt k wide)
    ∙ ap f (div-add-mod' k w)
