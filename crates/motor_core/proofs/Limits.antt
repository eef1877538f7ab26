-- What it says of three maxima that they are accepted, and what is made of their check. Assumes nothing.
use mathlib.Core.Path.{◌≡◌, refl, sym, ap, ◌∙◌}
use mathlib.Core.Bool.{Bool, true, false, ◌&&◌, cond}
use lib.Dec.{T}
use lib.Ieee.{Float}
use Rattle.std.specs.Prelude.{Result, Ok, Err}
use Rattle.motor_core.specs.Model.{limit_accepted, from_maxima, limits_of}
use Rattle.motor_core.specs.declared.error.Refusal.{Refusal}
use Rattle.motor_core.specs.declared.error.Refusal.TheVariants.{Limit}
use Rattle.motor_core.specs.declared.model.Maxima.{Maxima}
use Rattle.motor_core.specs.declared.model.PvTLimits.{PvTLimits}
use Rattle.motor_core.proofs.Turned.{clash}

-- what is made of the check, by what came of it
pub by_check : {A : Type 0} (f : Result PvTLimits Refusal → A) {made told check : Result PvTLimits Refusal} → made ≡ check → made ≡ told → f told ≡ f check
by_check f e h = ap f (sym h ∙ e)

pub record Accepts (m : Maxima) (l : PvTLimits) : Type 0 where
  pub position : T (limit_accepted m.p_max)
  pub velocity : T (limit_accepted m.v_max)
  pub torque : T (limit_accepted m.t_max)
  pub made : from_maxima m ≡ l

pub accepted_limits : (m : Maxima) (l : PvTLimits) → limits_of m ≡ Ok l → Accepts m l
unfolding limits_of
accepted_limits m l e = go (limit_accepted m.p_max) (limit_accepted m.v_max) (limit_accepted m.t_max) refl refl refl e
  where
    same : (k : PvTLimits) → ◌≡◌ {A = Result PvTLimits Refusal} (Ok k) (Ok l) → k ≡ l
    same k h = cc

    sure : (x : Float) → limit_accepted x ≡ true → T (limit_accepted x)
    sure x h = rw h tt

    go : (a b c : Bool) → limit_accepted m.p_max ≡ a → limit_accepted m.v_max ≡ b → limit_accepted m.t_max ≡ c → cond (a && b && c) (Ok (from_maxima m)) (Err Limit) ≡ Ok l → Accepts m l
    go false b c x y z h = absurd (clash (cc))
    go true false c x y z h = absurd (clash (cc))
    go true true false x y z h = absurd (clash (cc))
    go true true true x y z h = record { position = sure m.p_max x; velocity = sure m.v_max y; torque = sure m.t_max z; made = same (from_maxima m) h }
