-- The codes and fields of setpoint frames fit their places, for every input: those of MIT at 16 and 12 bits, by the law for any width (`range`), and the two of force-position. Assumes nothing.
use mathlib.Core.Path.{◌≡◌, refl, sym, subst}
use mathlib.Core.Logic.{inl, inr}
use mathlib.Core.Bool.{false}
use Prim.Native.Nat.{ℕ, ◌*◌, ◌/◌, ◌^◌, ◌≤◌, ◌<◌}
use native.Mathlib.Nat.{le_trans, le_of_eq, zero-lt-suc}
use native.Mathlib.Omega.{arith}
use lib.Dec.{T, lit<, lit≤}
use lib.Ieee.{Float, binary32, neg, mul, le, of_int}
use lib.Ieee.Exact.{HasValue}
use lib.Ieee.Back.{round_whole}
use Rattle.std.specs.Prelude.{Ok}
use Rattle.float.specs.Float.{clip}
use Rattle.float.proofs.AtMost.{clip_at_most, mul_at_most, cut_at_most}
use Rattle.motor_core.specs.Model.{limit_accepted, limits_of}
use Rattle.motor_core.specs.declared.model.PvTLimits.{PvTLimits}
use Rattle.motor_core.specs.declared.model.Maxima.{Maxima}
use Rattle.motor_core.proofs.Limits.{accepted_limits}
use Rattle.float.specs.Arithmetic.{float}
use Rattle.protocol_codes.specs.Codes.{float_to_uint}
use Rattle.protocol_codes.proofs.Range.{range, of_int_is}
use Rattle.protocol_setpoint.specs.Setpoint.{scaled}
use Rattle.protocol_setpoint.specs.declared.MitSetpoint.{MitSetpoint}

-- ---- MIT
pub record CodesFit (l : PvTLimits) (s : MitSetpoint) : Type 0 where
  pub position : float_to_uint 16 s.target_position l.p_min l.p_max < 2 ^ 16
  pub velocity : float_to_uint 12 s.target_velocity l.v_min l.v_max < 2 ^ 12
  pub stiffness : float_to_uint 12 s.stiffness (float 0) (float 500) < 2 ^ 12
  pub damping : float_to_uint 12 s.damping (float 0) (float 5) < 2 ^ 12
  pub torque : float_to_uint 12 s.feedforward_torque l.t_min l.t_max < 2 ^ 12

from_zero : (x : Float) (max : ℕ) → T (limit_accepted (float max)) → float_to_uint 12 x (float 0) (float max) < 2 ^ 12
from_zero x max t = range 12 (lit< tt) (lit≤ tt) x (float 0) (float max) (t, inr refl)

kp_taken : T (limit_accepted (float 500))
unfolding limit_accepted le of_int
kp_taken = tt

kd_taken : T (limit_accepted (float 5))
unfolding limit_accepted le of_int
kd_taken = tt

pub mit_codes_fit : (m : Maxima) (l : PvTLimits) → limits_of m ≡ Ok l → (s : MitSetpoint) → CodesFit l s
mit_codes_fit m l e s =
    let a = accepted_limits m l e in
    subst (λ (k : PvTLimits). CodesFit k s) a.made
    (record {
      position = range 16 (lit< tt) (lit≤ tt) s.target_position (neg m.p_max) m.p_max (a.position, inl refl);
      velocity = range 12 (lit< tt) (lit≤ tt) s.target_velocity (neg m.v_max) m.v_max (a.velocity, inl refl);
      stiffness = from_zero s.stiffness 500 kp_taken;
      damping = from_zero s.damping 5 kd_taken;
      torque = range 12 (lit< tt) (lit≤ tt) s.feedforward_torque (neg m.t_max) m.t_max (a.torque, inl refl);
    })

-- ---- force-position: clipped to 0..most, times scale
pub scaled_at_most : (x : Float) (most scale : ℕ) → most * scale ≤ 2 ^ 24 → most ≤ 2 ^ 24 → scale ≤ 2 ^ 24 → scaled x most scale ≤ most * scale
unfolding scaled
scaled_at_most x most scale h m s =
    le_trans
    (cut_at_most 16 (mul binary32 (clip x (float 0) (float most)) (float scale)) (most * scale) 1 (zero-lt-suc 0)
    (mul_at_most binary32 (clip x (float 0) (float most)) (float scale) most 1 scale 1 (most * scale) 1 (zero-lt-suc 0) (zero-lt-suc 0)
    (clip_at_most x (float 0) (float most) most 1 (whole_value most m)) (whole_value scale s) (round_whole binary32 false (most * scale) h)))
    (le_of_eq (div_one (most * scale)))
  where
    whole_value : (n : ℕ) → n ≤ 2 ^ 24 → HasValue (float n) false n 1
    whole_value n k = subst (λ (z : Float). HasValue z false n 1) (sym (of_int_is n)) (round_whole binary32 false n k)

    div_one : (n : ℕ) → n / 1 ≡ n
    div_one n = omega arith

-- so the Rust's further cut at 10,000 does nothing
pub force_pos_fits : (vlim ratio : Float) → (scaled vlim 100 100 ≤ 10000) × (scaled ratio 1 10000 ≤ 10000)
force_pos_fits vlim ratio = (scaled_at_most vlim 100 100 (lit≤ tt) (lit≤ tt) (lit≤ tt), scaled_at_most ratio 1 10000 (lit≤ tt) (lit≤ tt) (lit≤ tt))
