-- A fresh session: its ids are those that were given, the motor's is accepted, and nothing is held. Assumes nothing.
use Rattle.std.specs.Prelude.{None, Result, Ok, Err}
use Prim.Native.Nat.{ℕ, ◌≤◌}
use mathlib.Core.Path.{◌≡◌, refl, ap, subst}
use mathlib.Core.Bool.{true}
use native.Mathlib.Omega.{arith}
use Rattle.motor_core.proofs.Turned.{clash, let_through}
use Rattle.motor_core.specs.AndThen.{and_then}
use Rattle.motor_core.specs.Bus.{motor_id_accepted}
use Rattle.motor_core.specs.Model.{limits_of}
use Rattle.motor_core.specs.declared.error.Refusal.{Refusal}
use Rattle.motor_core.specs.declared.error.Refusal.TheVariants.{MotorId}
use Rattle.motor_core.specs.declared.model.Maxima.{Maxima}
use Rattle.motor_core.specs.declared.model.PvTLimits.{PvTLimits}
use Rattle.model_list.specs.Models.{limits_by_name}
use Rattle.state_cache.specs.declared.Entry.TheVariants.{Empty}
use Rattle.state_cache.specs.declared.Place.{Place}
use Rattle.state_cache.specs.declared.Place.TheVariants.{Reply, Ack}
use Rattle.session.proofs.Fresh.{fresh_reply, fresh_ack, fresh_replies, fresh_acks, fresh_last, fresh_motor_id, fresh_feedback_id, fresh_feedback}
use Rattle.session.specs.Session.{fresh}
use Rattle.session.specs.Start.{with_limits, from_limits, from_model}
use Rattle.session.specs.declared.Session.{Session}
use Rattle.law_calls.specs.Calls.{Fresh, of_limits, of_model}
use Rattle.law_calls.specs.Laws.{held, record_stamp, stamp_of}
use Rattle.law_calls.proofs.Readings.{Stamped}
use Rattle.law_calls.proofs.Sessions.{Sound}

module _ (motor feedback : ℕ) (s : Session) where
  IsFresh : Type 0
  IsFresh = (motor_id_accepted motor ≡ true) × (limits : PvTLimits) × (fresh motor feedback limits ≡ s)

  limits_fresh : (check : Result PvTLimits Refusal) → and_then check (with_limits motor feedback) ≡ Ok s → IsFresh
  unfolding IsFresh
  limits_fresh (Err n) e = absurd (clash (cc))
  limits_fresh (Ok limits) e = let (accepted, is) = let_through (fresh motor feedback limits) s MotorId (motor_id_accepted motor) e in (accepted, limits, is)

  name_fresh : (found : Result Maxima Refusal) → and_then found (from_limits motor feedback) ≡ Ok s → IsFresh
  unfolding from_limits
  name_fresh (Err n) e = absurd (clash (cc))
  name_fresh (Ok m) e = limits_fresh (limits_of m) e

  is_fresh : Fresh motor feedback s → IsFresh
  unfolding from_limits from_model
  is_fresh (of_limits m e) = limits_fresh (limits_of m) e
  is_fresh (of_model models name e) = name_fresh (limits_by_name models name) e

  -- what holds of every fresh session holds of this one
  by_fresh : (P : Session → Type 0) → ((limits : PvTLimits) → P (fresh motor feedback limits)) → Fresh motor feedback s → P s
  unfolding IsFresh
  by_fresh P all f = let (accepted, limits, e) = is_fresh f in subst P e (all limits)

  pub fresh_accepted : Fresh motor feedback s → motor_id_accepted motor ≡ true
  unfolding IsFresh
  fresh_accepted f = (is_fresh f).0

  pub fresh_motor : Fresh motor feedback s → s.head.motor_id ≡ motor
  fresh_motor = by_fresh (λ x. x.head.motor_id ≡ motor) (fresh_motor_id motor feedback)

  pub fresh_on : Fresh motor feedback s → s.head.feedback_id ≡ feedback
  fresh_on = by_fresh (λ x. x.head.feedback_id ≡ feedback) (fresh_feedback_id motor feedback)

  pub fresh_sound : Fresh motor feedback s → Sound s.head s
  fresh_sound = by_fresh (λ x. Sound x.head x) (λ limits. record {
    motor_id = refl;
    feedback_id = refl;
    limits = refl;
    replies = fresh_replies motor feedback limits;
    acks = fresh_acks motor feedback limits;
    last = omega (arith, fresh_last motor feedback limits);
  })

  pub fresh_holds : Fresh motor feedback s → (place : Place) → held s place ≡ Empty
  fresh_holds = by_fresh (λ x. (place : Place) → held x place ≡ Empty) nothing_held
    where
      nothing_held : (limits : PvTLimits) (place : Place) → held (fresh motor feedback limits) place ≡ Empty
      nothing_held limits (Reply rid) = fresh_reply motor feedback limits rid
      nothing_held limits (Ack rid) = fresh_ack motor feedback limits rid

  pub fresh_no_record : Fresh motor feedback s → s.head.feedback.latest ≡ None
  fresh_no_record = by_fresh (λ x. x.head.feedback.latest ≡ None) (λ limits. ap (λ cache. cache.latest) (fresh_feedback motor feedback limits))

  pub fresh_stamped : Fresh motor feedback s → Stamped s
  fresh_stamped f = record {
    at_place = λ place. omega (arith, ap stamp_of (fresh_holds f place));
    latest = by_fresh (λ x. record_stamp x.head.feedback.latest ≤ x.head.last.0) (λ limits. omega (arith, ap (λ cache. record_stamp cache.latest) (fresh_feedback motor feedback limits))) f;
  }
