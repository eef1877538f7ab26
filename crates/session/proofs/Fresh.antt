-- A fresh session, part by part. Assumes nothing.
use Prim.Native.Nat.{ℕ, zero, suc}
use mathlib.Core.Path.{◌≡◌, refl}
use lib.ListN.{length, replicate, length-replicate}
use Rattle.motor_core.specs.declared.model.PvTLimits.{PvTLimits}
use Rattle.state_feedback.specs.Feedback.{no_feedback}
use Rattle.std.specs.Prelude.{None}
use Rattle.state_cache.specs.Cache.{slot_of}
use Rattle.state_cache.specs.declared.Entry.TheVariants.{Empty}
use Rattle.session.specs.Session.{fresh}

all_empty : (n rid : ℕ) → slot_of (replicate n Empty) rid ≡ Empty
all_empty zero rid = refl
all_empty (suc n) zero = refl
all_empty (suc n) (suc rid) = all_empty n rid

module _ (motor_id feedback_id : ℕ) (limits : PvTLimits) where
  pub fresh_reply : (rid : ℕ) → slot_of (fresh motor_id feedback_id limits).replies rid ≡ Empty
  unfolding fresh
  fresh_reply rid = all_empty 82 rid

  pub fresh_ack : (rid : ℕ) → slot_of (fresh motor_id feedback_id limits).acks rid ≡ Empty
  unfolding fresh
  fresh_ack rid = all_empty 82 rid

  pub fresh_replies : length (fresh motor_id feedback_id limits).replies ≡ 82
  unfolding fresh
  fresh_replies = length-replicate 82 Empty

  pub fresh_acks : length (fresh motor_id feedback_id limits).acks ≡ 82
  unfolding fresh
  fresh_acks = length-replicate 82 Empty

  pub fresh_motor_id : (fresh motor_id feedback_id limits).head.motor_id ≡ motor_id
  unfolding fresh
  fresh_motor_id = refl

  pub fresh_feedback_id : (fresh motor_id feedback_id limits).head.feedback_id ≡ feedback_id
  unfolding fresh
  fresh_feedback_id = refl

  pub fresh_limits : (fresh motor_id feedback_id limits).head.limits ≡ limits
  unfolding fresh
  fresh_limits = refl

  pub fresh_feedback : (fresh motor_id feedback_id limits).head.feedback ≡ no_feedback
  unfolding fresh
  fresh_feedback = refl

  pub fresh_last : (fresh motor_id feedback_id limits).head.last.0 ≡ 0
  unfolding fresh
  fresh_last = refl

  pub fresh_run : (fresh motor_id feedback_id limits).run ≡ None
  unfolding fresh
  fresh_run = refl
