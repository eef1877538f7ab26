-- What a patch does to a session, and what it leaves alone. Assumes nothing.
use Prim.Native.Nat.{ℕ}
use mathlib.Core.Path.{◌≡◌, refl, ap}
use Rattle.state_feedback.specs.Feedback.{patch_latest}
use Rattle.state_feedback.specs.declared.FeedbackCache.{FeedbackCache}
use Rattle.std.specs.Prelude.{Option, Some, None}
use Rattle.state_feedback.proofs.Patching.{patch_nothing}
use Rattle.session.specs.Session.{with_patch, patch}
use Rattle.session.specs.declared.Session.{Session}

-- what a patch leaves alone
pub record Left (s after : Session) : Type 0 where
  pub motor_id : after.head.motor_id ≡ s.head.motor_id
  pub feedback_id : after.head.feedback_id ≡ s.head.feedback_id
  pub limits : after.head.limits ≡ s.head.limits
  pub last : after.head.last ≡ s.head.last
  pub replies : after.replies ≡ s.replies
  pub acks : after.acks ≡ s.acks
  pub run : after.run ≡ s.run

module _ (s : Session) (status mos rotor : ℕ) where
  abbrev after : Session
  after = (patch s status mos rotor).session

  pub record_after_patch : (cache : FeedbackCache) → patch_latest s.head.feedback status mos rotor ≡ Some cache → after.head.feedback ≡ cache
  record_after_patch cache e = ap (λ p. (with_patch s p).session.head.feedback) e

  pub left : Left s after
  left = go (patch_latest s.head.feedback status mos rotor)
    where
      go : (p : Option FeedbackCache) → Left s (with_patch s p).session
      go None = record { motor_id = refl; feedback_id = refl; limits = refl; last = refl; replies = refl; acks = refl; run = refl }
      go (Some cache) = record { motor_id = refl; feedback_id = refl; limits = refl; last = refl; replies = refl; acks = refl; run = refl }

  -- with no record
  pub nothing_patched : s.head.feedback.latest ≡ None → after ≡ s
  nothing_patched e = ap (λ p. (with_patch s p).session) (patch_nothing s.head.feedback status mos rotor e)
