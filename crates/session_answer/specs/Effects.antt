-- What a start and an answer leave as it was. Definitions only.
use Rattle.std.specs.Prelude.{◌≡◌}
use Rattle.session.specs.declared.Session.{Session}

-- ids, limits, record and caches are as they were
pub record Unchanged (before after : Session) : Type 0 where
  pub motor_id : after.head.motor_id ≡ before.head.motor_id
  pub feedback_id : after.head.feedback_id ≡ before.head.feedback_id
  pub limits : after.head.limits ≡ before.head.limits
  pub record_kept : after.head.feedback ≡ before.head.feedback
  pub replies : after.replies ≡ before.replies
  pub acks : after.acks ≡ before.acks
