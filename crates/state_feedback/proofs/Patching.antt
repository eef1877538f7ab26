-- What a patch changes of the latest record, and what it does not reach. Assumes nothing.
use Prim.Native.Nat.{ℕ}
use mathlib.Core.Path.{◌≡◌, refl, sym, ap}
use Rattle.motor_core.proofs.Turned.{clash}
use Rattle.std.specs.Prelude.{Option, Some, None, is_some, option_map}
use Rattle.float.specs.Arithmetic.{float}
use Rattle.protocol_status.specs.Status.{status_name}
use Rattle.state_feedback.specs.Feedback.{patch_snapshot, patched, patch_latest}
use Rattle.state_feedback.specs.declared.FeedbackCache.{FeedbackCache}
use Rattle.state_feedback.specs.declared.FeedbackSnapshot.{FeedbackSnapshot}

module _ (cache : FeedbackCache) (status mos rotor : ℕ) where
  pub patch_answer : is_some (patch_latest cache status mos rotor) ≡ is_some cache.latest
  patch_answer = go cache.latest
    where
      go : (l : Option FeedbackSnapshot) → is_some (option_map (patched cache status mos rotor) l) ≡ is_some l
      go None = refl
      go (Some s) = refl

  pub patch_sequence : (after : FeedbackCache) → patch_latest cache status mos rotor ≡ Some after → after.sequence ≡ cache.sequence
  patch_sequence after = go cache.latest
    where
      the_same : (x : FeedbackCache) → Some x ≡ Some after → x ≡ after
      the_same x h = cc

      go : (l : Option FeedbackSnapshot) → option_map (patched cache status mos rotor) l ≡ Some after → after.sequence ≡ cache.sequence
      go None h = absurd (clash (cc))
      go (Some s) h = sym (ap (λ (c : FeedbackCache). c.sequence) (the_same (patched cache status mos rotor s) h))

  pub patch_held : (s : FeedbackSnapshot) → cache.latest ≡ Some s → patch_latest cache status mos rotor ≡ Some (patched cache status mos rotor s)
  patch_held s e = ap (option_map (patched cache status mos rotor)) e

  pub patch_nothing : cache.latest ≡ None → patch_latest cache status mos rotor ≡ None
  patch_nothing e = ap (option_map (patched cache status mos rotor)) e

-- of a record that is patched
module _ (s : FeedbackSnapshot) (status mos rotor : ℕ) where
  abbrev after : FeedbackSnapshot
  after = patch_snapshot s status mos rotor

  pub record Written : Type 0 where
    pub code : after.state.status_code ≡ status
    pub name : after.state.status_name ≡ status_name status
    pub mos_temperature : after.state.t_mos ≡ float mos
    pub rotor_temperature : after.state.t_rotor ≡ float rotor

  pub patch_writes : Written
  patch_writes = record { code = refl; name = refl; mos_temperature = refl; rotor_temperature = refl }

  pub record Kept : Type 0 where
    pub stamp : after.received_at ≡ s.received_at
    pub number : after.sequence ≡ s.sequence
    pub motor : after.state.can_id ≡ s.state.can_id
    pub arbitration_id : after.state.arbitration_id ≡ s.state.arbitration_id
    pub position : after.state.pos ≡ s.state.pos
    pub velocity : after.state.vel ≡ s.state.vel
    pub torque : after.state.torq ≡ s.state.torq

  pub patch_keeps : Kept
  patch_keeps = record { stamp = refl; number = refl; motor = refl; arbitration_id = refl; position = refl; velocity = refl; torque = refl }
