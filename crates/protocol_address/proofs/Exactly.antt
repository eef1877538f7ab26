-- Exactly which frames are a motor's. Assumes nothing.
use Prim.Native.Nat.{ℕ, ◌+◌, ◌*◌, ◌/◌, ◌%◌, ◌<◌}
use mathlib.Core.Path.{◌≡◌, refl, sym, ap, ◌∙◌}
use mathlib.Core.Bool.{Bool, true, false, not, ◌&&◌, true≢false}
use mathlib.Core.List.{List}
use native.Mathlib.Omega.{arith}
use lib.Dec.{eqb}
use borrow.Author.Tests.{eqb-true, eq-eqb}
use Rattle.motor_core.proofs.Turned.{both}
use Rattle.motor_core.specs.declared.bus.CanFrame.{CanFrame}
use Rattle.protocol_frame.specs.Layout.{d}
use Rattle.protocol_received.specs.Received.{class_of}
use Rattle.protocol_received.specs.declared.FrameClass.{FrameClass}
use Rattle.protocol_received.specs.declared.FrameClass.TheVariants as Class
use Rattle.protocol_address.specs.Address.{is_plain_on, names_motor, own_frame}
use Rattle.protocol_address.specs.Exactly.{Names, IsOwn, Exactly}

no_is : (b : Bool) → not b ≡ true → b ≡ false
no_is false e = refl
no_is true e = absurd (true≢false (sym e))

-- the two bytes that are compared are the id's
module _ (motor low high : ℕ) where
  abbrev Bytes : Type 0
  Bytes = (eqb low (motor % 256) && eqb high (motor / 256)) ≡ true

  id_there : Bytes → low + high * 0x100 ≡ motor
  id_there e = let (l, h) = both _ _ e in together (eqb-true low (motor % 256) l) (eqb-true high (motor / 256) h)
    where
      together : low ≡ motor % 256 → high ≡ motor / 256 → low + high * 0x100 ≡ motor
      together l h = omega (arith, l, h)

  id_compared : low < 256 → low + high * 0x100 ≡ motor → Bytes
  id_compared byte e =
      let l : low ≡ motor % 256 = omega (arith, byte, e) in
      let h : high ≡ motor / 256 = omega (arith, byte, e) in
      λ i. eq-eqb low (motor % 256) l i && eq-eqb high (motor / 256) h i

named : (motor : ℕ) (k : FrameClass) (bytes : List ℕ) → names_motor motor k bytes ≡ true → Names motor k bytes
named motor Class.Feedback bytes e = eqb-true _ _ e
named motor Class.Reply bytes e = id_there motor _ _ e
named motor Class.Ack bytes e = id_there motor _ _ e

names : (motor : ℕ) (k : FrameClass) (bytes : List ℕ) → d bytes 0 < 256 → Names motor k bytes → names_motor motor k bytes ≡ true
names motor Class.Feedback bytes byte e = eq-eqb _ _ e
names motor Class.Reply bytes byte e = id_compared motor _ _ byte e
names motor Class.Ack bytes byte e = id_compared motor _ _ byte e

own_is : (motor feedback : ℕ) (f : CanFrame) → own_frame motor feedback f ≡ true → IsOwn motor feedback f
unfolding own_frame
own_is motor feedback f e =
    let (here, its) = both _ _ e in
    let (plain, rest) = both _ _ here in
    let (length, id) = both _ _ rest in
    record { not_extended = no_is f.is_extended plain; eight_bytes = eqb-true f.dlc 8 length; on_feedback_id = eqb-true f.arbitration_id feedback id; named = named motor (class_of f.«data») f.«data» its }

is_own : (motor feedback : ℕ) (f : CanFrame) → d f.«data» 0 < 256 → IsOwn motor feedback f → own_frame motor feedback f ≡ true
unfolding own_frame
is_own motor feedback f byte own = λ i.
    (not (own.not_extended i) && (eq-eqb f.dlc 8 own.eight_bytes i && eq-eqb f.arbitration_id feedback own.on_feedback_id i))
    && names motor (class_of f.«data») f.«data» byte own.named i

alike : (motor other feedback : ℕ) (f : CanFrame) → motor % 16 ≡ other % 16 → class_of f.«data» ≡ Class.Feedback → own_frame motor feedback f ≡ own_frame other feedback f
unfolding own_frame
alike motor other feedback f same is =
    ap (λ (k : FrameClass). is_plain_on feedback f && names_motor motor k f.«data») is
    ∙ ap (λ (n : ℕ). is_plain_on feedback f && eqb (d f.«data» 0 % 16) n) same
    ∙ ap (λ (k : FrameClass). is_plain_on feedback f && names_motor other k f.«data») (sym is)

-- a frame that is two motors', by what its class has of them
module _ (motor other feedback feedback' : ℕ) (f : CanFrame) (mine : own_frame motor feedback f ≡ true) (its : own_frame other feedback' f ≡ true) where
  one_id : feedback ≡ feedback'
  one_id = sym (own_is motor feedback f mine).on_feedback_id ∙ (own_is other feedback' f its).on_feedback_id

  both_named : (k : FrameClass) → class_of f.«data» ≡ k → Names motor k f.«data» × Names other k f.«data»
  both_named k is = (rw is at ((own_is motor feedback f mine).named), rw is at ((own_is other feedback' f its).named))

  by_feedback : class_of f.«data» ≡ Class.Feedback → (motor % 16 ≡ other % 16) × (feedback ≡ feedback')
  by_feedback is = let (m, o) = both_named Class.Feedback is in (sym m ∙ o, one_id)

  by_reply : class_of f.«data» ≡ Class.Reply → (motor ≡ other) × (feedback ≡ feedback')
  by_reply is = let (m, o) = both_named Class.Reply is in (sym m ∙ o, one_id)

  by_ack : class_of f.«data» ≡ Class.Ack → (motor ≡ other) × (feedback ≡ feedback')
  by_ack is = let (m, o) = both_named Class.Ack is in (sym m ∙ o, one_id)

pub exactly : Exactly
exactly = record {
  exactly = λ motor feedback f byte. (own_is motor feedback f, is_own motor feedback f byte);
  alike = alike;
  apart_by_feedback = by_feedback;
  apart_by_reply = by_reply;
  apart_by_ack = by_ack;
}
