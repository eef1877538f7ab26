-- A frame as it is sorted, from what the lookup of its register says. Assumes nothing.
use Rattle.motor_core.proofs.Turned.{clash}
use mathlib.Core.Path.{◌≡◌, refl, sym, ap, ◌∙◌}
use mathlib.Core.Bool.{Bool, true, false, cond}
use mathlib.Core.List.{List}
use Prim.Native.Nat.{ℕ}
use Rattle.std.specs.Prelude.{Option, Some, None}
use Rattle.motor_core.specs.declared.model.PvTLimits.{PvTLimits}
use Rattle.registers.specs.Registers.{known, data_type_of, info_of}
use Rattle.registers.specs.declared.RegisterDataType.{RegisterDataType}
use Rattle.registers.specs.declared.RegisterInfo.{RegisterInfo}
use Rattle.registers.proofs.Known.{info, info_known}
use Rattle.protocol_frame.specs.Layout.{d}
use Rattle.protocol_received.specs.Received.{class_of, register_value, sorted_as, sorted, class_in, read_as, by_class, received}
use Rattle.protocol_received.specs.declared.FrameClass.{FrameClass}
use Rattle.protocol_received.specs.declared.FrameClass.TheVariants as Class
use Rattle.protocol_received.specs.declared.Sorted.{Sorted}

module _ (rid : ℕ) (found : Option RegisterInfo) (looked : found ≡ info_of rid) where
  info_unknown : known rid ≡ false → info_of rid ≡ None
  unfolding info_of
  info_unknown k = ap (λ (b : Bool). cond b (Some (info rid)) None) k

  pub not_known : found ≡ None → known rid ≡ false
  not_known e = go (known rid) refl
    where
      go : (b : Bool) → known rid ≡ b → known rid ≡ false
      go true k = absurd (clash (cc (info_known rid k)))
      go false k = k

  pub is_known : (x : RegisterInfo) → found ≡ Some x → (known rid ≡ true) × (x.data_type ≡ data_type_of rid)
  is_known x e = go (known rid) refl
    where
      the_same : (y : RegisterInfo) → Some y ≡ Some (info rid) → y ≡ info rid
      the_same y h = cc

      go : (b : Bool) → known rid ≡ b → (known rid ≡ true) × (x.data_type ≡ data_type_of rid)
      go true k = (k, ap (λ (r : RegisterInfo). r.data_type) (the_same x (sym e ∙ looked ∙ info_known rid k)))
      go false k = absurd (clash (cc (info_unknown k)))

-- by its class, and the type that was looked up
pub sorted_by : (bytes : List ℕ) (k : FrameClass) (t : RegisterDataType) → k ≡ class_of bytes → t ≡ data_type_of (d bytes 3) → sorted_as k t ≡ sorted bytes
unfolding sorted
sorted_by bytes k t e f = λ i. sorted_as (e i) (f i)

module _ (bytes : List ℕ) (s : Sorted) (is : s ≡ sorted bytes) where
  pub sorted_class : class_in s ≡ class_of bytes
  unfolding sorted
  sorted_class = ap class_in is ∙ go (class_of bytes)
    where
      go : (k : FrameClass) → class_in (sorted_as k (data_type_of (d bytes 3))) ≡ k
      go Class.Reply = refl
      go Class.Ack = refl
      go Class.Feedback = refl

  pub sorted_read : (l : PvTLimits) → read_as s l bytes ≡ received l bytes
  unfolding sorted received register_value
  sorted_read l = ap (λ (x : Sorted). read_as x l bytes) is ∙ go (class_of bytes)
    where
      go : (k : FrameClass) → read_as (sorted_as k (data_type_of (d bytes 3))) l bytes ≡ by_class k l bytes
      go Class.Reply = refl
      go Class.Ack = refl
      go Class.Feedback = refl
