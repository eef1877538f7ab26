-- A reply or an ack is of the register in d3, which is known. Assumes nothing.
use Prim.Native.Nat.{ℕ}
use mathlib.Core.Path.{◌≡◌, refl}
use mathlib.Core.List.{List}
use Rattle.motor_core.specs.declared.model.PvTLimits.{PvTLimits}
use Rattle.protocol_received.specs.OfRegister.{OfRegister}
use Rattle.protocol_frame.specs.Layout.{d}
use Rattle.protocol_received.specs.Received.{class_of, by_class, received}
use Rattle.protocol_received.specs.declared.FrameClass.{FrameClass}
use Rattle.protocol_received.specs.declared.FrameClass.TheVariants as Class
use Rattle.protocol_received.proofs.Classes.{of_reply, of_ack}

pub of_register : (l : PvTLimits) (bytes : List ℕ) → OfRegister (received l bytes) (d bytes 3)
unfolding received
of_register l bytes = go (class_of bytes) refl
  where
    go : (k : FrameClass) → class_of bytes ≡ k → OfRegister (by_class k l bytes) (d bytes 3)
    go Class.Reply e = (refl, (of_reply _ _ _ e).0)
    go Class.Ack e = (refl, (of_ack _ _ _ e).0)
    go Class.Feedback e = tt
