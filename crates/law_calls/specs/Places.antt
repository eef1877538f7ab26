-- The last reply or ack taken of a register, made from the calls and what they returned alone. Definitions only.
use Rattle.std.specs.Prelude.{ℕ, Bool, false, cond, List, [], ◌∷◌, eqb, None, Option, Some, Ok, Err}
use Rattle.motor_core.specs.declared.bus.CanFrame.{CanFrame}
use Rattle.time.specs.declared.Instant.{Instant}
use Rattle.registers.specs.declared.RegisterValue.{RegisterValue}
use Rattle.protocol_frame.specs.Layout.{d}
use Rattle.protocol_received.specs.Received.{class_of, register_value}
use Rattle.protocol_received.specs.declared.FrameClass.{FrameClass}
use Rattle.protocol_received.specs.declared.FrameClass.TheVariants as Class
use Rattle.state_cache.specs.declared.Entry.{Entry}
use Rattle.state_cache.specs.declared.Entry.TheVariants.{Empty, Held}
use Rattle.state_cache.specs.declared.Place.{Place}
use Rattle.state_cache.specs.declared.Place.TheVariants.{Reply, Ack}
use Rattle.session_call.specs.declared.Call.{Call}
use Rattle.session_call.specs.declared.Returned.{Returned}
use Rattle.law_calls.specs.Calls.{Event}

-- the place and the value that a frame says, by its class; a feedback says none
abbrev pub said_by : FrameClass → List ℕ → Option (Place × RegisterValue)
said_by Class.Reply bytes = Some (Reply (d bytes 3), register_value bytes)
said_by Class.Ack bytes = Some (Ack (d bytes 3), register_value bytes)
said_by Class.Feedback bytes = None

abbrev pub said : CanFrame → Option (Place × RegisterValue)
said f = said_by (class_of f.«data») f.«data»

abbrev pub same_place : Place → Place → Bool
same_place (Reply rid) (Reply other) = eqb rid other
same_place (Reply rid) (Ack other) = false
same_place (Ack rid) (Reply other) = false
same_place (Ack rid) (Ack other) = eqb rid other

-- what of it is of this place, stamped with the frame's reading
abbrev pub entry_of : Place → Instant → Option (Place × RegisterValue) → Option Entry
entry_of place reading None = None
entry_of place reading (Some x) = cond (same_place place x.0) (Some (Held x.1 reading)) None

abbrev pub replaced : Entry → Option Entry → Entry
replaced e None = e
replaced e (Some brought) = brought

-- what is seen at each place: nothing at first, and then as each call has it
abbrev pub Sees : Type 0
Sees = Place → Entry

abbrev pub nothing : Sees
nothing place = Empty

-- by the frames that are the motor's, as `own` says
module _ (own : CanFrame → Bool) where
  -- a frame that is not the motor's or was refused brings nothing, nor does another call
  unfoldable pub frame_brings : Place → CanFrame → Instant → Returned → Option Entry
  frame_brings place f reading (Returned.Run told) = None
  frame_brings place f reading (Returned.Frame (Ok taken)) = cond (own f) (entry_of place reading (said f)) None
  frame_brings place f reading (Returned.Frame (Err refusal)) = None
  frame_brings place f reading (Returned.Patch done) = None

  unfoldable pub brings : Place → Call → Returned → Option Entry
  brings place (Call.Start start) returned = None
  brings place (Call.Answer answer) returned = None
  brings place (Call.Frame f reading) returned = frame_brings place f reading returned
  brings place (Call.Patch status mos rotor) returned = None

  -- what is the last at a place after these calls, where `e` was the last before them
  unfoldable pub last_taken : Place → Entry → List Event → Entry
  last_taken place e [] = e
  last_taken place e (v ∷ vs) = last_taken place (replaced e (brings place v.call v.returned)) vs

  abbrev pub seen_after : Sees → List Event → Sees
  seen_after sees vs place = last_taken place (sees place) vs

  abbrev pub seen_with : Sees → Event → Sees
  seen_with sees v place = replaced (sees place) (brings place v.call v.returned)
