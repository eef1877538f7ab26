-- Which received frames may be a motor's, and which are. Definitions only.
use Rattle.std.specs.Prelude.{ℕ, ◌/◌, ◌%◌, Bool, List, not, ◌&&◌, ◌||◌, cond, ltb, eqb, None, Option, Some}
use Rattle.motor_core.specs.declared.bus.CanFrame.{CanFrame}
use Rattle.protocol_frame.specs.Layout.{d}
use Rattle.protocol_received.specs.Received.{class_of, sorted}
use Rattle.protocol_received.specs.declared.FrameClass.{FrameClass}
use Rattle.protocol_received.specs.declared.FrameClass.TheVariants as Class
use Rattle.protocol_received.specs.declared.Sorted.{Sorted}

-- 'The feedback on the screen', `accepts_frame`: not extended, and on the feedback id, or with data and the motor's low four bits in d0
unfoldable pub frame_accepted : ℕ → ℕ → CanFrame → Bool
frame_accepted motor feedback f =
    not f.is_extended
    && (eqb f.arbitration_id feedback || (ltb 0 f.dlc && eqb (d f.«data» 0 % 16) (motor % 16)))

-- T-03: feedback names the motor by its low four bits in d0, a reply and an ack by its id in d0 and d1, low first
abbrev pub names_motor : ℕ → FrameClass → List ℕ → Bool
names_motor motor Class.Feedback bytes = eqb (d bytes 0 % 16) (motor % 16)
names_motor motor Class.Reply bytes = eqb (d bytes 0) (motor % 256) && eqb (d bytes 1) (motor / 256)
names_motor motor Class.Ack bytes = eqb (d bytes 0) (motor % 256) && eqb (d bytes 1) (motor / 256)

-- T-03: a frame is this motor's: not extended, of eight bytes, on the feedback id; and, sorted first, it names the motor
abbrev pub is_plain_on : ℕ → CanFrame → Bool
is_plain_on feedback f = not f.is_extended && (eqb f.dlc 8 && eqb f.arbitration_id feedback)

unfoldable pub own_frame : ℕ → ℕ → CanFrame → Bool
own_frame motor feedback f = is_plain_on feedback f && names_motor motor (class_of f.«data») f.«data»

-- how this motor's frame is sorted
abbrev pub sorted_if_own : ℕ → ℕ → CanFrame → Option Sorted
sorted_if_own motor feedback f = cond (own_frame motor feedback f) (Some (sorted f.«data»)) None
