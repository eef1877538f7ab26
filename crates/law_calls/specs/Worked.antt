-- Sessions and calls as worked lists have them. Definitions only.
use Rattle.std.specs.Prelude.{ℕ, false, List, [], ◌∷◌, Ok, pos}
use Rattle.std.specs.Float.{fin}
use Rattle.motor_core.specs.Model.{from_maxima}
use Rattle.motor_core.specs.declared.bus.CanFrame.{CanFrame}
use Rattle.motor_core.specs.declared.model.Maxima.{Maxima}
use Rattle.time.specs.declared.Duration.{Duration}
use Rattle.run_want.specs.declared.Answer.TheVariants.{Reading, Send, Slept}
use Rattle.session.specs.Session.{fresh}
use Rattle.session.specs.declared.Session.{Session}
use Rattle.session_begin.specs.declared.Start.TheVariants.{EnsureControlMode}
use Rattle.session_call.specs.declared.Call.{Call}

-- a fresh session with limits of 1
abbrev pub maxima : Maxima
maxima = record { p_max = fin false 1 (pos 0); v_max = fin false 1 (pos 0); t_max = fin false 1 (pos 0) }

abbrev pub session : ℕ → ℕ → Session
session motor feedback = fresh motor feedback (from_maxima maxima)

abbrev pub switch : ℕ → Duration → Call
switch mode timeout = Call.Start (EnsureControlMode mode timeout)

abbrev pub reading : ℕ → Call
reading t = Call.Answer (Reading (record { 0 = t }))

abbrev pub sent : Call
sent = Call.Answer (Send (Ok tt))

abbrev pub slept : Call
slept = Call.Answer Slept

-- a frame at a reading; one of eight bytes from a motor that sends on 0x11
abbrev pub frame : CanFrame → ℕ → Call
frame f t = Call.Frame f (record { 0 = t })

abbrev pub from_motor : List ℕ → CanFrame
from_motor bytes = record { arbitration_id = 0x11; «data» = bytes; dlc = 8; is_extended = false }

-- the reply of a motor, by the two bytes of its id, that register 10 holds a mode
abbrev pub ten_is : ℕ → ℕ → ℕ → CanFrame
ten_is low high mode = from_motor (low ∷ high ∷ 0x33 ∷ 0x0A ∷ mode ∷ 0x00 ∷ 0x00 ∷ 0x00 ∷ [])
