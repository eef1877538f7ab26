-- The highest motor id at work, and the one above it: a switch of motor 0x4FF to the velocity mode, whose motor says another mode, so that it clears with the setpoint of each. Definitions only.
use Rattle.std.specs.Prelude.{ℕ, ◌≡◌, List, [], ◌∷◌, Ok, Err}
use Rattle.motor_core.specs.declared.error.Refusal.TheVariants.{MotorId}
use Rattle.float.specs.Arithmetic.{float}
use Rattle.time.specs.Time.{millis}
use Rattle.protocol_setpoint.specs.Setpoint.{force_pos_cmd}
use Rattle.protocol_request.specs.Request.{disable_cmd}
use Rattle.run_want.specs.declared.Want.TheVariants as Wanted
use Rattle.session.specs.Start.{from_limits}
use Rattle.session_call.specs.declared.Call.{Call}
use Rattle.session_call.specs.declared.Returned.{Returned}
use Rattle.session_step.specs.declared.Told.TheVariants as Told
use Rattle.law_calls.specs.Calls.{Fresh, Event, events}
use Rattle.law_calls.specs.Worked.{maxima, session, switch, reading, sent, frame, ten_is}

abbrev pub calls : List Call
calls = switch 3 (millis 400) ∷ reading 5 ∷ reading 5 ∷ reading 5 ∷ frame (ten_is 0xFF 0x04 1) 5 ∷ sent ∷ sent ∷ sent ∷ sent ∷ sent ∷ []

-- the ids that calls want frames sent to
abbrev pub id_before : Returned → List ℕ → List ℕ
id_before (Returned.Run (Ok (Told.Want Wanted.Clock))) ids = ids
id_before (Returned.Run (Ok (Told.Want (Wanted.Send c)))) ids = c.arbitration_id ∷ ids
id_before (Returned.Run (Ok (Told.Want (Wanted.Sleep length)))) ids = ids
id_before (Returned.Run (Ok (Told.Result r))) ids = ids
id_before (Returned.Run (Err refusal)) ids = ids
id_before (Returned.Frame outcome) ids = ids
id_before (Returned.Patch done) ids = ids

unfoldable pub ids_of : List Event → List ℕ
ids_of [] = []
ids_of (v ∷ vs) = id_before v.returned (ids_of vs)

pub record Worked : Type 0 where
  pub starts : Fresh 0x4ff 0x11 (session 0x4ff 0x11)
  -- the read of register 10, four setpoints that clear, the write of register 10
  pub ids : ids_of (events (session 0x4ff 0x11) calls) ≡ 0x7ff ∷ 0x6ff ∷ 0x5ff ∷ 0x7ff ∷ 0x4ff ∷ 0x7ff ∷ []
  -- the id above it, and one that a technician typed
  pub start_refused : from_limits 0x500 0x11 maxima ≡ Err MotorId
  pub disable_refused : disable_cmd 0x500 ≡ Err MotorId
  pub force_pos_refused : force_pos_cmd 0x5a0 0 (float 0) (float 0) ≡ Err MotorId
