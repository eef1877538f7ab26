-- A mode switch worked out: motor 1 is asked for its mode and says 3, by a frame that comes before its send is answered. A reply of the same mode came before the switch, too early; with that alone, or with another motor's reply besides, it goes on. Definitions only.
use Rattle.std.specs.Prelude.{◌≡◌, List, [], ◌∷◌, length, None, Some, Ok}
use Rattle.motor_core.specs.declared.bus.CanFrame.{CanFrame}
use Rattle.time.specs.Time.{millis}
use Rattle.registers.specs.declared.RegisterValue.TheVariants.{UInt32}
use Rattle.protocol_address.specs.Address.{own_frame}
use Rattle.state_cache.specs.declared.Entry.{Entry}
use Rattle.state_cache.specs.declared.Entry.TheVariants.{Empty, Held}
use Rattle.state_cache.specs.declared.Place.TheVariants.{Reply}
use Rattle.run_want.specs.declared.Want.TheVariants as Wanted
use Rattle.run_machine.specs.declared.Outcome.TheVariants.{Done}
use Rattle.session.specs.declared.Session.{Session}
use Rattle.session_call.specs.Step.{step}
use Rattle.session_call.specs.declared.Call.{Call}
use Rattle.session_call.specs.declared.Returned.TheVariants as Returned
use Rattle.session_step.specs.declared.Told.TheVariants as Told
use Rattle.law_calls.specs.Calls.{Fresh, event, events, session_after}
use Rattle.law_calls.specs.Places.{nothing, seen_after}
use Rattle.law_calls.specs.Turns.{Gave, Turn, turns_after, result, gaves, count}
use Rattle.law_calls.specs.Worked.{session, switch, reading, sent, frame, ten_is}
use Rattle.law_switch.specs.Claim.{mode_read, mode_write}

abbrev pub s₀ : Session
s₀ = session 1 0x11

abbrev pub says_3 : CanFrame
says_3 = ten_is 0x01 0x00 3

abbrev pub before : List Call
before = frame says_3 4 ∷ []

abbrev pub begins : Call
begins = switch 3 (millis 400)

abbrev pub asked : List Call
asked = reading 5 ∷ reading 5 ∷ reading 5 ∷ []

abbrev pub with_reply : List Call
with_reply = reading 5 ∷ reading 5 ∷ reading 5 ∷ frame says_3 6 ∷ sent ∷ []

abbrev pub without_reply : List Call
without_reply = reading 5 ∷ reading 5 ∷ reading 5 ∷ sent ∷ []

-- motor 17, whose id has the same low four bits, says 3 on the same id
abbrev pub with_stranger : List Call
with_stranger = reading 5 ∷ reading 5 ∷ reading 5 ∷ frame (ten_is 0x11 0x00 3) 6 ∷ sent ∷ []

-- its turns, with these calls after its start
abbrev pub begun : Session
begun = (step (session_after s₀ before) begins).session

abbrev pub first : Gave
first = record { told = Ok (Told.Want Wanted.Clock); wants = (event (session_after s₀ before) begins).wants }

abbrev pub turns_with : List Call → List Turn
turns_with after =
    let own = own_frame 1 0x11 in
    turns_after own first.told (seen_after own nothing (events s₀ before)) (events begun after)

abbrev pub seen_last : List Turn → Entry
seen_last [] = Empty
seen_last (t ∷ []) = t.sees (Reply 10)
seen_last (t ∷ u ∷ ts) = seen_last (u ∷ ts)

pub record Worked : Type 0 where
  pub starts : Fresh 1 0x11 s₀
  pub accepted : (event (session_after s₀ before) begins).returned ≡ Returned.Run first.told
  pub asks : count (mode_read 1) (first ∷ gaves (turns_with asked)) ≡ 1
  -- it finds the mode
  pub four_turns : length (turns_with with_reply) ≡ 4
  pub done : result first (turns_with with_reply) ≡ Some (Ok Done)
  pub sees : seen_last (turns_with with_reply) ≡ Held (UInt32 3) (record { 0 = 6 })
  pub no_write : count (mode_write 1) (first ∷ gaves (turns_with with_reply)) ≡ 0
  -- it sees the earlier reply, and is not done
  pub sees_earlier : seen_last (turns_with without_reply) ≡ Held (UInt32 3) (record { 0 = 4 })
  pub not_done : result first (turns_with without_reply) ≡ None
  -- nor with a stranger's reply, which it does not see
  pub sees_no_stranger : seen_last (turns_with with_stranger) ≡ Held (UInt32 3) (record { 0 = 4 })
  pub stranger_not_done : result first (turns_with with_stranger) ≡ None
