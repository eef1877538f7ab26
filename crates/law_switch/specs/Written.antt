-- What a mode switch writes, and how it begins. Definitions only.
use Rattle.std.specs.Prelude.{ℕ, ◌≡◌, true, List, [], ◌∷◌, Some, Ok}
use Rattle.time.specs.declared.Instant.{Instant}
use Rattle.protocol_frame.specs.Command.{command}
use Rattle.protocol_request.specs.Request.{request_id, register_write_data}
use Rattle.run_want.specs.declared.Answer.{Answer}
use Rattle.run_want.specs.declared.Want.TheVariants.{Send}
use Rattle.run_want.specs.declared.Want.TheVariants as Wanted
use Rattle.run_want.specs.declared.message.Message.TheVariants.{WriteRegister}
use Rattle.session_step.specs.declared.Told.TheVariants as Told
use Rattle.law_calls.specs.Turns.{Gave, Turn, gaves}
use Rattle.law_switch.specs.Claim.{mode_write}

-- a write of register 10 is of the wanted mode's number, in the definition and in the frame
pub record OfMode (motor mode : ℕ) (g : Gave) : Type 0 where
  pub wanted : g.wants ≡ Some (Send (WriteRegister 10 mode))
  pub sent : g.told ≡ Ok (Told.Want (Wanted.Send (command request_id (register_write_data motor 10 mode))))

unfoldable pub AllOfMode : ℕ → ℕ → List Gave → Type 0
AllOfMode motor mode [] = Unit {0}
AllOfMode motor mode (g ∷ gs) = (mode_write motor g ≡ true → OfMode motor mode g) × AllOfMode motor mode gs

-- its first accepted answer is a reading
unfoldable pub FirstReads : List Turn → Type 0
FirstReads [] = Unit {0}
FirstReads (t ∷ ts) = (reading : Instant) × (t.answer ≡ Answer.Reading reading)

pub record Written (motor mode : ℕ) (first : Gave) (ts : List Turn) : Type 0 where
  pub writes : AllOfMode motor mode (first ∷ gaves ts)
  pub first_reads : FirstReads ts
