-- What a machine wants from where it stands on, as its answers come. Definitions only.
use Rattle.std.specs.Prelude.{ℕ, ◌+◌, List, [], ◌∷◌, None, Option, Some}
use Rattle.state_feedback.specs.declared.FeedbackSnapshot.{FeedbackSnapshot}
use Rattle.state_cache.specs.declared.Entry.{Entry}
use Rattle.run_want.specs.declared.Answer.{Answer}
use Rattle.run_want.specs.declared.Want.{Want}
use Rattle.run_want.specs.declared.Want.TheVariants.{Clock, Send, Sleep}
use Rattle.protocol_hold.specs.declared.ControlMode.{ControlMode}
use Rattle.run_want.specs.declared.message.Message.{Message}
use Rattle.run_want.specs.declared.message.Message.TheVariants.{ReadRegister, WriteRegister, RequestFeedback, Disable, StoreParams, Setpoint}

-- an answer, with what is there for a look in that call
pub record Given : Type 0 where
  pub answer : Answer
  pub latest : Option FeedbackSnapshot
  pub entry : Entry

-- what is wanted where it stands, and where an answer leads: nowhere, once it has ended
pub record System : Type 1 where
  pub At : Type 0
  pub want : At → Want Message
  pub next : Given → At → Option At

module _ (σ : System) where
  -- the want that is open, and those that follow until the end
  unfoldable pub wants_from : List Given → Option σ.At → List (Want Message)
  wants_from [] None = []
  wants_from [] (Some m) = σ.want m ∷ []
  wants_from (g ∷ gs) None = []
  wants_from (g ∷ gs) (Some m) = σ.want m ∷ wants_from gs (σ.next g m)

  -- where it stands then
  unfoldable pub after : List Given → Option σ.At → Option σ.At
  after [] at = at
  after (g ∷ gs) None = None
  after (g ∷ gs) (Some m) = after gs (σ.next g m)

-- a message by its command: a hold whatever its position
pub data Label : Type 0 where
  read : (rid : ℕ) → Label
  write : (rid bits : ℕ) → Label
  request disable store : Label
  hold : ControlMode → Label

abbrev pub label : Message → Label
label (ReadRegister rid) = read rid
label (WriteRegister rid bits) = write rid bits
label RequestFeedback = request
label Disable = disable
label StoreParams = store
label (Setpoint mode position) = hold mode

-- wants counted by their kinds, a send by its command
abbrev pub counted : (clock : ℕ) (send : Label → ℕ) (sleep : ℕ) → Want Message → ℕ
counted clock send sleep Clock = clock
counted clock send sleep (Send message) = send (label message)
counted clock send sleep (Sleep length) = sleep

abbrev pub one_sleep : Want Message → ℕ
one_sleep = counted 0 (λ command. 0) 1

unfoldable pub total : (Want Message → ℕ) → List (Want Message) → ℕ
total f [] = 0
total f (w ∷ ws) = f w + total f ws
