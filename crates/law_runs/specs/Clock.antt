-- What a machine knows of the clock by its own readings, and where each of its sleeps moves the clock on. Definitions only.
use Rattle.std.specs.Prelude.{ℕ, ◌+◌, ◌-◌, ◌/◌, ◌≤◌, List, [], ◌∷◌, None, Option, Some}
use Rattle.run_wait.specs.Wait.{poll_interval}
use Rattle.time.specs.declared.Instant.{Instant}
use Rattle.time.specs.declared.Duration.{Duration}
use Rattle.run_want.specs.Want.{reading_of}
use Rattle.run_want.specs.declared.Answer.{Answer}
use Rattle.run_want.specs.declared.Want.{Want}
use Rattle.run_want.specs.declared.message.Message.{Message}
use Rattle.law_runs.specs.Trace.{Given, System}

-- what is known after a reading and after a sleep, and which readings are fine then
pub record Clocked : Type 1 where
  pub Known : Type 0
  pub hear : Instant → Known
  pub nap : Duration → Known → Known
  pub Fine : Known → Instant → Type 0

module _ (κ : Clocked) where
  abbrev pub known_after : Want Message → Answer → κ.Known → κ.Known
  known_after Want.Clock a k = κ.hear (reading_of a)
  known_after (Want.Send message) a k = k
  known_after (Want.Sleep length) a k = κ.nap length k

  abbrev pub fine : Want Message → Answer → κ.Known → Type 0
  fine Want.Clock a k = κ.Fine k (reading_of a)
  fine (Want.Send message) a k = Unit {0}
  fine (Want.Sleep length) a k = Unit {0}

  -- every reading that a machine takes is fine
  unfoldable pub AllFine : (σ : System) → List Given → κ.Known → Option σ.At → Type 0
  AllFine σ [] k at = Unit {0}
  AllFine σ (g ∷ gs) k None = Unit {0}
  AllFine σ (g ∷ gs) k (Some m) = fine (σ.want m) g.answer k × AllFine σ gs (known_after (σ.want m) g.answer k) (σ.next g m)

-- the last reading that the machine took, and its sleeps since
pub record Clock : Type 0 where
  pub last : Option Instant
  pub naps : List Duration

-- one that has taken no reading
abbrev pub unheard : Clock
unheard = record { last = None; naps = [] }

abbrev pub heard : Instant → Clock
heard t = record { last = Some t; naps = [] }

abbrev pub napped : Duration → Clock → Clock
napped d k = record { last = k.last; naps = d ∷ k.naps }

-- each sleep moves the clock on: the reading after it is no less than its length above the one before it
unfoldable pub Moved : Instant → List Duration → Instant → Type 0
Moved r [] t = Unit {0}
Moved r (d ∷ ds) t = (r.0 + d.0 ≤ t.0) × Moved r ds t

-- and, as 'Turned back', 3, has it of every reading that a session takes, none is below the last
abbrev pub Later : Option Instant → List Duration → Instant → Type 0
Later None naps t = Unit {0}
Later (Some r) naps t = (r.0 ≤ t.0) × Moved r naps t

abbrev pub moving : Clocked
moving = record { Known = Clock; hear = heard; nap = napped; Fine = λ k t. Later k.last k.naps t }

-- a machine's readings are in order, and its sleeps move the clock on
abbrev pub Moving : (σ : System) → List Given → Clock → Option σ.At → Type 0
Moving = AllFine moving

-- how many sleeps of the poll interval it takes to pass a length: rounded up
abbrev pub polls : ℕ → ℕ
polls length = (length + (poll_interval.0 - 1)) / poll_interval.0
