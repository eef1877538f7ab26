-- Where each sleep of a run moves the clock on, its readings are fine for the laws of its definition. Assumes nothing.
use Rattle.std.specs.Prelude.{None, Option, Some, Ok}
use Prim.Native.Nat.{◌≤◌}
use mathlib.Core.Path.{◌≡◌, refl, sym}
use mathlib.Core.Bool.{true, true≢false}
use native.Mathlib.Omega.{arith}
use Rattle.time.specs.declared.Instant.{Instant}
use Rattle.time.proofs.Readings.{between}
use Rattle.run_want.specs.Want.{fits}
use Rattle.run_want.specs.declared.Answer.{Answer}
use Rattle.run_want.specs.declared.Answer.TheVariants.{Reading, Send as Sending, Slept}
use Rattle.run_want.specs.declared.Want.{Want}
use Rattle.run_want.specs.declared.message.Message.{Message}
use Rattle.run_want.specs.declared.Want.TheVariants.{Clock, Send, Sleep}
use Rattle.session.specs.declared.Head.{Head}
use Rattle.session_step.specs.Parts.{caller_want, answer_accepted, with_reading}
use Rattle.session_step.specs.declared.Told.TheVariants as Told
use Rattle.law_runs.specs.Clock.{known_after, fine, Clock as Known, Moved, Later, moving}
use Rattle.law_calls.specs.Turns.{reading_or, Moves}

-- the run's last reading is no later than the session's
abbrev pub Behind : Option Instant → Instant → Type 0
Behind None l = Unit {0}
Behind (Some r) l = r.0 ≤ l.0

-- the sleeps since then move the clock on up to the next reading
abbrev pub Pending : Known → Option Instant → Type 0
Pending k next = (r t : Instant) → k.last ≡ Some r → next ≡ Some t → Moved r k.naps t

-- an answer: its reading is fine, and so it goes on
pub record Goes_on (w : Want Message) (a : Answer) (k : Known) (h : Head) (next : Option Instant) : Type 0 where
  pub is_fine : fine moving w a k
  pub behind : Behind (known_after moving w a k).last (with_reading h a).last
  pub pending : Pending (known_after moving w a k) next
  pub read : (known_after moving w a k).last ≡ reading_or a k.last

module _ (told_by : Head) (k : Known) (l : Instant) (h : Head) (since : l.0 ≤ h.last.0) (behind : Behind k.last l) (next : Option Instant) where
  still_behind : Behind k.last h.last
  still_behind = go k.last behind
    where
      go : (o : Option Instant) → Behind o l → Behind o h.last
      go None b = tt
      go (Some r) b = omega arith

  later : (t : Instant) → h.last.0 ≤ t.0 → Pending k (Some t) → Later k.last k.naps t
  later t forward pending = go k.last still_behind (λ r e. pending r t e refl)
    where
      go : (o : Option Instant) → Behind o h.last → ((r : Instant) → o ≡ Some r → Moved r k.naps t) → Later o k.naps t
      go None b m = tt
      go (Some r) b m = (omega arith, m r refl)

  pub goes_on : (w : Want Message) (a : Answer) → fits w a ≡ true → answer_accepted h.last a ≡ true → Pending k (reading_or a next) → Moves k.last (Ok (Told.Want (caller_want told_by w))) (reading_or a next) → Goes_on w a k h next
  unfolding reading_or Moved
  goes_on Clock (Reading t) f e p m = record { is_fine = later t (between h.last t e).0 p; behind = omega arith; pending = λ r t e n. tt; read = refl }
  goes_on Clock (Sending result) f e p m = absurd (true≢false (sym f))
  goes_on Clock Slept f e p m = absurd (true≢false (sym f))
  goes_on (Send message) (Reading t) f e p m = absurd (true≢false (sym f))
  goes_on (Send message) (Sending result) f e p m = record { is_fine = tt; behind = still_behind; pending = p; read = refl }
  goes_on (Send message) Slept f e p m = absurd (true≢false (sym f))
  goes_on (Sleep d) (Reading t) f e p m = absurd (true≢false (sym f))
  goes_on (Sleep d) (Sending result) f e p m = absurd (true≢false (sym f))
  goes_on (Sleep d) Slept f e p m = record { is_fine = tt; behind = still_behind; pending = λ r t e n. (m r t d e refl n, p r t e n); read = refl }
