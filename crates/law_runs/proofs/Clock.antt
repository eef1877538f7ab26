-- Two ways of weighing: messages alone, whatever the clock does; and every want, where each sleep moves the clock on. Assumes nothing.
use Rattle.std.specs.Prelude.{None, Option, Some}
use Prim.Native.Nat.{ℕ, ◌+◌, ◌-◌, ◌*◌, ◌≤◌, ◌<◌, max}
use mathlib.Core.Path.{◌≡◌, refl, sym, subst}
use mathlib.Core.Bool.{false}
use mathlib.Core.List.{List, [], ◌∷◌}
use native.Mathlib.Nat.{mul-le-mul_left}
use native.Mathlib.Omega.{arith}
use borrow.Author.Tests.{leb-false}
use Rattle.time.specs.declared.Instant.{Instant}
use Rattle.time.specs.declared.Duration.{Duration}
use Rattle.run_want.specs.declared.Answer.{Answer}
use Rattle.run_want.specs.declared.Want.{Want}
use Rattle.run_want.specs.declared.message.Message.{Message}
use Rattle.run_wait.specs.Wait.{late, poll_interval}
use Rattle.run_wait.specs.declared.Wait.{Wait}
use Rattle.run_wait.specs.declared.Wait.TheVariants.{Checking, Napping}
use Rattle.law_runs.proofs.Weighing.{Budget}
use Rattle.law_runs.specs.Clock.{Clocked, known_after, fine, AllFine, Clock, heard, napped, Moved, Later, moving, polls}
use Rattle.law_runs.specs.Trace.{Given, System, Label}

-- ---- messages alone

abbrev pub unclocked : Clocked
unclocked = record { Known = Unit {0}; hear = λ t. tt; nap = λ d k. tt; Fine = λ k t. Unit {0} }

abbrev pub by_message : (Label → ℕ) → Budget unclocked
by_message weight = record {
  clock = 0;
  send = weight;
  sleep = 0;
  wait_left = λ l k w. 0;
  opened = λ l. 0;
  grows = λ l m h. omega arith;
  opens = λ l o. omega arith;
  at_deadline = λ l k o. omega arith;
  before_deadline = λ l k o t f e. omega arith;
  after_sleep = λ l k o. omega arith;
}

one_fine : (w : Want Message) (a : Answer) → fine unclocked w a tt
one_fine Want.Clock a = tt
one_fine (Want.Send message) a = tt
one_fine (Want.Sleep length) a = tt

known_nothing : (w : Want Message) (a : Answer) → known_after unclocked w a tt ≡ tt
known_nothing Want.Clock a = refl
known_nothing (Want.Send message) a = refl
known_nothing (Want.Sleep length) a = refl

pub all_fine : (σ : System) (gs : List Given) (at : Option σ.At) → AllFine unclocked σ gs tt at
unfolding AllFine
all_fine σ [] at = tt
all_fine σ (g ∷ gs) None = tt
all_fine σ (g ∷ gs) (Some m) = (one_fine (σ.want m) g.answer, subst (λ (k : Unit {0}). AllFine unclocked σ gs k (σ.next g m)) (sym (known_nothing (σ.want m) g.answer)) (all_fine σ gs (σ.next g m)))

-- ---- every want, by the time that is left

pub polls_grow : (x y : ℕ) → x ≤ y → polls x ≤ polls y
polls_grow x y h = omega arith

-- the least that a machine's next reading can be
unfoldable pub furthest : Instant → List Duration → ℕ
furthest r [] = r.0
furthest r (d ∷ ds) = max (r.0 + d.0) (furthest r ds)

abbrev least_after : Option Instant → List Duration → ℕ
least_after None naps = 0
least_after (Some r) naps = furthest r naps

abbrev least : Clock → ℕ
least k = least_after k.last k.naps

furthest_moved : (r : Instant) (ds : List Duration) (t : Instant) → r.0 ≤ t.0 → Moved r ds t → furthest r ds ≤ t.0
unfolding furthest Moved
furthest_moved r [] t o m = o
furthest_moved r (d ∷ ds) t o m = omega (arith, furthest_moved r ds t o m.1, m.0)

least_later : (last : Option Instant) (naps : List Duration) (t : Instant) → Later last naps t → least_after last naps ≤ t.0
least_later None naps t f = omega arith
least_later (Some r) naps t f = furthest_moved r naps t f.0 f.1

module _ (c s : ℕ) where
  -- a clock and a sleep for each interval, and the last clock
  abbrev checks : Duration → Clock → Instant → ℕ
  checks l k o = c + (c + s) * polls (o.0 + l.0 - least k)

  abbrev timed : Duration → Clock → Wait → ℕ
  timed l k (Checking o) = checks l k o
  timed l k (Napping o) = s + checks l (napped poll_interval k) o

  pub timed_nap : (l : Duration) (k : Clock) (o t : Instant) → Later k.last k.naps t → late o l t ≡ false → c + timed l (heard t) (Napping o) ≤ timed l k (Checking o)
  unfolding furthest
  timed_nap l k o t f e =
      let before : t.0 < o.0 + l.0 = leb-false (o.0 + l.0) t.0 e in
      let later : least k ≤ t.0 = least_later k.last k.naps t f in
      let more : 1 + polls (o.0 + l.0 - max (t.0 + poll_interval.0) t.0) ≤ polls (o.0 + l.0 - least k) = omega arith in
      omega (arith, mul-le-mul_left (c + s) more)

  pub timed_opens : (l : Duration) (o : Instant) → timed l (heard o) (Checking o) ≤ c + (c + s) * polls l.0
  unfolding furthest
  timed_opens l o = omega (arith, mul-le-mul_left (c + s) (polls_grow (o.0 + l.0 - o.0) l.0 (omega arith)))

  module _ (weight : Label → ℕ) where
    abbrev pub by_clock : Budget moving
    by_clock = record {
      clock = c;
      send = weight;
      sleep = s;
      wait_left = timed;
      opened = λ l. c + (c + s) * polls l.0;
      grows = λ l m h. omega (arith, mul-le-mul_left (c + s) (polls_grow l.0 m.0 h));
      opens = timed_opens;
      at_deadline = λ l k o. omega arith;
      before_deadline = timed_nap;
      after_sleep = λ l k o. omega arith;
    }
