-- How a run goes: each of its turns is one step of its machine, whatever stands between them in the list. Definitions only.
use Rattle.std.specs.Prelude.{◌≤◌, ◌^◌, ◌≡◌, true, List, [], ◌∷◌, None, Option, Some, Ok, Err}
use Rattle.std.specs.declared.ops.ControlFlow.TheVariants.{Continue, Break}
use Rattle.time.specs.declared.Instant.{Instant}
use Rattle.state_cache.specs.declared.Entry.{Entry}
use Rattle.state_cache.specs.declared.Entry.TheVariants.{Empty}
use Rattle.state_cache.specs.declared.Place.{Place}
use Rattle.run_want.specs.Step.{Stepped}
use Rattle.run_want.specs.Want.{fits}
use Rattle.run_machine.specs.Machine.{RunResult, machine_want, machine_place}
use Rattle.run_machine.specs.declared.Machine.{Machine}
use Rattle.run_machine.specs.declared.Outcome.{Outcome}
use Rattle.run_step.specs.Step.{machine_step}
use Rattle.session.specs.declared.Head.{Head}
use Rattle.session.specs.declared.Session.{Session}
use Rattle.session_step.specs.Parts.{caller_want, answer_accepted, with_reading}
use Rattle.session_step.specs.declared.Told.TheVariants as Told
use Rattle.law_calls.specs.Places.{Sees}
use Rattle.law_calls.specs.Turns.{Gave, Turn}

-- what a run looks at, among what a turn sees
abbrev pub looked_at : Sees → Option Place → Entry
looked_at sees None = Empty
looked_at sees (Some place) = sees place

-- a turn as a step of the machine, by the record that is the latest and by what the machine looks at
abbrev pub next : Machine → Turn → Stepped Machine Outcome
next m t = machine_step t.latest (looked_at t.sees (machine_place m)) m t.answer

-- a run of the motor and limits `h`
module _ (h : Head) where
  -- what a phase gives, and a result
  abbrev pub gives : Machine → Gave
  gives m = record { told = Ok (Told.Want (caller_want h (machine_want m))); wants = Some (machine_want m) }

  abbrev pub gives_result : RunResult → Gave
  gives_result r = record { told = Ok (Told.Result r); wants = None }

  -- an answer that the machine wants, accepted by a session whose last reading is no earlier than `l`; `turn_calls` says which
  pub record Took (m : Machine) (l : Instant) (t : Turn) : Type 0 where
    pub head : Head
    pub since : l.0 ≤ head.last.0
    pub fit : fits (machine_want m) t.answer ≡ true
    pub accepted : answer_accepted head.last t.answer ≡ true

  -- and the run goes on, or ends with this turn
  abbrev pub Onward : (Machine → Type 0) → Stepped Machine Outcome → Turn → List Turn → Type 0
  Onward rest (Ok (Continue q)) t ts = (t.gave ≡ gives q) × rest q
  Onward rest (Ok (Break outcome)) t ts = (t.gave ≡ gives_result (Ok outcome)) × (ts ≡ [])
  Onward rest (Err failure) t ts = (t.gave ≡ gives_result (Err failure)) × (ts ≡ [])

  -- from the machine `m` on, with no reading earlier than `l`; `end` is the session at the end of the list
  unfoldable pub Ran : Session → Machine → Instant → List Turn → Type 0
  Ran end m l [] = (end.run ≡ Some m) × (end.head.last.0 ≤ 2 ^ 62)
  Ran end m l (t ∷ ts) = (k : Took m l t) × Onward (λ q. Ran end q (with_reading k.head t.answer).last ts) (next m t) t ts
