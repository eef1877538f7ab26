-- One list after another: sessions, events, what was taken, turns and counts. Assumes nothing.
use Rattle.std.specs.Prelude.{None, Option, Some, Ok, Err}
use Prim.Native.Nat.{◌+◌}
use mathlib.Core.Path.{◌≡◌, refl, sym, ap, ◌∙◌}
use mathlib.Core.Bool.{Bool}
use mathlib.Core.List.{List, [], ◌∷◌, ◌++◌}
use native.Mathlib.Omega.{arith}
use Rattle.std.proofs.lemmas.Option.{none-some}
use Rattle.motor_core.specs.declared.bus.CanFrame.{CanFrame}
use Rattle.state_feedback.specs.declared.FeedbackSnapshot.{FeedbackSnapshot}
use Rattle.run_want.specs.declared.Answer.{Answer}
use Rattle.run_want.specs.declared.Want.{Want}
use Rattle.run_want.specs.declared.message.Message.{Message}
use Rattle.run_machine.specs.Machine.{RunResult}
use Rattle.session.specs.declared.Session.{Session}
use Rattle.session_step.specs.declared.Told.TheVariants as Told
use Rattle.session_call.specs.Step.{step}
use Rattle.session_call.specs.declared.Call.{Call}
use Rattle.session_call.specs.declared.Returned.{Returned}
use Rattle.state_cache.specs.declared.Entry.{Entry}
use Rattle.state_cache.specs.declared.Place.{Place}
use Rattle.law_calls.specs.Calls.{Event, event, events, session_after, Answered}
use Rattle.law_calls.specs.Places.{brings, replaced, last_taken, Sees, seen_after, seen_with}
use Rattle.law_calls.specs.Turns.{Gave, Turn, turn, turn_in, turn_of, add_turn, turns, result_in, result_of, gaves, count}

pub sessions_joined : (s : Session) (bs cs : List Call) → session_after s (bs ++ cs) ≡ session_after (session_after s bs) cs
unfolding session_after
sessions_joined s [] cs = refl
sessions_joined s (b ∷ bs) cs = sessions_joined (step s b).session bs cs

pub events_joined : (s : Session) (bs cs : List Call) → events s (bs ++ cs) ≡ events s bs ++ events (session_after s bs) cs
unfolding session_after events
events_joined s [] cs = refl
events_joined s (b ∷ bs) cs = ap (λ (vs : List Event). event s b ∷ vs) (events_joined (step s b).session bs cs)

pub places_joined : (own : CanFrame → Bool) (place : Place) (e : Entry) (us vs : List Event) → last_taken own place e (us ++ vs) ≡ last_taken own place (last_taken own place e us) vs
unfolding last_taken
places_joined own place e [] vs = refl
places_joined own place e (u ∷ us) vs = places_joined own place (replaced e (brings own place u.call u.returned)) us vs

pub counts_joined : (f : Gave → Bool) (ts us : List Turn) → count f (gaves (ts ++ us)) ≡ count f (gaves ts) + count f (gaves us)
unfolding gaves count
counts_joined f [] us = omega arith
counts_joined f (t ∷ ts) us = omega (arith, counts_joined f ts us)

-- ---- turns, by whether they have a result

-- what a call adds to the turns after it
record Adds (f : List Turn → List Turn) : Type 0 where
  no_result : (ts rest : List Turn) → result_of (f ts) ≡ None → (f (ts ++ rest) ≡ f ts ++ rest) × (result_of ts ≡ None)
  a_result : (ts whole : List Turn) (r : RunResult) → result_of (f ts) ≡ Some r → (result_of ts ≡ Some r → whole ≡ ts) → f whole ≡ f ts

no_turn : Adds (λ ts. ts)
no_turn = record { no_result = λ ts rest e. (refl, e); a_result = λ ts whole r e same. same e }

answer_adds : (a : Answer) (sees : Sees) (latest : Option FeedbackSnapshot) (w : Option (Want Message)) (t : Answered) → Adds (turn_in a sees latest w t)
unfolding turn_in result_of result_in
answer_adds a sees latest w (Ok (Told.Want want)) = record {
  no_result = λ ts rest e. (refl, e);
  a_result = λ ts whole r e same. ap (λ (us : List Turn). turn a sees latest w (Ok (Told.Want want)) ∷ us) (same e);
}
answer_adds a sees latest w (Ok (Told.Result x)) = record { no_result = λ ts rest e. absurd (none-some _ (sym e)); a_result = λ ts whole r e same. refl }
answer_adds a sees latest w (Err refusal) = no_turn

returned_adds : (a : Answer) (sees : Sees) (latest : Option FeedbackSnapshot) (w : Option (Want Message)) (r : Returned) → Adds (turn_of a sees latest w r)
unfolding turn_of
returned_adds a sees latest w (Returned.Run t) = answer_adds a sees latest w t
returned_adds a sees latest w (Returned.Frame outcome) = no_turn
returned_adds a sees latest w (Returned.Patch done) = no_turn

call_adds : (sees : Sees) (latest : Option FeedbackSnapshot) (c : Call) (r : Returned) (w : Option (Want Message)) → Adds (add_turn sees latest c r w)
unfolding add_turn
call_adds sees latest (Call.Start b) r w = no_turn
call_adds sees latest (Call.Answer a) r w = returned_adds a sees latest w r
call_adds sees latest (Call.Frame f reading) r w = no_turn
call_adds sees latest (Call.Patch status mos rotor) r w = no_turn

module _ (own : CanFrame → Bool) where
  pub turns_joined : (us vs : List Event) (sees : Sees) → result_of (turns own sees us) ≡ None → turns own sees (us ++ vs) ≡ turns own sees us ++ turns own (seen_after own sees us) vs
  unfolding turns last_taken
  turns_joined [] vs sees e = refl
  turns_joined (u ∷ us) vs sees e =
      let adds = call_adds sees u.latest u.call u.returned u.wants in
      let rest = adds.no_result (turns own (seen_with own sees u) us) (turns own (seen_after own (seen_with own sees u) us) vs) e in
      ap (add_turn sees u.latest u.call u.returned u.wants) (turns_joined us vs (seen_with own sees u) rest.1) ∙ rest.0

  pub turns_over : (us vs : List Event) (sees : Sees) (r : RunResult) → result_of (turns own sees us) ≡ Some r → turns own sees (us ++ vs) ≡ turns own sees us
  unfolding turns result_of
  turns_over [] vs sees r e = absurd (none-some _ e)
  turns_over (u ∷ us) vs sees r e =
      (call_adds sees u.latest u.call u.returned u.wants).a_result (turns own (seen_with own sees u) us) (turns own (seen_with own sees u) (us ++ vs)) r e (turns_over us vs (seen_with own sees u) r)
