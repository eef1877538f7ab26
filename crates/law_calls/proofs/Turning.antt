-- Each turn of a run is an accepted answer of the list, and sees what was taken before it. Assumes nothing.
use Rattle.std.specs.Prelude.{Ok, Err}
use mathlib.Core.Path.{◌≡◌, refl, sym, ap, ◌∙◌}
use mathlib.Core.List.{List, [], ◌∷◌, ◌++◌, nil≢cons, head-eq_of_cons-eq, tail-eq_of_cons-eq}
use mathlib.Core.Bool.{Bool}
use Rattle.motor_core.specs.declared.bus.CanFrame.{CanFrame}
use Rattle.run_want.specs.declared.Answer.{Answer}
use Rattle.session.specs.declared.Session.{Session}
use Rattle.session_answer.specs.Answer.{answer_run}
use Rattle.session_step.specs.declared.Told.TheVariants as Told
use Rattle.session_call.specs.Step.{step}
use Rattle.session_call.specs.declared.Call.{Call}
use Rattle.session_call.specs.declared.Returned.{Returned}
use Rattle.law_calls.specs.Calls.{Answered, open_want, event, events, session_after}
use Rattle.law_calls.specs.Laws.{IsCall}
use Rattle.law_calls.specs.Places.{last_taken, Sees, seen_with}
use Rattle.law_calls.specs.Turns.{Turn, turn, turn_in, turn_of, add_turn, turns}

module _ (own : CanFrame → Bool) (t : Turn) (later : List Turn) where
  abbrev AmongThem : Session → Sees → List Call → Type 0
  AmongThem s sees cs = (earlier : List Turn) → turns own sees (events s cs) ≡ earlier ++ (t ∷ later) → IsCall own s sees cs earlier t

  module _ (s : Session) (sees : Sees) (cs : List Call) where
    -- a call further on
    further : (c : Call) (us earlier : List Turn) → add_turn sees s.head.feedback.latest c (step s c).told (open_want (step s c).session.run) us ≡ earlier → IsCall own (step s c).session (seen_with own sees (event s c)) cs us t → IsCall own s sees (c ∷ cs) earlier t
    unfolding session_after events last_taken turns
    further c us earlier adds is = record {
      before = c ∷ is.before;
      later = is.later;
      whole = ap (λ (bs : List Call). c ∷ bs) is.whole;
      turns_before = ap (add_turn sees s.head.feedback.latest c (step s c).told (open_want (step s c).session.run)) is.turns_before ∙ adds;
      gave = is.gave;
      saw = is.saw;
    }

    -- this one
    here : (a : Answer) (told : Answered) → (step s (Call.Answer a)).told ≡ Returned.Run told → turn a sees s.head.feedback.latest (open_want (step s (Call.Answer a)).session.run) told ≡ t → IsCall own s sees (Call.Answer a ∷ cs) [] t
    unfolding session_after events last_taken turns
    here a told gives is = record {
      before = [];
      later = cs;
      whole = ap (λ (x : Turn). Call.Answer x.answer ∷ cs) is;
      turns_before = refl;
      gave = ap (λ (x : Turn). event s (Call.Answer x.answer)) (sym is) ∙ ap (λ (r : Returned). record { call = Call.Answer a; latest = s.head.feedback.latest; returned = r; wants = open_want (step s (Call.Answer a)).session.run }) gives ∙ ap (λ (x : Turn). record { call = Call.Answer x.answer; latest = x.latest; returned = Returned.Run x.gave.told; wants = x.gave.wants }) is;
      saw = λ place. ap (λ (x : Turn). x.sees place) (sym is);
    }

    -- what an answer adds to the turns after it
    adds : (a : Answer) (told : Answered) (us : List Turn) → (step s (Call.Answer a)).told ≡ Returned.Run told → add_turn sees s.head.feedback.latest (Call.Answer a) (step s (Call.Answer a)).told (open_want (step s (Call.Answer a)).session.run) us ≡ turn_in a sees s.head.feedback.latest (open_want (step s (Call.Answer a)).session.run) told us
    unfolding add_turn turn_of
    adds a told us gives = ap (λ (r : Returned). turn_of a sees s.head.feedback.latest (open_want (step s (Call.Answer a)).session.run) r us) gives

    module _ (rest : (c : Call) → AmongThem (step s c).session (seen_with own sees (event s c)) cs) where
      answered : (a : Answer) (told : Answered) → (step s (Call.Answer a)).told ≡ Returned.Run told → (earlier : List Turn)
          → turn_in a sees s.head.feedback.latest (open_want (step s (Call.Answer a)).session.run) told (turns own (seen_with own sees (event s (Call.Answer a))) (events (step s (Call.Answer a)).session cs)) ≡ earlier ++ (t ∷ later)
          → IsCall own s sees (Call.Answer a ∷ cs) earlier t
      unfolding turn_in add_turn turn_of
      answered a (Ok (Told.Want want)) gives [] is = here a (Ok (Told.Want want)) gives (head-eq_of_cons-eq is)
      answered a (Ok (Told.Want want)) gives (u ∷ us) is = further (Call.Answer a) us (u ∷ us) (adds a (Ok (Told.Want want)) us gives ∙ ap (λ (x : Turn). x ∷ us) (head-eq_of_cons-eq is)) (rest (Call.Answer a) us (tail-eq_of_cons-eq is))
      answered a (Ok (Told.Result r)) gives [] is = here a (Ok (Told.Result r)) gives (head-eq_of_cons-eq is)
      answered a (Ok (Told.Result r)) gives (u ∷ us) is = absurd (never us (tail-eq_of_cons-eq is))
        where
          never : (us : List Turn) → [] ≡ us ++ (t ∷ later) → ⊥
          never [] e = nil≢cons e
          never (x ∷ xs) e = nil≢cons e
      answered a (Err refusal) gives earlier is = further (Call.Answer a) earlier earlier (adds a (Err refusal) earlier gives) (rest (Call.Answer a) earlier is)

      by_call : (c : Call) → AmongThem s sees (c ∷ cs)
      unfolding turns events add_turn turn_of step
      by_call (Call.Start b) earlier is = further (Call.Start b) earlier earlier refl (rest (Call.Start b) earlier is)
      by_call (Call.Answer a) earlier is = answered a (answer_run s a).told refl earlier is
      by_call (Call.Frame f reading) earlier is = further (Call.Frame f reading) earlier earlier refl (rest (Call.Frame f reading) earlier is)
      by_call (Call.Patch status mos rotor) earlier is = further (Call.Patch status mos rotor) earlier earlier refl (rest (Call.Patch status mos rotor) earlier is)

  pub turn_calls : (cs : List Call) (s : Session) (sees : Sees) → AmongThem s sees cs
  unfolding turns events
  turn_calls [] s sees [] is = absurd (nil≢cons is)
  turn_calls [] s sees (u ∷ us) is = absurd (nil≢cons is)
  turn_calls (c ∷ cs) s sees earlier is = by_call s sees cs (λ c. turn_calls cs (step s c).session (seen_with own sees (event s c))) c earlier is
