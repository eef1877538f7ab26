-- Where an entry came from: what is held at a place was said by a frame of the list, and none of that place was taken after it. Assumes nothing.
use Rattle.std.specs.Prelude.{None, Option, Some, Ok, Err}
use mathlib.Core.Path.{◌≡◌, refl, sym, ap, ◌∙◌}
use mathlib.Core.Bool.{Bool, true, false, cond, true≢false}
use mathlib.Core.List.{List, [], ◌∷◌}
use mathlib.Core.Logic.{◌⊎◌, inl, inr}
use borrow.Author.Tests.{eqb-true}
use Rattle.motor_core.specs.declared.bus.CanFrame.{CanFrame}
use Rattle.time.specs.declared.Instant.{Instant}
use Rattle.registers.specs.declared.RegisterValue.{RegisterValue}
use Rattle.state_cache.specs.declared.Entry.{Entry}
use Rattle.state_cache.specs.declared.Entry.TheVariants.{Empty, Held}
use Rattle.state_cache.specs.declared.Place.{Place}
use Rattle.state_cache.specs.declared.Place.TheVariants.{Reply, Ack}
use Rattle.session_call.specs.declared.Call.{Call}
use Rattle.session_call.specs.declared.Returned.{Returned}
use Rattle.law_calls.specs.Calls.{Event}
use Rattle.law_calls.specs.Laws.{NoneTaken, Taken}
use Rattle.law_calls.specs.Places.{said, same_place, entry_of, frame_brings, brings, replaced, last_taken}
use Rattle.std.proofs.lemmas.Option.{none-some}

equal_places : (p q : Place) → same_place p q ≡ true → q ≡ p
equal_places (Reply rid) (Reply other) e = ap Reply (sym (eqb-true rid other e))
equal_places (Reply rid) (Ack other) e = absurd (true≢false (sym e))
equal_places (Ack rid) (Reply other) e = absurd (true≢false (sym e))
equal_places (Ack rid) (Ack other) e = ap Ack (sym (eqb-true rid other e))

module _ (own : CanFrame → Bool) (place : Place) (value : RegisterValue) (stamp : Instant) where
  abbrev entry : Entry
  entry = Held value stamp

  -- what a call has to be to bring it
  record Brought (c : Call) (r : Returned) : Type 0 where
    frame : CanFrame
    call : c ≡ Call.Frame frame stamp
    taken : r ≡ Returned.Frame (Ok tt)
    is_own : own frame ≡ true
    says : said frame ≡ Some (place, value)

  same_value : (v : RegisterValue) (t : Instant) → ◌≡◌ {A = Option Entry} (Some (Held v t)) (Some entry) → v ≡ value
  same_value v t e = cc

  same_stamp : (v : RegisterValue) (t : Instant) → ◌≡◌ {A = Option Entry} (Some (Held v t)) (Some entry) → t ≡ stamp
  same_stamp v t e = cc

  by_frame : (f : CanFrame) (t : Instant) (r : Returned) → frame_brings own place f t r ≡ Some entry → Brought (Call.Frame f t) r
  unfolding frame_brings
  by_frame f t (Returned.Run told) e = absurd (none-some _ e)
  by_frame f t (Returned.Frame (Ok taken)) e = counts (own f) refl e
    where
      go : own f ≡ true → (x : Option (Place × RegisterValue)) → said f ≡ x → entry_of place t x ≡ Some entry → Brought (Call.Frame f t) (Returned.Frame (Ok taken))
      go mine None is e = absurd (none-some _ e)
      go mine (Some x) is e = at (same_place place x.0) refl e
        where
          at : (b : Bool) → same_place place x.0 ≡ b → ◌≡◌ {A = Option Entry} (cond b (Some (Held x.1 t)) None) (Some entry) → Brought (Call.Frame f t) (Returned.Frame (Ok taken))
          at true same e = record {
            frame = f;
            call = ap (Call.Frame f) (same_stamp x.1 t e);
            taken = refl;
            is_own = mine;
            says = is ∙ λ i. Some (equal_places place x.0 same i, same_value x.1 t e i);
          }
          at false same e = absurd (none-some _ e)

      counts : (b : Bool) → own f ≡ b → cond b (entry_of place t (said f)) None ≡ Some entry → Brought (Call.Frame f t) (Returned.Frame (Ok taken))
      counts true mine e = go mine (said f) refl e
      counts false mine e = absurd (none-some _ e)
  by_frame f t (Returned.Frame (Err refusal)) e = absurd (none-some _ e)
  by_frame f t (Returned.Patch done) e = absurd (none-some _ e)

  by_call : (c : Call) (r : Returned) → brings own place c r ≡ Some entry → Brought c r
  unfolding brings
  by_call (Call.Start b) r e = absurd (none-some _ e)
  by_call (Call.Answer a) r e = absurd (none-some _ e)
  by_call (Call.Frame f t) r e = by_frame f t r e
  by_call (Call.Patch status mos rotor) r e = absurd (none-some _ e)

  -- nothing of the place was taken and it was there before, or it came in the list
  abbrev Came : Entry → List Event → Type 0
  Came e vs = (NoneTaken own place vs × (e ≡ entry)) ⊎ Taken own place value stamp vs

  came : (e : Entry) (vs : List Event) → last_taken own place e vs ≡ entry → Came e vs
  unfolding last_taken NoneTaken
  came e [] is = inl (tt, is)
  came e (v ∷ vs) is = go (brings own place v.call v.returned) refl (came (replaced e (brings own place v.call v.returned)) vs is)
    where
      go : (b : Option Entry) → brings own place v.call v.returned ≡ b → Came (replaced e b) vs → Came e (v ∷ vs)
      go b at (inr t) = inr record { before = v ∷ t.before; event = t.event; later = t.later; frame = t.frame; whole = ap (λ (us : List Event). v ∷ us) t.whole; call = t.call; taken = t.taken; is_own = t.is_own; says = t.says; is_last = t.is_last }
      go None at (inl (none, same)) = inl ((at, none), same)
      go (Some x) at (inl (none, same)) =
          let t = by_call v.call v.returned (at ∙ ap (λ (y : Entry). Some y) same) in
          inr record { before = []; event = v; later = vs; frame = t.frame; whole = refl; call = t.call; taken = t.taken; is_own = t.is_own; says = t.says; is_last = none }

empty≢held : (value : RegisterValue) (stamp : Instant) → Empty ≡ Held value stamp → ⊥
empty≢held value stamp e = true≢false (ap empty e)
  where
    empty : Entry → Bool
    empty Empty = true
    empty (Held v t) = false

pub origin : (own : CanFrame → Bool) (vs : List Event) (place : Place) (value : RegisterValue) (stamp : Instant) → last_taken own place Empty vs ≡ Held value stamp → Taken own place value stamp vs
origin own vs place value stamp is = go (came own place value stamp Empty vs is)
  where
    go : Came own place value stamp Empty vs → Taken own place value stamp vs
    go (inl (none, same)) = absurd (empty≢held value stamp same)
    go (inr taken) = taken
