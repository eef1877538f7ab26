-- Each wait and each run wants no more than it says. Assumes nothing.
use Rattle.std.specs.Prelude.{None, Option, Some}
use Prim.Native.Nat.{ℕ, ◌≤◌}
use mathlib.Core.Path.{◌≡◌, refl}
use mathlib.Core.List.{List, [], ◌∷◌}
use native.Mathlib.Omega.{arith}
use lib.ListN.{length}
use Rattle.registers.specs.Value.{bits_of}
use Rattle.run_want.specs.declared.Want.{Want}
use Rattle.run_want.specs.declared.message.Message.{Message}
use Rattle.run_want.specs.declared.Want.TheVariants.{Clock, Send, Sleep}
use Rattle.run_wait.specs.declared.Wait.TheVariants.{Checking}
use Rattle.run_write.specs.declared.ack.AckWait.TheVariants as AckWait
use Rattle.run_machine.specs.declared.Machine.{Machine}
use Rattle.law_runs.specs.Bounds.{Within, Bounds}
use Rattle.law_runs.proofs.Weighing.{machine_left, more_tries, more_rounds}
use Rattle.law_runs.specs.Clock.{unheard}
use Rattle.law_runs.specs.Systems.{running}
use Rattle.law_runs.specs.Trace.{Given, System, Label, wants_from, after, counted, total}
use Rattle.law_runs.proofs.Budget.{wait_bounded, ack_bounded, run_bounded}
use Rattle.law_runs.proofs.Clock.{by_message, all_fine, by_clock}

-- A machine that has been answered as often as it can want has ended.
abbrev any_want : Want Message → ℕ
any_want = counted 1 (λ command. 1) 1

one_want : (w : Want Message) → any_want w ≡ 1
one_want Clock = refl
one_want (Send message) = refl
one_want (Sleep length) = refl

pub ends : (σ : System) (gs : List Given) (at : Option σ.At) → total any_want (wants_from σ gs at) ≤ length gs → after σ gs at ≡ None
unfolding wants_from total after
ends σ [] None h = refl
ends σ [] (Some m) h = absurd (omega (arith, one_want (σ.want m)))
ends σ (g ∷ gs) None h = refl
ends σ (g ∷ gs) (Some m) h = ends σ gs (σ.next g m) (omega (arith, one_want (σ.want m)))

-- what the two ways of weighing leave to a run at its start
within : (m : Machine) (sends : (Label → ℕ) → ℕ) (sleeps answers : ℕ)
    → ((w : Label → ℕ) → machine_left (by_message w) tt m ≤ sends w)
    → machine_left (by_clock 0 1 (λ command. 0)) unheard m ≤ sleeps
    → machine_left (by_clock 1 1 (λ command. 1)) unheard m ≤ answers
    → Within m sends sleeps answers
within m sends sleeps answers a b c = record {
  sends_at_most = λ w gs. omega (arith, a w, run_bounded (by_message w) gs tt m (all_fine running gs (Some m)));
  sleeps_at_most = λ gs h. omega (arith, run_bounded (by_clock 0 1 (λ command. 0)) gs unheard m h);
  ends_after = λ gs h n. ends running gs (Some m) (omega (arith, run_bounded (by_clock 1 1 (λ command. 1)) gs unheard m h));
}

pub bounds : Bounds
unfolding more_tries more_rounds bits_of
bounds = record {
  wait = λ l finds o gs h. omega (arith, wait_bounded (by_clock 0 1 (λ command. 0)) l finds gs _ (Checking o) h, (by_clock 0 1 (λ command. 0)).opens l o);
  ack_wait = λ value gs h. omega (arith, ack_bounded (by_clock 0 1 (λ command. 0)) value gs unheard AckWait.Opening h);
  read = λ data_type rid l. within _ _ _ _ (λ w. omega arith) (omega arith) (omega arith);
  request = λ l. within _ _ _ _ (λ w. omega arith) (omega arith) (omega arith);
  write = λ rid value. within _ _ _ _ (λ w. omega arith) (omega arith) (omega arith);
  store = within _ _ _ _ (λ w. omega arith) (omega arith) (omega arith);
  switch = λ mode l. within _ _ _ _ (λ w. omega arith) (omega arith) (omega arith);
}
