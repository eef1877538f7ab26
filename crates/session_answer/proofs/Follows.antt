-- What a start or an answer leaves of the run, by what it returns. Assumes nothing.
use Rattle.std.specs.Prelude.{◌≡◌, Option, Some, None, Result, Ok, Err}
use Rattle.motor_core.specs.declared.error.Refusal.{Refusal}
use Rattle.run_machine.specs.Machine.{machine_want}
use Rattle.run_machine.specs.declared.Machine.{Machine}
use Rattle.session.specs.declared.Head.{Head}
use Rattle.session.specs.declared.Session.{Session}
use Rattle.session_step.specs.Parts.{Wanted, caller_want}
use Rattle.session_step.specs.declared.Told.{Told}
use Rattle.session_answer.specs.Answer.{AfterCall}

-- an open run whose machine wants just what was returned
pub record Wants (h : Head) (want : Wanted) (run : Option Machine) : Type 0 where
  pub machine : Machine
  pub is_open : run ≡ Some machine
  pub tells : want ≡ caller_want h (machine_want machine)

-- a want leaves that run open, a result none, a refusal the session as it was
abbrev pub Follows : Session → Result Told Refusal → Session → Type 0
Follows before (Ok (Told.Want want)) s = Wants s.head want s.run
Follows before (Ok (Told.Result result)) s = s.run ≡ None
Follows before (Err refusal) s = s ≡ before

abbrev pub ToldTruly : Session → AfterCall → Type 0
ToldTruly before after = Follows before after.told after.session
