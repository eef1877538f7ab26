-- An answer to the run of a session. Definitions only.
use Rattle.std.specs.Prelude.{List, Option, Some, None, Result, Ok, Err}
use Rattle.motor_core.specs.declared.error.Refusal.{Refusal}
use Rattle.state_cache.specs.Cache.{slot_of}
use Rattle.state_cache.specs.declared.Entry.{Entry}
use Rattle.state_cache.specs.declared.Entry.TheVariants.{Empty}
use Rattle.state_cache.specs.declared.Place.{Place}
use Rattle.state_cache.specs.declared.Place.TheVariants.{Reply, Ack}
use Rattle.run_want.specs.declared.Answer.{Answer}
use Rattle.run_machine.specs.Machine.{machine_place}
use Rattle.run_machine.specs.declared.Machine.{Machine}
use Rattle.session.specs.Session.{with_head, with_run}
use Rattle.session.specs.declared.Session.{Session}
use Rattle.session.specs.declared.After.{After}
use Rattle.session_step.specs.Parts.{answer_step}
use Rattle.session_step.specs.declared.AnswerStep.{AnswerStep}
use Rattle.session_step.specs.declared.Told.{Told}

-- the entry that the run looks at
abbrev pub run_place : Option Machine → Option Place
run_place None = None
run_place (Some machine) = machine_place machine

abbrev pub entry_at : List Entry → List Entry → Option Place → Entry
entry_at replies acks None = Empty
entry_at replies acks (Some (Reply rid)) = slot_of replies rid
entry_at replies acks (Some (Ack rid)) = slot_of acks rid

abbrev pub AfterCall : Type 0
AfterCall = After (Result Told Refusal)

-- the caches stay; a refusal leaves the session as it was
abbrev pub with_step : Session → Result AnswerStep Refusal → AfterCall
with_step s (Ok step) = record {
  session = with_run (with_head s step.head) step.run;
  told = Ok step.told;
}
with_step s (Err refusal) = record { session = s; told = Err refusal }

unfoldable pub answer_run : Session → Answer → AfterCall
answer_run s answer = with_step s (answer_step s.head (entry_at s.replies s.acks (run_place s.run)) s.run answer)
