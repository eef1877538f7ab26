-- Where a step of a run leads: on to a phase, or to an end, or it fails. Definitions only.
use Rattle.std.specs.Prelude.{Result, Ok, Err}
use Rattle.std.specs.declared.ops.ControlFlow.{ControlFlow}
use Rattle.std.specs.declared.ops.ControlFlow.TheVariants.{Continue, Break}
use Rattle.run_want.specs.declared.Failure.{Failure}

abbrev pub Stepped : Type 0 → Type 0 → Type 0
Stepped S T = Result (ControlFlow T S) Failure

abbrev pub goes : {S T : Type 0} → S → Stepped S T
goes s = Ok (Continue s)

abbrev pub ends : {S T : Type 0} → T → Stepped S T
ends t = Ok (Break t)

-- the same step with other phases and ends
abbrev pub map_step : {S T R U : Type 0} → (S → R) → (T → U) → ControlFlow T S → ControlFlow U R
map_step f g (Continue s) = Continue (f s)
map_step f g (Break t) = Break (g t)

abbrev pub map_stepped : {S T R U : Type 0} → (S → R) → (T → U) → Stepped S T → Stepped R U
map_stepped f g (Ok step) = Ok (map_step f g step)
map_stepped f g (Err failure) = Err failure
