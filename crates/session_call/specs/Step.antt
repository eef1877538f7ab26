-- A call on a session, whichever it is: what it leaves and what it returns, by the definitions that the entries are proved equal to. Definitions only.
use Rattle.session.specs.Session.{patch}
use Rattle.session.specs.declared.After.{After}
use Rattle.session.specs.declared.Session.{Session}
use Rattle.session_frame.specs.Frame.{take_frame}
use Rattle.session_answer.specs.Answer.{answer_run}
use Rattle.session_begin.specs.Begin.{begin}
use Rattle.session_call.specs.declared.Call.{Call}
use Rattle.session_call.specs.declared.Call.TheVariants.{Start, Answer, Frame, Patch}
use Rattle.session_call.specs.declared.Returned.{Returned}

abbrev pub AfterStep : Type 0
AfterStep = After Returned

abbrev pub returning : {T : Type 0} → (T → Returned) → After T → AfterStep
returning f after = record { session = after.session; told = f after.told }

unfoldable pub step : Session → Call → AfterStep
step s (Start start) = returning Returned.Run (begin s start)
step s (Answer answer) = returning Returned.Run (answer_run s answer)
step s (Frame frame reading) = returning Returned.Frame (take_frame s frame reading)
step s (Patch status mos rotor) = returning Returned.Patch (patch s status mos rotor)
