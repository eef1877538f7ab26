-- A switch writes the wanted mode, and begins with a reading. Assumes nothing.
use Rattle.std.specs.Prelude.{Some, Ok}
use mathlib.Core.Path.{◌≡◌, refl, sym, ◌∙◌, subst}
use mathlib.Core.Bool.{true, true≢false}
use mathlib.Core.List.{List, [], ◌∷◌}
use Rattle.motor_core.specs.Bus.{motor_id_accepted}
use Rattle.protocol_frame.specs.Command.{command}
use Rattle.protocol_hold.specs.Mode.{mode_number}
use Rattle.protocol_hold.specs.declared.ControlMode.{ControlMode}
use Rattle.protocol_request.specs.Request.{request_id, register_write_data}
use Rattle.time.specs.declared.Duration.{Duration}
use Rattle.time.specs.declared.Instant.{Instant}
use Rattle.run_want.specs.Want.{fits}
use Rattle.run_want.specs.declared.Answer.{Answer}
use Rattle.run_want.specs.declared.Want.{Want}
use Rattle.run_want.specs.declared.Want.TheVariants.{Clock, Send, Sleep}
use Rattle.run_want.specs.declared.Want.TheVariants as Wanted
use Rattle.run_want.specs.declared.message.Message.{Message}
use Rattle.run_want.specs.declared.message.Message.TheVariants.{ReadRegister, WriteRegister, RequestFeedback, Disable, StoreParams, Setpoint}
use Rattle.run_machine.specs.Machine.{RunResult}
use Rattle.switch_stage.specs.Stage.{switch_want}
use Rattle.switch_stage.specs.declared.Switch.{Switch}
use Rattle.switch_stage.specs.declared.Switch.TheVariants.{Starting}
use Rattle.switch_step.specs.Switch.{switch_step}
use Rattle.session.specs.declared.Head.{Head}
use Rattle.session.specs.declared.Session.{Session}
use Rattle.session_step.specs.Parts.{with_reading}
use Rattle.session_step.specs.declared.Told.TheVariants as Told
use Rattle.law_calls.specs.Turns.{Gave, Turn, gaves, a_want, wants_send}
use Rattle.law_switch.specs.Claim.{wants_mode_write, mode_write, EachSwitch}
use Rattle.law_switch.specs.Written.{OfMode, AllOfMode, FirstReads, Written}
use Rattle.law_switch.proofs.Demand.{each_switch}
use Rattle.law_switch.proofs.Ran.{gave_want, gave_result, seen, onward_cases, Ran, of_run}
use Rattle.law_switch.proofs.Told.{Own, own, gives_want, writes_alike}

module _ (h : Head) (mode : ControlMode) where
  own_write : (w : Want Message) → Own mode w → wants_send wants_mode_write (Some w) ≡ true → OfMode h.motor_id (mode_number mode) (gives_want h w)
  unfolding wants_send wants_mode_write
  own_write Clock o e = absurd (true≢false (sym e))
  own_write (Send (ReadRegister rid)) o e = absurd (true≢false (sym e))
  own_write (Send (WriteRegister rid bits)) (r, b) e = record {
    wanted = λ i. Some (Send (WriteRegister (r i) (b i)));
    sent = λ i. Ok (Told.Want (Wanted.Send (command request_id (register_write_data h.motor_id (r i) (b i)))));
  }
  own_write (Send RequestFeedback) o e = absurd o
  own_write (Send Disable) o e = absurd o
  own_write (Send StoreParams) o e = absurd o
  own_write (Send (Setpoint m position)) o e = absurd (true≢false (sym e))
  own_write (Sleep length) o e = absurd (true≢false (sym e))

  -- what is given, of a phase or a result
  abbrev IfWrite : Gave → Type 0
  IfWrite g = mode_write h.motor_id g ≡ true → OfMode h.motor_id (mode_number mode) g

  module _ (accepted : motor_id_accepted h.motor_id ≡ true) (timeout : Duration) (end : Session) where
    of_phase : (p : Switch) → IfWrite (gave_want h mode timeout p)
    of_phase p e = own_write (switch_want mode p) (own mode p) (sym (writes_alike h accepted mode p) ∙ e)

    of_result : (r : RunResult) → IfWrite (gave_result h mode timeout r)
    unfolding a_want
    of_result r e = absurd (true≢false (sym e))

    all_of_mode : (ts : List Turn) (p : Switch) (l : Instant) → Ran h mode timeout end p l ts → AllOfMode h.motor_id (mode_number mode) (gaves ts)
    unfolding Ran gaves AllOfMode
    all_of_mode [] p l ran = tt
    all_of_mode (t ∷ ts) p l (k, on) =
        onward_cases h mode timeout (λ q. Ran h mode timeout end q (with_reading k.head t.answer).last ts) t ts (switch_step mode timeout (seen p t) p t.answer) on
        (λ q x gave ran. (subst IfWrite (sym gave) (of_phase q), all_of_mode ts q (with_reading k.head t.answer).last ran))
        (λ r x gave stop. (subst IfWrite (sym gave) (of_result r), subst (λ (ts : List Turn). AllOfMode h.motor_id (mode_number mode) (gaves ts)) (sym stop) tt))

    reading_first : (ts : List Turn) (l : Instant) → Ran h mode timeout end Starting l ts → FirstReads ts
    unfolding Ran FirstReads
    reading_first [] l ran = tt
    reading_first (t ∷ ts) l (k, on) = go t.answer k.fit
      where
        go : (a : Answer) → fits Clock a ≡ true → (reading : Instant) × (a ≡ Answer.Reading reading)
        go (Answer.Reading reading) f = (reading, refl)
        go (Answer.Send result) f = absurd (true≢false (sym f))
        go Answer.Slept f = absurd (true≢false (sym f))

pub written : EachSwitch (λ motor mode first ts end. Written motor mode first ts)
unfolding AllOfMode
written = each_switch (λ motor mode first ts end. Written motor mode first ts) (λ h mode timeout ts end x.
    let how = of_run h mode timeout end ts Starting h.last x.steps in
    record {
      writes = (of_phase h mode x.accepted timeout end Starting, all_of_mode h mode x.accepted timeout end ts Starting h.last how);
      first_reads = reading_first h mode x.accepted timeout end ts h.last how;
    })
