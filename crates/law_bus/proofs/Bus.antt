-- Every frame that is sent has an id of 11 bits. Assumes nothing.
use Rattle.std.specs.Prelude.{Result, Ok, Err}
use Prim.Native.Nat.{ℕ}
use mathlib.Core.Path.{◌≡◌, sym, ◌∙◌, subst}
use mathlib.Core.Bool.{true}
use native.Mathlib.Omega.{arith}
use Rattle.motor_core.proofs.Ids.{accepted_fits}
use Rattle.motor_core.proofs.Turned.{clash}
use Rattle.motor_core.specs.AndThen.{and_then}
use Rattle.motor_core.specs.Bus.{id_fits, motor_id_accepted}
use Rattle.motor_core.specs.Model.{limits_of}
use Rattle.motor_core.specs.declared.error.Refusal.{Refusal}
use Rattle.motor_core.specs.declared.model.Maxima.{Maxima}
use Rattle.motor_core.specs.declared.model.PvTLimits.{PvTLimits}
use Rattle.protocol_frame.proofs.Answered.{answered}
use Rattle.protocol_frame.specs.Command.{frame_for}
use Rattle.protocol_frame.specs.declared.Command.{Command}
use Rattle.protocol_setpoint.specs.Setpoint.{mit_data, mit_cmd}
use Rattle.protocol_setpoint.specs.declared.MitSetpoint.{MitSetpoint}
use Rattle.protocol_hold.proofs.Ids.{hold_fits}
use Rattle.protocol_hold.specs.declared.ControlMode.TheVariants.{Mit, PosVel, Vel, ForcePos}
use Rattle.run_want.specs.Message.{message_id}
use Rattle.run_want.specs.declared.Want.{Want}
use Rattle.run_want.specs.declared.Want.TheVariants.{Clock, Send, Sleep}
use Rattle.run_want.specs.declared.message.Message.{Message}
use Rattle.run_want.specs.declared.message.Message.TheVariants.{ReadRegister, WriteRegister, RequestFeedback, Disable, StoreParams, Setpoint}
use Rattle.run_machine.specs.Machine.{machine_want}
use Rattle.session.specs.declared.Head.{Head}
use Rattle.session.specs.declared.Session.{Session}
use Rattle.session_step.specs.Parts.{Wanted, caller_want}
use Rattle.session_step.specs.declared.Told.{Told}
use Rattle.session_answer.proofs.Effects.{answer_follows}
use Rattle.session_answer.proofs.Follows.{Follows}
use Rattle.session_answer.specs.Answer.{answer_run}
use Rattle.session_begin.proofs.Effects.{start_follows}
use Rattle.session_begin.specs.Begin.{begin}
use Rattle.session_call.specs.Step.{step}
use Rattle.session_call.specs.declared.Call.{Call}
use Rattle.session_call.specs.declared.Returned.{Returned}
use Rattle.law_calls.specs.Calls.{Answered, session_after}
use Rattle.law_calls.proofs.Sessions.{list_sound, step_sound}
use Rattle.law_calls.proofs.Started.{fresh_accepted, fresh_motor, fresh_sound}
use Rattle.law_bus.specs.Bus.{FrameFits, SendFits, Commands, Bus}

-- ---- single commands

module _ (motor : ℕ) where
  frame_fits : (id bits : ℕ) → (motor_id_accepted motor ≡ true → id_fits id) → FrameFits (frame_for motor id bits)
  frame_fits id bits fits c e = let (accepted, same) = answered motor id bits c e in omega (arith, same, fits accepted)

  mit_fits : (m : Maxima) (s : MitSetpoint) → FrameFits (mit_cmd motor m s)
  unfolding mit_cmd
  mit_fits m s c e = go (limits_of m) e
    where
      go : (check : Result PvTLimits Refusal) → and_then check (λ l. frame_for motor motor (mit_data l s)) ≡ Ok c → id_fits c.arbitration_id
      go (Ok l) e = let fits = frame_fits motor (mit_data l s) (λ a. hold_fits motor a Mit) c e in omega (arith, fits)
      go (Err n) e = absurd (clash (cc))

  -- on the motor's own id, and on 0x7FF
  own_fits : (bits : ℕ) → FrameFits (frame_for motor motor bits)
  own_fits bits = frame_fits motor bits (λ a. hold_fits motor a Mit)

  request_fits : (bits : ℕ) → FrameFits (frame_for motor 0x7ff bits)
  request_fits bits = frame_fits 0x7ff bits (λ a. omega arith)

commands : Commands
commands = record {
  mit = mit_fits;
  pos_vel = λ motor position limit. frame_fits motor _ _ (λ a. hold_fits motor a PosVel);
  vel = λ motor velocity. frame_fits motor _ _ (λ a. hold_fits motor a Vel);
  force_pos = λ motor position limit ratio. frame_fits motor _ _ (λ a. hold_fits motor a ForcePos);
  register_read = λ motor rid. request_fits motor _;
  register_write = λ motor rid bits. request_fits motor _;
  store_params = λ motor. request_fits motor _;
  feedback_request = λ motor. request_fits motor _;
  disable = λ motor. own_fits motor _;
  set_zero = λ motor. own_fits motor _;
  clear_error = λ motor. own_fits motor _;
}

-- ---- runs

message_fits : (motor : ℕ) → motor_id_accepted motor ≡ true → (message : Message) → id_fits (message_id motor message)
message_fits motor accepted (ReadRegister rid) = omega arith
message_fits motor accepted (WriteRegister rid bits) = omega arith
message_fits motor accepted RequestFeedback = omega arith
message_fits motor accepted Disable = hold_fits motor accepted Mit
message_fits motor accepted StoreParams = omega arith
message_fits motor accepted (Setpoint mode position) = hold_fits motor accepted mode

want_fits : (h : Head) → motor_id_accepted h.motor_id ≡ true → (w : Want Message) (c : Command) → caller_want h w ≡ Send c → id_fits c.arbitration_id
want_fits h accepted Clock c e = absurd (clash (cc))
want_fits h accepted (Send message) c e = subst (λ (x : Command). id_fits x.arbitration_id) (the_same _ e) (message_fits h.motor_id accepted message)
  where
    the_same : (x : Command) → ◌≡◌ {A = Wanted} (Send x) (Send c) → x ≡ c
    the_same x e = cc
want_fits h accepted (Sleep length) c e = absurd (clash (cc))

-- what a start or an answer tells is what the run that it leaves wants
told_fits : (s after : Session) → motor_id_accepted after.head.motor_id ≡ true → (told : Answered) → Follows s told after → SendFits (Returned.Run told)
told_fits s after accepted (Ok (Told.Want want)) follows c e = omega (arith, want_fits after.head accepted (machine_want follows.machine) c (sym follows.tells ∙ the_same e))
  where
    the_same : Returned.Run (Ok (Told.Want want)) ≡ Returned.Run (Ok (Told.Want (Send c))) → want ≡ Send c
    the_same e = cc
told_fits s after accepted (Ok (Told.Result r)) follows c e = absurd (clash (cc))
told_fits s after accepted (Err n) follows c e = absurd (clash (cc))

call_fits : (s : Session) (c : Call) → motor_id_accepted (step s c).session.head.motor_id ≡ true → SendFits (step s c).told
unfolding step
call_fits s (Call.Start b) accepted = told_fits s (begin s b).session accepted (begin s b).told (start_follows s b)
call_fits s (Call.Answer a) accepted = told_fits s (answer_run s a).session accepted (answer_run s a).told (answer_follows s a)
call_fits s (Call.Frame f reading) accepted = λ c e. absurd (clash (cc))
call_fits s (Call.Patch status mos rotor) accepted = λ c e. absurd (clash (cc))

pub bus : Bus
bus = record {
  accepted = λ motor. (λ a. omega (arith, (accepted_fits motor).0 a), λ fits. (accepted_fits motor).1 (omega (arith, fits)));
  commands = commands;
  messages = message_fits;
  sends = λ motor feedback s fresh before c.
      let there = session_after s before in
      let sound = step_sound s.head there c (list_sound s.head before s (fresh_sound motor feedback s fresh)) in
      call_fits there c (subst (λ (k : ℕ). motor_id_accepted k ≡ true) (sym (sound.motor_id ∙ fresh_motor motor feedback s fresh)) (fresh_accepted motor feedback s fresh));
}
