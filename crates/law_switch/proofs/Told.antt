-- What a phase gives, as the claim counts it, is what the phase wants. Assumes nothing.
use Rattle.std.specs.Prelude.{Some, Ok}
use Prim.Native.Nat.{ℕ, ◌+◌, ◌/◌, ◌^◌}
use mathlib.Core.Path.{◌≡◌, refl, sym, ap, ◌∙◌, subst}
use mathlib.Core.Bool.{Bool, true, false, not, ◌&&◌, ◌||◌, true≢false}
use mathlib.Core.Logic.{◌⊎◌, inl, inr}
use native.Mathlib.Omega.{arith}
use borrow.Author.Tests.{eq-eqb, eqb-true, ne_eqb}
use lib.Dec.{eqb}
use Rattle.motor_core.proofs.Ids.{accepted_fits}
use Rattle.motor_core.specs.Bus.{motor_id_accepted}
use Rattle.registers.specs.Value.{bits_of}
use Rattle.protocol_frame.specs.Layout.{packed_onto, little_endian, addressed, bytes}
use Rattle.protocol_frame.specs.Command.{command}
use Rattle.protocol_request.specs.Request.{register_read_data, register_write_data}
use Rattle.protocol_hold.specs.Mode.{mode_number, hold_id, hold_data}
use Rattle.protocol_hold.specs.declared.ControlMode.{ControlMode}
use Rattle.protocol_hold.specs.declared.ControlMode.TheVariants.{Mit, PosVel, Vel, ForcePos}
use Rattle.run_want.specs.declared.Want.{Want}
use Rattle.run_want.specs.declared.Want.TheVariants.{Clock, Send, Sleep}
use Rattle.run_want.specs.declared.message.Message.{Message}
use Rattle.run_want.specs.declared.message.Message.TheVariants.{ReadRegister, WriteRegister, RequestFeedback, Disable, StoreParams, Setpoint}
use Rattle.run_wait.specs.declared.Wait.TheVariants.{Checking, Napping}
use Rattle.run_wait.specs.declared.ask.Ask.TheVariants as Ask
use Rattle.run_write.specs.declared.ack.AckWait.TheVariants as Ack
use Rattle.run_write.specs.declared.Write.TheVariants as Write
use Rattle.switch_stage.specs.Stage.{switch_want}
use Rattle.switch_stage.specs.declared.Stage.TheVariants.{Remaining, Reading, HoldRemaining, HoldReading, Clearing, Writing, SettleRemaining, SettleSleep, Holding}
use Rattle.switch_stage.specs.declared.Switch.{Switch}
use Rattle.switch_stage.specs.declared.Switch.TheVariants.{Starting, Begun}
use Rattle.session.specs.declared.Head.{Head}
use Rattle.session_step.specs.Parts.{caller_want}
use Rattle.session_step.specs.declared.Told.TheVariants as Told
use Rattle.run_want.specs.declared.Want.TheVariants as Wanted
use Rattle.law_runs.specs.Trace.{Label, label, counted}
use Rattle.law_calls.specs.Turns.{Gave, once, wants_send, any, a_want, send_to}
use Rattle.law_calls.proofs.Traced.{message_weight}
use Rattle.law_switch.specs.Claim.{mode_read, mode_write, read_bytes, write_bytes, shares_7ff, on_7ff, wants_mode_read, wants_mode_write}

-- a switch reads registers 10 and 80, writes the mode to 10, and sends no other request
abbrev pub Own : ControlMode → Want Message → Type 0
Own mode Clock = Unit {0}
Own mode (Send (ReadRegister rid)) = (rid ≡ 10) ⊎ (rid ≡ 80)
Own mode (Send (WriteRegister rid bits)) = (rid ≡ 10) × (bits ≡ mode_number mode)
Own mode (Send RequestFeedback) = ⊥
Own mode (Send Disable) = ⊥
Own mode (Send StoreParams) = ⊥
Own mode (Send (Setpoint m position)) = Unit {0}
Own mode (Sleep length) = Unit {0}

pub own : (mode : ControlMode) (p : Switch) → Own mode (switch_want mode p)
unfolding bits_of
own mode Starting = tt
own mode (Begun p (Remaining which)) = tt
own mode (Begun p (Reading which l Ask.Opening)) = tt
own mode (Begun p (Reading which l (Ask.Sending o))) = inl refl
own mode (Begun p (Reading which l (Ask.Waiting (Checking o)))) = tt
own mode (Begun p (Reading which l (Ask.Waiting (Napping o)))) = tt
own mode (Begun p HoldRemaining) = tt
own mode (Begun p (HoldReading l Ask.Opening)) = tt
own mode (Begun p (HoldReading l (Ask.Sending o))) = inr refl
own mode (Begun p (HoldReading l (Ask.Waiting (Checking o)))) = tt
own mode (Begun p (HoldReading l (Ask.Waiting (Napping o)))) = tt
own mode (Begun p (Clearing channel)) = tt
own mode (Begun p (Writing n (Write.Sending m))) = (refl, refl)
own mode (Begun p (Writing n (Write.Waiting m Ack.Opening))) = tt
own mode (Begun p (Writing n (Write.Waiting m (Ack.Waiting (Checking o))))) = tt
own mode (Begun p (Writing n (Write.Waiting m (Ack.Waiting (Napping o))))) = tt
own mode (Begun p (Writing n (Write.Gap m))) = tt
own mode (Begun p (SettleRemaining n)) = tt
own mode (Begun p (SettleSleep n l)) = tt
own mode (Begun p (Holding n)) = tt

-- weights of commands: reads of register 10, writes of it
abbrev pub mode_reads : Label → ℕ
mode_reads (Label.read rid) = once (eqb rid 10)
mode_reads (Label.write rid bits) = 0
mode_reads Label.request = 0
mode_reads Label.disable = 0
mode_reads Label.store = 0
mode_reads (Label.hold mode) = 0

abbrev pub mode_writes : Label → ℕ
mode_writes (Label.read rid) = 0
mode_writes (Label.write rid bits) = once (eqb rid 10)
mode_writes Label.request = 0
mode_writes Label.disable = 0
mode_writes Label.store = 0
mode_writes (Label.hold mode) = 0

both_false : (b : Bool) → (b && false) ≡ false
both_false true = refl
both_false false = refl

or_true : (b : Bool) → (b || true) ≡ true
or_true true = refl
or_true false = refl

left_false : (a b : Bool) → a ≡ false → (a && b) ≡ false
left_false a b e = ap (λ (x : Bool). x && b) e

-- ---- the bytes of reads and writes, apart by their first four

module _ (motor : ℕ) where
  read_80 : eqb (register_read_data motor 80) (register_read_data motor 10) ≡ false
  unfolding register_read_data addressed packed_onto little_endian bytes
  read_80 = ne_eqb (register_read_data motor 80) (register_read_data motor 10) (λ e. omega (arith, e))

  write_no_read : (mode : ControlMode) → eqb (register_write_data motor 10 (mode_number mode)) (register_read_data motor 10) ≡ false
  unfolding register_read_data register_write_data addressed packed_onto little_endian bytes
  write_no_read Mit = ne_eqb (register_write_data motor 10 1) (register_read_data motor 10) (λ e. omega (arith, e))
  write_no_read PosVel = ne_eqb (register_write_data motor 10 2) (register_read_data motor 10) (λ e. omega (arith, e))
  write_no_read Vel = ne_eqb (register_write_data motor 10 3) (register_read_data motor 10) (λ e. omega (arith, e))
  write_no_read ForcePos = ne_eqb (register_write_data motor 10 4) (register_read_data motor 10) (λ e. omega (arith, e))

  a_write : (mode : ControlMode) → write_bytes motor (register_write_data motor 10 (mode_number mode)) ≡ true
  unfolding register_write_data addressed packed_onto little_endian
  a_write Mit = eq-eqb (register_write_data motor 10 1 / 2 ^ 32) (register_write_data motor 10 0 / 2 ^ 32) (omega arith)
  a_write PosVel = eq-eqb (register_write_data motor 10 2 / 2 ^ 32) (register_write_data motor 10 0 / 2 ^ 32) (omega arith)
  a_write Vel = eq-eqb (register_write_data motor 10 3 / 2 ^ 32) (register_write_data motor 10 0 / 2 ^ 32) (omega arith)
  a_write ForcePos = eq-eqb (register_write_data motor 10 4 / 2 ^ 32) (register_write_data motor 10 0 / 2 ^ 32) (omega arith)

  read_no_write : (rid : ℕ) → write_bytes motor (register_read_data motor rid) ≡ false
  unfolding register_read_data register_write_data addressed packed_onto little_endian bytes
  read_no_write rid = ne_eqb (register_read_data motor rid / 2 ^ 32) (register_write_data motor 10 0 / 2 ^ 32) (λ e. omega (arith, e))

  -- the id that shares 0x7FF puts the force-position mode's setpoints there
  pub shared_id : (mode : ControlMode) → shares_7ff motor ≡ true → mode ≡ ForcePos → hold_id motor mode ≡ 0x7ff
  unfolding shares_7ff
  shared_id mode shares is = ap (hold_id motor) is ∙ ap (λ (k : ℕ). 0x300 + k) (eqb-true motor 0x4ff shares)

  module _ (accepted : motor_id_accepted motor ≡ true) where
    -- a setpoint goes to 0x7FF only from the id that shares it
    pub hold_shares : (mode : ControlMode) → hold_id motor mode ≡ 0x7ff → (shares_7ff motor ≡ true) × (mode ≡ ForcePos)
    unfolding shares_7ff
    hold_shares Mit e = absurd (omega (arith, e, (accepted_fits motor).0 accepted))
    hold_shares PosVel e = absurd (omega (arith, e, (accepted_fits motor).0 accepted))
    hold_shares Vel e = absurd (omega (arith, e, (accepted_fits motor).0 accepted))
    hold_shares ForcePos e = (eq-eqb motor 0x4ff (omega (arith, e)), refl)

    hold_off : (mode : ControlMode) → shares_7ff motor ≡ false → eqb (hold_id motor mode) 0x7ff ≡ false
    hold_off mode off = ne_eqb (hold_id motor mode) 0x7ff (λ e. true≢false (sym (hold_shares mode e).0 ∙ off))

    -- so it is neither, by its id or by what the definition wants
    hold_neither : (of : ℕ → Bool) (mode : ControlMode) (bytes : ℕ) → (on_7ff of (Ok (Told.Want (Wanted.Send (command (hold_id motor mode) bytes)))) && (not (shares_7ff motor) || false)) ≡ false
    unfolding a_want send_to
    hold_neither of mode bytes = go (shares_7ff motor) refl
      where
        go : (b : Bool) → shares_7ff motor ≡ b → ((eqb (hold_id motor mode) 0x7ff && of bytes) && (not b || false)) ≡ false
        go true e = both_false (eqb (hold_id motor mode) 0x7ff && of bytes)
        go false e = ap (λ (x : Bool). (x && of bytes) && true) (hold_off mode e)

module _ (h : Head) where
  -- what a want gives
  abbrev pub gives_want : Want Message → Gave
  gives_want w = record { told = Ok (Told.Want (caller_want h w)); wants = Some w }

  abbrev motor : ℕ
  motor = h.motor_id

  of_label : (m : Message) → (once (wants_mode_read m) ≡ mode_reads (label m)) × (once (wants_mode_write m) ≡ mode_writes (label m))
  unfolding wants_mode_read wants_mode_write
  of_label (ReadRegister rid) = (refl, refl)
  of_label (WriteRegister rid bits) = (refl, refl)
  of_label RequestFeedback = (refl, refl)
  of_label Disable = (refl, refl)
  of_label StoreParams = (refl, refl)
  of_label (Setpoint m position) = (refl, refl)

  pub reads_weight : (w : Want Message) → once (wants_send wants_mode_read (Some w)) ≡ counted 0 mode_reads 0 w
  reads_weight = message_weight h wants_mode_read mode_reads (λ m. (of_label m).0)

  pub writes_weight : (w : Want Message) → once (wants_send wants_mode_write (Some w)) ≡ counted 0 mode_writes 0 w
  writes_weight = message_weight h wants_mode_write mode_writes (λ m. (of_label m).1)

  module _ (accepted : motor_id_accepted motor ≡ true) where
    reads_own : (mode : ControlMode) (w : Want Message) → Own mode w → mode_read motor (gives_want w) ≡ wants_send wants_mode_read (Some w)
    unfolding a_want send_to wants_send wants_mode_read any
    reads_own mode Clock o = refl
    reads_own mode (Send (ReadRegister rid)) (inl e) =
        subst (λ (r : ℕ). mode_read motor (gives_want (Send (ReadRegister r))) ≡ wants_send wants_mode_read (Some (Send (ReadRegister r)))) (sym e)
        (λ i. eq-eqb (register_read_data motor 10) (register_read_data motor 10) refl i && or_true (not (shares_7ff motor)) i)
    reads_own mode (Send (ReadRegister rid)) (inr e) =
        subst (λ (r : ℕ). mode_read motor (gives_want (Send (ReadRegister r))) ≡ wants_send wants_mode_read (Some (Send (ReadRegister r)))) (sym e)
        (left_false (eqb (register_read_data motor 80) (register_read_data motor 10)) _ (read_80 motor))
    reads_own mode (Send (WriteRegister rid bits)) o =
        left_false (eqb (register_write_data motor rid bits) (register_read_data motor 10)) _
        ((λ i. eqb (register_write_data motor (o.0 i) (o.1 i)) (register_read_data motor 10)) ∙ write_no_read motor mode)
    reads_own mode (Send RequestFeedback) o = absurd o
    reads_own mode (Send Disable) o = absurd o
    reads_own mode (Send StoreParams) o = absurd o
    reads_own mode (Send (Setpoint m position)) o = hold_neither motor accepted (read_bytes motor) m (hold_data h.limits m position.0)
    reads_own mode (Sleep length) o = refl

    writes_own : (mode : ControlMode) (w : Want Message) → Own mode w → mode_write motor (gives_want w) ≡ wants_send wants_mode_write (Some w)
    unfolding a_want send_to wants_send wants_mode_write
    writes_own mode Clock o = refl
    writes_own mode (Send (ReadRegister rid)) o = left_false (write_bytes motor (register_read_data motor rid)) _ (read_no_write motor rid)
    writes_own mode (Send (WriteRegister rid bits)) o =
        (λ i. write_bytes motor (register_write_data motor (o.0 i) (o.1 i)) && (not (shares_7ff motor) || eqb (o.0 i) 10))
        ∙ (λ i. a_write motor mode i && or_true (not (shares_7ff motor)) i)
        ∙ sym (ap (λ (r : ℕ). eqb r 10) o.0)
    writes_own mode (Send RequestFeedback) o = absurd o
    writes_own mode (Send Disable) o = absurd o
    writes_own mode (Send StoreParams) o = absurd o
    writes_own mode (Send (Setpoint m position)) o = hold_neither motor accepted (write_bytes motor) m (hold_data h.limits m position.0)
    writes_own mode (Sleep length) o = refl

    pub reads_alike : (mode : ControlMode) (p : Switch) → mode_read motor (gives_want (switch_want mode p)) ≡ wants_send wants_mode_read (Some (switch_want mode p))
    reads_alike mode p = reads_own mode (switch_want mode p) (own mode p)

    pub writes_alike : (mode : ControlMode) (p : Switch) → mode_write motor (gives_want (switch_want mode p)) ≡ wants_send wants_mode_write (Some (switch_want mode p))
    writes_alike mode p = writes_own mode (switch_want mode p) (own mode p)

    pub reads_count : (mode : ControlMode) (p : Switch) → once (mode_read motor (gives_want (switch_want mode p))) ≡ counted 0 mode_reads 0 (switch_want mode p)
    reads_count mode p = ap once (reads_alike mode p) ∙ reads_weight (switch_want mode p)

    pub writes_count : (mode : ControlMode) (p : Switch) → once (mode_write motor (gives_want (switch_want mode p))) ≡ counted 0 mode_writes 0 (switch_want mode p)
    writes_count mode p = ap once (writes_alike mode p) ∙ writes_weight (switch_want mode p)
