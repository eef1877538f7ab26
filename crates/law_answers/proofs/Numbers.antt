-- Each call returns the number of the first row that it meets, by cases on the tests. Assumes nothing.
use Prim.Native.Nat.{ℕ, ◌/◌, ◌%◌, ◌≤◌, ◌<◌}
use mathlib.Core.Path.{◌≡◌, refl, sym, ap, ◌∙◌}
use mathlib.Core.Bool.{Bool, true, false, not, ◌||◌, ◌&&◌, cond, and-true}
use mathlib.Core.List.{List, [], ◌∷◌}
use borrow.Author.Tests.{leb-true, leb-false, le-ltb, lt-ltb}
use Rattle.std.specs.Prelude.{eqb, leb, ltb, ◌≢◌, Option, Some, None, Result, Ok, Err}
use Rattle.std.specs.Float.{binary32}
use Rattle.std.specs.Float.Ieee.{nan_bits, of_bits}
use Rattle.motor_core.specs.AndThen.{and_then}
use Rattle.motor_core.specs.Bus.{motor_id_accepted}
use Rattle.motor_core.specs.Error.{number}
use Rattle.motor_core.specs.Model.{limit_accepted, limits_of, from_maxima}
use Rattle.motor_core.specs.Name.{spelling}
use Rattle.motor_core.specs.declared.bus.CanFrame.{CanFrame}
use Rattle.motor_core.specs.declared.error.Refusal.{Refusal}
use Rattle.motor_core.specs.declared.model.Maxima.{Maxima}
use Rattle.motor_core.specs.declared.model.PvTLimits.{PvTLimits}
use Rattle.motor_core.specs.declared.name.Name.{Name}
use Rattle.text.specs.Text.{same}
use Rattle.time.specs.Time.{reading_accepted, timeout_accepted}
use Rattle.time.specs.declared.Duration.{Duration}
use Rattle.time.specs.declared.Instant.{Instant}
use Rattle.registers.specs.Registers.{◌to◌, count_from, elem, registers, writable, whole_number, known, access_of, data_type_of, info_of}
use Rattle.registers.specs.Value.{value_of, type_of, of_type}
use Rattle.registers.specs.declared.RegisterAccess.TheVariants.{ReadOnly, ReadWrite}
use Rattle.registers.specs.declared.RegisterDataType.{RegisterDataType}
use Rattle.registers.specs.declared.RegisterDataType.TheVariants.{Float as Floating, UInt32}
use Rattle.registers.specs.declared.RegisterValue.{RegisterValue}
use Rattle.registers.specs.declared.RegisterValue.TheVariants as Value
use Rattle.model_list.specs.Models.{limits_by_name}
use Rattle.model_list.specs.declared.MotorModelSpec.{MotorModelSpec}
use Rattle.model_query.specs.Query.{queryable, query_accepted, answer}
use Rattle.model_query.specs.declared.Query.{Query}
use Rattle.protocol_frame.specs.Layout.{d, all_fit}
use Rattle.protocol_frame.specs.Command.{command, frame_for}
use Rattle.protocol_setpoint.specs.Setpoint.{mit_cmd, mit_data}
use Rattle.protocol_setpoint.specs.declared.MitSetpoint.{MitSetpoint}
use Rattle.protocol_feedback.specs.Feedback.{feedback_of, decoded}
use Rattle.protocol_address.specs.Address.{names_motor, own_frame}
use Rattle.protocol_received.proofs.Classes.{by_tests}
use Rattle.protocol_received.specs.Received.{class}
use Rattle.protocol_received.specs.declared.FrameClass.{FrameClass}
use Rattle.protocol_received.specs.declared.FrameClass.TheVariants as Class
use Rattle.protocol_motor.specs.Motor.{feedback_fields, feedback_data, feedback_class, unless_register, feedback, register_frame}
use Rattle.protocol_motor.specs.Refused.{Narrow}
use Rattle.protocol_motor.specs.declared.FeedbackFields.{FeedbackFields}
use Rattle.protocol_motor.proofs.Fields.{narrow}
use Rattle.protocol_motor.proofs.Refused.{refused as refusals}
use Rattle.protocol_hold.specs.Mode.{control_mode}
use Rattle.protocol_hold.specs.declared.ControlMode.{ControlMode}
use Rattle.protocol_hold.specs.declared.ControlMode.TheVariants.{Mit, PosVel, Vel, ForcePos}
use Rattle.run_want.specs.Want.{fits}
use Rattle.run_want.specs.declared.Answer.{Answer}
use Rattle.run_want.specs.declared.Answer.TheVariants.{Reading, Send, Slept}
use Rattle.run_machine.specs.Machine.{machine_want}
use Rattle.run_machine.specs.declared.Machine.{Machine}
use Rattle.run_arguments.specs.Arguments.{checked_timeout, get_start, write_by, write_start}
use Rattle.session.specs.Session.{fresh}
use Rattle.session.specs.Start.{with_limits, from_limits, from_model}
use Rattle.session.specs.declared.Head.{Head}
use Rattle.session.specs.declared.Session.{Session}
use Rattle.session_frame.specs.Frame.{take_frame}
use Rattle.session_frame.proofs.Effects as Frame
use Rattle.session_step.specs.Parts.{answer_step}
use Rattle.session_step.specs.declared.AnswerStep.{AnswerStep}
use Rattle.session_answer.specs.Answer.{with_step, answer_run}
use Rattle.session_answer.proofs.Effects.{entry, answer_refused}
use Rattle.session_begin.specs.Begin.{machine_of, start_step, with_opened, begin}
use Rattle.session_begin.proofs.Effects.{start_refused}
use Rattle.session_begin.specs.declared.Start.{Start}
use Rattle.session_begin.specs.declared.Start.TheVariants.{GetRegisterU32, GetRegisterF32, WriteRegisterU32, WriteRegisterF32, RequestFreshState, StoreParameters, EnsureControlMode}
use Rattle.session_call.specs.Step.{step}
use Rattle.session_call.specs.declared.Call.{Call}
use Rattle.law_answers.specs.Answers.{numbered, of_call}
use Rattle.law_answers.specs.Laws.{Laws}
use Rattle.law_answers.specs.TurnedBack as Table
use Rattle.law_answers.specs.TurnedBack.{first, limit_out, register_row, read_only_row, timeout_row, run_rows, of_name, answer_rows}

-- ---- a test that turns back is a row, and what is made if it does not the rows after it

-- the number of a refusal, or 0
abbrev refused : {A : Type 0} → Result A Refusal → ℕ
refused (Ok x) = 0
refused (Err n) = number n

said : {A B : Type 0} (none : B) (values : A → B) (r : Result A Refusal) → (numbered none values r).number ≡ refused r
said none values (Ok x) = refl
said none values (Err n) = refl

number_only : {A B : Type 0} (none : B) (values : A → B) (r : Result A Refusal) → (numbered none values r).number ≢ 0 → (numbered none values r).values ≡ none
number_only none values (Ok x) h = absurd (h refl)
number_only none values (Err n) h = refl

tested : {A : Type 0} (t : Bool) (r : Result A Refusal) (n : Refusal) → refused (cond t r (Err n)) ≡ cond (not t) (number n) (refused r)
tested true r n = refl
tested false r n = refl

tested_then : {A C : Type 0} (t : Bool) (x : A) (n : Refusal) (f : A → Result C Refusal) → refused (and_then (cond t (Ok x) (Err n)) f) ≡ cond (not t) (number n) (refused (f x))
tested_then true x n f = refl
tested_then false x n f = refl

-- one of three tests fails
of_three : (a b c : Bool) → not (a && b && c) ≡ (not a || (not b || not c))
of_three false b c = refl
of_three true false c = refl
of_three true true c = refl

-- ---- limits, motor ids, registers

by_limits : {A : Type 0} (m : Maxima) (f : PvTLimits → Result A Refusal) → refused (and_then (limits_of m) f) ≡ cond (limit_out m) 1 (refused (f (from_maxima m)))
unfolding limits_of
by_limits m f =
    tested_then _ (from_maxima m) Refusal.Limit f
    ∙ ap (λ (b : Bool). cond b 1 (refused (f (from_maxima m)))) (of_three (limit_accepted m.p_max) (limit_accepted m.v_max) (limit_accepted m.t_max))

by_frame : (motor id bits : ℕ) → refused (frame_for motor id bits) ≡ Table.single_command motor
unfolding frame_for
by_frame motor id bits = tested (motor_id_accepted motor) (Ok (command id bits)) Refusal.MotorId

by_mit : (motor : ℕ) (m : Maxima) (s : MitSetpoint) → refused (mit_cmd motor m s) ≡ Table.command_with_limits motor m
unfolding mit_cmd
by_mit motor m s = by_limits m (λ l. frame_for motor motor (mit_data l s)) ∙ ap (λ (k : ℕ). cond (limit_out m) 1 k) (by_frame motor motor (mit_data (from_maxima m) s))

by_start : (motor feedback : ℕ) (m : Maxima) → refused (from_limits motor feedback m) ≡ Table.start_by_limits motor m
unfolding from_limits
by_start motor feedback m =
    by_limits m (with_limits motor feedback)
    ∙ ap (λ (k : ℕ). cond (limit_out m) 1 k) (tested (motor_id_accepted motor) (Ok (fresh motor feedback (from_maxima m))) Refusal.MotorId)

by_decoding : (m : Maxima) (bytes : List ℕ) → refused (decoded m bytes) ≡ Table.decoding m
unfolding decoded
by_decoding m bytes = by_limits m (λ l. Ok (feedback_of l bytes))

by_register : {A : Type 0} (rid : ℕ) (r : Result A Refusal) → refused (cond (known rid) r (Err Refusal.Register)) ≡ cond (not (elem rid registers)) 4 (refused r)
unfolding known
by_register rid r = tested (elem rid registers) r Refusal.Register

-- ---- what a motor sends

-- one of two tests fails
of_two : (a b : Bool) → not (a && b) ≡ (not a || not b)
of_two false b = refl
of_two true b = refl

above : (n most : ℕ) → not (leb n most) ≡ ltb most n
above n most = go (leb n most) (leb-true n most) (leb-false n most)
  where
    go : (b : Bool) → (b ≡ true → n ≤ most) → (b ≡ false → most < n) → not b ≡ ltb most n
    go true f g = sym (le-ltb most n (f refl))
    go false f g = sym (lt-ltb most n (g refl))

by_width : (f : FeedbackFields) → not (all_fit (feedback_fields f)) ≡ Table.too_wide f
unfolding all_fit
by_width f =
    step f.status_code 15 _ _ (step f.can_id 15 _ _ (step f.pos 0xffff _ _ (step f.vel 0xfff _ _ (step f.torq 0xfff _ _ (step f.t_mos 255 _ _ (last f.t_rotor 255))))))
  where
    step : (n most : ℕ) (rest wide : Bool) → not rest ≡ wide → not (leb n most && rest) ≡ (ltb most n || wide)
    step n most rest wide e = of_two (leb n most) rest ∙ (λ i. above n most i || e i)

    last : (n most : ℕ) → not (leb n most && true) ≡ ltb most n
    last n most = ap not (and-true (leb n most)) ∙ above n most

-- what a register's frame comes to, reply or ack alike, and what feedback, by the tests that sort
by_sorting : {A : Type 0} (of : FrameClass → A) (register feedback : A) → of Class.Reply ≡ register → of Class.Ack ≡ register → of Class.Feedback ≡ feedback
    → (d1 d2 d3 : ℕ) → of (class registers d1 d2 d3) ≡ cond (Table.of_register d1 d2 d3) register feedback
unfolding class
by_sorting {A} of register feedback reply ack other d1 d2 d3 = go (leb d1 0x0f) (eqb d2 0x33) (eqb d2 0x55) (elem d3 registers)
  where
    go : (low replies acks known : Bool) → of (by_tests low replies acks known) ≡ cond (low && ((replies || acks) && known)) register feedback
    go false replies acks known = other
    go true true acks true = reply
    go true true true false = other
    go true true false false = other
    go true false true true = ack
    go true false true false = other
    go true false false known = other

by_class : (f : FeedbackFields) → Narrow f → refused (unless_register (feedback_class f) (feedback_data f)) ≡ first (Table.register_like_row f ∷ [])
by_class f narrow = ap (λ (k : FrameClass). refused (unless_register k (feedback_data f))) (refusals.by_codes f narrow) ∙ by_sorting (λ (k : FrameClass). refused (unless_register k (feedback_data f))) 13 0 refl refl refl (f.pos / 256) (f.pos % 256) (f.vel / 16)

by_feedback : (f : FeedbackFields) → refused (feedback f) ≡ Table.feedback_sent f
unfolding feedback
by_feedback f = go (all_fit (feedback_fields f)) refl ∙ ap (λ (b : Bool). cond b 14 (first (Table.register_like_row f ∷ []))) (by_width f)
  where
    go : (b : Bool) → all_fit (feedback_fields f) ≡ b → refused (cond b (unless_register (feedback_class f) (feedback_data f)) (Err Refusal.FieldWidth)) ≡ cond (not b) 14 (first (Table.register_like_row f ∷ []))
    go true e = by_class f ((narrow f).0 e)
    go false e = refl

by_register_sent : (marker id rid bits : ℕ) → refused (register_frame marker id rid bits) ≡ Table.register_sent id rid
unfolding register_frame
by_register_sent marker id rid bits = tested (motor_id_accepted id) _ Refusal.FieldWidth ∙ ap (λ (k : ℕ). cond (not (motor_id_accepted id)) 14 k) (by_register rid _)

-- ---- the model list

first_maxima : List MotorModelSpec → Result Maxima Refusal
first_maxima [] = Err Refusal.Model
first_maxima (spec ∷ rest) = Ok spec.maxima

found : (models : List MotorModelSpec) (name : List ℕ) → limits_by_name models name ≡ first_maxima (of_name models name)
unfolding limits_by_name first_maxima
found [] name = refl
found (spec ∷ rest) name = go (found rest name) (same (spelling spec.model) name)
  where
    go : limits_by_name rest name ≡ first_maxima (of_name rest name) → (b : Bool) → cond b (Ok spec.maxima) (limits_by_name rest name) ≡ first_maxima (cond b (spec ∷ of_name rest name) (of_name rest name))
    go e false = e
    go e true = refl

by_model : (models : List MotorModelSpec) (name : List ℕ) → refused (limits_by_name models name) ≡ Table.model_limits models name
unfolding first_maxima
by_model models name = ap refused (found models name) ∙ go (of_name models name)
  where
    go : (list : List MotorModelSpec) → refused (first_maxima list) ≡ cond (Table.none_of list) 12 0
    go [] = refl
    go (spec ∷ rest) = refl

by_start_named : (motor feedback : ℕ) (models : List MotorModelSpec) (name : List ℕ) → refused (from_model motor feedback models name) ≡ Table.start_by_name motor models name
unfolding from_model first_maxima
by_start_named motor feedback models name = ap (λ (r : Result Maxima Refusal). refused (and_then r (from_limits motor feedback))) (found models name) ∙ go (of_name models name)
  where
    go : (list : List MotorModelSpec) → refused (and_then (first_maxima list) (from_limits motor feedback)) ≡ cond (Table.none_of list) 12 (cond (Table.first_limits_out list) 1 (Table.single_command motor))
    go [] = refl
    go (spec ∷ rest) = by_start motor feedback spec.maxima

by_query : (q : Query) (names : List Name) → refused (answer q names) ≡ Table.query q
unfolding answer query_accepted
by_query q names = tested _ (Ok names) Refusal.Query ∙ ap (λ (b : Bool). cond b 11 0) (of_three (queryable q.p) (queryable q.v) (queryable q.t))

-- ---- starts of runs

by_timeout : {A : Type 0} (timeout : Duration) (f : Duration → A) → refused (and_then (checked_timeout timeout) (λ t. Ok (f t))) ≡ first (timeout_row timeout ∷ [])
by_timeout timeout f = tested_then (timeout_accepted timeout) timeout Refusal.Timeout (λ t. Ok (f t))

by_read : (type : RegisterDataType) (rid : ℕ) (timeout : Duration) → refused (get_start type rid timeout) ≡ first (register_row rid ∷ timeout_row timeout ∷ [])
by_read type rid timeout = by_register rid _ ∙ ap (λ (k : ℕ). cond (not (elem rid registers)) 4 k) (by_timeout timeout _)

by_write : (rid : ℕ) (v : RegisterValue) → refused (write_start rid v) ≡ first (register_row rid ∷ read_only_row rid ∷ (not (of_type v (data_type_of rid)), 6) ∷ [])
unfolding known access_of info_of
by_write rid v = go (elem rid registers) (elem rid writable)
  where
    go : (k w : Bool) → refused (write_by (cond k (Some (record { access = cond w ReadWrite ReadOnly; data_type = data_type_of rid })) None) rid v) ≡ cond (not k) 4 (cond (not w) 5 (cond (not (of_type v (data_type_of rid))) 6 0))
    go false w = refl
    go true false = refl
    go true true = tested (of_type v (data_type_of rid)) _ Refusal.ValueType

-- a value and the register are of one type
type_of_whole : (rid n : ℕ) → of_type (Value.UInt32 n) (data_type_of rid) ≡ elem rid whole_number
unfolding data_type_of of_type type_of
type_of_whole rid n = go (elem rid whole_number)
  where
    go : (b : Bool) → of_type (Value.UInt32 n) (cond b UInt32 Floating) ≡ b
    go false = refl
    go true = refl

type_of_float : (rid bits : ℕ) → not (of_type (value_of Floating bits) (data_type_of rid)) ≡ elem rid whole_number
unfolding data_type_of of_type type_of value_of
type_of_float rid bits = go (elem rid whole_number) (nan_bits binary32 bits)
  where
    go : (b c : Bool) → not (of_type (cond c (Value.Nan (record { 0 = bits })) (Value.Float (of_bits binary32 bits))) (cond b UInt32 Floating)) ≡ b
    go false false = refl
    go false true = refl
    go true false = refl
    go true true = refl

by_mode : {A : Type 0} (mode : ℕ) (f : ControlMode → Result A Refusal) (k : ℕ) → ((m : ControlMode) → refused (f m) ≡ k) → refused (and_then (control_mode mode) f) ≡ cond (not (elem mode (1 to 4))) 10 k
unfolding elem ◌to◌ count_from
by_mode mode f k e = go (eqb mode 1) (eqb mode 2) (eqb mode 3) (eqb mode 4)
  where
    go : (a b c d : Bool) → refused (and_then (cond a (Ok Mit) (cond b (Ok PosVel) (cond c (Ok Vel) (cond d (Ok ForcePos) (Err Refusal.Mode))))) f) ≡ cond (not (a || (b || (c || (d || false))))) 10 k
    go true b c d = e Mit
    go false true c d = e PosVel
    go false false true d = e Vel
    go false false false true = e ForcePos
    go false false false false = refl

by_arguments : (start : Start) → refused (machine_of start) ≡ first (run_rows None start)
by_arguments (GetRegisterU32 rid timeout) = by_read UInt32 rid timeout
by_arguments (GetRegisterF32 rid timeout) = by_read Floating rid timeout
by_arguments (WriteRegisterU32 rid n) = by_write rid (Value.UInt32 n) ∙ ap (λ (b : Bool). first (register_row rid ∷ read_only_row rid ∷ (not b, 6) ∷ [])) (type_of_whole rid n)
by_arguments (WriteRegisterF32 rid bits) = by_write rid (value_of Floating bits.0) ∙ ap (λ (b : Bool). first (register_row rid ∷ read_only_row rid ∷ (b, 6) ∷ [])) (type_of_float rid bits.0)
by_arguments (RequestFreshState timeout) = by_timeout timeout _
by_arguments StoreParameters = refl
by_arguments (EnsureControlMode mode timeout) = by_mode mode _ (first (timeout_row timeout ∷ [])) (λ m. by_timeout timeout _)

by_run : (s : Session) (start : Start) → refused (begin s start).told ≡ Table.run s start
by_run s start = opened (start_step s.run start) ∙ go s.run
  where
    opened : (r : Result Machine Refusal) → refused (with_opened s r).told ≡ refused r
    opened (Ok machine) = refl
    opened (Err n) = refl

    open_first : (machine : Machine) (b : Start) → 8 ≡ first (run_rows (Some machine) b)
    open_first machine (GetRegisterU32 rid timeout) = refl
    open_first machine (GetRegisterF32 rid timeout) = refl
    open_first machine (WriteRegisterU32 rid value) = refl
    open_first machine (WriteRegisterF32 rid value) = refl
    open_first machine (RequestFreshState timeout) = refl
    open_first machine StoreParameters = refl
    open_first machine (EnsureControlMode mode timeout) = refl

    go : (run : Option Machine) → refused (start_step run start) ≡ first (run_rows run start)
    go None = by_arguments start
    go (Some machine) = open_first machine start

-- ---- answers and frames

by_answer : (s : Session) (a : Answer) → refused (answer_run s a).told ≡ Table.answer s a
unfolding answer_run
by_answer s a = stepped (answer_step s.head (entry s) s.run a) ∙ go s.run a
  where
    stepped : (r : Result AnswerStep Refusal) → refused (with_step s r).told ≡ refused r
    stepped (Ok step) = refl
    stepped (Err n) = refl

    wanted : (m : Machine) (b : Answer) (r : Result AnswerStep Refusal) → refused (cond (fits (machine_want m) b) r (Err Refusal.NotWanted)) ≡ cond (not (fits (machine_want m) b)) 9 (refused r)
    wanted m b r = tested (fits (machine_want m) b) r Refusal.NotWanted

    go : (run : Option Machine) (b : Answer) → refused (answer_step s.head (entry s) run b) ≡ first (answer_rows run s.head.last b)
    go None (Reading t) = refl
    go None (Send sent) = refl
    go None Slept = refl
    go (Some m) (Reading t) = wanted m (Reading t) _ ∙ ap (λ (k : ℕ). cond (not (fits (machine_want m) (Reading t))) 9 k) (tested (reading_accepted s.head.last t) _ Refusal.Reading)
    go (Some m) (Send sent) = wanted m (Send sent) _
    go (Some m) Slept = wanted m Slept _

-- this motor's frame fails none of the tests
by_own : (h : Head) (f : CanFrame) → not (own_frame h.motor_id h.feedback_id f) ≡ Table.foreign h f
unfolding own_frame
by_own h f = whole f.is_extended (eqb f.dlc 8) (eqb f.arbitration_id h.feedback_id) _ _ (by_sorting (λ (k : FrameClass). not (names_motor h.motor_id k f.«data»)) _ _ (of_two _ _) (of_two _ _) refl (d f.«data» 1) (d f.«data» 2) (d f.«data» 3))
  where
    whole : (extended length id named other : Bool) → not named ≡ other → not ((not extended && (length && id)) && named) ≡ (extended || (not length || (not id || other)))
    whole true length id named other e = refl
    whole false false id named other e = refl
    whole false true false named other e = refl
    whole false true true named other e = e

by_frame_taken : (s : Session) (f : CanFrame) (t : Instant) → refused (take_frame s f t).told ≡ Table.frame_taken s f t
unfolding take_frame
by_frame_taken s f t =
    tested (reading_accepted s.head.last t) _ Refusal.Reading
    ∙ ap (λ (k : ℕ). cond (not (reading_accepted s.head.last t)) 3 k) (tested (own_frame s.head.motor_id s.head.feedback_id f) (Ok tt) Refusal.ForeignFrame ∙ ap (λ (b : Bool). cond b 15 0) (by_own s.head f))

-- ---- any call

calls : (s : Session) (c : Call) → (of_call (step s c).told).number ≡ Table.turned_back s c
unfolding step
calls s (Call.Start start) = said _ _ (begin s start).told ∙ by_run s start
calls s (Call.Answer a) = said _ _ (answer_run s a).told ∙ by_answer s a
calls s (Call.Frame f t) = said _ _ (take_frame s f t).told ∙ by_frame_taken s f t
calls s (Call.Patch status mos rotor) = refl

-- a refusal is one, and leaves the session
by_refusal : {A P : Type 0} (r : Result A Refusal) → refused r ≢ 0 → ((n : Refusal) → r ≡ Err n → P) → P
by_refusal (Ok x) h f = absurd (h refl)
by_refusal (Err n) h f = f n refl

as_before : (s : Session) (c : Call) → Table.turned_back s c ≢ 0 → (step s c).session ≡ s
unfolding step
as_before s (Call.Start start) h = by_refusal (begin s start).told (λ e. h (sym (by_run s start) ∙ e)) (start_refused s start)
as_before s (Call.Answer a) h = by_refusal (answer_run s a).told (λ e. h (sym (by_answer s a) ∙ e)) (answer_refused s a)
as_before s (Call.Frame f t) h = by_refusal (take_frame s f t).told (λ e. h (sym (by_frame_taken s f t) ∙ e)) (Frame.turned_back s f t)
as_before s (Call.Patch status mos rotor) h = absurd (h refl)

pub laws : Laws
laws = record {
  number_only = number_only;
  calls = calls;
  session_as_before = as_before;
  by_limits = λ motor feedback m. said _ _ _ ∙ by_start motor feedback m;
  by_name = λ motor feedback models name. said _ _ _ ∙ by_start_named motor feedback models name;
  mit = λ motor m s. said _ _ _ ∙ by_mit motor m s;
  pos_vel = λ motor pos vlim. said _ _ _ ∙ by_frame motor _ _;
  vel = λ motor vel. said _ _ _ ∙ by_frame motor _ _;
  force_pos = λ motor pos vlim ratio. said _ _ _ ∙ by_frame motor _ _;
  register_read = λ motor rid. said _ _ _ ∙ by_frame motor _ _;
  register_write = λ motor rid bits. said _ _ _ ∙ by_frame motor _ _;
  store_params = λ motor. said _ _ _ ∙ by_frame motor _ _;
  feedback_request = λ motor. said _ _ _ ∙ by_frame motor _ _;
  disable = λ motor. said _ _ _ ∙ by_frame motor _ _;
  set_zero = λ motor. said _ _ _ ∙ by_frame motor _ _;
  clear_error = λ motor. said _ _ _ ∙ by_frame motor _ _;
  feedbacks = λ f. said _ _ _ ∙ by_feedback f;
  replies = λ id rid bits. said _ _ _ ∙ by_register_sent 0x33 id rid bits;
  acks = λ id rid bits. said _ _ _ ∙ by_register_sent 0x55 id rid bits;
  decodings = λ m bytes. said _ _ _ ∙ by_decoding m bytes;
  cached_entries = λ slots rid. said _ _ _ ∙ by_register rid _;
  limits_of_models = λ models name. said _ _ _ ∙ by_model models name;
  match_models = λ list q tolerance. said _ _ _ ∙ by_query q _;
  suggest_models = λ list q count. said _ _ _ ∙ by_query q _;
}
