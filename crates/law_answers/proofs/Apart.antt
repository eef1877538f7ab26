-- Answers that say the same are the same: from what each says it is read back. Assumes nothing.
use Prim.Native.Nat.{ℕ}
use native.Mathlib.Omega.{arith}
use mathlib.Core.Path.{◌≡◌, refl, sym, ap, ◌∙◌}
use mathlib.Core.Bool.{Bool, true, false}
use mathlib.Core.List.{[], ◌∷◌}
use lib.Ieee.{Float, nan}
use Rattle.std.specs.Prelude.{drop, eqb, get_or, Some, None, Ok, Err}
use Rattle.motor_core.specs.Error.{number}
use Rattle.motor_core.proofs.Turned.{clash}
use Rattle.motor_core.specs.declared.error.Refusal.{Refusal}
use Rattle.motor_core.specs.declared.error.Refusal.TheVariants.{Limit, MotorId, Reading, Register, ReadOnly, ValueType, Timeout, RunOpen, NotWanted, Mode, Query, Model, RegisterFrame, FieldWidth, ForeignFrame}
use Rattle.motor_core.specs.declared.model.Maxima.{Maxima}
use Rattle.registers.specs.declared.RegisterValue.{RegisterValue}
use Rattle.registers.specs.declared.RegisterValue.TheVariants as Value
use Rattle.protocol_frame.specs.declared.Command.{Command}
use Rattle.protocol_status.specs.declared.StatusName.{StatusName}
use Rattle.protocol_status.specs.declared.StatusName.TheVariants.{Disabled, Enabled, OverVoltage, UnderVoltage, OverCurrent, MosOverTemp, RotorOverTemp, LostComm, Overload, Unknown}
use Rattle.protocol_feedback.specs.declared.SensorFeedback.{SensorFeedback}
use Rattle.state_feedback.specs.declared.MotorFeedbackState.{MotorFeedbackState}
use Rattle.state_cache.specs.declared.Entry.{Entry}
use Rattle.state_cache.specs.declared.Entry.TheVariants.{Empty, Held}
use Rattle.run_want.specs.declared.Want.TheVariants.{Clock, Send, Sleep}
use Rattle.run_want.specs.declared.Failure.{Failure}
use Rattle.run_machine.specs.Machine.{RunResult}
use Rattle.run_machine.specs.declared.Outcome.{Outcome}
use Rattle.run_machine.specs.declared.Outcome.TheVariants.{Done, Value as Got, State}
use Rattle.session_step.specs.Parts.{Wanted}
use Rattle.session_step.specs.declared.Told.{Told}
use Rattle.session.specs.declared.Session.{Session}
use Rattle.session_call.specs.Step.{step}
use Rattle.session_call.specs.declared.Call.{Call}
use Rattle.session_call.specs.declared.Returned.{Returned}
use Rattle.law_answers.specs.Answers.{Item, whole, real, Items, Numbered, numbered, value_items, entry_items, name_order, feedback_items, state_items, command_items, data_items, limit_items, want_items, failure_items, result_items, told_items, of_run, of_frame, of_patch, of_call, kind, kind_of, with_kind}
use Rattle.law_answers.specs.Apart.{Distinct, Apart}

-- what can be read back is distinct
read_back : {A B : Type 0} (f : A → B) (back : B → A) → ((a : A) → back (f a) ≡ a) → Distinct f
read_back f back same a b e = sym (same a) ∙ ap back e ∙ same b

-- ---- numbers

refusal : ℕ → Refusal
refusal n = get_or (Limit ∷ Limit ∷ MotorId ∷ Reading ∷ Register ∷ ReadOnly ∷ ValueType ∷ Timeout ∷ RunOpen ∷ NotWanted ∷ Mode ∷ Query ∷ Model ∷ RegisterFrame ∷ FieldWidth ∷ ForeignFrame ∷ []) n Limit

refusal_back : (r : Refusal) → refusal (number r) ≡ r
unfolding refusal
refusal_back Limit = refl
refusal_back MotorId = refl
refusal_back Reading = refl
refusal_back Register = refl
refusal_back ReadOnly = refl
refusal_back ValueType = refl
refusal_back Timeout = refl
refusal_back RunOpen = refl
refusal_back NotWanted = refl
refusal_back Mode = refl
refusal_back Query = refl
refusal_back Model = refl
refusal_back RegisterFrame = refl
refusal_back FieldWidth = refl
refusal_back ForeignFrame = refl

-- 0 is read back as a refusal whose number is 1
no_zero : (r : Refusal) → number r ≡ 0 → ⊥
unfolding refusal
no_zero r e = clash (sym e ∙ sym (ap number (refusal_back r)) ∙ ap (λ (n : ℕ). number (refusal n)) e)

status : ℕ → StatusName
status n = get_or (Disabled ∷ Enabled ∷ OverVoltage ∷ UnderVoltage ∷ OverCurrent ∷ MosOverTemp ∷ RotorOverTemp ∷ LostComm ∷ Overload ∷ []) n Unknown

status_back : (s : StatusName) → status (name_order s) ≡ s
unfolding status
status_back Disabled = refl
status_back Enabled = refl
status_back OverVoltage = refl
status_back UnderVoltage = refl
status_back OverCurrent = refl
status_back MosOverTemp = refl
status_back RotorOverTemp = refl
status_back LostComm = refl
status_back Overload = refl
status_back Unknown = refl

-- ---- an answer that may be a refusal

module _ {A B : Type 0} (none : B) (values : A → B) (distinct : Distinct values) where
  same_number : {x y : Numbered B} → x ≡ y → x.number ≡ y.number
  same_number e = ap (λ (n : Numbered B). n.number) e

  refusable : Distinct (numbered none values)
  refusable (Ok x) (Ok y) e = ap Ok (distinct x y (ap (λ (n : Numbered B). n.values) e))
  refusable (Ok x) (Err n) e = absurd (no_zero n (sym (same_number e)))
  refusable (Err n) (Ok y) e = absurd (no_zero n (same_number e))
  refusable (Err n) (Err k) e = ap Err (read_back number refusal refusal_back n k (same_number e))

-- ---- values, read back from the items

abbrev nat_in : Item → ℕ
nat_in (whole n) = n
nat_in (real x) = 0

abbrev float_in : Item → Float
float_in (whole n) = nan
float_in (real x) = x

abbrev at : Items → ℕ → ℕ
at items k = nat_in (get_or items k (whole 0))

abbrev float_at : Items → ℕ → Float
float_at items k = float_in (get_or items k (whole 0))

value : Items → RegisterValue
value items = get_or (Value.Float (float_at items 1) ∷ Value.Nan (record { 0 = at items 1 }) ∷ []) (at items 0) (Value.UInt32 (at items 1))

value_back : (v : RegisterValue) → value (value_items v) ≡ v
unfolding value
value_back (Value.Float x) = refl
value_back (Value.Nan bits) = refl
value_back (Value.UInt32 n) = refl

entry : Items → Entry
entry [] = Empty
entry (item ∷ items) = Held (value (item ∷ items)) (record { 0 = at items 1 })

entry_back : (e : Entry) → entry (entry_items e) ≡ e
unfolding entry value
entry_back Empty = refl
entry_back (Held (Value.Float x) stamp) = refl
entry_back (Held (Value.Nan bits) stamp) = refl
entry_back (Held (Value.UInt32 n) stamp) = refl

state : Items → MotorFeedbackState
state items = record {
  can_id = at items 0;
  arbitration_id = at items 1;
  status_code = at items 2;
  status_name = status (at items 3);
  pos = float_at items 4;
  vel = float_at items 5;
  torq = float_at items 6;
  t_mos = float_at items 7;
  t_rotor = float_at items 8;
}

state_back : (s : MotorFeedbackState) → state (state_items s) ≡ s
unfolding state
state_back s = ap (λ (name : StatusName). record s { status_name = name }) (status_back s.status_name)

feedback : Items → SensorFeedback
feedback items = record {
  can_id = at items 0;
  status_code = at items 1;
  pos = float_at items 2;
  vel = float_at items 3;
  torq = float_at items 4;
  t_mos = float_at items 5;
  t_rotor = float_at items 6;
}

feedback_back : (f : SensorFeedback) → feedback (feedback_items f) ≡ f
unfolding feedback
feedback_back f = refl

command : Items → Command
command items = record { arbitration_id = at items 0; «data» = at items 1 }

command_back : (c : Command) → command (command_items c) ≡ c
unfolding command
command_back c = refl

maxima : Items → Maxima
maxima items = record { p_max = float_at items 0; v_max = float_at items 1; t_max = float_at items 2 }

maxima_back : (m : Maxima) → maxima (limit_items m) ≡ m
unfolding maxima
maxima_back m = refl

-- ---- the runs

want : Items → Wanted
want items = get_or (Clock ∷ Send (command (drop 1 items)) ∷ []) (at items 0) (Sleep (record { 0 = at items 1 }))

want_back : (w : Wanted) → want (want_items w) ≡ w
unfolding want command
want_back Clock = refl
want_back (Send c) = refl
want_back (Sleep length) = refl

-- a result that is done: with nothing, with the two items of a value, or with a state
done : Items → Outcome
done [] = Done
done (item ∷ []) = Done
done (item ∷ next ∷ []) = Got (value (item ∷ next ∷ []))
done (item ∷ next ∷ other ∷ items) = State (Some (state (item ∷ next ∷ other ∷ items)))

result : Items → RunResult
result items =
    get_or
    (Ok (done (drop 1 items))
    ∷ Ok (State None)
    ∷ Err Failure.Timeout
    ∷ Err (Failure.Mismatch (value (drop 1 items)))
    ∷ Err Failure.WrongType
    ∷ [])
    (at items 0)
    (Err Failure.SendFailed)

result_back : (r : RunResult) → result (result_items r) ≡ r
unfolding result done value
result_back (Ok Done) = refl
result_back (Ok (Got (Value.Float x))) = refl
result_back (Ok (Got (Value.Nan bits))) = refl
result_back (Ok (Got (Value.UInt32 n))) = refl
result_back (Ok (State (Some s))) = ap (λ (s : MotorFeedbackState). Ok (State (Some s))) (state_back s)
result_back (Ok (State None)) = refl
result_back (Err Failure.Timeout) = refl
result_back (Err (Failure.Mismatch v)) = ap (λ (v : RegisterValue). Err (Failure.Mismatch v)) (value_back v)
result_back (Err Failure.WrongType) = refl
result_back (Err Failure.SendFailed) = refl

failures : Distinct failure_items
failures a b e = inside (read_back result_items result result_back (Err a) (Err b) e)
  where
    inside : ◌≡◌ {A = RunResult} (Err a) (Err b) → a ≡ b
    inside h = cc

told : Items → Told
told items = get_or (Told.Want (want (drop 1 items)) ∷ []) (at items 0) (Told.Result (result (drop 1 items)))

told_back : (t : Told) → told (told_items t) ≡ t
unfolding told
told_back (Told.Want w) = ap Told.Want (want_back w)
told_back (Told.Result r) = ap Told.Result (result_back r)

-- ---- what each call says

found : Numbered Items → Bool
found said = eqb (at said.values 0) 1

found_back : (b : Bool) → found (of_patch b) ≡ b
unfolding found
found_back false = refl
found_back true = refl

some : {A : Type 0} → Distinct {A = A} Some
some a b e = cc

runs : Distinct of_run
runs = refusable [] told_items (read_back told_items told told_back)

frames : Distinct of_frame
frames = refusable [] (λ taken. []) (λ a b e. refl)

calls : Distinct with_kind
calls a b e = go a b (ap (λ (p : ℕ × Numbered Items). p.0) e) (ap (λ (p : ℕ × Numbered Items). p.1) e)
  where
    go : (a b : Returned) → kind a ≡ kind b → of_call a ≡ of_call b → a ≡ b
    go (Returned.Run a) (Returned.Run b) k e = ap Returned.Run (runs a b e)
    go (Returned.Run a) (Returned.Frame b) k e = absurd (omega arith)
    go (Returned.Run a) (Returned.Patch b) k e = absurd (omega arith)
    go (Returned.Frame a) (Returned.Run b) k e = absurd (omega arith)
    go (Returned.Frame a) (Returned.Frame b) k e = ap Returned.Frame (frames a b e)
    go (Returned.Frame a) (Returned.Patch b) k e = absurd (omega arith)
    go (Returned.Patch a) (Returned.Run b) k e = absurd (omega arith)
    go (Returned.Patch a) (Returned.Frame b) k e = absurd (omega arith)
    go (Returned.Patch a) (Returned.Patch b) k e = ap Returned.Patch (read_back of_patch found found_back a b e)

kinds : (s : Session) (c : Call) → kind (step s c).told ≡ kind_of c
unfolding step
kinds s (Call.Start start) = refl
kinds s (Call.Answer answer) = refl
kinds s (Call.Frame frame reading) = refl
kinds s (Call.Patch status mos rotor) = refl

pub apart : Apart
apart = record {
  refusals = read_back number refusal refusal_back;
  a_refusal_has_a_number = no_zero;
  refusable = refusable;
  values = read_back value_items value value_back;
  entries = read_back entry_items entry entry_back;
  status_names = read_back name_order status status_back;
  feedbacks = read_back feedback_items feedback feedback_back;
  states = read_back state_items state state_back;
  commands = read_back command_items command command_back;
  limits = read_back limit_items maxima maxima_back;
  wants = read_back want_items want want_back;
  failures = failures;
  results = read_back result_items result result_back;
  told = read_back told_items told told_back;
  starts = refusable None Some some;
  runs = runs;
  frames = frames;
  patches = read_back of_patch found found_back;
  single_commands = refusable [] command_items (read_back command_items command command_back);
  sent_by_a_motor = refusable [] data_items (read_back data_items (λ items. at items 0) (λ n. refl));
  decodings = refusable [] feedback_items (read_back feedback_items feedback feedback_back);
  cached = refusable [] entry_items (read_back entry_items entry entry_back);
  models = refusable [] limit_items (read_back limit_items maxima maxima_back);
  queries = refusable None Some some;
  calls = calls;
  kinds = kinds;
}
