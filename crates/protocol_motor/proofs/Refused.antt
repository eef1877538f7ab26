-- Just what is refused. Assumes nothing.
use Rattle.std.specs.Prelude.{◌↔◌, ◌≢◌, Result, Ok, Err}
use Prim.Native.Nat.{ℕ, ◌/◌, ◌%◌, ◌≤◌, ◌<◌}
use mathlib.Core.Path.{◌≡◌, refl, sym, ap, ◌∙◌}
use mathlib.Core.Bool.{Bool, true, false, cond, true≢false}
use borrow.Author.Tests.{leb-true, leb-false, le-leb, lt-leb}
use Rattle.motor_core.proofs.Turned.{clash, same_ok}
use Rattle.motor_core.specs.Bus.{motor_id_accepted}
use Rattle.motor_core.specs.declared.error.Refusal.{Refusal}
use Rattle.motor_core.specs.declared.error.Refusal.TheVariants.{FieldWidth, Register, RegisterFrame}
use Rattle.registers.specs.Registers.{registers, known}
use Rattle.protocol_frame.specs.Layout.{all_fit, data_bytes}
use Rattle.protocol_received.specs.Received.{class}
use Rattle.protocol_received.specs.declared.FrameClass.{FrameClass}
use Rattle.protocol_received.specs.declared.FrameClass.TheVariants.{Reply, Ack, Feedback}
use Rattle.protocol_motor.specs.Motor.{feedback_fields, feedback_data, feedback_class, unless_register, feedback, register_frame}
use Rattle.protocol_motor.specs.Refused.{Narrow, Refused}
use Rattle.protocol_motor.specs.declared.FeedbackFields.{FeedbackFields}
use Rattle.protocol_motor.proofs.Fields.{narrow, feedback_bytes}

-- ---- a feedback, by whether it fits and by its class
by_class : Bool → FrameClass → ℕ → Result ℕ Refusal
by_class fits k n = cond fits (unless_register k n) (Err FieldWidth)

too_wide : (fits : Bool) (k : FrameClass) (n : ℕ) → (by_class fits k n ≡ Err FieldWidth) ↔ (fits ≡ false)
unfolding by_class
too_wide false k n = (λ e. refl, λ e. refl)
too_wide true Feedback n = (λ e. absurd (clash (cc)), λ e. absurd (true≢false e))
too_wide true Reply n = (λ e. absurd (clash (cc)), λ e. absurd (true≢false e))
too_wide true Ack n = (λ e. absurd (clash (cc)), λ e. absurd (true≢false e))

register_like : (fits : Bool) (k : FrameClass) (n : ℕ) → (by_class fits k n ≡ Err RegisterFrame) ↔ ((fits ≡ true) × (k ≢ Feedback))
unfolding by_class
register_like false k n = (λ e. absurd (clash (cc)), λ e. absurd (true≢false (sym e.0)))
register_like true Feedback n = (λ e. absurd (clash (cc)), λ e. absurd (e.1 refl))
register_like true Reply n = (λ e. (refl, λ h. clash (cc)), λ e. refl)
register_like true Ack n = (λ e. (refl, λ h. clash (cc)), λ e. refl)

written : (fits : Bool) (k : FrameClass) (m n : ℕ) → (by_class fits k m ≡ Ok n) ↔ ((fits ≡ true) × (k ≡ Feedback) × (m ≡ n))
unfolding by_class
written false k m n = (λ e. absurd (clash (cc)), λ e. absurd (true≢false (sym e.0)))
written true Feedback m n = (λ e. (refl, refl, same_ok m n FieldWidth e), λ e. ap Ok e.2)
written true Reply m n = (λ e. absurd (clash (cc)), λ e. let k = e.1 in absurd (clash (cc)))
written true Ack m n = (λ e. absurd (clash (cc)), λ e. let k = e.1 in absurd (clash (cc)))

-- ---- a register's frame, by whether its id is accepted and its register known
by_tests : Bool → Bool → ℕ → Result ℕ Refusal
by_tests accepted listed n = cond accepted (cond listed (Ok n) (Err Register)) (Err FieldWidth)

id_refused : (accepted listed : Bool) (n : ℕ) → (by_tests accepted listed n ≡ Err FieldWidth) ↔ (accepted ≡ false)
unfolding by_tests
id_refused false listed n = (λ e. refl, λ e. refl)
id_refused true false n = (λ e. absurd (clash (cc)), λ e. absurd (true≢false e))
id_refused true true n = (λ e. absurd (clash (cc)), λ e. absurd (true≢false e))

register_refused : (accepted listed : Bool) (n : ℕ) → (by_tests accepted listed n ≡ Err Register) ↔ ((accepted ≡ true) × (listed ≡ false))
unfolding by_tests
register_refused false listed n = (λ e. absurd (clash (cc)), λ e. absurd (true≢false (sym e.0)))
register_refused true false n = (λ e. (refl, refl), λ e. refl)
register_refused true true n = (λ e. absurd (clash (cc)), λ e. absurd (true≢false e.1))

register_made : (accepted listed : Bool) (m n : ℕ) → (by_tests accepted listed m ≡ Ok n) ↔ ((accepted ≡ true) × (listed ≡ true) × (m ≡ n))
unfolding by_tests
register_made false listed m n = (λ e. absurd (clash (cc)), λ e. absurd (true≢false (sym e.0)))
register_made true false m n = (λ e. absurd (clash (cc)), λ e. absurd (true≢false (sym e.1)))
register_made true true m n = (λ e. (refl, refl, same_ok m n FieldWidth e), λ e. ap Ok e.2)

accepted : (id : ℕ) → (motor_id_accepted id ≡ true) ↔ (id ≤ 0x4ff)
accepted id = (leb-true id 0x4ff, le-leb id 0x4ff)

not_accepted : (id : ℕ) → (motor_id_accepted id ≡ false) ↔ (0x4ff < id)
not_accepted id = (leb-false id 0x4ff, lt-leb id 0x4ff)

-- a first part, of two or of three, by what is the same
first_by : {A B C D : Type 0} → A ↔ (B × C) → B ↔ D → A ↔ (D × C)
first_by f g = (λ a. (g.0 (f.0 a).0, (f.0 a).1), λ e. f.1 (g.1 e.0, e.1))

first_of_three_by : {A B C D E : Type 0} → A ↔ (B × C × E) → B ↔ D → A ↔ (D × C × E)
first_of_three_by f g = (λ a. (g.0 (f.0 a).0, (f.0 a).1, (f.0 a).2), λ e. f.1 (g.1 e.0, e.1, e.2))

then : {A B C : Type 0} → A ↔ B → B ↔ C → A ↔ C
then f g = (λ a. g.0 (f.0 a), λ c. f.1 (g.1 c))

not_so : {A : Type 0} (test : Bool) → (test ≡ true) ↔ A → (test ≡ false) ↔ (A → ⊥)
not_so test f = (λ e a. true≢false (sym (f.1 a) ∙ e), go test f)
  where
    go : {A : Type 0} (b : Bool) → (b ≡ true) ↔ A → (A → ⊥) → b ≡ false
    go false g h = refl
    go true g h = absurd (h (g.0 refl))

by_codes : (f : FeedbackFields) → Narrow f → feedback_class f ≡ class registers (f.pos / 256) (f.pos % 256) (f.vel / 16)
unfolding data_bytes
by_codes f h = let b = feedback_bytes f h in λ i. class registers (b.d1 i) (b.d2 i) (b.d3 i)

pub refused : Refused
unfolding feedback register_frame by_class by_tests
refused = record {
  feedback_14 = λ f. then (too_wide (all_fit (feedback_fields f)) (feedback_class f) (feedback_data f)) (not_so (all_fit (feedback_fields f)) (narrow f));
  feedback_13 = λ f. first_by (register_like (all_fit (feedback_fields f)) (feedback_class f) (feedback_data f)) (narrow f);
  feedback_written = λ f n. first_of_three_by (written (all_fit (feedback_fields f)) (feedback_class f) (feedback_data f) n) (narrow f);
  by_codes = by_codes;
  register_14 = λ marker id rid bits. then (id_refused (motor_id_accepted id) (known rid) _) (not_accepted id);
  register_4 = λ marker id rid bits. first_by (register_refused (motor_id_accepted id) (known rid) _) (accepted id);
  register_written = λ marker id rid bits n. first_of_three_by (register_made (motor_id_accepted id) (known rid) _ n) (accepted id);
}
