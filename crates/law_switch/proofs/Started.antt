-- What an accepted start of a switch opens. Assumes nothing.
use Rattle.std.specs.Prelude.{Result, Ok, Err}
use Rattle.motor_core.proofs.Turned.{clash}
use Rattle.motor_core.specs.AndThen.{and_then}
use Rattle.motor_core.specs.declared.error.Refusal.{Refusal}
use Rattle.motor_core.specs.declared.error.Refusal.TheVariants.{Mode, Timeout}
use Prim.Native.Nat.{ℕ}
use mathlib.Core.Path.{◌≡◌, refl, sym, ap, ◌∙◌}
use mathlib.Core.Bool.{Bool, true, false, cond}
use borrow.Author.Tests.{eqb-true}
use lib.Dec.{eqb}
use Rattle.time.specs.Time.{timeout_accepted}
use Rattle.time.specs.declared.Duration.{Duration}
use Rattle.protocol_hold.specs.Mode.{control_mode, mode_number}
use Rattle.protocol_hold.specs.declared.ControlMode.{ControlMode}
use Rattle.protocol_hold.specs.declared.ControlMode.TheVariants.{Mit, PosVel, Vel, ForcePos}
use Rattle.switch_stage.specs.declared.Switch.TheVariants.{Starting}
use Rattle.run_machine.specs.declared.Machine.{Machine}
use Rattle.run_machine.specs.declared.Machine.TheVariants.{EnsureControlMode}
use Rattle.run_arguments.specs.Arguments.{checked_timeout, mode_start}

-- the mode that has a number
numbered : (n : ℕ) (mode : ControlMode) → control_mode n ≡ Ok mode → mode_number mode ≡ n
numbered n mode e = one (eqb n 1) refl e
  where
    the_same : (m : ControlMode) → ◌≡◌ {A = Result ControlMode Refusal} (Ok m) (Ok mode) → m ≡ mode
    the_same m h = cc

    same : (m : ControlMode) (k : ℕ) → mode_number m ≡ k → n ≡ k → ◌≡◌ {A = Result ControlMode Refusal} (Ok m) (Ok mode) → mode_number mode ≡ n
    same m k is at h = sym (ap mode_number (the_same m h)) ∙ is ∙ sym at

    four : (b : Bool) → eqb n 4 ≡ b → ◌≡◌ {A = Result ControlMode Refusal} (cond b (Ok ForcePos) (Err Mode)) (Ok mode) → mode_number mode ≡ n
    four true t e = same ForcePos 4 refl (eqb-true n 4 t) e
    four false t e = absurd (clash (cc))

    three : (b : Bool) → eqb n 3 ≡ b → ◌≡◌ {A = Result ControlMode Refusal} (cond b (Ok Vel) (cond (eqb n 4) (Ok ForcePos) (Err Mode))) (Ok mode) → mode_number mode ≡ n
    three true t e = same Vel 3 refl (eqb-true n 3 t) e
    three false t e = four (eqb n 4) refl e

    two : (b : Bool) → eqb n 2 ≡ b → ◌≡◌ {A = Result ControlMode Refusal} (cond b (Ok PosVel) (cond (eqb n 3) (Ok Vel) (cond (eqb n 4) (Ok ForcePos) (Err Mode)))) (Ok mode) → mode_number mode ≡ n
    two true t e = same PosVel 2 refl (eqb-true n 2 t) e
    two false t e = three (eqb n 3) refl e

    one : (b : Bool) → eqb n 1 ≡ b → ◌≡◌ {A = Result ControlMode Refusal} (cond b (Ok Mit) (cond (eqb n 2) (Ok PosVel) (cond (eqb n 3) (Ok Vel) (cond (eqb n 4) (Ok ForcePos) (Err Mode))))) (Ok mode) → mode_number mode ≡ n
    one true t e = same Mit 1 refl (eqb-true n 1 t) e
    one false t e = two (eqb n 2) refl e

-- it opens a switch to the mode that has the number
pub record Switching (n : ℕ) (timeout : Duration) (m : Machine) : Type 0 where
  pub mode : ControlMode
  pub number : mode_number mode ≡ n
  pub opens : EnsureControlMode mode timeout Starting ≡ m

pub switching : (n : ℕ) (timeout : Duration) (m : Machine) → mode_start n timeout ≡ Ok m → Switching n timeout m
switching n timeout m e = check (control_mode n) refl e
  where
    the_same : (x : Machine) → ◌≡◌ {A = Result Machine Refusal} (Ok x) (Ok m) → x ≡ m
    the_same x h = cc

    timed : (mode : ControlMode) → control_mode n ≡ Ok mode → (b : Bool) → and_then (cond b (Ok timeout) (Err Timeout)) (λ t. Ok (EnsureControlMode mode t Starting)) ≡ Ok m → Switching n timeout m
    timed mode c true h = record { mode = mode; number = numbered n mode c; opens = the_same (EnsureControlMode mode timeout Starting) h }
    timed mode c false h = absurd (clash (cc))

    check : (c : Result ControlMode Refusal) → control_mode n ≡ c → and_then c (λ k. and_then (checked_timeout timeout) (λ t. Ok (EnsureControlMode k t Starting))) ≡ Ok m → Switching n timeout m
    check (Err refusal) c h = absurd (clash (cc))
    check (Ok mode) c h = timed mode c (timeout_accepted timeout) h
