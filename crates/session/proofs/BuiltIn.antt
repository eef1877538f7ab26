-- A start by a model's name goes by the motor id alone where all listed limits are accepted, as those of the built-in models are. Assumes nothing.
use Prim.Native.Nat.{ℕ}
use mathlib.Core.Path.{◌≡◌, refl, ap}
use mathlib.Core.Bool.{Bool, true, false, ◌&&◌, cond}
use mathlib.Core.List.{List, [], ◌∷◌}
use lib.Dec.{T}
use lib.Ieee.{round, le}
use Rattle.text.specs.Text.{same}
use Rattle.std.specs.Prelude.{Result, Ok, Err}
use Rattle.motor_core.specs.AndThen.{and_then}
use Rattle.motor_core.specs.Model.{limit_accepted, from_maxima, limits_of}
use Rattle.motor_core.specs.Name.{spelling}
use Rattle.motor_core.specs.declared.error.Refusal.{Refusal}
use Rattle.motor_core.specs.declared.error.Refusal.TheVariants.{Limit}
use Rattle.motor_core.specs.declared.model.Maxima.{Maxima}
use Rattle.model_list.specs.Models.{limits_by_name}
use Rattle.model_damiao.specs.Damiao.{damiao_models}
use Rattle.model_list.specs.declared.MotorModelSpec.{MotorModelSpec}
use Rattle.session.specs.BuiltIn.{maxima_accepted, all_accepted, by_motor_id, untested}
use Rattle.session.specs.Start.{with_limits, from_limits, from_model}

module _ (motor_id feedback_id : ℕ) where
  limits_taken : (m : Maxima) → maxima_accepted m ≡ true → from_limits motor_id feedback_id m ≡ by_motor_id motor_id feedback_id m
  unfolding from_limits limits_of
  limits_taken m e =
      ap (λ (b : Bool). and_then (cond b (Ok (from_maxima m)) (Err Limit)) (with_limits motor_id feedback_id)) e

  -- the first model or a later one
  one_more : (m : Maxima) (found : Result Maxima Refusal) (here ok all : Bool) → maxima_accepted m ≡ ok → T (ok && all) → (T all → and_then found (from_limits motor_id feedback_id) ≡ untested motor_id feedback_id found)
      → and_then (cond here (Ok m) found) (from_limits motor_id feedback_id) ≡ untested motor_id feedback_id (cond here (Ok m) found)
  one_more m found here false all e t rest = absurd t
  one_more m found true true all e t rest = limits_taken m e
  one_more m found false true all e t rest = rest t

  by_listed : (models : List MotorModelSpec) → T (all_accepted models) → (name : List ℕ) → and_then (limits_by_name models name) (from_limits motor_id feedback_id) ≡ untested motor_id feedback_id (limits_by_name models name)
  unfolding limits_by_name all_accepted
  by_listed [] t name = refl
  by_listed (spec ∷ rest) t name =
      one_more spec.maxima (limits_by_name rest name) (same (spelling spec.model) name) (maxima_accepted spec.maxima) (all_accepted rest) refl t (λ u. by_listed rest u name)

  pub named_start : (models : List MotorModelSpec) → T (all_accepted models) → (name : List ℕ) → from_model motor_id feedback_id models name ≡ untested motor_id feedback_id (limits_by_name models name)
  unfolding from_model
  named_start models t name = by_listed models t name

pub damiao_accepted : T (all_accepted damiao_models)
unfolding all_accepted damiao_models limit_accepted round le
damiao_accepted = tt
