-- The built-in models. Definitions only.
use Rattle.std.specs.Prelude.{ℕ, false, List, [], ◌∷◌, length, Float}
use Prim.Native.String.{String}
use Rattle.std.specs.Float.{binary32}
use Rattle.std.specs.Float.Ieee.{round}
use Rattle.motor_core.specs.Name.{name_of}
use Rattle.model_list.specs.declared.MotorModelSpec.{MotorModelSpec}
use Rattle.model_list.specs.declared.ModelList.{ModelList}

-- so many thousandths, as the nearest f32
abbrev pub thousandths : ℕ → Float
thousandths n = round binary32 false n 1000

abbrev pub model : String → ℕ → ℕ → ℕ → MotorModelSpec
model name p v t =
    record { model = name_of name; maxima = record { p_max = thousandths p; v_max = thousandths v; t_max = thousandths t } }

-- 'The model list': motor.rs's names and maxima, in its order
unfoldable pub damiao_models : List MotorModelSpec
unfolding name_of round
damiao_models =
    model "3507" 12566 50000 5000
    ∷ model "4310" 12500 30000 10000
    ∷ model "4310P" 12500 50000 10000
    ∷ model "4340" 12500 10000 28000
    ∷ model "4340P" 12500 10000 28000
    ∷ model "4340_v20" 12500 20000 28000
    ∷ model "6006" 12500 45000 20000
    ∷ model "8006" 12500 45000 40000
    ∷ model "8009" 12500 45000 54000
    ∷ model "10010L" 12500 25000 200000
    ∷ model "10010" 12500 20000 200000
    ∷ model "H3510" 12500 280000 1000
    ∷ model "G6215" 12500 45000 10000
    ∷ model "H6220" 12500 45000 10000
    ∷ model "JH11" 12500 10000 12000
    ∷ model "6248P" 12566 20000 120000
    ∷ []

-- a list with a model in every place
abbrev pub list_of : List MotorModelSpec → ModelList
list_of models = record { models = models; count = length models }
