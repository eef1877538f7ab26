-- `model_damiao::damiao_models` meets its contract: the table agrees with the definition everywhere. Assumes nothing.
use mathlib.Core.Path.{refl}
use lib.Ieee.{of_bits, round}
use Rattle.text.specs.Ascii.{ascii}
use Rattle.motor_core.specs.Name.{name_of}
use Rattle.model_damiao.specs.Damiao.{damiao_models}
use Rattle.model_damiao.proofs.damiao_models.Goals as goal

pub returns : goal.returns
unfolding damiao_models name_of ascii of_bits round
returns c = refl
