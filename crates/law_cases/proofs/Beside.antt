-- The cases beside the marked ones hold: the checker computes each definition. Assumes nothing.
use mathlib.Core.Path.{◌≡◌, refl}
use lib.Ieee.{round, div, of_int, neg, sub, mul, add, le, to_unsigned}
use Rattle.std.specs.Prelude.{Ok}
use Rattle.float.specs.Float.{clip}
use Rattle.motor_core.specs.Model.{limits_of, limit_accepted}
use Rattle.registers.specs.Registers.{registers, elem, known}
use Rattle.protocol_codes.specs.Codes.{float_to_uint, uint_to_float}
use Rattle.protocol_frame.specs.Layout.{packed_onto, little_endian}
use Rattle.protocol_frame.specs.Command.{frame_for}
use Rattle.protocol_setpoint.specs.Setpoint.{mit_cmd, mit_data, force_pos_data, scaled}
use Rattle.protocol_hold.specs.Mode.{control_mode, mode_number}
use Rattle.protocol_hold.specs.declared.ControlMode.{ControlMode}
use Rattle.protocol_hold.specs.declared.ControlMode.TheVariants.{Mit, PosVel, Vel, ForcePos}
use Rattle.protocol_address.specs.Address.{frame_accepted, own_frame}
use Rattle.protocol_feedback.specs.Feedback.{feedback_of}
use Rattle.protocol_received.specs.Received.{class, received}
use Rattle.protocol_status.specs.Status.{status_name}
use Rattle.session.specs.Session.{fresh}
use Rattle.session_frame.specs.Frame.{take_frame}
use Rattle.law_cases.specs.Beside.{Beside}

mode_back : (mode : ControlMode) → control_mode (mode_number mode) ≡ Ok mode
mode_back Mit = refl
mode_back PosVel = refl
mode_back Vel = refl
mode_back ForcePos = refl

pub beside : Beside
unfolding round div of_int neg sub mul add to_unsigned clip float_to_uint packed_onto little_endian mit_cmd mit_data frame_for force_pos_data scaled registers elem known uint_to_float frame_accepted own_frame class feedback_of received status_name fresh take_frame limits_of limit_accepted le
beside = record {
  second_stored = refl;
  reading_back = refl;
  reading_beyond = refl;
  limits_of_zero = refl;
  mit_scaled = refl;
  mit_clipped = refl;
  force_position_scaled = refl;
  force_position_clipped = refl;
  mode_back = mode_back;
  patch_with_none = refl;
  patch_with_one = refl;
  cached_none = refl;
  cached_unknown = refl;
  stranger_taken_for_motor = refl;
  stranger_without_data = refl;
  stranger_extended = refl;
  other_motor = refl;
  on_feedback_id = refl;
}
