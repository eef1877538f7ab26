-- The switch that is worked out: the checker computes each call. Assumes nothing.
use mathlib.Core.Path.{refl}
use lib.Ieee.{le}
use Rattle.motor_core.specs.Model.{limits_of, limit_accepted}
use Rattle.registers.specs.Registers.{registers, elem, known, info_of, access_of, data_type_of, writable, whole_number}
use Rattle.registers.specs.Value.{of_type, type_of, value_of, same_value}
use Rattle.protocol_frame.specs.Layout.{packed_onto, little_endian, addressed, bytes}
use Rattle.protocol_frame.specs.Command.{frame_for}
use Rattle.protocol_request.specs.Request.{register_read_data, register_write_data}
use Rattle.protocol_address.specs.Address.{own_frame}
use Rattle.protocol_received.specs.Received.{class, received, register_value}
use Rattle.session.specs.Session.{fresh}
use Rattle.session.specs.Start.{from_limits}
use Rattle.session_frame.specs.Frame.{take_frame}
use Rattle.session_answer.specs.Answer.{answer_run}
use Rattle.session_call.specs.Step.{step}
use Rattle.law_calls.specs.Calls.{of_limits, events, session_after}
use Rattle.law_calls.specs.Places.{frame_brings, brings, last_taken}
use Rattle.law_calls.specs.Turns.{turn_in, turn_of, add_turn, turns, turns_after, result_in, result_of, gaves, count, a_want, send_to, wants_send}
use Rattle.law_switch.specs.Claim.{shares_7ff, wants_mode_read, wants_mode_write}
use Rattle.law_calls.specs.Worked.{maxima}
use Rattle.law_switch.specs.Worked.{Worked}

pub worked : Worked
unfolding le limits_of limit_accepted registers elem known info_of access_of data_type_of writable whole_number of_type type_of same_value frame_for packed_onto little_endian bytes register_read_data register_write_data addressed class own_frame received register_value value_of fresh from_limits take_frame answer_run step events session_after frame_brings brings last_taken turn_in turn_of add_turn turns turns_after result_in result_of gaves count a_want send_to wants_send shares_7ff wants_mode_read wants_mode_write
worked = record {
  starts = of_limits maxima refl;
  accepted = refl;
  asks = refl;
  four_turns = refl;
  done = refl;
  sees = refl;
  no_write = refl;
  sees_earlier = refl;
  not_done = refl;
  sees_no_stranger = refl;
  stranger_not_done = refl;
}
