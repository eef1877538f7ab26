-- The frames that are worked out: the checker computes each call. Assumes nothing.
use mathlib.Core.Path.{refl}
use lib.Ieee.{le}
use Rattle.motor_core.specs.Model.{limits_of, limit_accepted}
use Rattle.registers.specs.Registers.{registers, elem, data_type_of}
use Rattle.registers.specs.Value.{value_of}
use Rattle.protocol_frame.specs.Layout.{packed_onto, little_endian, addressed, data_bytes}
use Rattle.protocol_request.specs.Request.{register_write_data}
use Rattle.protocol_received.specs.Received.{class, received, register_value}
use Rattle.protocol_address.specs.Address.{frame_accepted, own_frame}
use Rattle.protocol_motor.specs.Motor.{feedback_data}
use Rattle.session.specs.Session.{fresh}
use Rattle.session.specs.Start.{from_limits}
use Rattle.session_frame.specs.Frame.{take_frame}
use Rattle.session_call.specs.Step.{step}
use Rattle.law_calls.specs.Calls.{of_limits, session_after}
use Rattle.law_calls.specs.Worked.{maxima}
use Rattle.law_own.specs.Worked.{Worked}

pub worked : Worked
unfolding le limits_of limit_accepted registers elem data_type_of value_of packed_onto little_endian addressed data_bytes register_write_data class received register_value frame_accepted own_frame feedback_data fresh from_limits take_frame step session_after
worked = record {
  starts = of_limits maxima refl;
  own_taken = refl;
  extended_refused = refl;
  empty_refused = refl;
  seven_refused = refl;
  nine_refused = refl;
  other_id_refused = refl;
  motor_id_refused = refl;
  other_nibble_refused = refl;
  status_counts_not = refl;
  own_reply = refl;
  own_ack = refl;
  reply_of_17 = refl;
  ack_of_17 = refl;
  reply_of_257 = refl;
  marked_reply = refl;
  no_register_taken = refl;
  reply_of_0x234 = refl;
  reply_of_0x134 = refl;
  reading_first = refl;
  echo_refused = refl;
  echo_taken = refl;
  alike_taken = refl;
  read_as_reply = refl;
  accepted_by_the_rust = refl;
  record_stays = refl;
  reading_stays = refl;
  reply_stays = refl;
  ack_stays = refl;
}
