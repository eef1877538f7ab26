-- The cases hold: the checker computes each call. Assumes nothing.
use mathlib.Core.Path.{refl}
use lib.Ieee.{le, nan_bits}
use Rattle.motor_core.specs.Model.{limits_of, limit_accepted}
use Rattle.motor_core.specs.declared.bus.CanFrame.{CanFrame}
use Rattle.motor_core.specs.declared.model.PvTLimits.{PvTLimits}
use Rattle.registers.specs.Registers.{registers, elem, known, info_of, access_of, data_type_of, writable, whole_number}
use Rattle.registers.specs.Value.{of_type, type_of, value_of, same_value}
use Rattle.protocol_frame.specs.Layout.{packed_onto, little_endian, addressed, bytes, all_fit, data_bytes}
use Rattle.protocol_frame.specs.Command.{frame_for}
use Rattle.protocol_request.specs.Request.{register_read_data}
use Rattle.protocol_address.specs.Address.{own_frame}
use Rattle.protocol_received.specs.Received.{class, received, register_value}
use Rattle.protocol_motor.specs.Motor.{feedback_data, feedback, register_frame}
use Rattle.model_list.specs.Models.{limits_by_name}
use Rattle.model_query.specs.Query.{queryable, query_accepted, answer}
use Rattle.session.specs.Session.{fresh}
use Rattle.session.specs.Start.{from_limits, from_model}
use Rattle.session_frame.specs.Frame.{take_frame}
use Rattle.session_answer.specs.Answer.{answer_run}
use Rattle.session_call.specs.Step.{step}
use Rattle.law_calls.specs.Calls.{session_after}
use Rattle.law_answers.specs.Cases.{Occurring}

pub occurring : (l : PvTLimits) (f : CanFrame) → Occurring l f
unfolding all_fit data_bytes feedback_data feedback register_frame le limits_of limit_accepted registers elem known info_of access_of data_type_of writable whole_number of_type type_of frame_for packed_onto little_endian bytes register_read_data addressed own_frame class received register_value value_of limits_by_name queryable query_accepted answer fresh from_limits from_model take_frame answer_run step session_after same_value nan_bits
occurring l f = record {
  limit = refl;
  motor_id = refl;
  frame_reading = refl;
  earlier_frame = refl;
  answer_reading = refl;
  register = refl;
  cached_register = refl;
  read_only = refl;
  other_type = refl;
  timeout = refl;
  run_open = refl;
  no_run = refl;
  other_kind = refl;
  mode = refl;
  query = refl;
  model = refl;
  register_like = refl;
  wide_id = refl;
  unknown_sent = refl;
  other_motor = refl;
  no_motor = refl;
  model_first = refl;
  limit_before_motor_id = refl;
  run_open_before_mode = refl;
  mode_before_timeout = refl;
  register_before_timeout = refl;
  read_only_before_type = refl;
  no_run_before_reading = refl;
  kind_before_reading = refl;
  wide_before_register_like = refl;
  wide_before_register = refl;
  reading_before_foreign = refl;
  sent_by_a_motor = refl;
  switched = refl;
  at_the_ends = refl;
  written = refl;
  nan_read = refl;
  no_state = refl;
  mismatched = refl;
  wrong_type = refl;
  wants_clock = refl;
  wants_send = refl;
  wants_sleep = refl;
  timed_out = refl;
  send_failed = refl;
  taken = refl;
  done_with_value = refl;
  patched = refl;
}
