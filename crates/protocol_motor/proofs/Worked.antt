-- The worked cases: the checker computes each. Assumes nothing.
use mathlib.Core.Path.{refl}
use lib.Ieee.{nan_bits}
use Rattle.registers.specs.Registers.{registers, elem, known, whole_number, data_type_of}
use Rattle.registers.specs.Value.{value_of}
use Rattle.protocol_frame.specs.Layout.{packed_onto, little_endian, addressed, data_bytes, all_fit}
use Rattle.protocol_feedback.specs.Feedback.{feedback_of}
use Rattle.protocol_received.specs.Received.{class, register_value, received}
use Rattle.protocol_motor.specs.Motor.{feedback_data, feedback, register_frame}
use Rattle.protocol_motor.specs.Worked.{Worked}

pub worked : Worked
unfolding nan_bits registers elem known whole_number data_type_of value_of feedback_of register_value received packed_onto little_endian addressed data_bytes all_fit class feedback_data feedback register_frame
worked = record {
  zeros = refl;
  places = refl;
  reply = refl;
  ack = refl;
  read_only_ack = refl;
  places_read = λ l. refl;
  nan = refl;
  nan_read = λ l. refl;
  ack_read = λ l. refl;
  as_register_10 = refl;
  as_37 = refl;
  higher = refl;
  as_ack_of_10 = refl;
  widest = refl;
  position = refl;
  velocity = refl;
  torque = refl;
  wide_first = refl;
  then_13 = refl;
  id_first = refl;
  then_4 = refl;
}
