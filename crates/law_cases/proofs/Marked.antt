-- The marked bench cases hold: the checker computes each definition. Assumes nothing.
use Rattle.std.specs.Prelude.{Some, Ok, Err}
use Prim.Native.Nat.{◌≤◌, ◌^◌, zero-le}
use mathlib.Core.Bool.{true}
use mathlib.Core.Path.{◌≡◌, refl, ap, ◌∙◌}
use lib.Ieee.{round, div, of_int, neg, le, sub, mul, add, to_unsigned}
use Rattle.float.specs.Float.{clip}
use Rattle.motor_core.specs.Model.{limits_of, limit_accepted}
use Rattle.motor_core.specs.declared.bus.CanFrame.{CanFrame}
use Rattle.motor_core.specs.declared.error.Refusal.TheVariants.{ForeignFrame}
use Rattle.time.specs.declared.Instant.{Instant}
use Rattle.model_query.specs.Query.{queryable, query_accepted, checked, answer}
use Rattle.model_match.specs.Matching.{magnitude, within, matches, matching_names}
use Rattle.model_damiao.specs.Damiao.{damiao_models}
use Rattle.registers.specs.Registers.{registers, elem, data_type_of}
use Rattle.registers.specs.Value.{value_of}
use Rattle.registers.specs.declared.RegisterValue.TheVariants.{UInt32}
use Rattle.protocol_codes.specs.Codes.{float_to_uint, uint_to_float}
use Rattle.protocol_frame.specs.Layout.{packed_onto, little_endian, addressed, bytes}
use Rattle.protocol_frame.specs.Command.{frame_for}
use Rattle.protocol_setpoint.specs.Setpoint.{mit_cmd, mit_data, force_pos_data, scaled}
use Rattle.protocol_request.specs.Request.{register_read_data}
use Rattle.protocol_feedback.specs.Feedback.{feedback_of, decoded}
use Rattle.protocol_address.specs.Address.{own_frame}
use Rattle.protocol_received.specs.Received.{class, received, register_value}
use Rattle.protocol_status.specs.Status.{status_name}
use Rattle.state_cache.specs.Cache.{slot_of}
use Rattle.state_cache.specs.declared.Entry.TheVariants.{Held}
use Rattle.session.specs.Session.{fresh}
use Rattle.session_frame.proofs.Brought.{if_taken, of_register, slot_with, record_with}
use Rattle.session_frame.specs.Frame.{FrameOutcome, frame_outcome, take_frame}
use Rattle.session_frame.proofs.Effects.{reply_after_frame, record_after_frame}
use Rattle.session_frame.proofs.Outcomes.{is_taken, is_foreign}
use Rattle.law_cases.specs.Marked.{Marked, session, on_bus, ten_is_one, own_ten_is_one, at_minimum, first_record}
use Rattle.session.specs.Start.{from_model, from_limits}
use Rattle.model_list.specs.Models.{limits_by_name}
use Rattle.text.specs.Text.{same}
use Rattle.text.specs.Ascii.{ascii}

-- a fresh session takes a frame of its motor at any reading up to 2^62
taken : (frame : CanFrame) → own_frame 1 0x11 frame ≡ true → (reading : Instant) → reading.0 ≤ 2 ^ 62 → frame_outcome session.head frame reading ≡ Ok tt
unfolding fresh
taken frame own reading h = is_taken session.head frame reading zero-le h own

register_refused : (reading : Instant) → reading.0 ≤ 2 ^ 62 → frame_outcome session.head (on_bus ten_is_one) reading ≡ Err ForeignFrame
unfolding fresh registers elem class own_frame
register_refused reading h = is_foreign session.head (on_bus ten_is_one) reading zero-le h refl

register_stored : (reading : Instant) → reading.0 ≤ 2 ^ 62 → slot_of (take_frame session (on_bus own_ten_is_one) reading).session.replies 10 ≡ Held (UInt32 1) reading
unfolding fresh registers elem data_type_of value_of class received register_value own_frame
register_stored reading h =
    reply_after_frame session (on_bus own_ten_is_one) reading 10 refl
    ∙ ap (λ (o : FrameOutcome). slot_with (of_register 10 (if_taken o (Some (10, UInt32 1)))) reading (slot_of session.replies 10)) (taken (on_bus own_ten_is_one) refl reading h)

record_stored : (reading : Instant) → reading.0 ≤ 2 ^ 62 → (take_frame session (on_bus at_minimum) reading).session.head.feedback ≡ record { latest = Some (first_record reading); sequence = 1 }
unfolding fresh round div of_int neg sub mul add registers elem uint_to_float class feedback_of received status_name own_frame
record_stored reading h =
    record_after_frame session (on_bus at_minimum) reading
    ∙ ap (λ (o : FrameOutcome). record_with (if_taken o (Some (first_record reading).state)) reading session.head.feedback) (taken (on_bus at_minimum) refl reading h)

pub marked : Marked
unfolding round div of_int neg le sub mul add to_unsigned clip limits_of limit_accepted registers elem data_type_of value_of float_to_uint uint_to_float packed_onto little_endian bytes mit_cmd mit_data frame_for force_pos_data scaled register_read_data addressed class feedback_of decoded received register_value status_name queryable query_accepted magnitude within matches matching_names checked answer damiao_models limits_by_name ascii same from_model from_limits fresh
marked = record {
  model_4310 = refl;
  started_by_name = refl;
  mit_all_zero = refl;
  mit_all_at_maximum = refl;
  feedback_decoded = refl;
  feedback_sorted = refl;
  feedback_status = refl;
  feedback_stored = record_stored;
  register_ten = refl;
  register_ten_stored = register_stored;
  register_ten_refused = register_refused;
  d1_too_high = refl;
  d3_unknown = refl;
  read_ten = refl;
  force_position = refl;
  mode_cap_of_400 = refl;
  mode_cap_of_0 = refl;
  match_exact = refl;
  match_nan = refl;
}
