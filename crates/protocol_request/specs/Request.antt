-- Requests to the motor: register reads and writes, storing, feedback; and disable, zero and clear, which only their last byte tells apart. Definitions only.
use Rattle.std.specs.Prelude.{ℕ, [], ◌∷◌, ◌++◌, Result}
use Rattle.protocol_frame.specs.Layout.{byte, packed, packed_onto, little_endian, bytes, addressed}
use Rattle.protocol_frame.specs.Command.{frame_for}
use Rattle.motor_core.specs.declared.error.Refusal.{Refusal}
use Rattle.protocol_frame.specs.declared.Command.{Command}

-- ---- the eight data bytes; 'The command bytes', requests: the motor id first

unfoldable pub register_read_data : ℕ → ℕ → ℕ
unfolding addressed bytes
register_read_data motor rid = addressed motor (byte 0x33 ∷ byte rid ∷ bytes 4 0)

unfoldable pub register_write_data : ℕ → ℕ → ℕ → ℕ
unfolding addressed little_endian
register_write_data motor rid bits = addressed motor (byte 0x55 ∷ byte rid ∷ little_endian 4 bits)

unfoldable pub store_params_data : ℕ → ℕ
unfolding addressed bytes
store_params_data motor = addressed motor (byte 0xaa ∷ byte 0x01 ∷ bytes 4 0)

unfoldable pub feedback_request_data : ℕ → ℕ
unfolding addressed bytes
feedback_request_data motor = addressed motor (byte 0xcc ∷ bytes 5 0)

-- seven bytes FF and a last one
unfoldable pub special : ℕ → ℕ
unfolding packed_onto bytes
special last = packed (bytes 7 0xff ++ byte last ∷ [])

unfoldable pub disable_data : ℕ
unfolding special
disable_data = special 0xfd

-- ---- the frames: id and data, or a refusal

-- requests go to 0x7FF
abbrev pub request_id : ℕ
request_id = 0x7ff

abbrev pub register_read_cmd : ℕ → ℕ → Result Command Refusal
register_read_cmd motor rid = frame_for motor request_id (register_read_data motor rid)

abbrev pub register_write_cmd : ℕ → ℕ → ℕ → Result Command Refusal
register_write_cmd motor rid bits = frame_for motor request_id (register_write_data motor rid bits)

abbrev pub store_params_cmd : ℕ → Result Command Refusal
store_params_cmd motor = frame_for motor request_id (store_params_data motor)

abbrev pub feedback_request_cmd : ℕ → Result Command Refusal
feedback_request_cmd motor = frame_for motor request_id (feedback_request_data motor)

-- the others go to the motor id
abbrev pub disable_cmd : ℕ → Result Command Refusal
disable_cmd motor = frame_for motor motor disable_data

abbrev pub set_zero_cmd : ℕ → Result Command Refusal
set_zero_cmd motor = frame_for motor motor (special 0xfe)

abbrev pub clear_error_cmd : ℕ → Result Command Refusal
clear_error_cmd motor = frame_for motor motor (special 0xfb)
