-- Cases beside the marked ones, which show slips that those would not: fields that differ from one another, scales below their ends and clips beyond them, mode numbers, refusals. `proofs/Beside.antt` has their proof.
use Rattle.std.specs.Prelude.{ℕ, ◌+◌, ◌^◌, ◌≡◌, Bool, true, false, List, Some, Result, Ok, Err}
use Rattle.std.specs.Float.Ieee.{neg}
use Rattle.motor_core.specs.declared.bus.CanFrame.{CanFrame}
use Rattle.time.specs.declared.Instant.{Instant}
use Rattle.float.specs.Arithmetic.{float, ◌⊘◌}
use Rattle.protocol_address.specs.Address.{frame_accepted}
use Rattle.protocol_frame.specs.Command.{command}
use Rattle.protocol_setpoint.specs.Setpoint.{mit_cmd, force_pos_cmd}
use Rattle.protocol_hold.specs.Mode.{control_mode, mode_number}
use Rattle.protocol_hold.specs.declared.ControlMode.{ControlMode}
use Rattle.protocol_status.specs.declared.StatusName.TheVariants.{UnderVoltage}
use Rattle.state_feedback.specs.declared.FeedbackSnapshot.{FeedbackSnapshot}
use Rattle.state_cache.specs.Cache.{cached_entry}
use Rattle.session.specs.Session.{patch}
use Rattle.session.specs.declared.Session.{Session}
use Rattle.state_cache.specs.declared.Entry.TheVariants.{Empty}
use Rattle.session_frame.specs.Frame.{frame_outcome, take_frame}
use Rattle.law_cases.specs.Marked.{p, v, t, zero, maxima, setpoint, frame, on_bus, session, at_minimum}
use Rattle.motor_core.specs.Model.{limits_of}
use Rattle.motor_core.specs.Error.{number}
use Rattle.motor_core.specs.declared.error.Refusal.{Refusal}
use Rattle.motor_core.specs.declared.model.Maxima.{Maxima}

-- motor 1, status 9
abbrev pub two_halves : List ℕ
two_halves = frame 0x91 0x00 0x00 0x00 0x00 0x00 0x1E 0x28

abbrev pub at : ℕ → Instant
at reading = record { 0 = reading }

abbrev pub second_record : FeedbackSnapshot
second_record = record {
  state = record { can_id = 1; arbitration_id = 0x11; status_code = 9; status_name = UnderVoltage; pos = neg p; vel = neg v; torq = neg t; t_mos = float 30; t_rotor = float 40 };
  received_at = at 7;
  sequence = 2;
}

-- a session that has taken two feedbacks
abbrev pub fed_twice : Session
fed_twice = (take_frame (take_frame session (on_bus at_minimum) (at 5)).session (on_bus two_halves) (at 7)).session

-- refused with this number
abbrev pub IsRefusedWith : {A : Type 0} → ℕ → Result A Refusal → Type 0
IsRefusedWith n (Ok x) = ⊥
IsRefusedWith n (Err refusal) = number refusal ≡ n

abbrev pub no_limits : Maxima
no_limits = record { p_max = float 0; v_max = float 0; t_max = float 0 }

-- motor 17's frame, whose low four bits are motor 1's, under some id
abbrev pub stranger : ℕ → ℕ → Bool → CanFrame
stranger id length extended = record { arbitration_id = id; «data» = at_minimum; dlc = length; is_extended = extended }

pub record Beside : Type 0 where
  pub second_stored : fed_twice.head.feedback ≡ record { latest = Some second_record; sequence = 2 }
  pub reading_back : IsRefusedWith 3 (frame_outcome fed_twice.head (on_bus at_minimum) (at 6))
  pub reading_beyond : IsRefusedWith 3 (frame_outcome fed_twice.head (on_bus at_minimum) (at (2 ^ 62 + 1)))
  -- limits of 0, which no start accepts
  pub limits_of_zero : IsRefusedWith 1 (limits_of no_limits)
  -- below the ends of kp, kd, velocity limit and ratio, where their scales show, and beyond, where they are clipped
  pub mit_scaled : mit_cmd 1 maxima (setpoint zero zero (float 100) (float 1) zero) ≡ Ok (command 1 0x7FFF_7FF3_3333_37FF)
  pub mit_clipped : mit_cmd 1 maxima (setpoint zero zero (float 501) (float 6) zero) ≡ Ok (command 1 0x7FFF_7FFF_FFFF_F7FF)
  pub force_position_scaled : force_pos_cmd 1 0 (float 50) (float 1 ⊘ float 2) ≡ Ok (command 0x301 0x0000_0000_8813_8813)
  pub force_position_clipped : force_pos_cmd 1 0 (float 101) (float 2) ≡ Ok (command 0x301 0x0000_0000_1027_1027)
  pub mode_back : (mode : ControlMode) → control_mode (mode_number mode) ≡ Ok mode
  pub patch_with_none : (patch session 1 2 3).told ≡ false
  pub patch_with_one : (patch fed_twice 1 2 3).told ≡ true
  pub cached_none : cached_entry session.replies 10 ≡ Ok Empty
  pub cached_unknown : IsRefusedWith 4 (cached_entry session.replies 37)
  pub stranger_taken_for_motor : frame_accepted 1 0x12 (stranger 0x21 8 false) ≡ true
  pub stranger_without_data : frame_accepted 1 0x12 (stranger 0x21 0 false) ≡ false
  pub stranger_extended : frame_accepted 1 0x12 (stranger 0x12 8 true) ≡ false
  pub other_motor : frame_accepted 2 0x12 (stranger 0x21 8 false) ≡ false
  pub on_feedback_id : frame_accepted 2 0x12 (stranger 0x12 0 false) ≡ true
