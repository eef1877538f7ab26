-- Each number occurs, and where a call meets two rows the order decides. `proofs/Cases.antt` has the proof.
use Rattle.std.specs.Prelude.{ℕ, ◌+◌, ◌^◌, ◌≡◌, List, [], ◌∷◌, ◌++◌, Err}
use Rattle.std.specs.Float.{nan}
use Rattle.motor_core.specs.declared.bus.CanFrame.{CanFrame}
use Rattle.motor_core.specs.declared.model.Maxima.{Maxima}
use Rattle.motor_core.specs.declared.model.PvTLimits.{PvTLimits}
use Rattle.time.specs.Time.{millis}
use Rattle.time.specs.declared.Duration.{Duration}
use Rattle.model_query.specs.Query.{answer}
use Rattle.protocol_request.specs.Request.{register_read_cmd}
use Rattle.protocol_motor.specs.Motor.{feedback, register_reply, write_ack}
use Rattle.protocol_motor.specs.Worked.{with_status}
use Rattle.state_cache.specs.Cache.{cached_entry}
use Rattle.run_want.specs.declared.Answer.TheVariants.{Send}
use Rattle.run_want.specs.declared.SendError.TheVariants.{Failed}
use Rattle.session.specs.Session.{fresh}
use Rattle.session.specs.Start.{from_limits, from_model}
use Rattle.session.specs.declared.Session.{Session}
use Rattle.session_begin.specs.declared.Start.TheVariants.{GetRegisterU32, GetRegisterF32, WriteRegisterU32, RequestFreshState, StoreParameters}
use Rattle.session_call.specs.Step.{step}
use Rattle.session_call.specs.declared.Call.{Call}
use Rattle.law_calls.specs.Calls.{session_after}
use Rattle.law_calls.specs.Worked.{switch, reading, sent, slept, frame, from_motor, ten_is}
use Rattle.law_answers.specs.Answers.{whole, Items, Numbered, of_start, of_command, of_data, of_entry, of_query, of_call}

-- no limit is accepted of these
abbrev pub no_limits : Maxima
no_limits = record { p_max = nan; v_max = nan; t_max = nan }

-- a fresh session of motor 1, whose limits do not matter here
abbrev pub session : PvTLimits → Session
session limits = fresh 1 0x11 limits

-- what a call on it says after others
abbrev pub said_after : PvTLimits → List Call → Call → Numbered Items
said_after limits cs c = of_call (step (session_after (session limits) cs) c).told

abbrev pub number_after : PvTLimits → List Call → Call → ℕ
number_after limits cs c = (said_after limits cs c).number

abbrev pub values_after : PvTLimits → List Call → Call → Items
values_after limits cs c = (said_after limits cs c).values

abbrev pub beyond : ℕ
beyond = 2 ^ 62 + 1

abbrev pub too_long : Duration
too_long = record { 0 = 60_000_000_001 }

abbrev pub switching : List Call
switching = switch 1 (millis 400) ∷ []

-- a read of register 10, and the reply that it holds 1
abbrev pub read_ten : Call
read_ten = Call.Start (GetRegisterU32 10 (millis 100))

abbrev pub ten_is_one : CanFrame
ten_is_one = ten_is 0x01 0x00 1

-- the same from motor 17, and with the bytes of an id that no motor has
abbrev pub ten_of_17 : CanFrame
ten_of_17 = ten_is 0x11 0x00 1

abbrev pub marked_ten : CanFrame
marked_ten = ten_is 0x11 0x0F 1

-- the same register's ack, and a float register's reply that it holds a NaN
abbrev pub ack_ten : ℕ → CanFrame
ack_ten value = from_motor (0x01 ∷ 0x00 ∷ 0x55 ∷ 0x0A ∷ value ∷ 0x00 ∷ 0x00 ∷ 0x00 ∷ [])

abbrev pub zero_is_nan : CanFrame
zero_is_nan = from_motor (0x01 ∷ 0x00 ∷ 0x33 ∷ 0x00 ∷ 0x01 ∷ 0x00 ∷ 0xC0 ∷ 0x7F ∷ [])

-- a write of 1 to register 10, and what answers a try of it
abbrev pub write_ten : Call
write_ten = Call.Start (WriteRegisterU32 10 1)

abbrev pub one_try : List Call
one_try = sent ∷ reading 6 ∷ []

-- its calls up to the sleep
abbrev pub asked : List Call
asked = read_ten ∷ reading 5 ∷ sent ∷ []

pub record Occurring (l : PvTLimits) (f : CanFrame) : Type 0 where
  -- each number
  pub limit : (of_start (from_limits 1 0x11 no_limits)).number ≡ 1
  pub motor_id : (of_command (register_read_cmd 0x500 10)).number ≡ 2
  pub frame_reading : number_after l [] (frame f beyond) ≡ 3
  pub earlier_frame : number_after l (frame ten_is_one 5 ∷ []) (frame f 4) ≡ 3
  pub answer_reading : number_after l switching (reading beyond) ≡ 3
  pub register : number_after l [] (Call.Start (GetRegisterU32 37 (millis 100))) ≡ 4
  pub cached_register : (of_entry (cached_entry [] 37)).number ≡ 4
  pub read_only : number_after l [] (Call.Start (WriteRegisterU32 13 1)) ≡ 5
  pub other_type : number_after l [] (Call.Start (WriteRegisterU32 0 1)) ≡ 6
  pub timeout : number_after l [] (switch 1 too_long) ≡ 7
  pub run_open : number_after l switching (Call.Start StoreParameters) ≡ 8
  pub no_run : number_after l [] (reading 1) ≡ 9
  pub other_kind : number_after l switching slept ≡ 9
  pub mode : number_after l [] (switch 9 (millis 400)) ≡ 10
  pub query : (of_query (answer (record { p = nan; v = nan; t = nan }) [])).number ≡ 11
  pub model : (of_start (from_model 1 0x11 [] [])).number ≡ 12
  pub register_like : (of_data (feedback (with_status 1))).number ≡ 13
  pub wide_id : (of_data (register_reply 0x500 10 0)).number ≡ 14
  pub unknown_sent : (of_data (write_ack 1 37 0)).number ≡ 4
  pub other_motor : number_after l [] (frame ten_of_17 5) ≡ 15
  pub no_motor : number_after l [] (frame marked_ten 5) ≡ 15
  -- two rows are met
  pub model_first : (of_start (from_model 0x500 0x11 [] [])).number ≡ 12
  pub limit_before_motor_id : (of_start (from_limits 0x500 0x11 no_limits)).number ≡ 1
  pub run_open_before_mode : number_after l switching (switch 9 (millis 400)) ≡ 8
  pub mode_before_timeout : number_after l [] (switch 9 too_long) ≡ 10
  pub register_before_timeout : number_after l [] (Call.Start (GetRegisterU32 37 too_long)) ≡ 4
  pub read_only_before_type : number_after l [] (Call.Start (WriteRegisterU32 11 1)) ≡ 5
  pub no_run_before_reading : number_after l [] (reading beyond) ≡ 9
  pub kind_before_reading : number_after l (read_ten ∷ reading 5 ∷ []) (reading beyond) ≡ 9
  pub wide_before_register_like : (of_data (feedback (with_status 16))).number ≡ 14
  pub wide_before_register : (of_data (write_ack 0x500 37 0)).number ≡ 14
  pub reading_before_foreign : number_after l [] (frame ten_of_17 beyond) ≡ 3
  -- nothing is turned back
  pub sent_by_a_motor : of_data (register_reply 1 10 1) ≡ record { number = 0; values = whole 0x0100_330A_0100_0000 ∷ [] }
  pub switched : number_after l [] (switch 1 (millis 400)) ≡ 0
  pub at_the_ends : number_after l (switch 4 (millis 60_000) ∷ []) (reading (2 ^ 62)) ≡ 0
  -- what each result says: done, with a value or a state, or with neither; no state; a mismatch on the third try; the other type. A timeout and a failed send are below
  pub written : values_after l (write_ten ∷ frame (ack_ten 1) 6 ∷ sent ∷ []) (reading 6) ≡ whole 1 ∷ whole 0 ∷ []
  pub nan_read : values_after l (Call.Start (GetRegisterF32 0 (millis 100)) ∷ reading 5 ∷ frame zero_is_nan 6 ∷ []) sent ≡ whole 1 ∷ whole 0 ∷ whole 1 ∷ whole 0x7FC0_0001 ∷ []
  pub no_state : values_after l (Call.Start (RequestFreshState (millis 1)) ∷ reading 5 ∷ sent ∷ []) (reading 1_000_005) ≡ whole 1 ∷ whole 1 ∷ []
  pub mismatched : values_after l (write_ten ∷ frame (ack_ten 2) 6 ∷ one_try ++ (slept ∷ one_try) ++ (slept ∷ sent ∷ [])) (reading 6) ≡ whole 1 ∷ whole 3 ∷ whole 2 ∷ whole 2 ∷ []
  pub wrong_type : values_after l (Call.Start (GetRegisterF32 10 (millis 100)) ∷ reading 5 ∷ frame ten_is_one 6 ∷ []) sent ≡ whole 1 ∷ whole 4 ∷ []
  -- what a read says, a call at a time
  pub wants_clock : values_after l [] read_ten ≡ whole 0 ∷ whole 0 ∷ []
  pub wants_send : values_after l (read_ten ∷ []) (reading 5) ≡ whole 0 ∷ whole 1 ∷ whole 0x7FF ∷ whole 0x0100_330A_0000_0000 ∷ []
  pub wants_sleep : values_after l asked (reading 6) ≡ whole 0 ∷ whole 2 ∷ whole 2_000_000 ∷ []
  pub timed_out : values_after l asked (reading 100_000_005) ≡ whole 1 ∷ whole 2 ∷ []
  pub send_failed : values_after l (read_ten ∷ reading 5 ∷ []) (Call.Answer (Send (Err Failed))) ≡ whole 1 ∷ whole 5 ∷ []
  pub taken : values_after l asked (frame ten_is_one 6) ≡ []
  pub done_with_value : values_after l (read_ten ∷ reading 5 ∷ frame ten_is_one 6 ∷ []) sent ≡ whole 1 ∷ whole 0 ∷ whole 2 ∷ whole 1 ∷ []
  pub patched : values_after l [] (Call.Patch 1 30 40) ≡ whole 0 ∷ []
