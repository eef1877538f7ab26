-- Each call returns the number that the table and its order say, and what is turned back leaves the session as before. `proofs/Numbers.antt` has the proof.
use Rattle.std.specs.Prelude.{ℕ, ◌≡◌, ◌≢◌, List, Float, Result}
use Rattle.motor_core.specs.declared.error.Refusal.{Refusal}
use Rattle.motor_core.specs.declared.model.Maxima.{Maxima}
use Rattle.model_list.specs.Models.{limits_by_name}
use Rattle.model_list.specs.declared.ModelList.{ModelList}
use Rattle.model_list.specs.declared.MotorModelSpec.{MotorModelSpec}
use Rattle.model_query.specs.declared.Query.{Query}
use Rattle.model_match.specs.Matching.{match_models}
use Rattle.model_suggest.specs.Suggestion.{suggest_models}
use Rattle.protocol_feedback.specs.Feedback.{decoded}
use Rattle.protocol_setpoint.specs.Setpoint.{mit_cmd, pos_vel_cmd, vel_cmd, force_pos_cmd}
use Rattle.protocol_setpoint.specs.declared.MitSetpoint.{MitSetpoint}
use Rattle.protocol_request.specs.Request.{register_read_cmd, register_write_cmd, store_params_cmd, feedback_request_cmd, disable_cmd, set_zero_cmd, clear_error_cmd}
use Rattle.protocol_motor.specs.Motor.{feedback, register_reply, write_ack}
use Rattle.protocol_motor.specs.declared.FeedbackFields.{FeedbackFields}
use Rattle.state_cache.specs.Cache.{cached_entry}
use Rattle.state_cache.specs.declared.Entry.{Entry}
use Rattle.session.specs.Start.{from_limits, from_model}
use Rattle.session.specs.declared.Session.{Session}
use Rattle.session_call.specs.Step.{step}
use Rattle.session_call.specs.declared.Call.{Call}
use Rattle.law_answers.specs.Answers.{numbered, of_start, of_command, of_data, of_decoded, of_entry, of_limits, of_query, of_call}
use Rattle.law_answers.specs.TurnedBack.{start_by_limits, start_by_name, command_with_limits, single_command, feedback_sent, register_sent, decoding, query, model_limits, cached, turned_back}

pub record Laws : Type 1 where
  -- a number that is not 0 comes alone
  pub number_only : {A B : Type 0} (none : B) (values : A → B) (r : Result A Refusal) → (numbered none values r).number ≢ 0 → (numbered none values r).values ≡ none
  -- any call on a session
  pub calls : (s : Session) (c : Call) → (of_call (step s c).told).number ≡ turned_back s c
  pub session_as_before : (s : Session) (c : Call) → turned_back s c ≢ 0 → (step s c).session ≡ s
  -- starts
  pub by_limits : (motor feedback : ℕ) (m : Maxima) → (of_start (from_limits motor feedback m)).number ≡ start_by_limits motor m
  pub by_name : (motor feedback : ℕ) (models : List MotorModelSpec) (name : List ℕ) → (of_start (from_model motor feedback models name)).number ≡ start_by_name motor models name
  -- single command frames
  pub mit : (motor : ℕ) (m : Maxima) (setpoint : MitSetpoint) → (of_command (mit_cmd motor m setpoint)).number ≡ command_with_limits motor m
  pub pos_vel : (motor pos vlim : ℕ) → (of_command (pos_vel_cmd motor pos vlim)).number ≡ single_command motor
  pub vel : (motor vel : ℕ) → (of_command (vel_cmd motor vel)).number ≡ single_command motor
  pub force_pos : (motor pos : ℕ) (vlim ratio : Float) → (of_command (force_pos_cmd motor pos vlim ratio)).number ≡ single_command motor
  pub register_read : (motor rid : ℕ) → (of_command (register_read_cmd motor rid)).number ≡ single_command motor
  pub register_write : (motor rid bits : ℕ) → (of_command (register_write_cmd motor rid bits)).number ≡ single_command motor
  pub store_params : (motor : ℕ) → (of_command (store_params_cmd motor)).number ≡ single_command motor
  pub feedback_request : (motor : ℕ) → (of_command (feedback_request_cmd motor)).number ≡ single_command motor
  pub disable : (motor : ℕ) → (of_command (disable_cmd motor)).number ≡ single_command motor
  pub set_zero : (motor : ℕ) → (of_command (set_zero_cmd motor)).number ≡ single_command motor
  pub clear_error : (motor : ℕ) → (of_command (clear_error_cmd motor)).number ≡ single_command motor
  -- what a motor sends
  pub feedbacks : (f : FeedbackFields) → (of_data (feedback f)).number ≡ feedback_sent f
  pub replies : (id rid bits : ℕ) → (of_data (register_reply id rid bits)).number ≡ register_sent id rid
  pub acks : (id rid bits : ℕ) → (of_data (write_ack id rid bits)).number ≡ register_sent id rid
  -- what touches no session
  pub decodings : (m : Maxima) (bytes : List ℕ) → (of_decoded (decoded m bytes)).number ≡ decoding m
  pub cached_entries : (slots : List Entry) (rid : ℕ) → (of_entry (cached_entry slots rid)).number ≡ cached rid
  pub limits_of_models : (models : List MotorModelSpec) (name : List ℕ) → (of_limits (limits_by_name models name)).number ≡ model_limits models name
  pub match_models : (list : ModelList) (q : Query) (tolerance : Float) → (of_query (match_models list q tolerance)).number ≡ query q
  pub suggest_models : (list : ModelList) (q : Query) (count : ℕ) → (of_query (suggest_models list q count)).number ≡ query q
