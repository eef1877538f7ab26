-- Answers that say the same are the same answer. `proofs/Apart.antt` has the proof.
use Rattle.std.specs.Prelude.{◌≡◌, ◌≢◌}
use Rattle.motor_core.specs.Error.{number}
use Rattle.motor_core.specs.declared.error.Refusal.{Refusal}
use Rattle.session.specs.declared.Session.{Session}
use Rattle.session_call.specs.Step.{step}
use Rattle.session_call.specs.declared.Call.{Call}
use Rattle.law_answers.specs.Answers.{numbered, value_items, entry_items, name_order, feedback_items, state_items, command_items, limit_items, want_items, failure_items, result_items, told_items, of_start, of_run, of_frame, of_patch, of_command, of_data, of_decoded, of_entry, of_limits, of_query, kind, kind_of, with_kind}

-- two that are told the same are the same
abbrev pub Distinct : {A B : Type 0} → (A → B) → Type 0
Distinct {A} f = (a b : A) → f a ≡ f b → a ≡ b

pub record Apart : Type 1 where
  pub refusals : Distinct number
  pub a_refusal_has_a_number : (refusal : Refusal) → number refusal ≢ 0
  -- any answer that may be a refusal, where its values tell it
  pub refusable : {A B : Type 0} (none : B) (values : A → B) → Distinct values → Distinct (numbered none values)
  pub values : Distinct value_items
  pub entries : Distinct entry_items
  pub status_names : Distinct name_order
  pub feedbacks : Distinct feedback_items
  pub states : Distinct state_items
  pub commands : Distinct command_items
  pub limits : Distinct limit_items
  pub wants : Distinct want_items
  pub failures : Distinct failure_items
  pub results : Distinct result_items
  pub told : Distinct told_items
  pub starts : Distinct of_start
  pub runs : Distinct of_run
  pub frames : Distinct of_frame
  pub patches : Distinct of_patch
  pub single_commands : Distinct of_command
  pub sent_by_a_motor : Distinct of_data
  pub decodings : Distinct of_decoded
  pub cached : Distinct of_entry
  pub models : Distinct of_limits
  pub queries : Distinct of_query
  -- the answers of any call, with the call's kind
  pub calls : Distinct with_kind
  pub kinds : (s : Session) (c : Call) → kind (step s c).told ≡ kind_of c
