-- The latest feedback: document 01's 'The feedback on the screen', its last rule. Definitions only.
use Rattle.std.specs.Prelude.{ℕ, ◌+◌, ◌-◌, ◌^◌, min, Option, Some, None, option_map}
use Rattle.time.specs.declared.Instant.{Instant}
use Rattle.float.specs.Arithmetic.{float}
use Rattle.protocol_status.specs.Status.{status_name}
use Rattle.protocol_feedback.specs.declared.SensorFeedback.{SensorFeedback}
use Rattle.state_feedback.specs.declared.MotorFeedbackState.{MotorFeedbackState}
use Rattle.state_feedback.specs.declared.FeedbackSnapshot.{FeedbackSnapshot}
use Rattle.state_feedback.specs.declared.FeedbackCache.{FeedbackCache}

-- no record yet, number 0
abbrev pub no_feedback : FeedbackCache
no_feedback = record { latest = None; sequence = 0 }

-- the fields of a frame's feedback, its arbitration id, and the status by its name
abbrev pub state_of : ℕ → SensorFeedback → MotorFeedbackState
state_of arbitration f = record {
  can_id = f.can_id;
  arbitration_id = arbitration;
  status_code = f.status_code;
  status_name = status_name f.status_code;
  pos = f.pos;
  vel = f.vel;
  torq = f.torq;
  t_mos = f.t_mos;
  t_rotor = f.t_rotor;
}

-- one more, up to the greatest number of 64 bits
abbrev pub next_sequence : ℕ → ℕ
next_sequence n = min (n + 1) (2 ^ 64 - 1)

-- a feedback becomes the latest record, with the next number and its stamp
abbrev pub update : FeedbackCache → MotorFeedbackState → Instant → FeedbackCache
update cache state at = record {
  latest = Some (record { state = state; received_at = at; sequence = next_sequence cache.sequence });
  sequence = next_sequence cache.sequence;
}

-- a patch's three bytes in a record's state: the status, by its name too, and the temperatures as floats
abbrev pub patch_state : MotorFeedbackState → ℕ → ℕ → ℕ → MotorFeedbackState
patch_state s status mos rotor = record {
  can_id = s.can_id;
  arbitration_id = s.arbitration_id;
  status_code = status;
  status_name = status_name status;
  pos = s.pos;
  vel = s.vel;
  torq = s.torq;
  t_mos = float mos;
  t_rotor = float rotor;
}

abbrev pub patch_snapshot : FeedbackSnapshot → ℕ → ℕ → ℕ → FeedbackSnapshot
patch_snapshot s status mos rotor = record { state = patch_state s.state status mos rotor; received_at = s.received_at; sequence = s.sequence }

abbrev pub patched : FeedbackCache → ℕ → ℕ → ℕ → FeedbackSnapshot → FeedbackCache
patched cache status mos rotor s = record { latest = Some (patch_snapshot s status mos rotor); sequence = cache.sequence }

-- the latest record patched; nothing with no record
abbrev pub patch_latest : FeedbackCache → ℕ → ℕ → ℕ → Option FeedbackCache
patch_latest cache status mos rotor = option_map (patched cache status mos rotor) cache.latest
