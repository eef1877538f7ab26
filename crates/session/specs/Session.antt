-- A fresh session, the changes of one part of a session, and a patch. Definitions only.
use Rattle.std.specs.Prelude.{ℕ, Bool, true, false, List, replicate, Option, Some, None}
use Rattle.motor_core.specs.declared.model.PvTLimits.{PvTLimits}
use Rattle.time.specs.declared.Instant.{Instant}
use Rattle.state_feedback.specs.Feedback.{no_feedback, patch_latest}
use Rattle.state_feedback.specs.declared.FeedbackCache.{FeedbackCache}
use Rattle.state_cache.specs.declared.Entry.{Entry}
use Rattle.state_cache.specs.declared.Entry.TheVariants.{Empty}
use Rattle.run_machine.specs.declared.Machine.{Machine}
use Rattle.session.specs.declared.Head.{Head}
use Rattle.session.specs.declared.Session.{Session}
use Rattle.session.specs.declared.After.{After}

-- 'The runs', a fresh session: caches and record empty, number and last reading 0, no run
abbrev pub fresh_head : ℕ → ℕ → PvTLimits → Head
fresh_head motor_id feedback_id limits = record { motor_id = motor_id; feedback_id = feedback_id; limits = limits; feedback = no_feedback; last = record { 0 = 0 } }

unfoldable pub fresh : ℕ → ℕ → PvTLimits → Session
fresh motor_id feedback_id limits = record {
  head = fresh_head motor_id feedback_id limits;
  replies = replicate 82 Empty;
  acks = replicate 82 Empty;
  run = None;
}

-- ---- a session with one part changed: these, `fresh` and the struct are all that spells its fields out

abbrev pub with_feedback : Head → FeedbackCache → Head
with_feedback h feedback = record { motor_id = h.motor_id; feedback_id = h.feedback_id; limits = h.limits; feedback = feedback; last = h.last }

abbrev pub with_last : Head → Instant → Head
with_last h last = record { motor_id = h.motor_id; feedback_id = h.feedback_id; limits = h.limits; feedback = h.feedback; last = last }

abbrev pub with_head : Session → Head → Session
with_head s head = record { head = head; replies = s.replies; acks = s.acks; run = s.run }

abbrev pub with_replies : Session → List Entry → Session
with_replies s replies = record { head = s.head; replies = replies; acks = s.acks; run = s.run }

abbrev pub with_acks : Session → List Entry → Session
with_acks s acks = record { head = s.head; replies = s.replies; acks = acks; run = s.run }

abbrev pub with_run : Session → Option Machine → Session
with_run s run = record { head = s.head; replies = s.replies; acks = s.acks; run = run }

-- ---- a patch

abbrev pub AfterPatch : Type 0
AfterPatch = After Bool

-- 'The feedback on the screen': nothing but the latest record changes; without one nothing does
abbrev pub with_patch : Session → Option FeedbackCache → AfterPatch
with_patch s None = record { session = s; told = false }
with_patch s (Some cache) = record { session = with_head s (with_feedback s.head cache); told = true }

abbrev pub patch : Session → ℕ → ℕ → ℕ → AfterPatch
patch s status mos rotor = with_patch s (patch_latest s.head.feedback status mos rotor)
