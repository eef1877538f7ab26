-- The reading of a frame that is taken, and what its step brings, put where they stand in a session. Assumes nothing.
use Rattle.std.specs.Prelude.{set}
use Rattle.time.specs.declared.Instant.{Instant}
use Rattle.state_cache.specs.Cache.{slot_index}
use Rattle.state_cache.specs.declared.Place.TheVariants.{Reply, Ack}
use Rattle.session.specs.Session.{with_feedback, with_last, with_head, with_replies, with_acks}
use Rattle.session.specs.declared.Session.{Session}
use Rattle.session_frame.specs.declared.FrameStep.{FrameStep}
use Rattle.session_frame.specs.declared.FrameStep.TheVariants.{Latest, Kept}

abbrev pub stamped : Session → Instant → Session
stamped s reading = with_head s (with_last s.head reading)

abbrev pub put : Session → FrameStep → Session
put s (Latest cache) = with_head s (with_feedback s.head cache)
put s (Kept (Reply rid) entry) = with_replies s (set s.replies (slot_index rid) entry)
put s (Kept (Ack rid) entry) = with_acks s (set s.acks (slot_index rid) entry)

abbrev pub put_back : Session → FrameStep → Instant → Session
put_back s step reading = put (stamped s reading) step
