-- Looks: document 01's 'The runs', what is stamped no earlier than the opening counts. Definitions only.
use Rattle.std.specs.Prelude.{cond, leb, Option, Some, None}
use Rattle.time.specs.declared.Instant.{Instant}
use Rattle.state_feedback.specs.declared.FeedbackSnapshot.{FeedbackSnapshot}
use Rattle.state_cache.specs.declared.Entry.{Entry}
use Rattle.state_cache.specs.declared.Entry.TheVariants.{Empty, Held}

abbrev pub fresh_entry : Instant → Entry → Entry
fresh_entry opening Empty = Empty
fresh_entry opening (Held value stamp) = cond (leb opening.0 stamp.0) (Held value stamp) Empty

abbrev pub fresh_record : Instant → Option FeedbackSnapshot → Option FeedbackSnapshot
fresh_record opening None = None
fresh_record opening (Some s) = cond (leb opening.0 s.received_at.0) (Some s) None
