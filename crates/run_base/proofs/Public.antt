-- What the proofs of other crates may cite.
pub use Rattle.run_base.proofs.AtEnd.{IsAtEnd, at_end_of}
pub use Rattle.run_base.proofs.Lists.{AreTaken, AreAllTaken, all_taken, less_more, less_none, limit_less, next_taken, none_taken, not_more, one_more_taken}
pub use Rattle.run_base.proofs.Parts.{front_written, holds_after, nothing_added, on_error, part_of_front}
