-- What the proofs of other crates may cite.
pub use Rattle.watch_list.proofs.Hearings.{heard_nothing, heard_more, refused_one}
pub use Rattle.watch_list.proofs.Steps.{step_stays, rest_stays, step_goes, rest_goes}
