-- What the proofs of other crates may cite.
pub use Rattle.run_headline.proofs.Headline.{headline}
