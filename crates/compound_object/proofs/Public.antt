-- What other crates may cite of this crate's proofs.
pub use Rattle.compound_object.proofs.Layouts.{reading-spelled, SpellsObject-written}
pub use Rattle.compound_object.proofs.Spelled.{spelled-reading}
pub use Rattle.compound_object.proofs.FirstCauses.{first_fault_of_object}
