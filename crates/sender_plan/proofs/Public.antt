-- What other crates may cite of this crate's proofs.
pub use Rattle.sender_plan.proofs.Texts.{texts_within}
pub use Rattle.sender_plan.proofs.Distincts.{of_mapped}
pub use Rattle.sender_plan.proofs.Listed.{fit_listed}
pub use Rattle.sender_plan.proofs.LastInstance.{file_objects, descriptor_object, any_descriptor}
