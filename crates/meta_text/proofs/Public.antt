-- What other crates may cite of this crate's proofs.
pub use Rattle.meta_text.proofs.Places.{found_at, none_at, any_from_place, any_without_place}
pub use Rattle.meta_text.proofs.Written.{reading-written}
pub use Rattle.meta_text.proofs.LineLaws.{all_reversed}
pub use Rattle.meta_text.proofs.Clean.{clean_is_utf8, clean_text}
pub use Rattle.meta_text.proofs.Spelled.{read_where_spelled, first_fault_told}
