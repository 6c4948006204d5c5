-- What the proofs of other crates may cite.
pub use Rattle.lct_header.proofs.Splitting.{extensions_in-area, one_list}
pub use Rattle.lct_header.proofs.Views.{length_is, rest_is, header_is, area_bytes, rest_bytes, first_and_others}
pub use Rattle.lct_header.proofs.Answering.{answer_view, answer_fault}
pub use Rattle.lct_header.proofs.Deciding.{header_or_fault}
pub use Rattle.lct_header.proofs.Spelled.{written_is_read}
