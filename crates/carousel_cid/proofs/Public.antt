-- What the proofs of other crates may cite.
pub use Rattle.carousel_cid.proofs.FileFields.{length_line}
pub use Rattle.carousel_cid.proofs.ListsDiffer.{lists_differ}
pub use Rattle.carousel_cid.proofs.Numbers.{number_from}
pub use Rattle.carousel_cid.proofs.ReadKinds.{file_read, file_where_read, descriptor_read, descriptor_where_read}
pub use Rattle.carousel_cid.proofs.WrittenKinds.{reads_written_file, reads_written_descriptor}
