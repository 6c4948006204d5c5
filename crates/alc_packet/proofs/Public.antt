-- What the proofs of other crates may cite.
pub use Rattle.wire_bytes.specs.Bytes.{AreBytes}
pub use Rattle.wire_bytes.proofs.Public.{bytes_by_place}
pub use Rattle.alc_packet.proofs.OneAnswer.{some_answer, answered}
pub use Rattle.alc_packet.proofs.Written.{header_suits, written_spells}
