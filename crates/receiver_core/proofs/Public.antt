-- What the proofs of other crates may cite.
pub use Rattle.receiver_core.proofs.Bests.{best_is_best, one_best}
pub use Rattle.receiver_core.proofs.Datagrams.{by_packets}
pub use Rattle.receiver_core.proofs.Agreement.{never_back}
pub use Rattle.receiver_core.proofs.InstanceOf.{best_where_instance, file_there, files_there}
pub use Rattle.receiver_core.proofs.SessionPackets.{are_spelled, says_reply}
pub use Rattle.receiver_core.proofs.Completing.{complete_descriptor, complete_named, descriptor_of}
