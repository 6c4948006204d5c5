-- What the proofs of other crates may cite.
pub use Rattle.sender_schedule.proofs.Objects.{All-flat_map, all_known, can_be_sent, schedule_by_objects}
pub use Rattle.sender_schedule.proofs.Packets.{packet_is}
pub use Rattle.sender_schedule.proofs.Once.{only}
pub use Rattle.sender_schedule.proofs.Belonging.{each_belongs}
