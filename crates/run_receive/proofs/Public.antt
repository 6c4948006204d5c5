-- What the proofs of other crates may cite.
pub use Rattle.run_receive.proofs.EventLists.{events_are, events_further}
pub use Rattle.run_receive.proofs.Installing.{after-append, part_all}
pub use Rattle.run_receive.proofs.Numbers.{published_rising}
pub use Rattle.run_receive.proofs.Showing.{last_shown, may_follow, not_older, nothing_published, one_longer, published_more, shown_all, shown_is, some_more}
pub use Rattle.run_receive.proofs.Spelled.{are_bytes, packets_have}
pub use Rattle.run_receive.proofs.Statuses.{base_listed, outcome_is}
pub use Rattle.run_receive.proofs.Taking.{best_of_nothing, fresh, held_one_more, installed_best, one_more, steps_one_more}
pub use Rattle.run_receive.proofs.Told.{events_behind, events_more, heard_all, heard_as, heard_next, no_datagram_heard, no_event_heard, none_heard, part_heard, told_at_memory, told_before, whole_is_part}
