-- What the proofs of other crates may cite.
pub use Rattle.held_packets.proofs.Nothing.{nothing_listed, nothing_counted, nothing_open, nothing_at, nothing_whole, nothing_pair}
pub use Rattle.held_packets.proofs.Places.{place_total, place_exact, tied_numbers, tied_places}
pub use Rattle.held_packets.proofs.Sums.{missing_above, both_hold}
pub use Rattle.held_packets.proofs.Counting.{IsFresh, row_joined, joined_count, symbols_elsewhere}
pub use Rattle.held_packets.proofs.Verdicts.{IsNew, new_says, same_is_equal}
pub use Rattle.held_packets.proofs.Solved.{bytes_of_column}
pub use Rattle.held_packets.proofs.WholeOnly.{whole_only}
pub use Rattle.held_packets.proofs.Joined.{object_joined}
pub use Rattle.held_packets.proofs.Agreeing.{Agrees}
pub use Rattle.held_packets.proofs.KeptSets.{Ends, ends_of, all_kept, kept_or_dropped}
pub use Rattle.held_packets.proofs.Sent.{whole_is, whole_is_sent}
pub use Rattle.held_packets.proofs.Pairs.{fresh_of_new, pair_joined, pair_after, pair_after_list, held_is_pair, length_full}
pub use Rattle.held_packets.proofs.Rising.{whole_kept, whole_after, whole_after_list, whole_grows}
pub use Rattle.held_packets.proofs.Sets.{same_whole, any_order}
