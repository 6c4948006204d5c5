-- What other crates may cite of this crate's proofs.
pub use Rattle.wire_bytes.proofs.Bytes.{byte_at_place, bytes_by_place, bytes_drop, bytes_take, cut_at, length_piece}
pub use Rattle.wire_bytes.proofs.Bytes.{zeros_from_test, test_from_zeros, zeros_are, replicated_zeros, length_filled, filled_whole}
pub use Rattle.wire_bytes.proofs.Bytes.{front_filled, bytes_filled}
pub use Rattle.wire_bytes.proofs.Numbers.{big_bytes-big_number, big_number-big_bytes, number_again, bytes_of_number, number_piece, one_byte, bytes_bits, number_fits}
pub use Rattle.wire_bytes.proofs.Faults.{held_first, past, past_cause, none_hold, cause_fails, fault_is_none, first_is}
pub use Rattle.wire_bytes.proofs.Below.{all_below_more, not_all_below, passes_below, all_pass, all_same, count_is_sum, count_more}
pub use Rattle.wire_bytes.proofs.Below.{count_same, count_none, count_most, sum_alike, sum_zero, sum_with, join_same, length_which}
pub use Rattle.wire_bytes.proofs.Below.{IsPassing, which_pass, which_differ, StandsIn, which_has}
