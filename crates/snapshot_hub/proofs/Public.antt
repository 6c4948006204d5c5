-- What the proofs of other crates may cite.
pub use Rattle.snapshot_hub.proofs.Prefixes.{prefix_self, prefix_trans, prefix_shorter, prefix_whole, prefix_length}
pub use Rattle.snapshot_hub.proofs.Rising.{last_snoc, rising_empty, rising_snoc, rising_prefix, height_grows}
