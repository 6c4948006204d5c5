-- What the proofs of other crates may cite.
pub use Rattle.oti_blocks.proofs.Bounds.{bounds, few_blocks, max_block_within}
pub use Rattle.oti_blocks.proofs.Quotients.{sources_bounds, blocks_pos, last_length_bounds}
pub use Rattle.oti_blocks.proofs.Sizes.{size_bounds, encoding_at_bounds, size_falls, encoding_falls, start-next, start_last, block_end, ends_before}
pub use Rattle.oti_blocks.proofs.Soundness.{HasWidths, no_fault_from_sound, sound_from_no_fault}
pub use Rattle.oti_blocks.proofs.Spelling.{stated-fti_content, stated-take, stated-widths, fti_content-stated, no_fti_fault}
