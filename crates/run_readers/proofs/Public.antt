-- What the proofs of other crates may cite.
pub use Rattle.run_readers.proofs.Listened.{apart_behind, blames_behind, events_behind, lines_of, nothing_at_memory, nothing_behind, nothing_told, ok_behind, rose_before, rose_behind, shelf_behind, taking_behind, text_behind}
