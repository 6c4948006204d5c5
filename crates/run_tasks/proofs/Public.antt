-- What the proofs of other crates may cite.
pub use Rattle.run_tasks.proofs.AtEnd.{headline_of, listens_best_of}
pub use Rattle.run_tasks.proofs.Complete.{after_taking, completes_of, for_listening, for_task, listening_at_memory, task_at_memory, usage_ends}
