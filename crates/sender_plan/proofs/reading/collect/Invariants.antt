-- The instances so far and what the rest says make what the text says; no line of the rest is bad.
use Rattle.std.proofs.Common.{◌≡◌, ℕ, ◌≤◌, None, length}
use Rattle.std.specs.List.{flat_map}
use Rattle.meta_text.specs.Lines.{lines_of}
use Rattle.sender_plan.specs.CatalogInstance.{most_instances}
use Rattle.sender_plan.specs.Catalog.{bad_line, said, instances_of}
use Rattle.sender_plan.specs.Inner.Lines.{continued}
use Rattle.sender_plan.proofs.reading.collect.Given as goal

abbrev pub invariant-loop-rest : goal.invariant-loop-rest
invariant-loop-rest l = record {
  whole : continued l.instances.items (flat_map said (lines_of l.rest)) ≡ instances_of (flat_map said (lines_of l.bytes));
  sound : (number : ℕ) × (bad_line number (length l.instances.items) (lines_of l.rest) ≡ None);
  few : length l.instances.items ≤ most_instances;
}

abbrev pub decreases-loop-rest : goal.decreases-loop-rest
decreases-loop-rest l = length l.rest
