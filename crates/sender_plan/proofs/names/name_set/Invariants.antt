-- The names so far and those of the rest are those of all.
use Rattle.std.proofs.Common.{◌≡◌, ℕ, List, [], drop}
use Rattle.std.specs.Prelude.{map}
use Rattle.std.specs.List.{flat_map}
use Rattle.std.specs.Str.{bytes_eq}
use Rattle.sender_plan.specs.CatalogInstance.{CatalogInstance}
use Rattle.sender_plan.specs.Names.{item_names}
use Rattle.sender_plan.specs.Inner.Sets.{added_all}
use Rattle.sender_plan.proofs.names.name_set.Given as goal

abbrev pub names_in : List CatalogInstance → List (List ℕ)
names_in instances = flat_map (λ instance. item_names instance.items) instances

abbrev pub invariant-loop-instance : goal.invariant-loop-instance
invariant-loop-instance l = added_all bytes_eq (map (λ k. k.now) l.set.keys) (names_in (drop l.instance-index l.instances)) ≡ added_all bytes_eq [] (names_in l.instances)
