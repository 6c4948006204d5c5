-- The names so far and those of the rest are those of all.
use Rattle.std.proofs.Common.{◌≡◌, drop}
use Rattle.std.specs.Prelude.{map}
use Rattle.std.specs.Str.{bytes_eq}
use Rattle.sender_plan.specs.Names.{item_names}
use Rattle.sender_plan.specs.Inner.Sets.{added_all}
use Rattle.sender_plan.proofs.names.add_names.Given as goal

abbrev pub invariant-loop-item : goal.invariant-loop-item
invariant-loop-item l =
    added_all bytes_eq (map (λ k. k.now) l.set.keys) (item_names (drop l.item-index l.items)) ≡ added_all bytes_eq (map (λ k. k.now) l.fn.set.keys) (item_names l.items)
