-- the parts so far, with those that are left, are all
use Rattle.std.proofs.Common.{◌≡◌, ◌+◌, ◌-◌, [], ◌++◌, unwrap_or}
use Rattle.std.specs.BTreeMap.{get}
use Rattle.std.specs.List.{flat_map, range_with_len}
use Rattle.std.specs.Option.{option_copied}
use Rattle.std.specs.Ordering.{nat_cmp}
use Rattle.slice_join.specs.Faults.{places_to}
use Rattle.slice_join.proofs.joining.joined_parts.Given as goal

abbrev pub invariant-loop-before : goal.invariant-loop-before
invariant-loop-before l =
    l.body.items ++ flat_map (λ p. unwrap_or (option_copied (get nat_cmp l.parts p)) []) (range_with_len (l.before + 1) (l.count - l.before))
    ≡ flat_map (λ p. unwrap_or (option_copied (get nat_cmp l.parts p)) []) (places_to l.count)
