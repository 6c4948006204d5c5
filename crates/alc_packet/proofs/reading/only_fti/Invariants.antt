use Rattle.std.proofs.Common.{◌≡◌, ◌++◌}
use Rattle.std.specs.Prelude.{option_map, option_to_list}
use Rattle.alc_packet.specs.Pieces.{fti_contents}
use Rattle.alc_packet.proofs.reading.only_fti.Given as goal

-- the one that was found, and those among the extensions that are left, are all
abbrev pub invariant-loop-extension : goal.invariant-loop-extension
invariant-loop-extension l =
    (goal.iterator-loop-extension).can_next l.extension-iterator
    × (goal.iterator-loop-extension).is_finite l.extension-iterator
    × (option_to_list (option_map (λ c. c.now) l.found) ++ fti_contents l.extension-iterator ≡ fti_contents l.fn.extensions)
