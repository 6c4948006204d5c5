-- The next number is the one that the list lacks.
use Rattle.std.proofs.Common.{length, sym, ap, ◌∙◌, arith, [], ◌∷◌, ◌++◌}
use Rattle.rs_code.proofs.SourceShares.{range_more}
use Rattle.std.proofs.lemmas.List.FromFn.{length-range_with_len}
use Rattle.rs_code.proofs.places.source_places.Goals as goal

pub push-requires : goal.push-requires
push-requires c = omega (arith, ap length c.loop-place.invariant, length-range_with_len 0 c.loop-place.place)

pub loop-place-preserved : goal.loop-place-preserved
loop-place-preserved c =
    c.push.ensures.items ∙ ap (λ xs. xs ++ c.loop-place.place ∷ []) c.loop-place.invariant ∙ sym (range_more c.loop-place.place)
