-- The numbers below k are places, with the shares that were made of them.
use Rattle.std.proofs.Common.{◌≡◌, List, ℕ, sym, ap, ◌∙◌, subst, arith}
use Rattle.gf256.specs.Field.{product}
use Rattle.std.specs.List.{range_with_len}
use Rattle.rs_code.specs.Weights.{ArePlaces}
use Rattle.rs_code.specs.Inner.Shares.{AreShares, IsShare}
use Rattle.rs_code.proofs.SourceShares.{source_others, sources_are_places}
use Rattle.rs_code.proofs.places.Places.sources.Goals as goal

pub share-requires-clause-places : goal.share-requires-clause-places
share-requires-clause-places c =
    subst (λ (t : List ℕ). ArePlaces t) (sym (c.as_slice.ensures.value ∙ c.source_places-places.ensures)) (sources_are_places c.args.k c.requires (omega arith))

pub source_shares-shares-requires-clause-first : goal.source_shares-shares-requires-clause-first
source_shares-shares-requires-clause-first c =
    ap (λ d. product d c.share.result.0) (sym (source_others c.args.k 0 (omega arith)))
    ∙ subst (λ (t : List ℕ). IsShare t 0 c.share.result.0) (c.as_slice.ensures.value ∙ c.source_places-places.ensures) c.share.ensures

pub invariant_of-result : goal.invariant_of-result
invariant_of-result c =
    let same : range_with_len 0 c.args.k ≡ c.source_places-places.result.items = sym c.source_places-places.ensures in (
      subst (λ (t : List ℕ). ArePlaces t) same (sources_are_places c.args.k c.requires (omega arith)),
      subst (λ (t : List ℕ). AreShares t c.source_shares-shares.result.items) same c.source_shares-shares.ensures,
    )
