-- A share as to the powers is the share of the source place.
use Rattle.std.proofs.Common.{◌<◌, get_or, ap, ◌∙◌, arith}
use Rattle.gf256.specs.Field.{product}
use Rattle.std.proofs.lemmas.List.FromFn.{length-range_with_len}
use Rattle.rs_code.proofs.SourceShares.{source_others}
use Rattle.rs_code.proofs.places.source_shares.Goals as goal

pub returns : goal.returns
returns c = record {
  count = omega (arith, length-range_with_len 0 c.args.k);
  inverses = λ i less.
      let within : i < c.args.k = omega (arith, length-range_with_len 0 c.args.k) in
      ap (λ d. product d (get_or c.loop-i.shares.items i 0)) (source_others c.args.k i within) ∙ c.loop-i.invariant.shares i (omega arith);
}
