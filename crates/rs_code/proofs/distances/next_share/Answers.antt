-- The factors that the product loses and gains from one place to the next.
use Rattle.std.proofs.Common.{bit_xor, sym, ap, ap₂, ◌∙◌, arith}
use Rattle.gf256.specs.Field.{product}
use Rattle.gf256.specs.Polynomial.{power}
use Rattle.rs_code.specs.Interpolation.{others}
use Rattle.rs_code.proofs.SourceShares.{lost_some, next_share_is}
use Rattle.rs_code.proofs.distances.next_share.Goals as goal

pub inv-requires : goal.inv-requires
inv-requires c null = lost_some c.args.k c.args.i c.requires.some (omega arith)
    (sym (c.mul-lost.ensures ∙ ap₂ product c.point-2.ensures (c.add.ensures ∙ ap (λ x. bit_xor x 1) c.point-x.ensures)) ∙ null)

pub returns : goal.returns
returns c one =
    ap (product (others power c.args.k c.args.i (power c.args.i))) (c.mul-2.ensures ∙ ap (λ t. product t c.inv.result.0) c.mul.ensures)
    ∙ next_share_is c.args.k c.args.i c.args.share.0 c.add-gained.result.0 c.mul-lost.result.0
    c.inv.result.0 c.requires.some c.requires.below (omega arith) (omega arith) (omega arith)
    (c.add-gained.ensures ∙ ap₂ bit_xor c.point-x.ensures c.point.ensures)
    (c.mul-lost.ensures ∙ ap₂ product c.point-2.ensures (c.add.ensures ∙ ap (λ x. bit_xor x 1) c.point-x.ensures)) c.inv.ensures one
