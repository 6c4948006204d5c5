use Rattle.std.proofs.Common.{get_or, sym, ap, ◌∙◌, arith}
use Rattle.std.specs.Fmt.{decimal}
use Rattle.carousel_cid.specs.Inner.Walks.{with_text}
use Rattle.carousel_cid.proofs.Joins.{list_text_more}
use Rattle.carousel_cid.proofs.writing.list_text.Goals as goal

pub loop-toi-preserved : goal.loop-toi-preserved
loop-toi-preserved c =
    let xs = c.args.listed.now in
    let i = c.loop-toi.toi-index in
    c.in_ok-push_identifier.ensures ∙ ap (λ ys. with_text ys (decimal (get_or xs i 0))) c.loop-toi.invariant
    ∙ sym (list_text_more xs i c.loop-toi-test.true (omega (arith, c.type_inv.listed 0)))
