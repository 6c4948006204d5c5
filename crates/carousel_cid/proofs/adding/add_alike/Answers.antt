use Rattle.std.proofs.Common.{◌+◌, arith}
use Rattle.carousel_cid.specs.IdentifierList.{identifiers_of}
use Rattle.carousel_cid.proofs.Seen.{all_known}
use Rattle.carousel_cid.proofs.adding.add_alike.Goals as goal

pub returns-in-Some-2-clause-ok : goal.returns-in-Some-2-clause-ok
returns-in-Some-2-clause-ok c =
    let run = c.in-Some.run' in
    all_known c.args.seen.now (identifiers_of c.args.runs.now.items) c.args.at (c.min-in-Some-2.result + 1) run c.requires.seen c.in-Some.ensures
    (omega (arith, c.if-run-at.false)) (omega (arith, c.min-in-Some-2.ensures, c.in-Some.ensures.0, c.requires.order)) (omega (arith, c.min-in-Some-2.ensures))
