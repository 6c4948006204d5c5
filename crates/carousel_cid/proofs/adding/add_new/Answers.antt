use Rattle.std.proofs.Common.{◌+◌, ◌-◌, ◌∙◌, sym, subst, arith}
use Rattle.carousel_cid.specs.IdentifierList.{identifiers_of}
use Rattle.carousel_cid.specs.Inner.Runs.{AreSeen}
use Rattle.carousel_cid.proofs.Seen.{added_new, seen_more}
use Rattle.carousel_cid.proofs.adding.add_new.Goals as goal

pub returns-clause-ok : goal.returns-clause-ok
returns-clause-ok c =
    c.in_ok-push_run.ensures.ok
    ∙ sym (added_new (identifiers_of c.args.runs.now.items) c.args.first (c.args.last + 1 - c.args.first)
    (λ t from to. c.requires.new t from (omega (arith, to, c.requires.order))))

pub returns-clause-seen : goal.returns-clause-seen
returns-clause-seen c = subst (AreSeen c.insert.new.self) (sym c.in_ok-push_run.ensures.ok)
    (seen_more c.args.seen.now c.insert.new.self (identifiers_of c.args.runs.now.items) c.args.first c.args.last
    c.requires.seen c.in_ok-insert.ensures.updates c.requires.order c.requires.new)
