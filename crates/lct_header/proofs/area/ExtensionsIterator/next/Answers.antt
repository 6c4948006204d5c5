use Rattle.std.proofs.Common.{sym, ◌∙◌, length, ap, rules}
use Rattle.lct_header.proofs.Splitting.{none_left, some_left}
use Rattle.lct_header.proofs.area.ExtensionsIterator.next.Goals as goal

pub returns-in_err-first-clause-steps : goal.returns-in_err-first-clause-steps
returns-in_err-first-clause-steps c =
    let none = sym c.self.view_is ∙ none_left c.self.inside.rest.now c.self.invariant (sym c.in_err-first.ensures) in
    rw c.from_residual.ensures (none, none)

pub invariant_of-self : goal.invariant_of-self
invariant_of-self c = (some_left c.self.inside.rest.now c.in_ok-first.first c.in_ok-first.others.now c.self.invariant (sym c.in_ok-first.ensures)).1

pub returns-clause-steps : goal.returns-clause-steps
returns-clause-steps c = sym c.self.view_is
    ∙ (some_left c.self.inside.rest.now c.in_ok-first.first c.in_ok-first.others.now c.self.invariant (sym c.in_ok-first.ensures)).0

pub returns-clause-goes : goal.returns-clause-goes
returns-clause-goes c =
    let steps = sym c.self.view_is ∙ (some_left c.self.inside.rest.now c.in_ok-first.first c.in_ok-first.others.now c.self.invariant (sym c.in_ok-first.ensures)).0 in
    let len = ap length steps in
    search rules
