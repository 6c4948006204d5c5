use Rattle.std.proofs.Common.{◌≡◌, ◌+◌, ◌-◌, ◌∷◌, [], ◌++◌, ◌∙◌, sym, ap, subst, rules}
use Rattle.std.specs.List.{range_with_len, AllByRecursion}
use Rattle.carousel_cid.specs.IdentifierList.{identifiers_of}
use Rattle.carousel_cid.specs.Inner.Runs.{IsRun}
use Rattle.carousel_cid.proofs.Runs.{each_last, longer_behind}
use Rattle.carousel_cid.proofs.adding.push_run.Goals as goal

pub returns-in-Some-clause-ok : goal.returns-in-Some-clause-ok
returns-in-Some-clause-ok c =
    let all : c.args.runs.now.items ≡ c.pop.new.self.items ++ c.in-Some.run' ∷ [] = c.in-Some.ensures.items in
    let is = each_last c.pop.new.self.items c.in-Some.run' (subst (AllByRecursion IsRun) all c.requires.runs) in
    let behind : c.in-Some.run'.last + 1 ≡ c.args.first = search rules in
    ap identifiers_of c.push_reserved.ensures.items
    ∙ longer_behind c.pop.new.self.items c.in-Some.run' c.args.first c.args.last is behind c.requires.order
    ∙ ap (λ rs. identifiers_of rs ++ range_with_len c.args.first (c.args.last + 1 - c.args.first)) (sym all)
