use Rattle.std.proofs.Common.{◌≡◌, ◌+◌, ◌<◌, ◌∷◌, [], ◌++◌, ◌∙◌, sym, ap, subst, rules, arith}
use Rattle.std.specs.List.{AllByRecursion}
use Rattle.carousel_cid.specs.Fronts.{after_first}
use Rattle.carousel_cid.specs.Inner.Runs.{IsRun, left}
use Rattle.carousel_cid.proofs.Runs.{one_less, none_left, each_last, each_front, each_more}
use Rattle.carousel_cid.proofs.listed.drop_front.Goals as goal

pub returns-then-run-clause-left : goal.returns-then-run-clause-left
returns-then-run-clause-left c =
    let all : c.args.runs.now.items ≡ c.pop.new.self.items ++ c.in-Some.run' ∷ [] = c.in-Some.ensures.items in
    none_left c.pop.new.self.items c.in-Some.run' (each_last c.pop.new.self.items c.in-Some.run' (subst (AllByRecursion IsRun) all c.requires))
    (λ less. omega (arith, c.if-run.true, less)) ∙ sym (ap (λ rs. after_first (left rs)) all)

pub returns-clause-runs : goal.returns-clause-runs
returns-clause-runs c =
    let all : c.args.runs.now.items ≡ c.pop.new.self.items ++ c.in-Some.run' ∷ [] = c.in-Some.ensures.items in
    let each = subst (AllByRecursion IsRun) all c.requires in
    let less : c.in-Some.run'.first < c.in-Some.run'.last = search rules in
    subst (AllByRecursion IsRun) (sym c.push_reserved.ensures.items)
    (each_more c.pop.new.self.items (record { first = c.in-Some.run'.first + 1; last = c.in-Some.run'.last }) (each_front c.pop.new.self.items c.in-Some.run' each)
    (record { order = omega (arith, less); fits = (each_last c.pop.new.self.items c.in-Some.run' each).fits }))

pub returns-clause-left : goal.returns-clause-left
returns-clause-left c =
    let all : c.args.runs.now.items ≡ c.pop.new.self.items ++ c.in-Some.run' ∷ [] = c.in-Some.ensures.items in
    let less : c.in-Some.run'.first < c.in-Some.run'.last = search rules in
    ap left c.push_reserved.ensures.items ∙ one_less c.pop.new.self.items c.in-Some.run' less ∙ sym (ap (λ rs. after_first (left rs)) all)
