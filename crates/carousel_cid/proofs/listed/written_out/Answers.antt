use Rattle.std.proofs.Common.{rules, ◌≡◌, ◌++◌, [], ◌∷◌, ◌∙◌, sym, ap, subst, append_assoc}
use Rattle.std.specs.List.{AllByRecursion}
use Rattle.carousel_cid.specs.Inner.Runs.{IsRun, range_of, left}
use Rattle.carousel_cid.proofs.Runs.{left_more, each_front}
use Rattle.carousel_cid.proofs.listed.written_out.Goals as goal

pub loop-run-preserved : goal.loop-run-preserved
loop-run-preserved c =
    let rest = c.next.new.self.iter.rest.now in
    let run = c.in-Some.run'.now in
    let taken : c.loop-run.run-iterator.iter.rest.now ≡ rest ++ run ∷ [] = search rules in
    record {
      all = ap (λ ts. ts ++ left rest) c.in_ok-push_all.ensures
          ∙ append_assoc c.loop-run.all.items (range_of run) (left rest)
          ∙ ap (λ ts. c.loop-run.all.items ++ ts) (sym (left_more rest run) ∙ sym (ap left taken)) ∙ c.loop-run.invariant.all;
      runs = each_front rest run (subst (AllByRecursion IsRun) taken c.loop-run.invariant.runs);
    }
