use Rattle.std.proofs.Common.{List, ℕ, length, [], sym, ap, ◌∙◌, ◌≡◌}
use Rattle.std.specs.List.{flat_map}
use Rattle.std.proofs.lemmas.Bool.{eqb-true}
use Rattle.std.proofs.lemmas.List.{nil_from_length}
use Rattle.meta_text.specs.Lines.{lines_of}
use Rattle.sender_plan.specs.Catalog.{said}
use Rattle.sender_plan.specs.Inner.Lines.{continued}
use Rattle.sender_plan.proofs.Continued.{continued_end}
use Rattle.sender_plan.proofs.reading.collect.Goals as goal

pub returns-clause-instances : goal.returns-clause-instances
returns-clause-instances c =
    let instances = c.loop-rest.instances.items in
    let none : c.loop-rest.rest.now ≡ [] = nil_from_length c.loop-rest.rest.now (eqb-true (length c.loop-rest.rest.now) 0 (sym c.is_empty.ensures
    ∙ c.loop-rest-test.false)) in
    sym (continued_end instances) ∙ ap (λ (rest : List ℕ). continued instances (flat_map said (lines_of rest))) (sym none) ∙ c.loop-rest.invariant.whole
