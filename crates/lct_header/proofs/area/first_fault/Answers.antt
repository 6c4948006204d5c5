use Rattle.std.proofs.Common.{arith, List, ℕ, [], ◌∷◌, refl, sym, ap, ◌∙◌, ◌++◌, append_assoc}
use Rattle.lct_header.proofs.Splitting.{first_of-takes, area_more, step}
use Rattle.lct_header.proofs.area.first_fault.Goals as goal

pub loop-rest-init : goal.loop-rest-init
loop-rest-init c = ([], [], refl, refl, omega arith)

pub loop-rest-smaller : goal.loop-rest-smaller
loop-rest-smaller c = (step c.loop-rest.rest.now c.in-Some.field-0-0 c.in-Some.others.now (sym c.in-Some.ensures)).0

pub loop-rest-preserved : goal.loop-rest-preserved
loop-rest-preserved c =
    let before = c.loop-rest.invariant in
    let first = first_of-takes c.loop-rest.rest.now c.in-Some.field-0-0 c.in-Some.others.now (sym c.in-Some.ensures) in
    let words = step c.loop-rest.rest.now c.in-Some.field-0-0 c.in-Some.others.now (sym c.in-Some.ensures) in (
      before.0 ++ first.0,
      before.1 ++ c.in-Some.field-0-0 ∷ [],
      area_more before.1 before.0 first.0 c.in-Some.field-0-0 before.2 first.1,
      before.3 ∙ ap (λ (xs : List ℕ). before.0 ++ xs) first.2 ∙ sym (append_assoc before.0 first.0 c.in-Some.others.now),
      omega (arith, words.1, before.4),
    )
