use Rattle.std.proofs.Common.{◌≡◌, ◌∙◌, ℕ, List, length, subst, sym, arith}
use Rattle.rs_solve.specs.Solution.{IsSolution}
use Rattle.object_store.proofs.SymbolRows.{held_when_full, held_when_not, symbols_solved}
use Rattle.object_store.proofs.block.solve_when_full.Goals as goal

pub returns-in_ok-rows-clause-held : goal.returns-in_ok-rows-clause-held
returns-in_ok-rows-clause-held g c =
    let all : length c.args.places.now ≡ c.args.k = omega (arith, c.if-places-from.true, c.from.ensures) in
    held_when_full c.args.k c.args.size c.args.places.now c.in_ok-rows.field-0.items all
    ∙ symbols_solved c.args.k c.args.size c.args.places.now c.args.rows.now.items c.in_ok-rows.field-0.items (omega (arith, all, c.requires.places.most)) all
    c.requires.rows
    (subst (λ (xs : List ℕ). IsSolution c.args.size c.args.places.now xs c.in_ok-rows.field-0.items) c.as_slice.ensures.value c.in_ok-rows.ensures.block)

pub returns-else-places-from-clause-held : goal.returns-else-places-from-clause-held
returns-else-places-from-clause-held g c = held_when_not c.args.k c.args.size c.args.places.now c.args.rows.now.items
    (λ all. c.if-places-from.false (all ∙ sym c.from.ensures))
