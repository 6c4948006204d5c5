use Rattle.std.proofs.Common.{ap, sym, subst, ◌∙◌, List, ℕ, ◌≤◌, length, arith, refl}
use Rattle.std.proofs.lemmas.List.{length-append}
use Rattle.wire_bytes.specs.Bytes.{zero_filled}
use Rattle.wire_bytes.proofs.Public.{length_filled}
use Rattle.rs_code.specs.Weights.{ArePlaces}
use Rattle.object_store.specs.Inner.BlockHeld.{BlockHeld}
use Rattle.object_store.specs.Inner.BlockRows.{rows_held, IsBlock}
use Rattle.object_store.proofs.Blocks.{are_places, block_with}
use Rattle.object_store.proofs.Additions.{added, taken_back, seen_as}
use Rattle.object_store.proofs.block.Block.add.Goals as goal

pub solve_when_full-requires-clause-places : goal.solve_when_full-requires-clause-places
solve_when_full-requires-clause-places g c =
    let v = c.self.inside in
    let is = added c.args.self.now v.k v.n v.size c.args.esi c.from-size.result c.args.symbol.now v.places.items
    v.rows.items c.append.new.places.items c.append.new.rows.items c.self.view_is c.self.invariant
    c.requires.place c.requires.vacant c.requires.wanting c.requires.symbol c.from-size.ensures c.in_ok-append.ensures.places c.in_ok-append.ensures.rows in
    subst ArePlaces (sym c.as_slice.ensures.value) (are_places v.k v.n v.size _ _ is.holds is.least)

pub solve_when_full-requires-clause-rows : goal.solve_when_full-requires-clause-rows
solve_when_full-requires-clause-rows g c =
    let v = c.self.inside in
    let is = added c.args.self.now v.k v.n v.size c.args.esi c.from-size.result c.args.symbol.now v.places.items
    v.rows.items c.append.new.places.items c.append.new.rows.items c.self.view_is c.self.invariant
    c.requires.place c.requires.vacant c.requires.wanting c.requires.symbol c.from-size.ensures c.in_ok-append.ensures.places c.in_ok-append.ensures.rows in
    rw (c.as_slice.ensures.value, c.from-size.ensures) is.holds.whole

pub invariant_of-self-in-Ok : goal.invariant_of-self-in-Ok
invariant_of-self-in-Ok g c =
    let v = c.self.inside in
    let is = added c.args.self.now v.k v.n v.size c.args.esi c.from-size.result c.args.symbol.now v.places.items
    v.rows.items c.append.new.places.items c.append.new.rows.items c.self.view_is c.self.invariant
    c.requires.place c.requires.vacant c.requires.wanting c.requires.symbol c.from-size.ensures c.in_ok-append.ensures.places c.in_ok-append.ensures.rows in
    block_with v.k v.n v.size c.append.new.places.items c.append.new.rows.items c.solve_when_full.new.rows.items is.holds c.in-Ok.ensures.whole

pub take_back-requires-clause-row : goal.take_back-requires-clause-row
take_back-requires-clause-row g c =
    let rows = c.solve_when_full.new.rows in
    let many = rows.ok.0 in
    let long = length_filled c.from-size.result
    c.args.symbol.now (omega (arith, c.from-size.ensures, c.requires.symbol, ap (λ (h : BlockHeld). h.size) c.self.view_is)) in omega (
      arith,
      many,
      ap length c.in-Err.ensures.err,
      ap length c.in_ok-append.ensures.rows,
      length-append c.self.inside.rows.items (zero_filled c.from-size.result c.args.symbol.now),
      long,
    )

pub invariant_of-self-in-Err : goal.invariant_of-self-in-Err
invariant_of-self-in-Err g c =
    let v = c.self.inside in
    let back = taken_back v.size c.args.esi c.from-size.result c.args.symbol.now v.places.items
    v.rows.items c.append.new.places.items c.solve_when_full.new.rows.items c.from-size.ensures
    (subst (λ (h : BlockHeld). length c.args.symbol.now ≤ h.size) (sym c.self.view_is) c.requires.symbol)
    c.in_ok-append.ensures.places (c.in-Err.ensures.err ∙ c.in_ok-append.ensures.rows) in
    subst (λ (xs : List ℕ). IsBlock v.k v.n v.size xs c.take_back.new.rows.items) (sym (c.take_back.ensures.places ∙ back.0))
    (subst (λ (xs : List ℕ). IsBlock v.k v.n v.size v.places.items xs) (sym (c.take_back.ensures.rows ∙ back.1)) c.self.invariant)

pub returns-in-Ok-clause-ok : goal.returns-in-Ok-clause-ok
returns-in-Ok-clause-ok g c =
    let v = c.self.inside in
    let is = added c.args.self.now v.k v.n v.size c.args.esi c.from-size.result c.args.symbol.now v.places.items
    v.rows.items c.append.new.places.items c.append.new.rows.items c.self.view_is c.self.invariant
    c.requires.place c.requires.vacant c.requires.wanting c.requires.symbol c.from-size.ensures c.in_ok-append.ensures.places c.in_ok-append.ensures.rows in
    ap (seen_as v.k v.n v.size c.append.new.places.items)
    (ap (λ (s : ℕ). rows_held v.k s c.append.new.places.items c.solve_when_full.new.rows.items) (sym c.from-size.ensures)
    ∙ ap (λ (ps : List ℕ). rows_held v.k c.from-size.result ps c.solve_when_full.new.rows.items) (sym c.as_slice.ensures.value) ∙ c.in-Ok.ensures.held) ∙ is.view

pub returns-in-Ok-clause-count : goal.returns-in-Ok-clause-count
returns-in-Ok-clause-count g c =
    let v = c.self.inside in
    let is = added c.args.self.now v.k v.n v.size c.args.esi c.from-size.result c.args.symbol.now v.places.items
    v.rows.items c.append.new.places.items c.append.new.rows.items c.self.view_is c.self.invariant
    c.requires.place c.requires.vacant c.requires.wanting c.requires.symbol c.from-size.ensures c.in_ok-append.ensures.places c.in_ok-append.ensures.rows in
    c.in-Ok.ensures.count ∙ rw (c.as_slice.ensures.value, is.steps) refl

pub returns-in-Err-clause-err : goal.returns-in-Err-clause-err
returns-in-Err-clause-err g c =
    let v = c.self.inside in
    let back = taken_back v.size c.args.esi c.from-size.result c.args.symbol.now v.places.items
    v.rows.items c.append.new.places.items c.solve_when_full.new.rows.items c.from-size.ensures
    (subst (λ (h : BlockHeld). length c.args.symbol.now ≤ h.size) (sym c.self.view_is) c.requires.symbol)
    c.in_ok-append.ensures.places (c.in-Err.ensures.err ∙ c.in_ok-append.ensures.rows) in
    (λ i. seen_as v.k v.n v.size ((c.take_back.ensures.places ∙ back.0) i)
    (rows_held v.k v.size ((c.take_back.ensures.places ∙ back.0) i) ((c.take_back.ensures.rows ∙ back.1) i))) ∙ c.self.view_is
