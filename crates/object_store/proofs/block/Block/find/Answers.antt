use Rattle.std.proofs.Common.{◌≡◌, ◌≤◌, ◌+◌, ◌-◌, ◌*◌, ℕ, List, Some, length, ap, sym, subst, ◌∙◌, arith, take, drop}
use Rattle.std.specs.Prelude.{◌==◌, if◌then◌else◌, nat_le}
use Rattle.std.specs.List.{position_from, zip}
use Rattle.wire_bytes.specs.Bytes.{zero_filled}
use Rattle.rs_solve.specs.Solution.{row_at}
use Rattle.object_store.specs.declared.finding.Finding.TheVariants.{Full, Wanting}
use Rattle.object_store.specs.Inner.BlockHeld.{BlockHeld, held_in, is_full, finding_in}
use Rattle.object_store.specs.Inner.BlockRows.{symbol_row, rows_held}
use Rattle.object_store.proofs.Blocks.{places_when_full, places_when_open}
use Rattle.object_store.proofs.Differences.{differ, pairs, place_found, found_open, found_solved, found_nowhere}
use Rattle.object_store.proofs.block.Block.find.Goals as goal

pub returns-in_default : goal.returns-in_default
returns-in_default c =
    let v = c.self.inside in
    c.wanting.ensures
    ∙ ap (λ (m : ℕ). if nat_le v.k m then Full else Wanting m) (c.len.ensures.held ∙ ap held_in (sym c.self.view_is))
    ∙ found_nowhere v.k v.n v.size c.args.esi c.args.symbol.now v.places.items (rows_held v.k v.size v.places.items v.rows.items)
    (c.in_default.ensures.first ∙ ap (position_from (λ p. p == c.args.esi) 0) c.as_slice.ensures.value)
    ∙ ap (λ (h : BlockHeld). finding_in h c.args.esi c.args.symbol.now) c.self.view_is

pub symbol_difference-requires-clause-source : goal.symbol_difference-requires-clause-source
symbol_difference-requires-clause-source c =
    let v = c.self.inside in
    let all = places_when_full v.k v.n v.size v.places.items v.rows.items (rows_held v.k v.size v.places.items v.rows.items)
    c.self.invariant (ap is_full c.self.view_is ∙ sym c.if-is_full.ensures) in
    ap length c.as_slice-rows.ensures.value ∙ c.self.invariant.whole ∙ ap (λ (m : ℕ). m * v.size) all

pub symbol_difference-requires-clause-esi : goal.symbol_difference-requires-clause-esi
symbol_difference-requires-clause-esi c =
    let v = c.self.inside in
    let found : Some c.in-Some.at ≡ position_from (λ p. p == c.args.esi) 0 v.places.items =
    c.in-Some.ensures.first ∙ ap (position_from (λ p. p == c.args.esi) 0) c.as_slice.ensures.value in
    place_found v.k v.n v.size c.args.esi c.in-Some.at v.places.items v.rows.items c.self.invariant found

pub returns-then-is_full : goal.returns-then-is_full
returns-then-is_full c =
    let v = c.self.inside in
    let found : Some c.in-Some.at ≡ position_from (λ p. p == c.args.esi) 0 v.places.items =
    c.in-Some.ensures.first ∙ ap (position_from (λ p. p == c.args.esi) 0) c.as_slice.ensures.value in
    let all = places_when_full v.k v.n v.size v.places.items v.rows.items (rows_held v.k v.size v.places.items v.rows.items)
    c.self.invariant (ap is_full c.self.view_is ∙ sym c.if-is_full.ensures) in
    let fits = subst (λ (h : BlockHeld). length c.args.symbol.now ≤ h.size) (sym c.self.view_is) c.requires in
    c.compared.ensures
    ∙ found_solved v.k v.n v.size c.args.esi c.in-Some.at c.args.symbol.now v.places.items v.rows.items c.symbol_difference.result all found fits
    (c.symbol_difference.ensures
    ∙ ap (λ (xs : List ℕ). position_from differ 0 (zip (symbol_row v.k v.size xs c.args.esi) (zero_filled v.size c.args.symbol.now))) c.as_slice-rows.ensures.value)
    ∙ ap (λ (h : BlockHeld). finding_in h c.args.esi c.args.symbol.now) c.self.view_is

pub returns-else-is_full : goal.returns-else-is_full
returns-else-is_full c =
    let v = c.self.inside in
    let found : Some c.in-Some.at ≡ position_from (λ p. p == c.args.esi) 0 v.places.items =
    c.in-Some.ensures.first ∙ ap (position_from (λ p. p == c.args.esi) 0) c.as_slice.ensures.value in
    let fits = subst (λ (h : BlockHeld). length c.args.symbol.now ≤ h.size) (sym c.self.view_is) c.requires in
    let less = places_when_open v.k v.n v.size v.places.items v.rows.items (rows_held v.k v.size v.places.items v.rows.items)
    c.self.invariant (ap is_full c.self.view_is ∙ sym c.if-is_full.ensures) in
    let s = c.from-size.result in
    let one : c.in-Some.at * s + s - c.in-Some.at * s ≡ v.size = omega (arith, c.from-size.ensures) in
    let row_is = ap (λ (n : ℕ). take n (drop (c.in-Some.at * s) c.as_slice-rows.result.now)) one
    ∙ ap (λ (n : ℕ). take v.size (drop (c.in-Some.at * n) c.as_slice-rows.result.now)) c.from-size.ensures
    ∙ ap (λ (xs : List ℕ). row_at v.size xs c.in-Some.at) c.as_slice-rows.ensures.value in
    c.compared-else-is_full.ensures
    ∙ found_open v.k v.n v.size c.args.esi c.in-Some.at c.args.symbol.now v.places.items v.rows.items c.row_difference.result c.self.invariant less found
    (omega (arith, c.in-Some.ensures.within, ap length c.as_slice.ensures.value)) fits
    (c.row_difference.ensures ∙ ap (λ (r : List ℕ). position_from differ 0 (pairs r c.args.symbol.now)) row_is)
    ∙ ap (λ (h : BlockHeld). finding_in h c.args.esi c.args.symbol.now) c.self.view_is
