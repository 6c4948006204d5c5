use Rattle.std.proofs.Common.{ap, sym, subst, ◌∙◌, List, ℕ}
use Rattle.gf256.specs.Polynomial.{AreBytes}
use Rattle.object_store.specs.Inner.BlockHeld.{BlockHeld, is_full}
use Rattle.object_store.specs.Inner.BlockRows.{rows_held, IsSolved}
use Rattle.object_store.proofs.Blocks.{places_when_full, solved_of}
use Rattle.object_store.proofs.block.Block.solved.Goals as goal

pub returns : goal.returns
returns c =
    let v = c.self.inside in
    let bytes = subst AreBytes c.as_slice-2.ensures.value c.all_bytes.ensures.sound in
    let all = places_when_full v.k v.n v.size v.places.items v.rows.items (rows_held v.k v.size v.places.items v.rows.items)
    c.self.invariant (ap is_full c.self.view_is ∙ c.requires) in
    subst (λ (xs : List ℕ). IsSolved c.args.self.now xs c.all_bytes.result.now) (sym c.as_slice.ensures.value)
    (subst (λ (xs : List ℕ). IsSolved c.args.self.now v.places.items xs) (sym (c.all_bytes.ensures.same ∙ c.as_slice-2.ensures.value))
    (subst (λ (h : BlockHeld). IsSolved h v.places.items v.rows.items) c.self.view_is
    (solved_of v.k v.n v.size v.places.items v.rows.items c.self.invariant bytes all)))
