use Rattle.std.proofs.Common.{◌≡◌, ◌∙◌, ℕ, true, false, length, take, sym, ap, subst, arith}
use Rattle.std.specs.Prelude.{◌==◌}
use Rattle.std.proofs.lemmas.List.{length-take}
use Rattle.std.proofs.lemmas.Bool.Decides.{nat_tests}
use Rattle.oti_blocks.specs.Partition.{blocks, length_of}
use Rattle.object_store.specs.Inner.ObjectHeld.{ObjectHeld, is_done, is_block_done, IsWholeOf}
use Rattle.object_store.specs.Inner.ObjectParts.{object_seen}
use Rattle.object_store.proofs.WithPacket.{none_waits}
use Rattle.object_store.proofs.Joining.{rows_cover}
use Rattle.object_store.proofs.object.Object.whole.Goals as goal

waits_none : (w : ℕ) → w ≡ 0 → (w == 0) ≡ true
waits_none w e = grind (arith, nat_tests)

waits_some : (w : ℕ) → (w ≡ 0 → ⊥) → (w == 0) ≡ false
waits_some w e = grind (arith, nat_tests)

pub slice_bounds-result-end : goal.slice_bounds-result-end
slice_bounds-result-end c =
    let v = c.self.inside in
    let o = object_seen v.oti v.parts v.waiting v.places.items v.bytes.items in
    let done : is_done o ≡ true = none_waits (blocks o.oti) v.waiting (is_block_done o) c.self.invariant.counted ∙ waits_none v.waiting c.if-self-eq0.true in
    let cover = rows_cover o v.bytes.items c.length.ensures.sound (c.self.invariant.joined done) in
    omega (arith, length-take c.length.result c.as_slice.result.now, cover, c.length.ensures.value, ap length c.as_slice.ensures.value)

pub returns-then-self-eq0-clause-whole : goal.returns-then-self-eq0-clause-whole
returns-then-self-eq0-clause-whole c =
    let v = c.self.inside in
    let o = object_seen v.oti v.parts v.waiting v.places.items v.bytes.items in
    let done : is_done o ≡ true = none_waits (blocks o.oti) v.waiting (is_block_done o) c.self.invariant.counted ∙ waits_none v.waiting c.if-self-eq0.true in
    subst (λ (u : ObjectHeld). IsWholeOf u (take c.length.result c.as_slice.result.now)) c.self.view_is
    (record {
      done = done;
      rows = v.bytes.items;
      are = c.self.invariant.joined done;
      front =
          ap (λ (n : ℕ). take n c.as_slice.result.now) c.length.ensures.value ∙ ap (take (length_of v.oti)) c.as_slice.ensures.value;
    })

pub returns-else-self-eq0-clause-waits : goal.returns-else-self-eq0-clause-waits
returns-else-self-eq0-clause-waits c =
    let v = c.self.inside in
    let o = object_seen v.oti v.parts v.waiting v.places.items v.bytes.items in
    sym (ap is_done c.self.view_is) ∙ none_waits (blocks o.oti) v.waiting (is_block_done o) c.self.invariant.counted ∙ waits_some v.waiting c.if-self-eq0.false
