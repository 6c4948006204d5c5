use Rattle.std.proofs.Common.{◌*◌, ℕ, length, ap, ◌∙◌, arith}
use Rattle.object_store.proofs.FoundJoined.{part_ends}
use Rattle.object_store.proofs.ready.of_block.Goals as goal

pub overflow_mul-start : goal.overflow_mul-start
overflow_mul-start c =
    let ends = part_ends c.args.oti.now c.args.sbn c.args.width (length c.args.all.now) c.requires.sound c.requires.block c.requires.all in
    let start = ap (λ (n : ℕ). n * c.args.width) c.block_start.ensures in
    omega (arith, ends, start)

pub overflow_mul-result : goal.overflow_mul-result
overflow_mul-result c =
    let ends = part_ends c.args.oti.now c.args.sbn c.args.width (length c.args.all.now) c.requires.sound c.requires.block c.requires.all in
    let size = ap (λ (n : ℕ). n * c.args.width) (c.from.ensures ∙ c.block_k.ensures.value) in
    omega (arith, ends, size)

pub overflow_add-result : goal.overflow_add-result
overflow_add-result c =
    let ends = part_ends c.args.oti.now c.args.sbn c.args.width (length c.args.all.now) c.requires.sound c.requires.block c.requires.all in
    let start = ap (λ (n : ℕ). n * c.args.width) c.block_start.ensures in
    let size = ap (λ (n : ℕ). n * c.args.width) (c.from.ensures ∙ c.block_k.ensures.value) in
    omega (arith, ends, start, size)

pub slice_bounds-result-end : goal.slice_bounds-result-end
slice_bounds-result-end c =
    let ends = part_ends c.args.oti.now c.args.sbn c.args.width (length c.args.all.now) c.requires.sound c.requires.block c.requires.all in
    let start = ap (λ (n : ℕ). n * c.args.width) c.block_start.ensures in
    let size = ap (λ (n : ℕ). n * c.args.width) (c.from.ensures ∙ c.block_k.ensures.value) in
    omega (arith, ends, start, size)
