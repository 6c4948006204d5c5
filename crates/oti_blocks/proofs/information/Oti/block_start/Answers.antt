use Rattle.std.proofs.Common.{◌≤◌, sym, arith}
use Rattle.oti_blocks.specs.Partition.{large_count}
use Rattle.oti_blocks.proofs.Sizes.{start_front, start_back, start_fits}
use Rattle.oti_blocks.proofs.information.Oti.block_start.Goals as goal

pub overflow_mul-result : goal.overflow_mul-result
overflow_mul-result c =
    let o = c.args.self.now in
    let front : c.args.b ≤ large_count o = omega (arith, c.large_count-large_count.ensures.value, c.from-b.ensures, c.if-b-large_count.true) in
    rw (c.from-b.ensures, c.large.ensures.value) (omega (arith, start_front o c.args.b front, start_fits o c.large.ensures.sound c.args.b c.requires))

pub overflow_mul-result-else-b-large_count : goal.overflow_mul-result-else-b-large_count
overflow_mul-result-else-b-large_count c =
    let o = c.args.self.now in
    let back : large_count o ≤ c.args.b = omega (arith, c.large_count-large_count.ensures.value, c.from-b.ensures, c.if-b-large_count.false) in
    rw (c.large_count-large_count.ensures.value, c.large-else-b-large_count.ensures.value)
    (omega (arith, start_back o c.args.b back (omega (arith, c.requires)), start_fits o c.large-else-b-large_count.ensures.sound c.args.b c.requires))

pub overflow_mul-result-else-b-large_count-2 : goal.overflow_mul-result-else-b-large_count-2
overflow_mul-result-else-b-large_count-2 c =
    let o = c.args.self.now in
    let back : large_count o ≤ c.args.b = omega (arith, c.large_count-large_count.ensures.value, c.from-b.ensures, c.if-b-large_count.false) in
    rw (c.large_count-large_count.ensures.value, c.from-b.ensures, c.small.ensures.value)
    (omega (arith, start_back o c.args.b back (omega (arith, c.requires)), start_fits o c.small.ensures.sound c.args.b c.requires))

pub overflow_add-result : goal.overflow_add-result
overflow_add-result c =
    let o = c.args.self.now in
    let back : large_count o ≤ c.args.b = omega (arith, c.large_count-large_count.ensures.value, c.from-b.ensures, c.if-b-large_count.false) in
    rw (c.large_count-large_count.ensures.value, c.large-else-b-large_count.ensures.value, c.from-b.ensures, c.small.ensures.value)
    (omega (arith, start_back o c.args.b back (omega (arith, c.requires)), start_fits o c.small.ensures.sound c.args.b c.requires))

pub returns-then-b-large_count : goal.returns-then-b-large_count
returns-then-b-large_count c =
    let o = c.args.self.now in
    let front : c.args.b ≤ large_count o = omega (arith, c.large_count-large_count.ensures.value, c.from-b.ensures, c.if-b-large_count.true) in
    rw (c.from-b.ensures, c.large.ensures.value) (sym (start_front o c.args.b front))

pub returns-else-b-large_count : goal.returns-else-b-large_count
returns-else-b-large_count c =
    let o = c.args.self.now in
    let back : large_count o ≤ c.args.b = omega (arith, c.large_count-large_count.ensures.value, c.from-b.ensures, c.if-b-large_count.false) in
    rw (c.large_count-large_count.ensures.value, c.large-else-b-large_count.ensures.value, c.from-b.ensures, c.small.ensures.value)
    (sym (start_back o c.args.b back (omega (arith, c.requires))))
