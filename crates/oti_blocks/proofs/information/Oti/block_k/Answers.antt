use Rattle.std.proofs.Common.{◌<◌, ◌≤◌, Some, sym, ap, ◌∙◌, arith}
use Rattle.std.proofs.lemmas.Option.{slice_get-get_or}
use Rattle.oti_blocks.specs.Partition.{large_count, sizes}
use Rattle.oti_blocks.proofs.Quotients.{large_le, small_pos, small_le_large}
use Rattle.oti_blocks.proofs.Sizes.{length-sizes, size_front, size_back}
use Rattle.oti_blocks.proofs.information.Oti.block_k.Goals as goal

pub overflow_cast-result : goal.overflow_cast-result
overflow_cast-result c =
    let sound = c.large.ensures.sound in
    omega (arith, c.large.ensures.value, large_le c.args.self.now sound, sound.block_within, sound.max_n_fits)

pub overflow_cast-result-else-from-large_count : goal.overflow_cast-result-else-from-large_count
overflow_cast-result-else-from-large_count c =
    let sound = c.small.ensures.sound in
    omega (arith, c.small.ensures.value, small_le_large c.args.self.now sound, large_le c.args.self.now sound, sound.block_within, sound.max_n_fits)

pub returns-then-from-large_count-clause-size : goal.returns-then-from-large_count-clause-size
returns-then-from-large_count-clause-size c =
    let o = c.args.self.now in
    let front : c.args.b < large_count o = omega (arith, c.large_count.ensures.value, c.from.ensures, c.if-from-large_count.true) in
    slice_get-get_or (sizes o) c.args.b 0 (omega (arith, length-sizes o c.large.ensures.sound, c.requires))
    ∙ ap Some (size_front o c.args.b front ∙ sym c.large.ensures.value)

pub returns-then-from-large_count-clause-some : goal.returns-then-from-large_count-clause-some
returns-then-from-large_count-clause-some c =
    let sound = c.large.ensures.sound in
    omega (arith, c.large.ensures.value, small_pos c.args.self.now sound, small_le_large c.args.self.now sound)

pub returns-then-from-large_count-clause-most : goal.returns-then-from-large_count-clause-most
returns-then-from-large_count-clause-most c = omega (arith, c.large.ensures.value, large_le c.args.self.now c.large.ensures.sound)

pub returns-else-from-large_count-clause-size : goal.returns-else-from-large_count-clause-size
returns-else-from-large_count-clause-size c =
    let o = c.args.self.now in
    let back : large_count o ≤ c.args.b = omega (arith, c.large_count.ensures.value, c.from.ensures, c.if-from-large_count.false) in
    slice_get-get_or (sizes o) c.args.b 0 (omega (arith, length-sizes o c.small.ensures.sound, c.requires))
    ∙ ap Some (size_back o c.args.b back c.requires ∙ sym c.small.ensures.value)

pub returns-else-from-large_count-clause-some : goal.returns-else-from-large_count-clause-some
returns-else-from-large_count-clause-some c = omega (arith, c.small.ensures.value, small_pos c.args.self.now c.small.ensures.sound)

pub returns-else-from-large_count-clause-most : goal.returns-else-from-large_count-clause-most
returns-else-from-large_count-clause-most c =
    let sound = c.small.ensures.sound in
    omega (arith, c.small.ensures.value, small_le_large c.args.self.now sound, large_le c.args.self.now sound)

pub returns-then-from-large_count-clause-value : goal.returns-then-from-large_count-clause-value
returns-then-from-large_count-clause-value c =
    let o = c.args.self.now in
    let front : c.args.b < large_count o = omega (arith, c.large_count.ensures.value, c.from.ensures, c.if-from-large_count.true) in
    omega (arith, size_front o c.args.b front, c.large.ensures.value)

pub returns-else-from-large_count-clause-value : goal.returns-else-from-large_count-clause-value
returns-else-from-large_count-clause-value c =
    let o = c.args.self.now in
    let back : large_count o ≤ c.args.b = omega (arith, c.large_count.ensures.value, c.from.ensures, c.if-from-large_count.false) in
    omega (arith, size_back o c.args.b back c.requires, c.small.ensures.value)
