-- The symbol starts within the object, and what is cut from there has its bytes.
use Rattle.std.proofs.Common.{◌≡◌, ◌*◌, ◌^◌, ◌<◌, ◌≤◌, ap, ◌∙◌, arith}
use Rattle.oti_blocks.specs.Partition.{length_of, symbol_of}
use Rattle.oti_blocks.proofs.Public.{bounds}
use Rattle.object_symbols.proofs.Rows.{starts_within}
use Rattle.object_symbols.proofs.source.source_symbol.Goals as goal

-- the start is within the object, and fits
starts : (c : goal.After-from-size) → (c.args.number * c.from-size.result ≤ length_of c.args.oti.now) × (length_of c.args.oti.now < 2 ^ 48)
starts c =
    let o = c.args.oti.now in
    let sound = c.requires.object.sound in
    let same : c.args.number * c.from-size.result ≡ c.args.number * (symbol_of o) =
    ap (λ n. c.args.number * n) (c.from-size.ensures ∙ c.symbol.ensures.value) in
    (omega (arith, starts_within o c.args.number sound c.requires.within, same), (bounds o sound).length_fits)

pub overflow_mul-rest : goal.overflow_mul-rest
overflow_mul-rest c = let s = starts c in omega (arith, s.0, s.1)

pub slice_bounds-rest-count : goal.slice_bounds-rest-count
slice_bounds-rest-count c = omega (arith, (starts c).0, c.requires.object.long)

pub slice_bounds-rest-start : goal.slice_bounds-rest-start
slice_bounds-rest-start c = omega (arith, (starts c).0, c.requires.object.long)
