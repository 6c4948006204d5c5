-- At each place the sum, with nothing added behind the row's end.
use Rattle.std.proofs.Common.{arith}
use Rattle.object_symbols.proofs.Fronts.{added_front}
use Rattle.object_symbols.proofs.symbol.add_front.Goals as goal

pub returns-clause-sums : goal.returns-clause-sums
returns-clause-sums c at within =
    added_front c.args.by c.args.row.now c.args.out.now c.row_add.new.dst at (omega (arith, c.ranges.by.fits)) c.requires c.row_add.ensures within
