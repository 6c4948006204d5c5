-- A piece that differs ends within the symbol.
use Rattle.std.proofs.Common.{List, ℕ, sym, subst, arith}
use Rattle.std.specs.List.{range_with_len}
use Rattle.rs_code.specs.Weights.{AreWeights}
use Rattle.rs_code.proofs.symbol.first_difference.Goals as goal

pub returns-in-Some-clause-differs : goal.returns-in-Some-clause-differs
returns-in-Some-clause-differs c =
    let found = c.in-Some.ensures.differs c.args.esi
    (subst (λ (w : List ℕ). AreWeights (range_with_len 0 c.args.block.now.k) c.args.esi w) (sym c.as_slice.ensures.value) c.weights.ensures.weights) in
    (omega (arith, found.0, c.loop-start.invariant.within, c.size-in-loop-start.ensures, c.min-len.ensures), found.1)
