-- The bytes of the piece before are the symbol's.
use Rattle.std.proofs.Common.{◌≡◌, ℕ, ◌<◌, ◌+◌, get_or}
use Rattle.rs_code.proofs.symbol.difference_in.Given as goal

abbrev pub invariant-loop-i : goal.invariant-loop-i
invariant-loop-i l = (m : ℕ) → m < l.i → get_or l.piece m 0 ≡ get_or l.bytes (l.start + m) 0
