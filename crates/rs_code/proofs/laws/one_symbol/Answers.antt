-- It exists by interpolation, and is the only one by the root bound.
use Rattle.std.proofs.Common.{length, refl}
use Rattle.gf256.specs.Polynomial.{power}
use Rattle.gf256.proofs.Public.{power_lt}
use Rattle.rs_code.specs.Interpolation.{weighed}
use Rattle.rs_code.proofs.Interpolate.{weighed_lt, interpolates}
use Rattle.rs_code.proofs.Unique.{symbol_unique}
use Rattle.rs_code.proofs.laws.one_symbol.Goals as goal

pub returns-clause-exists : goal.returns-clause-exists
returns-clause-exists w s j bytes some lk lj =
    (weighed power (length s) s (length s) (power j), weighed_lt power (length s) s (length s) (power j) (power_lt j), interpolates (length s) s j refl bytes lk)

pub returns-clause-unique : goal.returns-clause-unique
returns-clause-unique w s j v u bytes some lk lj p q = symbol_unique s j v u lk p q
