-- The tested entry of the exponent.
use Rattle.gf256.proofs.Logarithms.{power_is}
use Rattle.gf256.proofs.logarithm.power_at.Goals as goal

pub returns : goal.returns
returns c = power_is c.args.j c.requires
