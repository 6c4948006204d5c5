-- What is summed so far, and the value of the coefficients that are left, make the value.
use Rattle.std.proofs.Common.{◌≡◌, drop, bit_xor}
use Rattle.gf256.specs.Polynomial.{value_from}
use Rattle.gf256.proofs.polynomial.eval.Given as goal

abbrev pub invariant-loop-coef : goal.invariant-loop-coef
invariant-loop-coef l = bit_xor l.sum.0 (value_from l.power.0 (drop l.coef-index l.coefs) l.x.0) ≡ value_from 1 l.fn.coefs l.fn.x.0
