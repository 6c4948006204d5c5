-- The law is a lemma.
use Rattle.std.proofs.lemmas.Nat.{xor_comm}
use Rattle.gf256.proofs.laws.sum_commutative.Goals as goal

pub returns : goal.returns
returns w a b = xor_comm a b
