-- The law is a lemma.
use Rattle.gf256.proofs.Roots.{equal_where_agree}
use Rattle.gf256.proofs.laws.equal_where_they_agree.Goals as goal

pub returns : goal.returns
returns w cs ds rs bc bd br same many apart agree = equal_where_agree cs ds rs bc bd br same many apart agree
