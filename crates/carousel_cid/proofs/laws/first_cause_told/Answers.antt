use Rattle.carousel_cid.proofs.FirstCauses.{first_cause_told}
use Rattle.carousel_cid.proofs.laws.first_cause_told.Goals as goal

pub returns : goal.returns
returns c object cause bytes = first_cause_told object cause bytes
