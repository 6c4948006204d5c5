use Rattle.wire_bytes.proofs.laws.first_of_faults.Goals as goal
use Rattle.wire_bytes.proofs.Faults.{first_is}

-- src/laws.rt:22:1
pub returns : goal.returns
returns c = first_is
