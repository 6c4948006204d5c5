use Rattle.wire_bytes.proofs.laws.filled_with_zeros.Goals as goal
use Rattle.wire_bytes.proofs.Bytes.{length_filled, front_filled}

-- src/laws.rt:16:1
pub returns-clause-length : goal.returns-clause-length
returns-clause-length c = length_filled

-- src/laws.rt:16:1
pub returns-clause-front : goal.returns-clause-front
returns-clause-front c = front_filled
