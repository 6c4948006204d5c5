use Rattle.wire_bytes.proofs.laws.numbers_in_bytes.Goals as goal
use Rattle.wire_bytes.proofs.Numbers.{big_number-big_bytes, big_bytes-big_number}

-- src/laws.rt:10:1
pub returns-clause-number : goal.returns-clause-number
returns-clause-number c = big_number-big_bytes

-- src/laws.rt:10:1
pub returns-clause-bytes : goal.returns-clause-bytes
returns-clause-bytes c = big_bytes-big_number
