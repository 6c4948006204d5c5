use Rattle.std.proofs.Common.{arith}
use Rattle.wire_bytes.proofs.Public.{bytes_by_place}
use Rattle.carousel_cid.proofs.ReadKinds.{file_exactly, descriptor_exactly, listed_exactly}
use Rattle.carousel_cid.proofs.reading.kind_of.Goals as goal

pub returns-clause-file : goal.returns-clause-file
returns-clause-file c = file_exactly c.args.bytes.now
    c.kind_read.result (bytes_by_place c.args.bytes.now (λ i. omega (arith, c.type_inv.bytes i))) c.kind_read.ensures.kind

pub returns-clause-descriptor : goal.returns-clause-descriptor
returns-clause-descriptor c = descriptor_exactly c.args.bytes.now
    c.kind_read.result (bytes_by_place c.args.bytes.now (λ i. omega (arith, c.type_inv.bytes i))) c.kind_read.ensures.kind

pub returns-clause-listed : goal.returns-clause-listed
returns-clause-listed c = listed_exactly c.args.bytes.now
    c.kind_read.result (bytes_by_place c.args.bytes.now (λ i. omega (arith, c.type_inv.bytes i))) c.kind_read.ensures.kind
