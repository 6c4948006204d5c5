use Rattle.carousel_cid.proofs.ReadKinds.{file_where_read, descriptor_where_read}
use Rattle.carousel_cid.proofs.laws.read_exactly_where_spelled.Goals as goal

pub returns-clause-file : goal.returns-clause-file
returns-clause-file c object location kind body bytes = file_where_read object location kind body bytes

pub returns-clause-descriptor : goal.returns-clause-descriptor
returns-clause-descriptor c object number listed bytes = descriptor_where_read object number listed bytes
