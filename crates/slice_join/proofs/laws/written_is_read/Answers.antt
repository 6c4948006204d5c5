use Rattle.slice_join.proofs.Bodies.{spelled_read, read_says}
use Rattle.slice_join.proofs.laws.written_is_read.Goals as goal

pub returns-clause-read : goal.returns-clause-read
returns-clause-read c = spelled_read

pub returns-clause-says : goal.returns-clause-says
returns-clause-says c = read_says
