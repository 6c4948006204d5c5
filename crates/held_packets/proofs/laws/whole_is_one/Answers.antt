use Rattle.held_packets.proofs.WholeOnly.{whole_only}
use Rattle.held_packets.proofs.WholeHas.{all_rows, whole_has}
use Rattle.held_packets.proofs.laws.whole_is_one.Goals as goal

pub returns-clause-only : goal.returns-clause-only
returns-clause-only c = whole_only

pub returns-clause-some : goal.returns-clause-some
returns-clause-some c held t o pair bytes open_ ready = (all_rows held t o, whole_has held t o pair bytes open_ ready)
