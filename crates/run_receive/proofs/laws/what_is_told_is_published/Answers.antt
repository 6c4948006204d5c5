use Rattle.run_base.specs.Bounds.{datagrams_taken}
use Rattle.run_receive.proofs.Showing.{numbers_of}
use Rattle.run_receive.proofs.laws.what_is_told_is_published.Goals as goal

pub returns : goal.returns
returns g c left = numbers_of c.tsi c.budget (datagrams_taken c left)
