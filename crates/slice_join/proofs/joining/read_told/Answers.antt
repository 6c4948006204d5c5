use Rattle.std.proofs.Common.{◌≡◌, true, Some, rules}
use Rattle.slice_join.specs.Slice.{slice_in}
use Rattle.slice_join.specs.Faults.{is_placed}
use Rattle.slice_join.proofs.Walks.{good_head}
use Rattle.slice_join.proofs.joining.read_told.Goals as goal

pub returns-clause-ok : goal.returns-clause-ok
returns-clause-ok c =
    let is : slice_in c.args.file.now.body ≡ Some c.in-Some.says = search rules in
    let placed : is_placed c.in-Some.says ≡ true = search rules in
    good_head c.args.file.now c.in-Some.says is placed
