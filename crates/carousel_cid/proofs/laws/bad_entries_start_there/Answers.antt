use Rattle.carousel_cid.proofs.BadLists.{starts_bad, told_bad}
use Rattle.carousel_cid.proofs.laws.bad_entries_start_there.Goals as goal

pub returns : goal.returns
returns c body at = (starts_bad body at, told_bad body at)
