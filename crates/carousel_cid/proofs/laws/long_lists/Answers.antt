use Rattle.carousel_cid.proofs.BadLists.{too_long, told_long}
use Rattle.carousel_cid.proofs.laws.long_lists.Goals as goal

pub returns-clause-told : goal.returns-clause-told
returns-clause-told c body is = too_long body is

pub returns-clause-exact : goal.returns-clause-exact
returns-clause-exact c body entries spells long = told_long body entries spells long
