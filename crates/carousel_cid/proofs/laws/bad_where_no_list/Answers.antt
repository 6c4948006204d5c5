use Rattle.carousel_cid.proofs.BadLists.{no_list_bad, bad_without_list}
use Rattle.carousel_cid.proofs.laws.bad_where_no_list.Goals as goal

pub returns : goal.returns
returns c body = (λ bad entries list. no_list_bad body bad.0 entries bad.1 list, bad_without_list body)
