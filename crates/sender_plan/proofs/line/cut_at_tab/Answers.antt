use Rattle.std.proofs.Common.{arith}
use Rattle.std.proofs.lemmas.Str.Pattern.{split_once_first}
use Rattle.sender_plan.proofs.Cuts.{cut_some, cut_none}
use Rattle.sender_plan.proofs.line.cut_at_tab.Goals as goal

pub returns-clause-cut : goal.returns-clause-cut
returns-clause-cut c = cut_some c.args.text.now c.split_once.result (split_once_first 9 c.args.text.now c.split_once.result c.split_once.ensures.cases (omega arith))

pub returns-clause-whole : goal.returns-clause-whole
returns-clause-whole c = cut_none c.args.text.now c.split_once.result (split_once_first 9 c.args.text.now c.split_once.result c.split_once.ensures.cases (omega arith))
