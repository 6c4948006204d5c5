use Rattle.std.proofs.Common.{◌∙◌, ap, cond, None}
use Rattle.std.specs.BTreeMap.{get}
use Rattle.std.specs.Ordering.{nat_cmp}
use Rattle.object_store.specs.Store.{is_in}
use Rattle.receiver_core.proofs.Keeping.{settling_read, forgotten}
use Rattle.receiver_core.proofs.settling.find_more.Goals as goal

pub find_from-requires : goal.find_from-requires
find_from-requires c = settling_read c.args.store.now c.args.standings.now c.args.waiting.now c.args.settled c.args.installed.now c.requires

pub returns-in-Err-clause-err : goal.returns-in-Err-clause-err
returns-in-Err-clause-err c =
    forgotten c.args.store.now c.args.standings.now c.find_from.new.standings c.forget.new.standings c.args.waiting.now c.clear.new.self
    c.args.settled c.args.installed.now c.fresh_of.ensures.listed c.requires c.in-Err.ensures.others
    (λ t. c.forget.ensures t ∙ ap (λ ts. cond (is_in t ts) None (get nat_cmp c.find_from.new.standings t)) c.fresh_of.ensures.fresh)
    c.clear.ensures.empty
