use Rattle.std.proofs.Common.{◌∙◌, ◌++◌, sym, ap, length, None}
use Rattle.std.specs.Option.{option_or}
use Rattle.object_store.specs.Store.{is_in, are_different}
use Rattle.held_packets.specs.Whole.{whole}
use Rattle.receiver_core.specs.Best.{complete}
use Rattle.receiver_core.specs.Inner.Candidates.{candidates_in}
use Rattle.receiver_core.specs.Inner.Choice.{chosen}
use Rattle.receiver_core.specs.Inner.Settling.{Finds, IsRead}
use Rattle.receiver_core.proofs.Lists.{different_behind}
use Rattle.receiver_core.proofs.Settles.{finds_none, finds_some, kept_none, kept_some}
use Rattle.receiver_core.proofs.Finding.{facts, read_all, fresh_are_whole, if_ok_is}
use Rattle.receiver_core.proofs.settling.find_from.Goals as goal

pub classify_all-requires : goal.classify_all-requires
classify_all-requires c = λ t among. fresh_are_whole c.args.store.now c.args.read t
    c.fresh_of-fresh.ensures.listed (ap (is_in t) (sym c.fresh_of-fresh.ensures.fresh) ∙ among)

pub wake_all-requires : goal.wake_all-requires
wake_all-requires c = ap are_different c.fresh_of-fresh.ensures.fresh ∙ different_behind c.args.read c.args.store.now.ready c.fresh_of-fresh.ensures.listed.different

pub returns-in-None-clause-found : goal.returns-in-None-clause-found
returns-in-None-clause-found c = let f = facts c.args.store.now c.args.standings.now c.classify_all.new.standings c.args.waiting.now c.wake_all.new.waiting c.place_all.new.waiting
    c.classify_all.new.candidates.items c.wake_all.new.woken.items c.in_ok-ended.ended.items c.args.read c.args.installed.now c.fresh_of-fresh.result.now
    c.fresh_of-fresh.ensures.listed c.requires c.fresh_of-fresh.ensures.fresh c.in_ok-classify_all.ensures.standings
    (c.in_ok-classify_all.ensures.candidates ∙ ap (λ cs. cs ++ candidates_in (whole c.args.store.now.held) c.fresh_of-fresh.result.now) c.new-woken.ensures.items)
    c.in_ok-wake_all.ensures.woken c.in_ok-wake_all.ensures.others c.in_ok-ended.ensures.ended c.in_ok-ended.ensures.waiting in
    finds_none (whole c.args.store.now.held) c.args.installed.now c.in_ok-ended.ended.items f.knows
    c.requires.announced (ap chosen (sym c.as_slice.ensures.value) ∙ sym c.in-None.ensures)

pub returns-in-None-clause-ok : goal.returns-in-None-clause-ok
returns-in-None-clause-ok c = let f = facts c.args.store.now c.args.standings.now c.classify_all.new.standings c.args.waiting.now c.wake_all.new.waiting c.place_all.new.waiting
    c.classify_all.new.candidates.items c.wake_all.new.woken.items c.in_ok-ended.ended.items c.args.read c.args.installed.now c.fresh_of-fresh.result.now
    c.fresh_of-fresh.ensures.listed c.requires c.fresh_of-fresh.ensures.fresh c.in_ok-classify_all.ensures.standings
    (c.in_ok-classify_all.ensures.candidates ∙ ap (λ cs. cs ++ candidates_in (whole c.args.store.now.held) c.fresh_of-fresh.result.now) c.new-woken.ensures.items)
    c.in_ok-wake_all.ensures.woken c.in_ok-wake_all.ensures.others c.in_ok-ended.ensures.ended c.in_ok-ended.ensures.waiting in
    read_all c.args.store.now c.args.installed.now None c.classify_all.new.standings c.place_all.new.waiting c.in_ok-ended.ended.items f
    (kept_none (whole c.args.store.now.held) c.args.installed.now c.place_all.new.waiting c.in_ok-ended.ended.items c.args.store.now.ready
    f.knows.ended c.requires.announced f.covered (ap chosen (sym c.as_slice.ensures.value) ∙ sym c.in-None.ensures))

pub returns-clause-found : goal.returns-clause-found
returns-clause-found c = let f = facts c.args.store.now c.args.standings.now c.classify_all.new.standings c.args.waiting.now c.wake_all.new.waiting c.place_all.new.waiting
    c.classify_all.new.candidates.items c.wake_all.new.woken.items c.in_ok-ended.ended.items c.args.read c.args.installed.now c.fresh_of-fresh.result.now
    c.fresh_of-fresh.ensures.listed c.requires c.fresh_of-fresh.ensures.fresh c.in_ok-classify_all.ensures.standings
    (c.in_ok-classify_all.ensures.candidates ∙ ap (λ cs. cs ++ candidates_in (whole c.args.store.now.held) c.fresh_of-fresh.result.now) c.new-woken.ensures.items)
    c.in_ok-wake_all.ensures.woken c.in_ok-wake_all.ensures.others c.in_ok-ended.ensures.ended c.in_ok-ended.ensures.waiting in
    if_ok_is (Finds (whole c.args.store.now.held) c.args.installed.now) c.instance_of.result (complete (whole c.args.store.now.held) c.in-Some.best.now.toi)
    (finds_some (whole c.args.store.now.held) c.args.installed.now c.in_ok-ended.ended.items c.in-Some.best.now
    f.knows (ap chosen (sym c.as_slice.ensures.value) ∙ sym c.in-Some.ensures)) c.instance_of.ensures

pub returns-clause-ok : goal.returns-clause-ok
returns-clause-ok c = let f = facts c.args.store.now c.args.standings.now c.classify_all.new.standings c.args.waiting.now c.wake_all.new.waiting c.place_all.new.waiting
    c.classify_all.new.candidates.items c.wake_all.new.woken.items c.in_ok-ended.ended.items c.args.read c.args.installed.now c.fresh_of-fresh.result.now
    c.fresh_of-fresh.ensures.listed c.requires c.fresh_of-fresh.ensures.fresh c.in_ok-classify_all.ensures.standings
    (c.in_ok-classify_all.ensures.candidates ∙ ap (λ cs. cs ++ candidates_in (whole c.args.store.now.held) c.fresh_of-fresh.result.now) c.new-woken.ensures.items)
    c.in_ok-wake_all.ensures.woken c.in_ok-wake_all.ensures.others c.in_ok-ended.ensures.ended c.in_ok-ended.ensures.waiting in
    if_ok_is (λ found. IsRead c.args.store.now c.classify_all.new.standings c.place_all.new.waiting (length c.args.store.now.ready) (option_or found c.args.installed.now))
    c.instance_of.result (complete (whole c.args.store.now.held) c.in-Some.best.now.toi)
    (read_all c.args.store.now c.args.installed.now (complete (whole c.args.store.now.held) c.in-Some.best.now.toi) c.classify_all.new.standings c.place_all.new.waiting
    c.in_ok-ended.ended.items f
    (kept_some (whole c.args.store.now.held) c.args.installed.now c.place_all.new.waiting c.in_ok-ended.ended.items c.in-Some.best.now c.args.store.now.ready
    f.knows.ended c.requires.announced f.covered (ap chosen (sym c.as_slice.ensures.value) ∙ sym c.in-Some.ensures)))
    c.instance_of.ensures
