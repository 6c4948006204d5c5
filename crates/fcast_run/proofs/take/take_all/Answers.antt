use Rattle.std.proofs.Common.{◌+◌, ◌≤◌, [], ◌++◌, ◌∙◌, refl, sym, ap, subst, arith, length, take, rules}
use Rattle.std.proofs.lemmas.List.Elements.{All-nil}
use Rattle.std.proofs.lemmas.Result.{err_from_is_err_and}
use Rattle.wire_bytes.specs.Bytes.{AreBytes}
use Rattle.receiver_core.specs.BestOf.{best}
use Rattle.snapshot_hub.specs.Histories.{last_of}
use Rattle.run_base.specs.Bounds.{limit}
use Rattle.run_base.specs.declared.ending.Ending.{Ending}
use Rattle.run_base.specs.declared.list.Step.{Step}
use Rattle.run_base.specs.Steps.{Fits, Steps}
use Rattle.run_base.proofs.Public.{all_taken, less_more, less_none, limit_less, next_taken, none_taken, one_more_taken}
use Rattle.run_receive.specs.Events.{events_of, events_with, published_with}
use Rattle.run_receive.specs.HasTaken.{HasTaken}
use Rattle.run_receive.specs.Showings.{with_option}
use Rattle.run_receive.proofs.Public.{heard_next, heard_all, none_heard, part_heard, told_at_memory, events_more, events_behind, best_of_nothing, installed_best, published_more, shown_all, nothing_published}
use Rattle.fcast_run.proofs.Gathering.{told_at_fault}
use Rattle.fcast_run.proofs.take.take_all.Goals as goal

pub loop-size-init : goal.loop-size-init
loop-size-init g c = record {
  tsi = refl;
  budget = refl;
  told = λ told. told;
  gathered = record {
    count = 0;
    rest = less_none c.args.bound;
    within = omega arith;
    few = omega (arith, c.requires.fresh.drops);
    room = λ shown. let none = ap length (c.requires.empty shown) in omega (arith, none);
    taken = λ told. none_taken _ _ _ _ refl refl;
    has = λ told. c.requires.fresh;
    heard = λ told. none_heard (λ v. (goal.Watch-dyn g (v.vtable, v.value)).hearing v.value)
        c.args.receiver.now.tsi c.args.receiver.now.budget (g.D.Datagrams.left c.args.datagrams.now) c.args.watchers.now.items;
    was_shown = λ told shown. c.requires.empty shown
        ∙ nothing_published c.args.receiver.now.tsi c.args.receiver.now.budget (g.D.Datagrams.left c.args.datagrams.now);
  };
  some = record { datagrams = []; bytes = All-nil AreBytes; has = c.requires.fresh };
  last = λ shown. ap last_of (c.requires.empty shown) ∙ sym (c.requires.fresh.installed ∙ best_of_nothing);
  place = refl;
  grows = omega arith;
  room = c.requires.buffer;
}

pub loop-size-preserved : goal.loop-size-preserved
loop-size-preserved g c =
    let D = g.D.Datagrams in
    let before = c.loop-size.invariant in
    let so_far = before.gathered in
    let i = so_far.count in
    let r = c.loop-size.receiver in
    let tsi = c.args.receiver.now.tsi in
    let budget = c.args.receiver.now.budget in
    let left = D.left c.args.datagrams.now in
    let one = c.in_ok-take_one-in-Got.ensures in
    let d = take c.in-Got.size c.next_within.new.buffer in
    let fits = subst (λ step. Fits step c.next_within.new.buffer c.loop-size.bound c.next_within.new.bound) c.in-Got.is c.in_ok-size.ensures.fits in
    let steps = λ (told : D.told c.args.datagrams.now). subst (λ step. Steps step c.next_within.new.buffer c.loop-size.bound (D.left c.loop-size.datagrams)
    (D.torn c.loop-size.datagrams) (D.left c.next_within.new.datagrams) (D.torn c.next_within.new.datagrams) (D.told c.next_within.new.datagrams))
    c.in-Got.is (c.in_ok-size.ensures.answer (before.told told)) in
    let within : i + 1 ≤ limit c.args.bound = omega (arith, fits.1, limit_less c.args.bound i, ap limit so_far.rest) in
    let next = λ (told : D.told c.args.datagrams.now). next_taken i left _ _ _ d _ (so_far.taken told) (steps told).0 in
    record {
      tsi = one.tsi ∙ before.tsi;
      budget = one.budget ∙ before.budget;
      told = λ told. (steps told).2;
      gathered = record {
        count = i + 1;
        rest = less_more c.args.bound c.loop-size.bound c.next_within.new.bound i so_far.rest fits.2;
        within = within;
        few = omega (arith, so_far.few, one.drops);
        room = λ shown. omega (arith, one.room shown, so_far.room shown);
        taken = λ told. one_more_taken i left _ _ _ d _ _ (so_far.taken told) (steps told).0 (steps told).1;
        has = λ told. subst (HasTaken c.take_one.new.receiver) (sym (next told))
            (one.taken (take i left) (omega (arith, so_far.few, within, c.requires.limit)) (so_far.has told));
        heard = λ told. heard_next (λ v. (goal.Watch-dyn g (v.vtable, v.value)).hearing v.value)
            (events_of tsi budget (take i left)) (events_with r.tsi r.budget r.held d) (events_of tsi budget (take (i + 1) left))
            c.args.watchers.now.items c.loop-size.watchers.items c.take_one.new.watchers.items
            (events_more tsi budget i left d r before.tsi before.budget (so_far.has told) (next told))
            (so_far.heard told) (one.events ((so_far.has told).installed ∙ ap best (sym (so_far.has told).held)));
        was_shown = λ told shown. one.shown shown (installed_best r (take i left) (so_far.has told))
            ∙ ap (λ is. with_option is (published_with r.tsi r.budget r.held d)) (so_far.was_shown told shown)
            ∙ sym (published_more tsi budget i left d r before.tsi before.budget (so_far.has told) (next told));
      };
      some = one.some;
      last = one.last;
      place = c.next_within.ensures.place ∙ before.place;
      grows = omega (arith, before.grows, c.next_within.ensures.grows);
      room = search rules;
    }

pub returns-in_err-size-clause-events : goal.returns-in_err-size-clause-events
returns-in_err-size-clause-events g c = λ told.
    let so_far = c.loop-size.invariant.gathered in
    let error = err_from_is_err_and c.from_residual.result c.from_residual.ensures.1 in
    rw (error.1, error.2) (told_at_fault Step Ending c.in_err-size.field-0.0 _ c.args.receiver.now.tsi c.args.receiver.now.budget so_far.count c.args.bound
    (g.D.Datagrams.left c.args.datagrams.now) _ c.in_err-size.ensures.blames so_far.within (so_far.heard told))

pub returns-in_err-take_one-in-Got-clause-events : goal.returns-in_err-take_one-in-Got-clause-events
returns-in_err-take_one-in-Got-clause-events g c = λ told.
    let D = g.D.Datagrams in
    let before = c.loop-size.invariant in
    let so_far = before.gathered in
    let i = so_far.count in
    let r = c.loop-size.receiver in
    let tsi = c.args.receiver.now.tsi in
    let budget = c.args.receiver.now.budget in
    let left = D.left c.args.datagrams.now in
    let d = take c.in-Got.size c.next_within.new.buffer in
    let fits = subst (λ step. Fits step c.next_within.new.buffer c.loop-size.bound c.next_within.new.bound) c.in-Got.is c.in_ok-size.ensures.fits in
    let steps = subst (λ step. Steps step c.next_within.new.buffer c.loop-size.bound (D.left c.loop-size.datagrams)
    (D.torn c.loop-size.datagrams) (D.left c.next_within.new.datagrams) (D.torn c.next_within.new.datagrams) (D.told c.next_within.new.datagrams))
    c.in-Got.is (c.in_ok-size.ensures.answer (before.told told)) in
    let within : i + 1 ≤ limit c.args.bound = omega (arith, fits.1, limit_less c.args.bound i, ap limit so_far.rest) in
    let behind = events_behind tsi budget (i + 1) (limit c.args.bound) left within in
    let one = events_more tsi budget i left d r before.tsi before.budget (so_far.has told) (next_taken i left _ _ _ d _ (so_far.taken told) steps.0) in
    told_at_memory c.from_residual-in_err-take_one-in-Got.result _ _ _ c.from_residual-in_err-take_one-in-Got.ensures.1 (part_heard
    (λ v. (goal.Watch-dyn g (v.vtable, v.value)).hearing v.value)
    (events_of tsi budget (take i left)) (events_with r.tsi r.budget r.held d) behind.0 (events_of tsi budget (take (limit c.args.bound) left))
    c.args.watchers.now.items c.loop-size.watchers.items c.take_one.new.watchers.items
    (behind.1 ∙ ap (λ es. es ++ behind.0) one)
    (so_far.heard told) c.in_err-take_one-in-Got.ensures.part)

pub returns-in-Ended-clause-taken : goal.returns-in-Ended-clause-taken
returns-in-Ended-clause-taken g c = λ told.
    let D = g.D.Datagrams in
    let before = c.loop-size.invariant in
    let so_far = before.gathered in
    let steps = subst (λ step. Steps step c.next_within.new.buffer c.loop-size.bound (D.left c.loop-size.datagrams)
    (D.torn c.loop-size.datagrams) (D.left c.next_within.new.datagrams) (D.torn c.next_within.new.datagrams) (D.told c.next_within.new.datagrams))
    c.in-Ended.is (c.in_ok-size.ensures.answer (before.told told)) in
    let all = all_taken so_far.count c.args.bound c.loop-size.bound _ _ _ _ _ c.in-Ended.ending so_far.rest so_far.within (so_far.taken told) steps in
    subst (HasTaken c.loop-size.receiver) (sym all.all) (so_far.has told)

pub returns-in-Ended-clause-events : goal.returns-in-Ended-clause-events
returns-in-Ended-clause-events g c = λ told.
    let D = g.D.Datagrams in
    let before = c.loop-size.invariant in
    let so_far = before.gathered in
    let steps = subst (λ step. Steps step c.next_within.new.buffer c.loop-size.bound (D.left c.loop-size.datagrams)
    (D.torn c.loop-size.datagrams) (D.left c.next_within.new.datagrams) (D.torn c.next_within.new.datagrams) (D.told c.next_within.new.datagrams))
    c.in-Ended.is (c.in_ok-size.ensures.answer (before.told told)) in
    let all = all_taken so_far.count c.args.bound c.loop-size.bound _ _ _ _ _ c.in-Ended.ending so_far.rest so_far.within (so_far.taken told) steps in
    heard_all (λ v. (goal.Watch-dyn g (v.vtable, v.value)).hearing v.value)
    c.args.receiver.now.tsi c.args.receiver.now.budget so_far.count (limit c.args.bound) (D.left c.args.datagrams.now)
    c.args.watchers.now.items c.loop-size.watchers.items all.all (so_far.heard told)

pub returns-in-Ended-clause-shown : goal.returns-in-Ended-clause-shown
returns-in-Ended-clause-shown g c = λ told shown.
    let D = g.D.Datagrams in
    let before = c.loop-size.invariant in
    let so_far = before.gathered in
    let steps = subst (λ step. Steps step c.next_within.new.buffer c.loop-size.bound (D.left c.loop-size.datagrams)
    (D.torn c.loop-size.datagrams) (D.left c.next_within.new.datagrams) (D.torn c.next_within.new.datagrams) (D.told c.next_within.new.datagrams))
    c.in-Ended.is (c.in_ok-size.ensures.answer (before.told told)) in
    let all = all_taken so_far.count c.args.bound c.loop-size.bound _ _ _ _ _ c.in-Ended.ending so_far.rest so_far.within (so_far.taken told) steps in
    shown_all c.args.receiver.now.tsi c.args.receiver.now.budget so_far.count (limit c.args.bound) (D.left c.args.datagrams.now) _ all.all (so_far.was_shown told shown)
