use Rattle.std.proofs.Common.{◌∷◌, [], ◌∙◌, sym, ap, arith, length}
use Rattle.receiver_core.specs.BestOf.{best}
use Rattle.receiver_core.specs.Classes.{drops_with, held_with}
use Rattle.run_receive.specs.Showings.{with_option, when_another}
use Rattle.run_receive.proofs.Public.{events_are, are_bytes, one_more, installed_best, some_more, not_older, may_follow, last_shown, one_longer, shown_is, heard_next, no_event_heard, whole_is_part}
use Rattle.run_base.proofs.Public.{on_error}
use Rattle.run_receive.specs.Events.{event_of, announcement, other_number, events_with}
use Rattle.snapshot_hub.specs.Histories.{last_of}
use Rattle.fcast_run.proofs.take.take_one.Goals as goal

pub returns-clause-taken : goal.returns-clause-taken
returns-clause-taken g c =
    let taken = c.in_ok-taken.ensures in
    let settled = c.in_ok-number.ensures in
    λ ds few has. one_more c.args.receiver.now c.settle.new.self c.args.datagram.now ds (record {
      tsi = settled.tsi ∙ taken.tsi;
      budget = settled.budget ∙ taken.budget;
      held = settled.held ∙ taken.held;
      drops = settled.drops ∙ (taken.drops ∙ ap (drops_with c.args.receiver.now.drops) taken.answer);
      installed = settled.best ∙ ap best (sym settled.held);
    }) few has

pub returns-clause-events : goal.returns-clause-events
returns-clause-events g c = λ installed.
    let taken = c.in_ok-taken.ensures in
    let r = c.args.receiver.now in
    heard_next
    (λ v. (goal.Watch-dyn g (v.vtable, v.value)).hearing v.value)
    (event_of c.in_ok-taken.taken ∷ []) (announcement c.in_ok-number.number) (events_with r.tsi r.budget r.held c.args.datagram.now)
    c.args.watchers.now.items c.tell_taken.new.watchers.items c.tell_installed.new.watchers.items
    (events_are r.tsi r.budget r.held c.args.datagram.now c.in_ok-taken.taken c.in_ok-number.number c.take.new.self.installed (best c.take.new.self.held)
    taken.answer (taken.installed ∙ installed) (ap best taken.held) c.in_ok-number.ensures.answer)
    c.tell_taken.ensures c.tell_installed.ensures

pub returns-in_err-taken-clause-part : goal.returns-in_err-taken-clause-part
returns-in_err-taken-clause-part g c = on_error c.from_residual.result _ (no_event_heard
    (λ v. (goal.Watch-dyn g (v.vtable, v.value)).hearing v.value)
    (events_with c.args.receiver.now.tsi c.args.receiver.now.budget c.args.receiver.now.held c.args.datagram.now) c.args.watchers.now.items)

pub returns-in_err-number-clause-part : goal.returns-in_err-number-clause-part
returns-in_err-number-clause-part g c =
    let r = c.args.receiver.now in
    let other = announcement (other_number (best r.held) (best (held_with r.tsi r.budget r.held c.args.datagram.now))) in
    on_error c.from_residual-in_err-number.result _ (record {
      front = event_of c.in_ok-taken.taken ∷ [];
      rest = other;
      is = ap (λ t. event_of t ∷ other) (sym c.in_ok-taken.ensures.answer);
      hears = c.tell_taken.ensures;
    })

pub show_installed-requires-clause-follows : goal.show_installed-requires-clause-follows
show_installed-requires-clause-follows g c = λ told i is.
    let d = c.args.datagram.now in
    let r = c.args.receiver.now in
    let settled = c.in_ok-number.ensures in
    may_follow c.in_ok-number.number (g.A.Audience.shown c.args.audience.now) r.installed (best (held_with r.tsi r.budget r.held d)) i
    (c.requires.last told) (not_older r d c.requires.some (are_bytes d (λ i. (c.type_inv.datagram i).fits)))
    (ap (when_another c.in_ok-number.number) (sym (c.installed.ensures ∙ settled.best ∙ ap best c.in_ok-taken.ensures.held)) ∙ is)

pub returns-clause-some : goal.returns-clause-some
returns-clause-some g c =
    let d = c.args.datagram.now in
    let taken = c.in_ok-taken.ensures in
    let settled = c.in_ok-number.ensures in
    let some = c.requires.some in
    some_more c.args.receiver.now c.settle.new.self d (are_bytes d (λ i. (c.type_inv.datagram i).fits)) some
    (λ has. one_more c.args.receiver.now c.settle.new.self d some.datagrams (record {
      tsi = settled.tsi ∙ taken.tsi;
      budget = settled.budget ∙ taken.budget;
      held = settled.held ∙ taken.held;
      drops = settled.drops ∙ (taken.drops ∙ ap (drops_with c.args.receiver.now.drops) taken.answer);
      installed = settled.best ∙ ap best (sym settled.held);
    }) c.requires.few has)

pub returns-clause-last : goal.returns-clause-last
returns-clause-last g c = λ told.
    let settled = c.in_ok-number.ensures in
    let shown = g.A.Audience.shown c.args.audience.now in
    ap last_of (c.in_ok-show_installed.ensures.ok told
    ∙ ap (λ o. with_option shown (when_another c.in_ok-number.number o)) (c.installed.ensures ∙ settled.best))
    ∙ last_shown c.in_ok-number.number shown c.take.new.self.installed (best c.take.new.self.held) settled.answer
    (c.requires.last told ∙ sym c.in_ok-taken.ensures.installed)
    ∙ sym settled.best

pub returns-clause-room : goal.returns-clause-room
returns-clause-room g c = λ told.
    let shown = g.A.Audience.shown c.args.audience.now in
    let few = one_longer (when_another c.in_ok-number.number c.settle.new.self.installed) shown in
    let is = ap length (c.in_ok-show_installed.ensures.ok told ∙ ap (λ o. with_option shown (when_another c.in_ok-number.number o)) c.installed.ensures) in
    omega (arith, is, few)

pub returns-clause-shown : goal.returns-clause-shown
returns-clause-shown g c = λ told best_before.
    let r = c.args.receiver.now in
    let taken = c.in_ok-taken.ensures in
    let settled = c.in_ok-number.ensures in
    shown_is r.tsi r.budget r.held c.args.datagram.now c.in_ok-number.number c.take.new.self.installed (best c.take.new.self.held)
    (g.A.Audience.shown c.args.audience.now) (g.A.Audience.shown c.show_installed.new.audience)
    (taken.installed ∙ best_before) (ap best taken.held) settled.answer
    (c.in_ok-show_installed.ensures.ok told
    ∙ ap (λ o. with_option (g.A.Audience.shown c.args.audience.now) (when_another c.in_ok-number.number o)) (c.installed.ensures ∙ settled.best))

pub returns-in_err-show_installed-clause-part : goal.returns-in_err-show_installed-clause-part
returns-in_err-show_installed-clause-part g c =
    let taken = c.in_ok-taken.ensures in
    let r = c.args.receiver.now in
    let events = events_with r.tsi r.budget r.held c.args.datagram.now in
    let installed = installed_best r c.requires.some.datagrams c.requires.some.has in
    on_error c.from_residual-in_err-show_installed.result _ (whole_is_part events _ (heard_next
    (λ v. (goal.Watch-dyn g (v.vtable, v.value)).hearing v.value)
    (event_of c.in_ok-taken.taken ∷ []) (announcement c.in_ok-number.number) events
    c.args.watchers.now.items c.tell_taken.new.watchers.items c.tell_installed.new.watchers.items
    (events_are r.tsi r.budget r.held c.args.datagram.now c.in_ok-taken.taken c.in_ok-number.number c.take.new.self.installed (best c.take.new.self.held)
    taken.answer (taken.installed ∙ installed) (ap best taken.held) c.in_ok-number.ensures.answer)
    c.tell_taken.ensures c.tell_installed.ensures))
