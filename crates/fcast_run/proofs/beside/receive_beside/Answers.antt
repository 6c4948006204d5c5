use Rattle.std.proofs.Common.{◌≡◌, arith}
use Rattle.std.specs.Prelude.{vec_len}
use Rattle.run_receive.specs.Events.{published}
use Rattle.run_receive.proofs.Public.{no_event_heard, told_at_memory}
use Rattle.run_readers.proofs.Public.{text_behind, nothing_behind, lines_of, ok_behind, shelf_behind, apart_behind, taking_behind, blames_behind, events_behind, nothing_at_memory, rose_before, rose_behind}
use Rattle.fcast_run.proofs.beside.receive_beside.Goals as goal

pub finish-requires-clause-few : goal.finish-requires-clause-few
finish-requires-clause-few g c = omega (
  arith,
  c.end_all-stopped.ensures,
  c.loop-pass.invariant.seats,
  c.in-None.ensures.steps.0,
  c.into_iter-pass-iterator.ensures.into_iter_gives.1,
  c.in_ok-stop.ensures.passes,
  c.requires.readers.1,
)

pub returns-clause-table : goal.returns-clause-table
returns-clause-table g c = ok_behind c.receive-done.result c.finish.result _ _ c.finish.ensures.comes c.receive-done.ensures.table

pub returns-clause-status : goal.returns-clause-status
returns-clause-status g c = λ told.
    ok_behind c.receive-done.result c.finish.result _ _ c.finish.ensures.comes (c.receive-done.ensures.status told)

pub returns-clause-text : goal.returns-clause-text
returns-clause-text g c = λ told written.
    let done = c.receive-done.ensures in
    let p = published c.args.listening.now.settings (g.D.Datagrams.left c.args.datagrams.now) in
    let readers : vec_len c.end_all-stopped.result ≡ c.args.listening.now.readers =
    omega (
      arith,
      c.end_all-stopped.ensures,
      c.loop-pass.invariant.seats,
      c.in-None.ensures.steps.0,
      c.into_iter-pass-iterator.ensures.into_iter_gives.1,
      c.in_ok-stop.ensures.passes,
    ) in
    text_behind c.receive-done.result c.finish.result _ p c.args.listening.now.readers _
    (g.T.Text.written c.args.text.now) (g.T.Text.written c.receive-done.new.text) (g.T.Text.written c.finish.new.text)
    c.finish.ensures.comes (done.text told written)
    (lines_of c.receive-done.result c.finish.result _ c.receive-done.new.audience p (vec_len c.end_all-stopped.result) c.args.listening.now.readers _ _
    c.finish.ensures.comes (done.shown told tt) readers (c.finish.ensures.lines (done.told written)))

pub returns-clause-unwritten : goal.returns-clause-unwritten
returns-clause-unwritten g c = λ written.
    nothing_behind c.receive-done.result c.finish.result _ c.receive-done.new.audience (vec_len c.end_all-stopped.result)
    (g.T.Text.written c.args.text.now) (g.T.Text.written c.receive-done.new.text) (g.T.Text.written c.finish.new.text)
    c.finish.ensures.comes (c.receive-done.ensures.unwritten written) (c.finish.ensures.lines (c.receive-done.ensures.told written))

pub returns-clause-shelf : goal.returns-clause-shelf
returns-clause-shelf g c = λ told shelved.
    shelf_behind c.receive-done.result c.finish.result _ _ _ _ c.finish.ensures.comes (c.receive-done.ensures.shelf told shelved)

pub returns-clause-apart : goal.returns-clause-apart
returns-clause-apart g c = λ apart.
    c.receive-done.ensures.apart (apart_behind c.receive-done.result c.finish.result _ c.finish.ensures.comes apart)

pub returns-clause-left : goal.returns-clause-left
returns-clause-left g c = λ told.
    taking_behind c.receive-done.result c.finish.result _ _ c.finish.ensures.comes (c.receive-done.ensures.left told)

pub returns-clause-place : goal.returns-clause-place
returns-clause-place g c = taking_behind c.receive-done.result c.finish.result _ _ c.finish.ensures.comes c.receive-done.ensures.place

pub returns-clause-blames : goal.returns-clause-blames
returns-clause-blames g c =
    let before = c.receive-done.ensures.grows in
    let after = c.finish.ensures.grows in
    blames_behind c.receive-done.result c.finish.result _ _ _ _ _ _ _ c.finish.ensures.comes
    (rose_before _ _ _ before after) (rose_behind _ _ _ before) c.receive-done.ensures.blames

pub returns-clause-events : goal.returns-clause-events
returns-clause-events g c = λ told.
    events_behind c.receive-done.result c.finish.result _ _ _ _ c.finish.ensures.comes (c.receive-done.ensures.events told)

pub returns-in_err-stop-clause-text : goal.returns-in_err-stop-clause-text
returns-in_err-stop-clause-text g c = λ told written.
    nothing_at_memory c.from_residual.result (published c.args.listening.now.settings (g.D.Datagrams.left c.args.datagrams.now)) c.args.listening.now.readers _
    (g.T.Text.written c.args.text.now) c.from_residual.ensures.1

pub returns-in_err-stop-clause-events : goal.returns-in_err-stop-clause-events
returns-in_err-stop-clause-events g c = λ told.
    told_at_memory c.from_residual.result _ _ _ c.from_residual.ensures.1 (no_event_heard (λ v. (goal.Watch-dyn g (v.vtable, v.value)).hearing v.value) _ c.args.watchers.now.items)

pub returns-in_err-stopped-clause-text : goal.returns-in_err-stopped-clause-text
returns-in_err-stopped-clause-text g c = λ told written.
    nothing_at_memory c.from_residual-in_err-stopped.result (published c.args.listening.now.settings (g.D.Datagrams.left c.args.datagrams.now)) c.args.listening.now.readers _
    (g.T.Text.written c.args.text.now) c.from_residual-in_err-stopped.ensures.1

pub returns-in_err-stopped-clause-events : goal.returns-in_err-stopped-clause-events
returns-in_err-stopped-clause-events g c = λ told.
    told_at_memory c.from_residual-in_err-stopped.result _ _ _ c.from_residual-in_err-stopped.ensures.1 (no_event_heard (λ v. (goal.Watch-dyn g (v.vtable, v.value)).hearing v.value) _ c.args.watchers.now.items)

pub returns-in_err-seats-clause-text : goal.returns-in_err-seats-clause-text
returns-in_err-seats-clause-text g c = λ told written.
    nothing_at_memory c.from_residual-in_err-seats.result (published c.args.listening.now.settings (g.D.Datagrams.left c.args.datagrams.now)) c.args.listening.now.readers _
    (g.T.Text.written c.args.text.now) c.from_residual-in_err-seats.ensures.1

pub returns-in_err-seats-clause-events : goal.returns-in_err-seats-clause-events
returns-in_err-seats-clause-events g c = λ told.
    told_at_memory c.from_residual-in_err-seats.result _ _ _ c.from_residual-in_err-seats.ensures.1 (no_event_heard (λ v. (goal.Watch-dyn g (v.vtable, v.value)).hearing v.value) _ c.args.watchers.now.items)

pub returns-in_err-publisher-clause-text : goal.returns-in_err-publisher-clause-text
returns-in_err-publisher-clause-text g c = λ told written.
    nothing_at_memory c.from_residual-in_err-publisher.result (published c.args.listening.now.settings (g.D.Datagrams.left c.args.datagrams.now)) c.args.listening.now.readers _
    (g.T.Text.written c.args.text.now) c.from_residual-in_err-publisher.ensures.1

pub returns-in_err-publisher-clause-events : goal.returns-in_err-publisher-clause-events
returns-in_err-publisher-clause-events g c = λ told.
    told_at_memory c.from_residual-in_err-publisher.result _ _ _ c.from_residual-in_err-publisher.ensures.1 (no_event_heard (λ v. (goal.Watch-dyn g (v.vtable, v.value)).hearing v.value) _ c.args.watchers.now.items)
