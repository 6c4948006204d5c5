use Rattle.std.proofs.Common.{rules, ◌<◌, length, refl}
use Rattle.watch_list.proofs.Public.{refused_one, step_stays, rest_stays, step_goes, rest_goes}
use Rattle.fcast_run.proofs.telling.tell_all.Goals as goal

pub loop-place-preserved-then-tell_one : goal.loop-place-preserved-then-tell_one
loop-place-preserved-then-tell_one g c =
    let before = c.loop-place.invariant in
    let old = c.args.watchers.now.items in
    let now = c.loop-place.watchers.items in
    let less : c.loop-place.place < length c.loop-place.watchers.items = search rules in
    let told = c.if-tell_one.ensures in
    record {
      rest = rest_stays old now c.loop-place.place c.loop-place.dropped c.tell_one.new.watcher before.rest;
      within = search rules;
      count = search rules;
      front = step_stays old now c.loop-place.place c.loop-place.dropped c.index_mut.result.now c.tell_one.new.watcher c.index_mut.result.now _ _
          less before.rest before.front c.index_mut.ensures.value
          (told.heard refl);
    }

pub loop-place-preserved : goal.loop-place-preserved
loop-place-preserved g c =
    let before = c.loop-place.invariant in
    let old = c.args.watchers.now.items in
    let now = c.loop-place.watchers.items in
    let less : c.loop-place.place < length c.loop-place.watchers.items = search rules in
    let told = c.if-tell_one.ensures in
    record {
      rest = rest_goes old now c.remove-lost.new.self.items c.loop-place.place c.loop-place.dropped c.tell_one.new.watcher
          less before.rest c.remove-lost.ensures.items;
      within = search rules;
      count = search rules;
      front = step_goes old now c.remove-lost.new.self.items c.loop-place.place c.loop-place.dropped
          c.index_mut.result.now c.tell_one.new.watcher c.index_mut.result.now _ _
          less before.rest before.front c.remove-lost.ensures.items c.index_mut.ensures.value
          (refused_one _ ((goal.Watch-dyn g (c.index_mut.result.now.vtable, c.index_mut.result.now.value)).hearing c.index_mut.result.now.value) _ (told.refuses refl) (told.rose refl));
    }
