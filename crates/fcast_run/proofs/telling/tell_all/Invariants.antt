use Rattle.std.proofs.Common.{◌≡◌, ◌+◌, ◌-◌, ◌≤◌, [], ◌∷◌, take, drop}
use Rattle.std.specs.Prelude.{vec_len}
use Rattle.watch_list.specs.Hearing.{Heard}
use Rattle.fcast_run.proofs.telling.tell_all.Given as goal

-- The first `place` watchers that are left are those of the first `place + dropped` old ones that heard the event. The others are to hear it.
abbrev pub invariant-loop-place : goal.invariant-loop-place
invariant-loop-place g l = record {
  rest : drop l.place l.watchers.items ≡ drop (l.place + l.dropped) l.fn.watchers.items;
  within : l.place ≤ vec_len l.watchers;
  count : l.dropped + vec_len l.watchers ≡ vec_len l.fn.watchers;
  front : Heard
      (λ v. (goal.Watch-dyn g (v.vtable, v.value)).hearing v.value)
      (l.event ∷ []) (take (l.place + l.dropped) l.fn.watchers.items) (take l.place l.watchers.items);
}

abbrev pub decreases-loop-place : goal.decreases-loop-place
decreases-loop-place g l = vec_len l.watchers - l.place
