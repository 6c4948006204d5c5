use Rattle.std.proofs.Common.{◌≡◌, ◌++◌, ℕ, reverse, length}
use Rattle.std.specs.List.{flat_map}
use Rattle.receiver_core.specs.Inner.Candidates.{advanced}
use Rattle.receiver_core.specs.Inner.Standings.{is_known}
use Rattle.receiver_core.specs.Inner.Waiting.{waiting_for, ended_of, waits_of}
use Rattle.receiver_core.proofs.placing.place_all.Given as goal

-- those that went so far with those that will go are all
abbrev pub invariant-loop-candidate : goal.invariant-loop-candidate
invariant-loop-candidate l = record {
  ended : l.ended.items ++ flat_map (λ c. ended_of l.installed (advanced (is_known l.standings) c)) (reverse l.left.items)
      ≡ flat_map (λ c. ended_of l.installed (advanced (is_known l.standings) c)) (reverse l.fn.woken.items);
  waiting : (t : ℕ) → waiting_for l.waiting t ++ flat_map (λ c. waits_of l.standings l.installed t (advanced (is_known l.standings) c)) (reverse l.left.items)
      ≡ waiting_for l.fn.waiting t ++ flat_map (λ c. waits_of l.standings l.installed t (advanced (is_known l.standings) c)) (reverse l.fn.woken.items);
}

abbrev pub decreases-loop-candidate : goal.decreases-loop-candidate
decreases-loop-candidate l = length l.left.items
