use Rattle.std.proofs.Common.{◌≡◌, ◌++◌, ℕ, [], cond, take}
use Rattle.std.specs.List.{flat_map}
use Rattle.object_store.specs.Store.{is_in}
use Rattle.receiver_core.specs.Inner.Waiting.{waiting_for}
use Rattle.receiver_core.proofs.waiting.wake_all.Given as goal

-- the clauses, of the objects so far
abbrev pub invariant-loop-toi : goal.invariant-loop-toi
invariant-loop-toi l = record {
  woken : l.woken.items ≡ l.fn.woken.items ++ flat_map (waiting_for l.fn.waiting) (take l.toi-index l.fresh);
  others : (t : ℕ) → waiting_for l.waiting t ≡ cond (is_in t (take l.toi-index l.fresh)) [] (waiting_for l.fn.waiting t);
}
