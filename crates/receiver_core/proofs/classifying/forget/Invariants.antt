use Rattle.std.proofs.Common.{◌≡◌, ℕ, cond, take, None}
use Rattle.std.specs.BTreeMap.{get}
use Rattle.std.specs.Ordering.{nat_cmp}
use Rattle.object_store.specs.Store.{is_in}
use Rattle.receiver_core.proofs.classifying.forget.Given as goal

-- the objects so far are gone
abbrev pub invariant-loop-toi : goal.invariant-loop-toi
invariant-loop-toi l = (t : ℕ) → get nat_cmp l.standings t ≡ cond (is_in t (take l.toi-index l.fresh)) None (get nat_cmp l.fn.standings t)
