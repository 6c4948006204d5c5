use Rattle.std.proofs.Common.{◌≡◌, ℕ, cond, ◌++◌, take}
use Rattle.std.specs.Prelude.{option_map}
use Rattle.std.specs.BTreeMap.{get}
use Rattle.std.specs.Ordering.{nat_cmp}
use Rattle.object_store.specs.Store.{is_in}
use Rattle.held_packets.specs.Whole.{whole}
use Rattle.receiver_core.specs.Inner.Candidates.{candidates_in}
use Rattle.receiver_core.specs.Inner.Standings.{standing_of_bytes}
use Rattle.receiver_core.proofs.classifying.classify_all.Given as goal

-- the clauses, of the objects so far
abbrev pub invariant-loop-toi : goal.invariant-loop-toi
invariant-loop-toi l = record {
  standings : (t : ℕ) → get nat_cmp l.standings t ≡ cond (is_in t (take l.toi-index l.fresh))
      (option_map standing_of_bytes (whole l.store.held t)) (get nat_cmp l.fn.standings t);
  candidates : l.candidates.items ≡ l.fn.candidates.items ++ candidates_in (whole l.store.held) (take l.toi-index l.fresh);
}
