use Rattle.std.proofs.Common.{rules, ◌≡◌, ◌∙◌, ℕ, List, ap, sym, subst, arith}
use Rattle.held_packets.specs.Held.{Held, nothing_held}
use Rattle.object_store.specs.Inner.ObjectParts.{map_of}
use Rattle.object_store.specs.Inner.Objects.{held_of, IsStore}
use Rattle.held_packets.proofs.Public.{nothing_counted, nothing_pair}
use Rattle.object_store.proofs.ReadyList.{nothing_listed_ready}
use Rattle.object_store.proofs.WithPacket.{map_none}
use Rattle.object_store.proofs.HeldView.{held_of_none}
use Rattle.object_store.proofs.store.Store.start.Goals as goal

pub invariant_of-result : goal.invariant_of-result
invariant_of-result c =
    let held_is : held_of (map_of c.new.result) ≡ nothing_held = ap held_of (map_none c.new.result (search rules)) ∙ held_of_none in
    subst (λ (h : Held). IsStore c.args.budget 0 h c.new-2.result.items) (sym held_is)
    (subst (λ (xs : List ℕ). IsStore c.args.budget 0 nothing_held xs) (sym c.new-2.ensures.items)
    (record { counted = sym nothing_counted; within = omega arith; small = c.requires.most; listed = nothing_listed_ready; pair = nothing_pair }))

pub returns : goal.returns
returns c =
    let held_is : held_of (map_of c.new.result) ≡ nothing_held = ap held_of (map_none c.new.result (search rules)) ∙ held_of_none in
    λ i. record { budget = c.args.budget; held = held_is i; ready = c.new-2.ensures.items i }
