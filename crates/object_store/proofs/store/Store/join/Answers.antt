use Rattle.std.proofs.Common.{◌+◌, ◌∙◌, ◌++◌, ◌∷◌, [], ℕ, List, min, ap, sym, subst}
use Rattle.std.specs.Prelude.{if◌then◌else◌}
use Rattle.held_packets.specs.Held.{Held, joined}
use Rattle.held_packets.specs.Count.{charge}
use Rattle.held_packets.specs.Verdict.{verdict, is_new, row_steps}
use Rattle.object_store.specs.Store as specs
use Rattle.object_store.specs.Inner.ObjectParts.{map_of}
use Rattle.object_store.specs.Inner.Objects.{held_of, IsStore}
use Rattle.object_store.proofs.WithPacket.{map_same}
use Rattle.object_store.proofs.Entering.{has_room, store_with}
use Rattle.std.proofs.lemmas.Result.{err_from_is_err_and}
use Rattle.object_store.proofs.store.Store.join.Goals as goal

pub add_to_object-requires : goal.add_to_object-requires
add_to_object-requires g c =
    let v = c.self.inside in
    has_room v.budget v.objects c.args.packet.now (ap (λ (s : specs.Store). is_new (verdict s.budget s.held c.args.packet.now)) c.self.view_is ∙ c.requires.new)

pub invariant_of-self-in_err-completed : goal.invariant_of-self-in_err-completed
invariant_of-self-in_err-completed g c =
    let v = c.self.inside in
    subst (λ (h : Held). IsStore v.budget v.count h c.reserve.new.self.items)
    (sym (ap held_of (map_same v.objects c.add_to_object.new.objects c.in_err-completed.ensures.err)))
    (subst (λ (xs : List ℕ). IsStore v.budget v.count (held_of (map_of v.objects)) xs) (sym c.in_ok-reserve.ensures.items) c.self.invariant)

pub returns-in_err-completed-clause-err : goal.returns-in_err-completed-clause-err
returns-in_err-completed-clause-err g c =
    let v = c.self.inside in
    let p = err_from_is_err_and c.from_residual-in_err-completed.result c.from_residual-in_err-completed.ensures.1 in
    let held_is = ap held_of (map_same v.objects c.add_to_object.new.objects c.in_err-completed.ensures.err) in
    rw p.1 ((λ i. record { budget = v.budget; held = held_is i; ready = c.in_ok-reserve.ensures.items i }) ∙ c.self.view_is)

pub invariant_of-self-2 : goal.invariant_of-self-2
invariant_of-self-2 g c =
    let v = c.self.inside in
    let is = store_with v.budget v.count c.args.added v.objects c.add_to_object.new.objects c.args.packet.now v.ready.items
    c.in_ok-completed.completed.block c.in_ok-completed.completed.object c.self.invariant c.identifier-toi.ensures.sound
    (ap (λ (s : specs.Store). is_new (verdict s.budget s.held c.args.packet.now)) c.self.view_is ∙ c.requires.new)
    (c.requires.added ∙ ap (λ (s : specs.Store). charge s.held c.args.packet.now) (sym c.self.view_is))
    c.in_ok-completed.ensures.ok c.in_ok-completed.ensures.block c.in_ok-completed.ensures.object in
    subst (λ (xs : List ℕ). IsStore v.budget (v.count + c.args.added) (held_of (map_of c.add_to_object.new.objects)) xs) (sym (c.push_when.ensures
    ∙ ap (λ (xs : List ℕ). if c.in_ok-completed.completed.object then xs ++ c.identifier-toi.result ∷ [] else xs) c.in_ok-reserve.ensures.items
    ∙ ap (λ (t : ℕ). if c.in_ok-completed.completed.object then v.ready.items ++ t ∷ [] else v.ready.items) c.identifier-toi.ensures.value)) is.holds

pub returns-clause-answer : goal.returns-clause-answer
returns-clause-answer g c =
    let v = c.self.inside in
    let is = store_with v.budget v.count c.args.added v.objects c.add_to_object.new.objects c.args.packet.now v.ready.items
    c.in_ok-completed.completed.block c.in_ok-completed.completed.object c.self.invariant c.identifier-toi.ensures.sound
    (ap (λ (s : specs.Store). is_new (verdict s.budget s.held c.args.packet.now)) c.self.view_is ∙ c.requires.new)
    (c.requires.added ∙ ap (λ (s : specs.Store). charge s.held c.args.packet.now) (sym c.self.view_is))
    c.in_ok-completed.ensures.ok c.in_ok-completed.ensures.block c.in_ok-completed.ensures.object in
    is.verdict ∙ ap (λ (s : specs.Store). verdict s.budget s.held c.args.packet.now) c.self.view_is

pub returns-clause-held : goal.returns-clause-held
returns-clause-held g c =
    let v = c.self.inside in
    let is = store_with v.budget v.count c.args.added v.objects c.add_to_object.new.objects c.args.packet.now v.ready.items
    c.in_ok-completed.completed.block c.in_ok-completed.completed.object c.self.invariant c.identifier-toi.ensures.sound
    (ap (λ (s : specs.Store). is_new (verdict s.budget s.held c.args.packet.now)) c.self.view_is ∙ c.requires.new)
    (c.requires.added ∙ ap (λ (s : specs.Store). charge s.held c.args.packet.now) (sym c.self.view_is))
    c.in_ok-completed.ensures.ok c.in_ok-completed.ensures.block c.in_ok-completed.ensures.object in
    is.held ∙ ap (λ (s : specs.Store). joined s.held c.args.packet.now) c.self.view_is

pub returns-clause-count : goal.returns-clause-count
returns-clause-count g c =
    let v = c.self.inside in
    let is = store_with v.budget v.count c.args.added v.objects c.add_to_object.new.objects c.args.packet.now v.ready.items
    c.in_ok-completed.completed.block c.in_ok-completed.completed.object c.self.invariant c.identifier-toi.ensures.sound
    (ap (λ (s : specs.Store). is_new (verdict s.budget s.held c.args.packet.now)) c.self.view_is ∙ c.requires.new)
    (c.requires.added ∙ ap (λ (s : specs.Store). charge s.held c.args.packet.now) (sym c.self.view_is))
    c.in_ok-completed.ensures.ok c.in_ok-completed.ensures.block c.in_ok-completed.ensures.object in
    c.in_ok-completed.ensures.count ∙ ap (λ (n : ℕ). min (c.args.steps.now.count + n) 18446744073709551615)
    (is.steps ∙ ap (λ (s : specs.Store). row_steps s.budget s.held c.args.packet.now) c.self.view_is)
