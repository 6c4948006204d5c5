use Rattle.std.proofs.Common.{◌≡◌, subst, rules, Some, None, true, take}
use Rattle.std.specs.Prelude.{is_some}
use Rattle.std.specs.BTreeMap.{get}
use Rattle.std.specs.Ordering.{nat_cmp}
use Rattle.held_packets.specs.Whole.{whole}
use Rattle.receiver_core.specs.declared.standing.Standing.TheVariants.{Whole}
use Rattle.receiver_core.specs.Receiver.{Receiver, standing_of}
use Rattle.receiver_core.proofs.Keeping.{known_standing, whole_standing}
use Rattle.receiver_core.proofs.receiver.Receiver.standing.Goals as goal

pub returns-in-Some : goal.returns-in-Some
returns-in-Some c =
    let s = c.self.inside in
    let found : get nat_cmp s.standings c.args.toi ≡ Some c.in-Some.standing.now = search rules in
    subst (λ (r : Receiver). c.in-Some.standing.now ≡ standing_of r.held r.settled c.args.toi) c.self.view_is
    (known_standing s.store.held (take s.settled s.store.ready) s.standings c.args.toi c.in-Some.standing.now c.self.invariant.standings found)

pub returns-then-is_some : goal.returns-then-is_some
returns-then-is_some c =
    let s = c.self.inside in
    let none : get nat_cmp s.standings c.args.toi ≡ None = search rules in
    let ready : is_some (whole s.store.held c.args.toi) ≡ true = search rules in
    subst (λ (r : Receiver). Whole ≡ standing_of r.held r.settled c.args.toi) c.self.view_is
    (whole_standing s.store.held (take s.settled s.store.ready) s.standings c.args.toi c.self.invariant.standings none ready)
