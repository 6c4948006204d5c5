use Rattle.std.proofs.Common.{◌≡◌, ◌≢◌, ◌<◌, ℕ, true, false, ◌∙◌, sym, ap, subst, arith, rules, length, Option}
use Rattle.std.specs.Prelude.{is_some}
use Rattle.std.specs.Option.{option_or}
use Rattle.carousel_cid.specs.Instances.{Shown}
use Rattle.object_store.specs.Store.{is_in}
use Rattle.held_packets.specs.Whole.{whole}
use Rattle.receiver_core.specs.Best.{IsBestOf}
use Rattle.receiver_core.specs.BestOf.{best}
use Rattle.receiver_core.specs.Receiver.{Receiver, Announces}
use Rattle.receiver_core.specs.Inner.Settling.{IsRead, IsSettling}
use Rattle.receiver_core.proofs.Bests.{best_is}
use Rattle.receiver_core.proofs.Settles.{found_best, found_told}
use Rattle.receiver_core.proofs.Keeping.{settled_now, settled_best, not_all_settled}
use Rattle.receiver_core.proofs.receiver.Receiver.settle.Goals as goal

pub returns-then-self-count-clause-best : goal.returns-then-self-count-clause-best
returns-then-self-count-clause-best c =
    let s = c.self.inside in
    let all : s.settled ≡ length c.ready-count.result.now = search rules in
    subst (λ (r : Receiver). r.installed ≡ best r.held) c.self.view_is (best_is s.store.held s.installed
    (settled_best s.store s.standings s.waiting s.settled s.lost s.installed c.ready-count.ensures.listed
    c.self.invariant (all ∙ ap (length {A = ℕ}) c.ready-count.ensures.ready)))

pub returns-then-self-count-clause-answer : goal.returns-then-self-count-clause-answer
returns-then-self-count-clause-answer c =
    let s = c.self.inside in
    let all : s.settled ≡ length c.ready-count.result.now = search rules in
    subst (λ (r : Receiver). best r.held ≡ r.installed) c.self.view_is (sym (best_is s.store.held s.installed
    (settled_best s.store s.standings s.waiting s.settled s.lost s.installed c.ready-count.ensures.listed
    c.self.invariant (all ∙ ap (length {A = ℕ}) c.ready-count.ensures.ready))))

pub invariant_of-self : goal.invariant_of-self
invariant_of-self c =
    let s = c.self.inside in
    subst (λ n. IsSettling s.store c.find.new.standings c.find.new.waiting n false c.install-number.new.installed) (ap (length {A = ℕ}) (sym c.ready-count.ensures.ready))
    (settled_now s.store c.find.new.standings c.find.new.waiting c.install-number.new.installed c.ready-count.ensures.listed
    (subst (IsRead s.store c.find.new.standings c.find.new.waiting (length s.store.ready)) (sym c.install-number.ensures.installed) c.in-Ok.ensures.ok)
    (subst (IsBestOf (whole s.store.held)) (sym c.install-number.ensures.installed) (found_best (whole s.store.held) s.installed c.in-Ok.found c.in-Ok.ensures.found)))

pub returns-in-Ok-clause-best : goal.returns-in-Ok-clause-best
returns-in-Ok-clause-best c =
    let s = c.self.inside in
    ap (λ (r : Receiver). r.installed) c.let_beaten_go.ensures
    ∙ subst (λ (r : Receiver). c.install-number.new.installed ≡ best r.held) c.self.view_is (best_is s.store.held
    c.install-number.new.installed (subst (IsBestOf (whole s.store.held)) (sym c.install-number.ensures.installed)
    (found_best (whole s.store.held) s.installed c.in-Ok.found c.in-Ok.ensures.found)))

pub returns-in-Ok-clause-answer : goal.returns-in-Ok-clause-answer
returns-in-Ok-clause-answer c =
    let s = c.self.inside in
    let is = best_is s.store.held (option_or c.in-Ok.found s.installed) (found_best (whole s.store.held) s.installed c.in-Ok.found c.in-Ok.ensures.found) in
    subst (λ (r : Receiver). Announces c.install-number.result r.installed (best r.held)) c.self.view_is
    (subst (λ (b : Option Shown). Announces c.install-number.result s.installed b) is
    (subst (λ (n : Option ℕ). Announces n s.installed (option_or c.in-Ok.found s.installed))
    (sym c.install-number.ensures.number) (found_told (whole s.store.held) s.installed c.in-Ok.found c.in-Ok.ensures.found)))

pub returns-in-Err-clause-no_memory : goal.returns-in-Err-clause-no_memory
returns-in-Err-clause-no_memory c =
    let s = c.self.inside in
    let other : s.settled ≢ length c.ready-count.result.now = search rules in
    let less : s.settled < length s.store.ready = omega (arith, c.self.invariant.within, ap (length {A = ℕ}) c.ready-count.ensures.ready, other) in
    subst (λ (r : Receiver). ((t : ℕ) → is_some (whole r.held t) ≡ true → is_in t r.settled ≡ true) → false ≡ true) c.self.view_is
    (λ all. absurd (not_all_settled s.store s.settled c.ready-count.ensures.listed less all))
