use Rattle.std.proofs.Common.{◌∙◌, ℕ, ap, sym, subst}
use Rattle.std.specs.Ordering.{nat_cmp}
use Rattle.std.specs.BTreeMap as tree
use Rattle.alc_packet.specs.Packet.{SymbolPacket, IsPacket}
use Rattle.object_store.specs.declared.finding.Finding.TheVariants.{Wanting}
use Rattle.object_store.specs.declared.judgement.Judgement.{Judgement}
use Rattle.held_packets.specs.Count.{charge}
use Rattle.held_packets.specs.Verdict.{verdict}
use Rattle.object_store.specs.Store as specs
use Rattle.object_store.specs.Inner.ObjectParts.{map_of}
use Rattle.object_store.specs.Inner.Objects.{held_of}
use Rattle.object_store.specs.Inner.Judged.{by_finding, judged_in, IsJudged}
use Rattle.object_store.proofs.WithPacket.{get_of}
use Rattle.object_store.proofs.Judging.{judged_held, judged_unheld}
use Rattle.object_store.proofs.store.Store.judge.Goals as goal

pub returns-in-Some : goal.returns-in-Some
returns-in-Some c =
    let v = c.self.inside in
    let m = map_of v.objects in
    let p = c.args.packet.now in
    let toi_is = ap (λ (q : SymbolPacket). q.toi) c.packet.view_is in
    subst (λ (s : specs.Store). IsJudged (verdict s.budget s.held p) (charge s.held p) c.judge_found.result) c.self.view_is
    (subst (λ (j : Judgement). IsJudged (verdict v.budget (held_of m) p) (charge (held_of m) p) j)
    (sym (c.judge_found.ensures ∙ ap (λ (n : ℕ). judged_in v.budget n c.in-Some.object.now p) c.self.invariant.counted))
    (judged_held v.budget m p c.in-Some.object.now (get_of v.objects p.toi ∙ ap (tree.get nat_cmp v.objects) (sym toi_is) ∙ sym c.in-Some.ensures.value)))

pub returns-in-None : goal.returns-in-None
returns-in-None c =
    let v = c.self.inside in
    let m = map_of v.objects in
    let p = c.args.packet.now in
    let toi_is = ap (λ (q : SymbolPacket). q.toi) c.packet.view_is in
    let is : IsPacket p = subst IsPacket c.packet.view_is c.packet.invariant in
    subst (λ (s : specs.Store). IsJudged (verdict s.budget s.held p) (charge s.held p) c.by_finding.result) c.self.view_is
    (subst (λ (j : Judgement). IsJudged (verdict v.budget (held_of m) p) (charge (held_of m) p) j)
    (sym (c.by_finding.ensures ∙ ap (λ (n : ℕ). by_finding v.budget n 256 p (Wanting 0)) c.self.invariant.counted))
    (judged_unheld v.budget m p is (get_of v.objects p.toi ∙ ap (tree.get nat_cmp v.objects) (sym toi_is) ∙ sym c.in-None.ensures.value)))
