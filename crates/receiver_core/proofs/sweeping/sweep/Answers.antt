use Rattle.std.proofs.Common.{true, false, ◌≡◌, ◌∙◌, ap, sym, subst}
use Rattle.std.specs.Prelude.{is_some}
use Rattle.receiver_core.specs.Inner.Waiting.{Waiting}
use Rattle.receiver_core.proofs.Beaten.{Going, going_first, going_on, all_gone}
use Rattle.receiver_core.proofs.sweeping.sweep.Goals as goal

pub loop-toi-init : goal.loop-toi-init
loop-toi-init c = record {
  going = subst (λ (w : Waiting). Going c.args.installed.now c.args.waiting.now w c.replace-all.new.dest) (sym c.replace-all.ensures.value)
      (going_first c.args.installed.now c.args.waiting.now c.replace-all.new.dest (ap (λ (w : Waiting). w.entries) c.replace-all.ensures.after ∙ c.new.ensures.empty));
}

pub put_back-requires : goal.put_back-requires
put_back-requires c = c.loop-toi.invariant.going.apart c.in-Some.toi (ap is_some c.in-Some.ensures.value)

pub loop-toi-preserved : goal.loop-toi-preserved
loop-toi-preserved c = record {
  going = going_on c.args.installed.now c.args.waiting.now c.loop-toi.all c.pop_first.new.self c.loop-toi.waiting c.put_back.new.waiting c.in-Some.toi
      c.in-Some.candidates c.in_ok-unbeaten.unbeaten.items c.loop-toi.invariant.going c.in-Some.ensures.value c.in-Some.ensures.updates
      c.in_ok-unbeaten.ensures c.in_ok-put_back.ensures;
}

pub returns : goal.returns
returns c = all_gone c.args.installed.now c.args.waiting.now c.loop-toi.all c.loop-toi.waiting c.loop-toi.invariant.going (λ some. let both : false ≡ true = c.in_default.ensures.variant.1 some in cc)
