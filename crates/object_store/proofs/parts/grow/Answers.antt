use Rattle.std.proofs.Common.{◌∙◌, ap, sym, Some}
use Rattle.std.specs.Ordering.{nat_cmp}
use Rattle.std.specs.BTreeMap.{is_at}
use Rattle.std.proofs.lemmas.Result.{err_from_is_err_and}
use Rattle.std.proofs.lemmas.Map.Steps.{set_value_same}
use Rattle.object_store.proofs.parts.grow.Goals as goal

pub returns-in_err-add-clause-err : goal.returns-in_err-add-clause-err
returns-in_err-add-clause-err g c =
    let p = err_from_is_err_and c.from_residual.result c.from_residual.ensures.1 in
    rw p.1 ((c.get_mut.follows.holds c.add.new.self).0 ∙ set_value_same (is_at (nat_cmp c.packet.inside.sbn)) c.args.parts.now.entries c.add.new.self
    (sym c.in-Some.ensures.value ∙ ap (λ h. Some h) (sym c.in_err-add.ensures.err)))
