use Rattle.std.proofs.Common.{◌∙◌, ap, sym, Some, Ok, Err}
use Rattle.std.specs.Prelude.{OnErr}
use Rattle.std.specs.Ordering.{nat_cmp}
use Rattle.std.specs.BTreeMap.{is_at}
use Rattle.std.specs.declared.result.Result.{Result}
use Rattle.std.proofs.lemmas.Map.Steps.{set_value_same}
use Rattle.object_store.proofs.objects.grow.Goals as goal

-- what follows from what holds after an error
after_err : {T E P Q : Type 0} (r : Result T E) → OnErr r P → (P → Q) → OnErr r Q
after_err (Ok x) holds follows = holds
after_err (Err e) holds follows = follows holds

pub returns-clause-err : goal.returns-clause-err
returns-clause-err g c = after_err c.add.result c.add.ensures.err (λ same. (c.get_mut.follows.holds c.add.new.self).0
    ∙ set_value_same (is_at (nat_cmp c.packet.inside.toi)) c.args.objects.now.entries c.add.new.self
    (sym c.in-Some.ensures.value ∙ ap (λ h. Some h) (sym same)))
