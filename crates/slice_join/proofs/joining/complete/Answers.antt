use Rattle.std.proofs.Common.{◌≡◌, suc, ◌+◌, ◌-◌, true, false, nat_cmp, sym, ap, ◌∙◌, arith, rules}
use Rattle.std.specs.BTreeMap.{get}
use Rattle.std.specs.Option.{is_some, option_map}
use Rattle.slice_join.specs.declared.fault.JoinFault.TheVariants.{Missing}
use Rattle.slice_join.proofs.Walks.{missing_here, there_here}
use Rattle.slice_join.proofs.joining.complete.Goals as goal

pub returns-then-not-contains_key-clause-err : goal.returns-then-not-contains_key-clause-err
returns-then-not-contains_key-clause-err c = λ places same.
    let place = c.loop-before.before + 1 in
    let held : is_some (get nat_cmp c.args.parts.now place) ≡ false = search rules in
    ap (option_map Missing) (c.loop-before.invariant places same ∙ missing_here places place (c.args.count - c.loop-before.before) (omega arith) (sym (same place) ∙ held))

pub loop-before-preserved : goal.loop-before-preserved
loop-before-preserved c = λ places same.
    let place = c.loop-before.before + 1 in
    let held : is_some (get nat_cmp c.args.parts.now place) ≡ true = search rules in
    let one : c.args.count - c.loop-before.before ≡ suc (c.args.count - place) = omega arith in
    c.loop-before.invariant places same ∙ there_here places place (c.args.count - c.loop-before.before) (c.args.count - place) one (sym (same place) ∙ held)
