use Rattle.std.proofs.Common.{◌≡◌, ℕ, suc, ◌+◌, ◌-◌, List, [], ◌++◌, unwrap_or, nat_cmp, sym, ap, ◌∙◌, append_assoc, arith}
use Rattle.std.specs.BTreeMap.{get}
use Rattle.std.specs.List.{flat_map, range_with_len}
use Rattle.std.specs.Option.{option_copied}
use Rattle.slice_join.proofs.Walks.{parts_next}
use Rattle.slice_join.proofs.joining.joined_parts.Goals as goal

pub loop-before-preserved : goal.loop-before-preserved
loop-before-preserved c =
    let at = c.loop-before.before in
    let part : ℕ → List ℕ = λ p. unwrap_or (option_copied (get nat_cmp c.args.parts.now p)) [] in
    let left = flat_map part (range_with_len (at + 1 + 1) (c.args.count - (at + 1))) in
    let one : c.args.count - at ≡ suc (c.args.count - (at + 1)) = omega arith in
    ap (λ xs. xs ++ left) c.in_ok-append_part.ensures
    ∙ append_assoc c.loop-before.body.items (part (at + 1)) left
    ∙ ap (λ xs. c.loop-before.body.items ++ xs) (sym (parts_next part (at + 1) (c.args.count - at) (c.args.count - (at + 1)) one))
    ∙ c.loop-before.invariant
