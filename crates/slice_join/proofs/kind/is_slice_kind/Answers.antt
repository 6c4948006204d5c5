use Rattle.std.proofs.Common.{◌≡◌, nat_eq, ◌||◌, false, sym, ap, ◌∙◌, rules}
use Rattle.std.specs.List.{starts_with}
use Rattle.std.specs.Str.{bytes_eq}
use Rattle.std.proofs.lemmas.Str.Pattern.{starts_text}
use Rattle.slice_join.specs.SliceKind.{is_slice_kind, slice_word, slice_start}
use Rattle.slice_join.proofs.kind.is_slice_kind.Goals as goal

pub returns-else-eq : goal.returns-else-eq
unfolding is_slice_kind
returns-else-eq c =
    let kind = c.args.kind.now in
    let other : bytes_eq kind slice_word ≡ false = search rules in
    starts_text c.starts_with.result slice_start kind c.starts_with.ensures.cases
    ∙ ap (λ b. b || starts_with nat_eq kind slice_start) (sym other)
