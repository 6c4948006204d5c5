use Rattle.std.proofs.Common.{◌≡◌, List, ℕ, rules, sym, ap, subst, ◌∙◌}
use Rattle.std.specs.Prelude.{slice_set, slice_index_or}
use Rattle.compound_object.specs.Object.{SpellsObject, object_bytes}
use Rattle.compound_object.specs.Reading.{reading}
use Rattle.compound_object.proofs.Layouts.{SpellsObject-said, reading-spelled}
use Rattle.compound_object.proofs.writing.write.Goals as goal

pub returns-clause-spells : goal.returns-clause-spells
returns-clause-spells c =
    let descriptor = c.args.descriptor in
    let fields = c.args.fields.now in
    let body = c.args.body.now in
    let spells = SpellsObject-said descriptor fields body c.in_ok-object.ensures.fields c.requires in
    let sum = c.to_be_bytes-sum.result in
    let bytes : slice_set (slice_set c.in_ok-object.object.items 2 (slice_index_or sum 0 0))
    3 (slice_index_or sum 1 0) ≡ object_bytes descriptor fields body = search rules in
    subst (λ (o : List ℕ). SpellsObject o descriptor fields body) (sym bytes) spells

pub returns-clause-read_again : goal.returns-clause-read_again
returns-clause-read_again c =
    let descriptor = c.args.descriptor in
    let fields = c.args.fields.now in
    let body = c.args.body.now in
    let spells = SpellsObject-said descriptor fields body c.in_ok-object.ensures.fields c.requires in
    let sum = c.to_be_bytes-sum.result in
    let bytes : slice_set (slice_set c.in_ok-object.object.items 2 (slice_index_or sum 0 0))
    3 (slice_index_or sum 1 0) ≡ object_bytes descriptor fields body = search rules in
    ap reading bytes ∙ reading-spelled (object_bytes descriptor fields body) descriptor fields body spells
