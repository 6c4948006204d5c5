use Rattle.std.proofs.Common.{◌++◌, ap, ◌∙◌}
use Rattle.meta_text.specs.Fields.{written}
use Rattle.meta_text.specs.Reading.{reading}
use Rattle.meta_text.proofs.fields.Fields.write.Goals as goal

pub returns-clause-read_again : goal.returns-clause-read_again
returns-clause-read_again c =
    let pairs = c.args.self.now in
    ap reading (c.in_ok-write_to.ensures.text ∙ ap (λ bytes. bytes ++ written pairs) c.in_ok-out.ensures.items) ∙ c.in_ok-write_to.ensures.read_again
