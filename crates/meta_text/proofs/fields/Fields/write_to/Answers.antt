use Rattle.meta_text.specs.Fields.{ArePairs}
use Rattle.meta_text.proofs.PairSpans.{pairs_sound}
use Rattle.meta_text.proofs.Written.{reading-written}
use Rattle.meta_text.proofs.fields.Fields.write_to.Goals as goal

pub returns-clause-read_again : goal.returns-clause-read_again
returns-clause-read_again c =
    let pairs = c.args.self.now in
    let are : ArePairs pairs = rw (← c.self.view_is) (pairs_sound c.self.inside.text.items c.self.inside.spans.items c.self.invariant) in
    reading-written pairs are
