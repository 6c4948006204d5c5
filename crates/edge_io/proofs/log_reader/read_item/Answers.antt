use Rattle.std.proofs.Common.{rules, ◌∙◌}
use Rattle.edge_io.proofs.Fills.{length_read, whole_read}
use Rattle.edge_io.proofs.log_reader.read_item.Goals as goal

pub returns-clause-found : goal.returns-clause-found
returns-clause-found g c = λ t.
    let first = length_read c.in_ok-read.read c.from-size.result c.fill.new.out _ _ _ (search rules)
    (c.in_ok-read.ensures.filled t) c.if-read-eq0.false c.if-read-eq1.false
    (c.from-size.ensures ∙ c.stated_length.ensures.length) c.stated_length.ensures.high c.stated_length.ensures.low in
    whole_read c.from-size.result c.in_ok-got.got c.fill-2.new.out _ _ _ _ first (search rules)
    (c.in_ok-got.ensures.filled (c.in_ok-read.ensures.told t)) c.if-got-size.false
