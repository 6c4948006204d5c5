use Rattle.std.proofs.Common.{◌∙◌}
use Rattle.lct_header.proofs.Answering.{answer_view, answer_fault, the_answer}
use Rattle.lct_header.proofs.reading.read.Goals as goal

pub returns-clause-only : goal.returns-clause-only
returns-clause-only c view starts =
    the_answer c.args.bytes.now c.read_view.result c.read_view.ensures.found c.read_view.ensures.refused ∙ answer_view c.args.bytes.now view starts

pub returns-clause-refuses : goal.returns-clause-refuses
returns-clause-refuses c fault is =
    the_answer c.args.bytes.now c.read_view.result c.read_view.ensures.found c.read_view.ensures.refused ∙ answer_fault c.args.bytes.now fault is
