use Rattle.std.proofs.Common.{◌∙◌}
use Rattle.fcast_words.proofs.Shapes.{scan_is}
use Rattle.fcast_words.proofs.shape.has_shape.Goals as goal

pub returns : goal.returns
returns c = c.scan.ensures ∙ scan_is c.args.words.now
