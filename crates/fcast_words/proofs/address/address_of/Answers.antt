use Rattle.std.proofs.Common.{◌∙◌}
use Rattle.fcast_words.proofs.Dots.{address_read}
use Rattle.fcast_words.proofs.address.address_of.Goals as goal

pub returns : goal.returns
returns c = c.four_bytes.ensures ∙ address_read c.args.text.now
