-- The powers repeat after 255.
use Rattle.std.proofs.Common.{◌∙◌}
use Rattle.gf256.proofs.Powers.{power_mod}
use Rattle.gf256.proofs.element.power.Goals as goal

pub returns : goal.returns
returns c = c.power_at.ensures ∙ power_mod c.args.j
