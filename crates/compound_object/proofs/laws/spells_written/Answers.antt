use Rattle.compound_object.proofs.Layouts.{SpellsObject-written}
use Rattle.compound_object.proofs.laws.spells_written.Goals as goal

pub returns : goal.returns
returns c descriptor fields body are small = SpellsObject-written descriptor fields body are small
