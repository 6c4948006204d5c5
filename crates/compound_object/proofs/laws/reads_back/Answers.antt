use Rattle.compound_object.specs.Object.{object_bytes}
use Rattle.compound_object.proofs.Layouts.{reading-spelled, SpellsObject-written}
use Rattle.compound_object.proofs.laws.reads_back.Goals as goal

pub returns : goal.returns
returns c descriptor fields body are small =
    reading-spelled (object_bytes descriptor fields body) descriptor fields body (SpellsObject-written descriptor fields body are small)
