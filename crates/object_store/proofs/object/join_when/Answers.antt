use Rattle.std.proofs.Common.{◌∙◌, sym}
use Rattle.oti_blocks.proofs.Public.{start_last}
use Rattle.object_store.specs.Inner.ObjectParts.{object_of}
use Rattle.object_store.proofs.JoinedBlocks.{all_joined}
use Rattle.object_store.proofs.object.join_when.Goals as goal

pub returns-then-object-clause-parts : goal.returns-then-object-clause-parts
returns-then-object-clause-parts c object = all_joined (object_of c.args.oti.now c.args.parts.now) c.join.new.places.items c.join.new.bytes.items
    c.join.ensures.sound (sym c.requires.done ∙ object) c.requires.within c.join.ensures.joined

pub returns-then-object-clause-placed : goal.returns-then-object-clause-placed
returns-then-object-clause-placed c object = c.join.ensures.joined.many ∙ start_last c.args.oti.now c.join.ensures.sound
