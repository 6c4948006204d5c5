use Rattle.std.proofs.Common.{◌≡◌, ◌≤◌, ◌*◌, vec_capacity}
use Rattle.oti_blocks.specs.Partition.{blocks, sources, symbol_of}
use Rattle.object_store.specs.Inner.ObjectHeld.{AreRowsBelow}
use Rattle.object_store.specs.Inner.ObjectParts.{object_of, AreJoinedBelow}
use Rattle.object_store.proofs.ready.join.Given as goal

abbrev pub invariant-loop-sbn : goal.invariant-loop-sbn
invariant-loop-sbn l = record {
  end : l.sbn-end ≡ blocks l.oti;
  joined : AreJoinedBelow (object_of l.oti l.parts) l.sbn-counter l.places.items l.bytes.items;
  rows : AreRowsBelow (object_of l.oti l.parts) l.sbn-counter l.bytes.items;
  room_placed : sources l.oti ≤ vec_capacity l.places;
  room_joined : sources l.oti * symbol_of l.oti ≤ vec_capacity l.bytes;
}
