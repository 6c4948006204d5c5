-- How an object stands in memory: its open blocks in a tree and how many blocks wait for symbols, and once none does the
-- places and the source rows of all blocks.
use Rattle.std.specs.Prelude.{◌≡◌, ℕ, ◌<◌, ◌≤◌, ◌+◌, ◌*◌, ◌==◌, if◌then◌else◌, true, false, List, [], None, length, take, drop, is_some, unwrap_or}
use Rattle.std.specs.Ordering.{nat_cmp}
use Rattle.std.specs.FinMap.{FinMap, get as get_in, from_entries}
use Rattle.std.specs.BTreeMap.{BTreeMap, get}
use Rattle.wire_bytes.specs.Below.{count_below, list_below}
use Rattle.oti_blocks.specs.Partition.{ObjectInformation, IsSound, sources, blocks, size_at, start_at, encoding_at, symbol_of}
use Rattle.alc_packet.specs.Packet.{SymbolPacket}
use Rattle.object_store.specs.Inner.BlockHeld.{BlockHeld, held_in, with_symbol}
use Rattle.object_store.specs.Inner.BlockRows.{rows_map, symbols_at}
use Rattle.object_store.specs.Inner.ObjectHeld.{ObjectHeld, unopened, block_at, symbols_in, is_block_done, is_done, IsShaped, AreRowsBelow}

-- a tree as a map: at a key that stood twice it would have the first value, as a look-up finds it
unfoldable pub map_of : {X : Type 0} → BTreeMap ℕ X → FinMap nat_cmp X
map_of m = from_entries m.entries

abbrev pub object_of : ObjectInformation → BTreeMap ℕ BlockHeld → ObjectHeld
object_of o parts = record { oti = o; parts = map_of parts }

-- the places of block b among those of all blocks, and the source rows of all blocks from its first on
abbrev pub places_of : ObjectInformation → List ℕ → ℕ → List ℕ
places_of o places b = take (size_at o b) (drop (start_at o b) places)

abbrev pub rows_from : ObjectInformation → List ℕ → ℕ → List ℕ
rows_from o bytes b = drop (start_at o b * symbol_of o) bytes

-- block b of an object that is ready
unfoldable pub joined_block : ObjectInformation → List ℕ → List ℕ → ℕ → BlockHeld
joined_block o places bytes b = record {
  k = size_at o b;
  n = encoding_at o b;
  size = symbol_of o;
  rows = rows_map (symbol_of o) (places_of o places b) (symbols_at (size_at o b) (symbol_of o) (rows_from o bytes b) (places_of o places b));
}

unfoldable pub joined_parts : ObjectInformation → List ℕ → List ℕ → FinMap nat_cmp BlockHeld
joined_parts o places bytes = from_entries (list_below (blocks o) (λ b. (b, joined_block o places bytes b)))

abbrev pub ready_object : ObjectInformation → List ℕ → List ℕ → ObjectHeld
ready_object o places bytes = record { oti = o; parts = joined_parts o places bytes }

-- the blocks of the tree while one waits, and then the joined ones
unfoldable pub parts_seen : ObjectInformation → BTreeMap ℕ BlockHeld → ℕ → List ℕ → List ℕ → FinMap nat_cmp BlockHeld
parts_seen o parts waiting places bytes = if waiting == 0 then joined_parts o places bytes else map_of parts

abbrev pub object_seen : ObjectInformation → BTreeMap ℕ BlockHeld → ℕ → List ℕ → List ℕ → ObjectHeld
object_seen o parts waiting places bytes = record { oti = o; parts = parts_seen o parts waiting places bytes }

-- the block of a packet
abbrev pub part_at : BTreeMap ℕ BlockHeld → SymbolPacket → BlockHeld
part_at parts p = unwrap_or (get nat_cmp parts p.sbn) (unopened p.oti p.sbn)

abbrev pub part_with : BTreeMap ℕ BlockHeld → SymbolPacket → BlockHeld
part_with parts p = with_symbol (part_at parts p) p.esi p.symbol

-- a packet that the block has room for
pub record MayJoin (h : BlockHeld) (p : SymbolPacket) : Type 0 where
  pub place : p.esi < h.n
  pub vacant : get_in h.rows p.esi ≡ None
  pub wanting : held_in h < h.k
  pub symbol : length p.symbol ≤ h.size

-- each block has the object's numbers
abbrev pub AreShaped : ObjectHeld → Type 0
AreShaped o = (b : ℕ) → IsShaped o.oti b (block_at o b)

-- each open block is one of the object
abbrev pub AreWithin : ObjectHeld → Type 0
AreWithin o = (b : ℕ) → is_some (get_in o.parts b) ≡ true → b < blocks o.oti

-- the first n blocks stand in these places and bytes
pub record AreJoinedBelow (o : ObjectHeld) (n : ℕ) (places bytes : List ℕ) : Type 0 where
  pub many : length places ≡ start_at o.oti n
  pub same : (b : ℕ) → b < n → block_at o b ≡ joined_block o.oti places bytes b

-- what holds of an object in memory
pub record IsObject (o : ObjectHeld) (waiting : ℕ) (places bytes : List ℕ) (tree : BTreeMap ℕ BlockHeld) : Type 0 where
  pub sound : IsSound o.oti
  pub shaped : AreShaped o
  pub within : AreWithin o
  pub most : (b : ℕ) → symbols_in o b ≤ size_at o.oti b
  pub counted : waiting + count_below (blocks o.oti) (is_block_done o) ≡ blocks o.oti
  pub none_placed : is_done o ≡ false → places ≡ []
  pub none_joined : is_done o ≡ false → bytes ≡ []
  pub placed : is_done o ≡ true → length places ≡ sources o.oti
  pub joined : is_done o ≡ true → AreRowsBelow o (blocks o.oti) bytes
  pub released : is_done o ≡ true → tree.entries ≡ []
