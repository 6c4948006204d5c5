-- What holds of each held pair that packets leave, of a session or not.
use Rattle.std.specs.Prelude.{◌≡◌, ℕ, ◌<◌, ◌≤◌, List, Some, true, is_some, length}
use Rattle.std.specs.FinMap.{get}
use Rattle.wire_bytes.specs.Bytes.{AreBytes}
use Rattle.oti_blocks.specs.Partition.{ObjectInformation, IsSound, blocks, size_at, encoding_at, symbol_of}
use Rattle.held_packets.specs.Held.{Held, place, row_at, symbols_held}

pub record IsHeldPair (held : Held) : Type 0 where
  pub sound : (t : ℕ) (o : ObjectInformation) → get held.objects t ≡ Some o → IsSound o
  pub opened : (t b j : ℕ) (row : List ℕ) → row_at held (place t b j) ≡ Some row → is_some (get held.objects t) ≡ true
  pub within : (t b j : ℕ) (row : List ℕ) (o : ObjectInformation) → row_at held (place t b j) ≡ Some row → get held.objects t ≡ Some o
      → (b < blocks o) × (j < encoding_at o b) × (length row ≡ symbol_of o)
  pub most : (t b : ℕ) (o : ObjectInformation) → get held.objects t ≡ Some o → symbols_held held t o b ≤ size_at o b

-- the rows are of bytes
pub record AreByteRows (held : Held) : Type 0 where
  pub bytes : (t b j : ℕ) (row : List ℕ) → row_at held (place t b j) ≡ Some row → AreBytes row
