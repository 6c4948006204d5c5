-- An object as its sender has it, and the source rows of its blocks (RFC 5052, section 9.1).
use Rattle.std.specs.Prelude.{◌≡◌, ℕ, ◌*◌, List, length, drop}
use Rattle.wire_bytes.specs.Bytes.{AreBytes, zero_filled}
use Rattle.wire_bytes.specs.Rows.{cut}
use Rattle.oti_blocks.specs.Partition.{ObjectInformation, IsSound, length_of, symbol_of, sources, size_at, start_at}

-- its transmission information and its bytes
pub record Sent : Type 0 where
  pub oti : ObjectInformation
  pub bytes : List ℕ

-- the transmission information is sound, and there are as many bytes as it says
pub record IsSent (x : Sent) : Type 0 where
  pub sound : IsSound x.oti
  pub bytes : AreBytes x.bytes
  pub long : length x.bytes ≡ length_of x.oti

-- the object's bytes, filled with zeros to whole source symbols
unfoldable pub filled : Sent → List ℕ
filled x = zero_filled (sources x.oti * symbol_of x.oti) x.bytes

-- the source rows of block b: as many rows of the symbol's length as it has source symbols, from where it starts
unfoldable pub block_rows : Sent → ℕ → List (List ℕ)
block_rows x b = cut (size_at x.oti b) (symbol_of x.oti) (drop (start_at x.oti b * symbol_of x.oti) (filled x))
