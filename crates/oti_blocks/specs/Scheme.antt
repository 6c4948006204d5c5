-- What depends on the scheme: the transmission information (RFC 5052, section 6) and the encoding symbols of a block
-- (RFC 5510, section 4.2).
use Rattle.std.specs.Prelude.{ℕ, ◌*◌, ◌/◌, ◌^◌, ◌<◌, ◌≤◌}
use Rattle.oti_blocks.specs.Information.{block_count}

-- The FEC Object Transmission Information: the object's length in bytes, the bytes of an encoding symbol, the most
-- source symbols of a block and the most encoding symbols of a block.
pub record ObjectInformation : Type 0 where
  pub length : ℕ
  pub symbol : ℕ
  pub max_block : ℕ
  pub max_n : ℕ

-- L, the object's length in bytes
abbrev pub length_of : ObjectInformation → ℕ
length_of o = o.length

-- E, the bytes of an encoding symbol
abbrev pub symbol_of : ObjectInformation → ℕ
symbol_of o = o.symbol

-- B, the most source symbols of a block
abbrev pub max_block_of : ObjectInformation → ℕ
max_block_of o = o.max_block

-- max_n, the most encoding symbols of a block as they are stated
abbrev pub max_n_of : ObjectInformation → ℕ
max_n_of o = o.max_n

-- n, the encoding symbols of a block of k source symbols
unfoldable pub encoding_count : ObjectInformation → ℕ → ℕ
encoding_count o k = k * o.max_n / o.max_block

-- no block has more encoding symbols
abbrev pub most_encoding : ObjectInformation → ℕ
most_encoding o = o.max_n

-- what a sender may state
pub record IsSound (o : ObjectInformation) : Type 0 where
  pub long : 8 ≤ o.length
  pub length_fits : o.length < 2 ^ 48
  pub some_symbol : 1 ≤ o.symbol
  pub symbol_fits : o.symbol < 2 ^ 16
  pub some_block : 1 ≤ o.max_block
  pub block_within : o.max_block ≤ o.max_n
  pub max_n_fits : o.max_n < 2 ^ 8
  pub few_blocks : block_count o.length o.symbol o.max_block ≤ 2 ^ 24
