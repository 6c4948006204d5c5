-- Numbers of an object's partition (RFC 5052, section 9.1), and the bounds that all transmission information keeps.
use Rattle.std.specs.Prelude.{ℕ, ◌^◌, ◌<◌, ◌≤◌}
use Rattle.std.specs.Int.{div_ceil}

-- T, the source symbols of an object of this length
abbrev pub source_count : ℕ → ℕ → ℕ
source_count length symbol = div_ceil length symbol

-- N, its source blocks
abbrev pub block_count : ℕ → ℕ → ℕ → ℕ
block_count length symbol max_block = div_ceil (source_count length symbol) max_block

-- the object has 8 bytes and its length 48 bits, and neither a symbol nor a block is empty
pub record IsInBounds (length symbol max_block : ℕ) : Type 0 where
  pub long : 8 ≤ length
  pub length_fits : length < 2 ^ 48
  pub some_symbol : 1 ≤ symbol
  pub symbol_fits : symbol < 2 ^ 16
  pub some_block : 1 ≤ max_block
