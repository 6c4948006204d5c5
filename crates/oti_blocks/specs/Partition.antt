-- How an object is cut into source symbols and blocks (RFC 5052, section 9.1).
use Rattle.std.specs.Prelude.{ℕ, ◌+◌, ◌-◌, ◌*◌, ◌/◌, ◌<◌, ◌≤◌, List, ◌++◌, replicate, take, sum, slice_index}
use Rattle.std.specs.Int.{div_ceil}
pub use Rattle.oti_blocks.specs.Scheme.{ObjectInformation, IsSound, length_of, symbol_of, max_block_of, max_n_of, most_encoding}
unfoldable pub use Rattle.oti_blocks.specs.Scheme.{encoding_count}

-- T, the source symbols of the object
unfoldable pub sources : ObjectInformation → ℕ
sources o = div_ceil (length_of o) (symbol_of o)

-- N, its source blocks
unfoldable pub blocks : ObjectInformation → ℕ
blocks o = div_ceil (sources o) (max_block_of o)

-- A_large, the source symbols of a larger block
unfoldable pub large : ObjectInformation → ℕ
large o = div_ceil (sources o) (blocks o)

-- A_small, the source symbols of a smaller block
unfoldable pub small : ObjectInformation → ℕ
small o = sources o / blocks o

-- I, how many blocks are larger ones
unfoldable pub large_count : ObjectInformation → ℕ
large_count o = sources o - small o * blocks o

-- the source symbols of each block, in order: I larger ones, and then the smaller ones
unfoldable pub sizes : ObjectInformation → List ℕ
sizes o = replicate (large_count o) (large o) ++ replicate (blocks o - large_count o) (small o)

-- k, the source symbols of block b
abbrev pub size_at : ObjectInformation → ℕ → ℕ
size_at o b = slice_index (sizes o) b

-- the first source symbol of block b: those of the blocks before stand in front of it
abbrev pub start_at : ObjectInformation → ℕ → ℕ
start_at o b = sum (take b (sizes o))

-- source symbol s is one of block b
pub record HasSource (o : ObjectInformation) (b s : ℕ) : Type 0 where
  pub block : b < blocks o
  pub from : start_at o b ≤ s
  pub before : s < start_at o b + size_at o b

-- n of block b
abbrev pub encoding_at : ObjectInformation → ℕ → ℕ
encoding_at o b = encoding_count o (size_at o b)

-- the bytes of the last source symbol that are bytes of the object
unfoldable pub last_length : ObjectInformation → ℕ
last_length o = length_of o - (sources o - 1) * symbol_of o
