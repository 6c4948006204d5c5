-- What is held of one source block.
use Rattle.std.specs.Prelude.{◌≡◌, ℕ, ◌-◌, ◌*◌, nat_le, if◌then◌else◌, Bool, List, Option, Some, None, length, is_some}
use Rattle.std.specs.Str.{bytes_eq}
use Rattle.std.specs.Ordering.{nat_cmp}
use Rattle.std.specs.FinMap.{FinMap, empty, get, insert}
use Rattle.wire_bytes.specs.Below.{count_below}
use Rattle.wire_bytes.specs.Bytes.{zero_filled}
use Rattle.rs_code.specs.SourceRows.{cut, IsSymbolRow}
use Rattle.object_store.specs.declared.finding.Finding.{Finding}
use Rattle.object_store.specs.declared.finding.Finding.TheVariants.{Same, Differs, Full, Wanting}
use Rattle.held_packets.specs.Held.{first_difference}

-- the block has k source symbols, n encoding symbols of `size` bytes, and these rows by their places
pub record BlockHeld : Type 0 where
  pub k : ℕ
  pub n : ℕ
  pub size : ℕ
  pub rows : FinMap nat_cmp (List ℕ)

abbrev pub no_rows : ℕ → ℕ → ℕ → BlockHeld
no_rows k n size = record { k = k; n = n; size = size; rows = empty }

abbrev pub has_row : BlockHeld → ℕ → Bool
has_row h j = is_some (get h.rows j)

-- how many symbols are held, and how many of them are source symbols
abbrev pub held_in : BlockHeld → ℕ
held_in h = count_below h.n (has_row h)

abbrev pub sources_in : BlockHeld → ℕ
sources_in h = count_below h.k (has_row h)

-- there are k symbols
abbrev pub is_full : BlockHeld → Bool
is_full h = nat_le h.k (held_in h)

abbrev pub with_row : BlockHeld → ℕ → List ℕ → BlockHeld
with_row h j row = record { k = h.k; n = h.n; size = h.size; rows = insert h.rows j row }

abbrev pub with_symbol : BlockHeld → ℕ → List ℕ → BlockHeld
with_symbol h j symbol = with_row h j (zero_filled h.size symbol)

-- the row steps of solving it
abbrev pub solving_steps : BlockHeld → ℕ
solving_steps h = if is_full h then (h.k - sources_in h) * h.k else 0

-- what a row meets at its place: there are k symbols, or so many
abbrev pub finding_on : ℕ → ℕ → List ℕ → Option (List ℕ) → Finding
finding_on k held row (Some r) = if bytes_eq r row then Same else Differs (first_difference r row)
finding_on k held row None = if nat_le k held then Full else Wanting held

-- the same from the first byte in which the row at the place and the symbol differ
abbrev pub finding_of : Option ℕ → Finding
finding_of None = Same
finding_of (Some at) = Differs at

abbrev pub finding_in : BlockHeld → ℕ → List ℕ → Finding
finding_in h j symbol = finding_on h.k (held_in h) (zero_filled h.size symbol) (get h.rows j)

-- the bytes are k source rows, and the rows are their symbols
pub record IsSource (h : BlockHeld) (bytes : List ℕ) : Type 0 where
  pub long : length bytes ≡ h.k * h.size
  pub symbols : (j : ℕ) (row : List ℕ) → get h.rows j ≡ Some row → IsSymbolRow (cut h.k h.size bytes) h.size j row
