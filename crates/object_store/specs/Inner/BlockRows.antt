-- How a block stands in memory: its places in order of arrival, and a row for each.
use Rattle.std.specs.Prelude.{◌≡◌, ℕ, ◌<◌, ◌≤◌, ◌*◌, ◌==◌, if◌then◌else◌, List, [], ◌∷◌, ◌++◌, length, take, drop, All}
use Rattle.std.specs.Ordering.{nat_cmp}
use Rattle.std.specs.FinMap.{FinMap, from_entries}
use Rattle.wire_bytes.specs.Below.{list_below}
use Rattle.gf256.specs.Polynomial.{AreDifferent, power}
use Rattle.rs_code.specs.Interpolation.{weighed}
use Rattle.rs_code.specs.SourceRows.{cut, column}
use Rattle.rs_solve.specs.Solution.{missing}
use Rattle.object_store.specs.Inner.BlockHeld.{BlockHeld, IsSource}

-- each place with its row
abbrev pub row_entries : ℕ → List ℕ → List ℕ → List (ℕ × List ℕ)
row_entries size [] rows = []
row_entries size (p ∷ places) rows = (p, take size rows) ∷ row_entries size places (drop size rows)

unfoldable pub rows_map : ℕ → List ℕ → List ℕ → FinMap nat_cmp (List ℕ)
rows_map size places rows = from_entries (row_entries size places rows)

-- the row of symbol j of the k source rows in front of these bytes: at each place the value at alpha^j of the polynomial
-- through the column
unfoldable pub symbol_row : ℕ → ℕ → List ℕ → ℕ → List ℕ
symbol_row k size bytes j = list_below size (λ at. weighed power k (column (cut k size bytes) at) k (power j))

-- the rows of the symbols at these places, one after the other
unfoldable pub symbols_at : ℕ → ℕ → List ℕ → List ℕ → List ℕ
symbols_at k size bytes [] = []
symbols_at k size bytes (p ∷ places) = symbol_row k size bytes p ++ symbols_at k size bytes places

-- the rows at the places: these bytes, while there are fewer than k, and else the symbols of these source rows
unfoldable pub rows_held : ℕ → ℕ → List ℕ → List ℕ → List ℕ
rows_held k size places bytes = if length places == k then symbols_at k size bytes places else bytes

-- what holds of a block in memory: of its places and its rows, or its source rows
pub record IsBlock (k n size : ℕ) (places bytes : List ℕ) : Type 0 where
  pub some : 1 ≤ k
  pub wide : 1 ≤ size
  pub order : k ≤ n
  pub fits : n ≤ 255
  pub most : length places ≤ k
  pub below : All (λ p. p < n) places
  pub different : AreDifferent places
  pub whole : length bytes ≡ length places * size

-- a block with k symbols: these are its places, and its rows are the symbols of these source rows
pub record IsSolved (h : BlockHeld) (places bytes : List ℕ) : Type 0 where
  pub many : length places ≡ h.k
  pub rows : h.rows ≡ rows_map h.size places (symbols_at h.k h.size bytes places)
  pub source : IsSource h bytes

-- the row steps of solving k places
abbrev pub steps_when_full : ℕ → List ℕ → ℕ
steps_when_full k places = if length places == k then missing places * length places else 0
