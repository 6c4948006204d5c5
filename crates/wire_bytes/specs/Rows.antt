-- Bytes in rows of one size, one behind the other.
use Rattle.std.specs.Prelude.{ℕ, zero, suc, List, [], ◌∷◌, take, drop}

-- the first k rows of `size` bytes
abbrev pub cut : ℕ → ℕ → List ℕ → List (List ℕ)
cut zero size bytes = []
cut (suc k) size bytes = take size bytes ∷ cut k size (drop size bytes)
