-- One read of a source of bytes.
use Rattle.std.specs.Prelude.{◌≡◌, ℕ, ◌≤◌, ◌<◌, min, List, [], length, take, drop}

-- n bytes of those that were left stand at the front of out, and the others are left; none is read only where none was left or out has no room
pub record Reads (n : ℕ) (out left left' : List ℕ) : Type 0 where
  pub front : take n out ≡ take n left
  pub within : n ≤ length left
  pub rest : left' ≡ drop n left
  pub end : n ≡ 0 → 0 < length out → left ≡ []

-- as many bytes as out has room for, or as were left, stand at the front of out, and the others are left
pub record Filled (n : ℕ) (out left left' : List ℕ) : Type 0 where
  pub count : n ≡ min (length out) (length left)
  pub front : take n out ≡ take n left
  pub rest : left' ≡ drop n left
