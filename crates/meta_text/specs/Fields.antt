-- Metadata fields: pairs of a name and a value, and the one text that the writer gives them. This is the
-- project's own profile of the object metadata of RFC 6968, in the manner of RFC 7230, section 3.2.
use Rattle.std.specs.Prelude.{ℕ, List, [], ◌∷◌, ◌++◌, codes}
use Rattle.std.specs.List.{flat_map, AllByRecursion}
use Rattle.meta_text.specs.Text.{IsName, IsValue}

-- a name and its value
abbrev pub Pair : Type 0
Pair = List ℕ × List ℕ

pub record IsPair (pair : Pair) : Type 0 where
  pub name : IsName pair.0
  pub value : IsValue pair.1

abbrev pub ArePairs : List Pair → Type 0
ArePairs pairs = AllByRecursion IsPair pairs

-- a carriage return and a line feed
abbrev pub line_end : List ℕ
line_end = 0x0D ∷ 0x0A ∷ []

-- the line of a pair: name, colon, space, value and the line's end
abbrev pub line_of : Pair → List ℕ
line_of pair = pair.0 ++ codes ": " ++ pair.1 ++ line_end

-- the lines of the pairs in order
abbrev pub written : List Pair → List ℕ
written pairs = flat_map line_of pairs
