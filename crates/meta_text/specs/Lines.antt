-- The lines of a text of metadata fields, and what each says.
use Rattle.std.specs.Prelude.{ℕ, ◌+◌, Bool, ◌==◌, List, [], ◌∷◌, ◌++◌, map, reverse, if◌then◌else◌}
use Rattle.std.specs.List.{before_first, after_first}
use Rattle.meta_text.specs.Text.{is_empty, trimmed}
use Rattle.meta_text.specs.Fields.{Pair}

abbrev pub is_line_feed : ℕ → Bool
is_line_feed b = b == 0x0A

-- lines with one byte more at the front of the first
abbrev pub begin_with : ℕ → List (List ℕ) → List (List ℕ)
begin_with b [] = (b ∷ []) ∷ []
begin_with b (line ∷ lines) = (b ∷ line) ∷ lines

-- the text cut at each line feed; what stands behind the last one is a line where it isn't empty
abbrev pub cut : List ℕ → List (List ℕ)
cut [] = []
cut (b ∷ bs) = if is_line_feed b then [] ∷ cut bs else begin_with b (cut bs)

-- a line and its end
abbrev pub with_feed : List ℕ → List ℕ
with_feed line = line ++ 0x0A ∷ []

abbrev pub after_return : List ℕ → List ℕ
after_return [] = []
after_return (b ∷ bs) = if b == 0x0D then bs else b ∷ bs

-- the line without one carriage return at its end
abbrev pub without_return : List ℕ → List ℕ
without_return line = reverse (after_return (reverse line))

abbrev pub lines_of : List ℕ → List (List ℕ)
lines_of text = map without_return (cut text)

-- a line that isn't empty, and its number
abbrev pub Line : Type 0
Line = ℕ × List ℕ

-- the lines that aren't empty, counted from this number on with the empty ones
abbrev pub numbered : ℕ → List (List ℕ) → List Line
numbered number [] = []
numbered number (line ∷ lines) = if is_empty line then numbered (number + 1) lines else (number, line) ∷ numbered (number + 1) lines

abbrev pub is_colon : ℕ → Bool
is_colon b = b == 0x3A

-- what stands before the first colon
abbrev pub name_in : List ℕ → List ℕ
name_in line = before_first is_colon line

-- what follows the first colon, without the blanks at its ends
abbrev pub value_in : List ℕ → List ℕ
value_in line = trimmed (after_first is_colon line)

abbrev pub pair_in : Line → Pair
pair_in line = (name_in line.1, value_in line.1)

abbrev pub pairs_in : List Line → List Pair
pairs_in lines = map pair_in lines
