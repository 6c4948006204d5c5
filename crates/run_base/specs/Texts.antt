-- The lines that all commands share. Each ends with a line feed, and numbers are decimal.
use Rattle.std.specs.Prelude.{ℕ, List, ◌++◌, [], ◌∷◌, codes}
use Rattle.std.specs.Fmt.{decimal}
use Rattle.run_base.specs.declared.ending.Ending.{Ending}
use Rattle.run_base.specs.declared.ending.Ending.TheVariants.{End, Torn, TooMany}

abbrev pub line : List ℕ → List ℕ
line text = text ++ 10 ∷ []

-- a line of a label and a number
abbrev pub number_line : List ℕ → ℕ → List ℕ
number_line label number = label ++ decimal number ++ 10 ∷ []

abbrev pub usage_line : List ℕ
usage_line = line (codes "usage: replay, recv, send, dump, drill or listen")

-- why the list wasn't read to its end, where it wasn't
abbrev pub ending_line : Ending → List ℕ
ending_line End = []
ending_line (Torn at) = number_line (codes "torn at ") at
ending_line TooMany = line (codes "too many datagrams")
