-- The values that fields have under a name.
use Rattle.std.specs.Prelude.{◌≡◌, ◌≤◌, List, ℕ, [], ◌∷◌, length, if◌then◌else◌}
use Rattle.std.specs.Str.{str_eq_ignore_ascii_case}
use Rattle.meta_text.specs.declared.field.Field.{Field}
use Rattle.meta_text.specs.declared.field.Field.TheVariants.{Absent, Once, Twice}
use Rattle.meta_text.specs.Fields.{Pair}

-- the values of the pairs with this name, in order; the case of ASCII letters doesn't matter
abbrev pub values_of : List ℕ → List Pair → List (List ℕ)
values_of name [] = []
values_of name (pair ∷ pairs) =
    if str_eq_ignore_ascii_case pair.0 name then pair.1 ∷ values_of name pairs else values_of name pairs

-- a field that no pair has, one pair, or more than one
abbrev pub Finds : Field → List (List ℕ) → Type 0
Finds Absent values = values ≡ []
Finds (Once value) values = values ≡ value.now ∷ []
Finds Twice values = 2 ≤ length values
