-- A number, or none, which is lower than any.
use Rattle.std.specs.Prelude.{ℕ, ◌+◌, Option, Some, None}

abbrev pub one_more : Option ℕ → ℕ
one_more None = 0
one_more (Some number) = number + 1
