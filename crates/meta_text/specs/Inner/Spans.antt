-- The pairs that stand at spans of one text.
use Rattle.std.specs.Prelude.{◌≡◌, ℕ, ◌-◌, ◌≤◌, List, ◌++◌, length, take, drop, map}
use Rattle.std.specs.List.{AllByRecursion}
use Rattle.meta_text.specs.declared.span.Span.{Span}
use Rattle.meta_text.specs.Text.{IsName, IsValue}
use Rattle.meta_text.specs.Fields.{Pair}

abbrev pub name_at : List ℕ → Span → List ℕ
name_at text span = take (span.middle - span.start) (drop span.start text)

abbrev pub value_at : List ℕ → Span → List ℕ
value_at text span = take (span.end - span.middle) (drop span.middle text)

abbrev pub pair_at : List ℕ → Span → Pair
pair_at text span = (name_at text span, value_at text span)

abbrev pub pairs_at : List ℕ → List Span → List Pair
pairs_at text spans = map (pair_at text) spans

-- a name and a value stand there
pub record IsSpan (text : List ℕ) (span : Span) : Type 0 where
  pub order : span.start ≤ span.middle
  pub back : span.middle ≤ span.end
  pub within : span.end ≤ length text
  pub name : IsName (name_at text span)
  pub value : IsValue (value_at text span)

abbrev pub AreSpans : List ℕ → List Span → Type 0
AreSpans text spans = AllByRecursion (IsSpan text) spans

-- the second text begins with the first
abbrev pub Extends : List ℕ → List ℕ → Type 0
Extends first second = (more : List ℕ) × (second ≡ first ++ more)
