-- What a listening writes after its report: a line for each reader. Numbers are decimal.
use Rattle.std.specs.Prelude.{◌≡◌, ℕ, ◌+◌, ◌≤◌, List, [], ◌∷◌, ◌++◌, length, map, All, Contains, Option, Some, None, option_map, codes}
use Rattle.std.specs.Fmt.{decimal}
use Rattle.carousel_cid.specs.Instances.{Shown}
use Rattle.snapshot_hub.specs.Histories.{last_of}
use Rattle.run_base.specs.Parts.{AddsPart}
use Rattle.run_base.specs.Texts.{line}

abbrev pub number_or_none : Option ℕ → List ℕ
number_or_none None = codes "none"
number_or_none (Some number) = decimal number

-- a reader, the number that it noted last, and the last number
abbrev pub reader_line : ℕ → Option ℕ → Option ℕ → List ℕ
reader_line reader saw last =
    line (codes "reader " ++ decimal reader ++ codes " saw " ++ number_or_none saw ++ codes " last " ++ number_or_none last)

-- the lines of readers, of whom the first has this number
abbrev pub reader_lines : ℕ → List (Option ℕ) → Option ℕ → List ℕ
reader_lines reader [] last = []
reader_lines reader (saw ∷ more) last = reader_line reader saw last ++ reader_lines (reader + 1) more last

-- what a reader may have noted: none, or the number of one of these
abbrev pub MayNote : List Shown → Option ℕ → Type 0
MayNote published None = Unit {0}
MayNote published (Some number) = Contains (map (λ i. i.number) published) number

-- none is above nothing, and a number is above none and above each lower one
abbrev pub IsNotAbove : Option ℕ → Option ℕ → Type 0
IsNotAbove None last = Unit {0}
IsNotAbove (Some number) None = ⊥
IsNotAbove (Some number) (Some last) = number ≤ last

-- the number of the last of these
abbrev pub last_number : List Shown → Option ℕ
last_number published = option_map (λ i. i.number) (last_of published)

-- the lines of so many readers beside a receiver that published these instances
pub record AreReaderLines (published : List Shown) (readers : ℕ) (text : List ℕ) : Type 0 where
  pub saw : List (Option ℕ)
  pub count : length saw ≡ readers
  pub known : All (MayNote published) saw
  pub is : text ≡ reader_lines 1 saw (last_number published)

-- the report and such lines are added
pub record TellsReaders (published : List Shown) (readers : ℕ) (report old new : List ℕ) : Type 0 where
  pub lines : List ℕ
  pub are : AreReaderLines published readers lines
  pub all : new ≡ old ++ (report ++ lines)

-- a part of the report and such lines is added
pub record TellsPart (published : List Shown) (readers : ℕ) (report old new : List ℕ) : Type 0 where
  pub lines : List ℕ
  pub are : AreReaderLines published readers lines
  pub part : AddsPart (report ++ lines) old new
