-- The report and the manifest. Each line ends with a line feed, and numbers are decimal.
use Rattle.std.specs.Prelude.{ℕ, ◌==◌, if◌then◌else◌, List, [], ◌++◌, length, Option, Some, None, codes}
use Rattle.std.specs.List.{flat_map}
use Rattle.std.specs.Fmt.{decimal}
use Rattle.carousel_cid.specs.Instances.{Shown}
use Rattle.carousel_cid.specs.declared.file_of.FileOf.{FileOf}
use Rattle.run_base.specs.Texts.{line, number_line}

abbrev pub kind_line : Option (List ℕ) → List ℕ
kind_line None = []
kind_line (Some kind) = line (codes "type " ++ kind)

-- a file: its object and its length, its location, and its type where it has one
abbrev pub file_lines : FileOf → List ℕ
file_lines f =
    codes "file " ++ decimal f.toi ++ number_line (codes " ") (length f.body)
    ++ line (codes "location " ++ f.location) ++ kind_line f.kind

-- an instance: its number, its descriptor's object, how many files it has, and each of them in order
unfoldable pub manifest : Shown → List ℕ
manifest i =
    number_line (codes "instance ") i.number ++ number_line (codes "descriptor ") i.descriptor_toi
    ++ number_line (codes "files ") (length i.files) ++ flat_map file_lines i.files

-- the report's first lines: what is installed
abbrev pub best_lines : Option Shown → List ℕ
best_lines None = line (codes "nothing installed")
best_lines (Some i) = manifest i

-- how many packets were over the budget, where any was
abbrev pub over_line : ℕ → List ℕ
over_line drops = if drops == 0 then [] else number_line (codes "over budget ") drops
