-- Files that carry the pieces of a body.
use Rattle.std.specs.Prelude.{◌≡◌, ℕ, List, Option, Some, map}
use Rattle.std.specs.List.{AllByRecursion}
use Rattle.std.specs.List.Sorted.{IsPermutation}
use Rattle.carousel_cid.specs.declared.file_of.FileOf.{FileOf}
use Rattle.slice_join.specs.declared.cutting.Piece.{Piece}

-- the type and the body of a file
abbrev pub content_of : FileOf → Option (List ℕ) × List ℕ
content_of f = (f.kind, f.body)

-- those of a piece
abbrev pub piece_content : Piece → Option (List ℕ) × List ℕ
piece_content p = (Some p.kind, p.body)

-- the files carry these pieces in some order, all under one location
pub record Carries (pieces : List Piece) (location : List ℕ) (files : List FileOf) : Type 0 where
  pub in_some_order : IsPermutation (map piece_content pieces) (map content_of files)
  pub under : AllByRecursion (λ f. f.location ≡ location) files
