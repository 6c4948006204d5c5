-- The stages of a walk over a list of identifiers.
use Rattle.std.specs.Prelude.{ℕ, ◌==◌, nat_le, if◌then◌else◌, List, [], ◌∷◌, ◌++◌, length, drop}
use Rattle.std.specs.List.{list_any, slice_split}
use Rattle.meta_text.specs.Text.{is_empty}
use Rattle.carousel_cid.specs.IdentifierList.{comma}
use Rattle.carousel_cid.specs.Listing.{is_comma}

-- the texts from a place on at which one starts; none behind the end
unfoldable pub texts_from : ℕ → List ℕ → List (List ℕ)
texts_from at list = if nat_le at (length list) then slice_split is_comma (drop at list) else []

-- an identifier more, unless it is there
abbrev pub added : List ℕ → ℕ → List ℕ
added kept toi = if list_any (λ u. u == toi) kept then kept else kept ++ toi ∷ []

abbrev pub added_all : List ℕ → List ℕ → List ℕ
added_all kept [] = kept
added_all kept (toi ∷ tois) = added_all (added kept toi) tois

-- a list with a text more, behind a comma where it isn't the first
abbrev pub with_text : List ℕ → List ℕ → List ℕ
with_text list text = if is_empty list then text else list ++ comma ∷ text
