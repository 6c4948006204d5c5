-- Where a body stops being a list of identifiers.
use Rattle.std.specs.Prelude.{◌≡◌, ◌≢◌, ◌≤◌, ◌==◌, ℕ, false, List, [], ◌∷◌, ◌++◌, length}
use Rattle.std.specs.List.{flat_map, join_with_byte, list_any}
use Rattle.carousel_cid.specs.declared.entry.Entry.{Entry}
use Rattle.carousel_cid.specs.IdentifierList.{comma, SpellsEntry, SpellEntries, IsLineEnd}

-- an entry's text and the comma behind it
abbrev pub with_comma : List ℕ → List ℕ
with_comma text = text ++ comma ∷ []

-- the body is the list, and behind it the longest end of line that it ends with
pub record EndsIn (body list ending : List ℕ) : Type 0 where
  pub joined : body ≡ list ++ ending
  pub is : IsLineEnd ending
  pub longest : (front back : List ℕ) → body ≡ front ++ back → IsLineEnd back → length back ≤ length ending

-- The list before the end of line isn't empty, and is texts joined by commas. The first of them spell entries; the one
-- behind them, which has no comma, spells none, and it starts at this place.
pub record StartsBad (body : List ℕ) (at : ℕ) : Type 0 where
  pub list : List ℕ
  pub ending : List ℕ
  pub ends : EndsIn body list ending
  pub some : list ≢ []
  pub before : List (List ℕ)
  pub bad : List ℕ
  pub after : List (List ℕ)
  pub joined : list ≡ join_with_byte comma (before ++ bad ∷ after)
  pub entries : List Entry
  pub spelled : SpellEntries before entries
  pub whole : list_any (λ b. b == comma) bad ≡ false
  pub none : (entry : Entry) → ¬ SpellsEntry bad entry
  pub place : at ≡ length (flat_map with_comma before)
