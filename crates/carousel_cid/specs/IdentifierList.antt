-- The list of object identifiers that is the body of a descriptor: entries joined by commas, and at most one end
-- of line behind them. An entry is a number, or two with a dash between them, which stand for a range.
use Rattle.std.specs.Prelude.{◌≡◌, ℕ, ◌+◌, ◌-◌, ◌^◌, ◌<◌, ◌≤◌, ◌⊎◌, List, [], ◌∷◌, ◌++◌}
use Rattle.std.specs.List.{range_with_len, flat_map, sum_by, join_with_byte}
use Rattle.carousel_cid.specs.declared.entry.Entry.{Entry}
use Rattle.carousel_cid.specs.Number.{IsNumber}

abbrev pub comma : ℕ
comma = 0x2C

abbrev pub dash : ℕ
dash = 0x2D

-- the text writes the identifier; the widest has 112 bits
pub record IsIdentifier (text : List ℕ) (toi : ℕ) : Type 0 where
  pub number : IsNumber text toi
  pub fits : toi < 2 ^ 112

-- one identifier, which is first and last
pub record SpellsOne (text : List ℕ) (entry : Entry) : Type 0 where
  pub one : IsIdentifier text entry.first
  pub same : entry.last ≡ entry.first

-- the first identifier, a dash and the last one, which isn't below the first
pub record SpellsRange (text : List ℕ) (entry : Entry) : Type 0 where
  pub front : List ℕ
  pub back : List ℕ
  pub joined : text ≡ front ++ dash ∷ back
  pub first : IsIdentifier front entry.first
  pub last : IsIdentifier back entry.last
  pub order : entry.first ≤ entry.last

abbrev pub SpellsEntry : List ℕ → Entry → Type 0
SpellsEntry text entry = SpellsOne text entry ⊎ SpellsRange text entry

-- each text spells the entry at its place
abbrev pub SpellEntries : List (List ℕ) → List Entry → Type 0
SpellEntries [] [] = Unit {0}
SpellEntries (text ∷ texts) (entry ∷ entries) = SpellsEntry text entry × SpellEntries texts entries
SpellEntries [] (entry ∷ entries) = ⊥
SpellEntries (text ∷ texts) [] = ⊥

-- nothing, a line feed, or a carriage return and a line feed
abbrev pub IsLineEnd : List ℕ → Type 0
IsLineEnd ending = (ending ≡ []) ⊎ ((ending ≡ 0x0A ∷ []) ⊎ (ending ≡ 0x0D ∷ 0x0A ∷ []))

-- the body is a list of these entries
pub record SpellsList (body : List ℕ) (entries : List Entry) : Type 0 where
  pub texts : List (List ℕ)
  pub ending : List ℕ
  pub spelled : SpellEntries texts entries
  pub ends : IsLineEnd ending
  pub joined : body ≡ join_with_byte comma texts ++ ending

-- how many identifiers an entry stands for
abbrev pub size_of : Entry → ℕ
size_of entry = entry.last + 1 - entry.first

abbrev pub count_of : List Entry → ℕ
count_of entries = sum_by size_of entries

-- the identifiers that the entries stand for, in order
abbrev pub identifiers_of : List Entry → List ℕ
identifiers_of entries = flat_map (λ entry. range_with_len entry.first (size_of entry)) entries
