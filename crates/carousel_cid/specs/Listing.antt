-- A list of identifiers read by computing.
use Rattle.std.specs.Prelude.{ℕ, ◌+◌, ◌^◌, ◌==◌, nat_le, Bool, if◌then◌else◌, List, [], ◌∷◌, Option, Some, None, length, reverse}
use Rattle.std.specs.List.{list_any, before_first, after_first, slice_split, sum_by, flat_map, range_with_len}
use Rattle.meta_text.specs.Text.{is_empty}
use Rattle.meta_text.specs.Lines.{after_return}
use Rattle.carousel_cid.specs.declared.entry.Entry.{Entry}
use Rattle.carousel_cid.specs.Number.{number_below}
use Rattle.carousel_cid.specs.IdentifierList.{comma, dash, size_of}

abbrev pub is_comma : ℕ → Bool
is_comma b = b == comma

abbrev pub is_dash : ℕ → Bool
is_dash b = b == dash

abbrev pub after_line_end : List ℕ → List ℕ
after_line_end [] = []
after_line_end (b ∷ bs) = if b == 0x0A then after_return bs else b ∷ bs

-- the body without one end of line at its end
abbrev pub without_line_end : List ℕ → List ℕ
without_line_end body = reverse (after_line_end (reverse body))

-- the texts between the commas; nothing at all has none
abbrev pub cut_at_commas : List ℕ → List (List ℕ)
cut_at_commas text = if is_empty text then [] else slice_split is_comma text

unfoldable pub texts_in : List ℕ → List (List ℕ)
texts_in body = cut_at_commas (without_line_end body)

abbrev pub identifier_in : List ℕ → Option ℕ
identifier_in text = number_below (2 ^ 112) text

abbrev pub one_entry : Option ℕ → Option Entry
one_entry None = None
one_entry (Some toi) = Some (record { first = toi; last = toi })

abbrev pub range_entry : Option ℕ → Option ℕ → Option Entry
range_entry None last = None
range_entry (Some first) None = None
range_entry (Some first) (Some last) = if nat_le first last then Some (record { first = first; last = last }) else None

-- the entry that a text spells
unfoldable pub entry_in : List ℕ → Option Entry
entry_in text =
    if list_any is_dash text then range_entry (identifier_in (before_first is_dash text)) (identifier_in (after_first is_dash text))
    else one_entry (identifier_in text)

abbrev pub bad_after : ℕ → Option Entry → Option ℕ → Option ℕ
bad_after at None later = Some at
bad_after at (Some entry) later = later

-- where the first text starts that spells no entry; the texts start at this place, with a comma between each two
abbrev pub bad_place : ℕ → List (List ℕ) → Option ℕ
bad_place at [] = None
bad_place at (text ∷ texts) = bad_after at (entry_in text) (bad_place (at + length text + 1) texts)

-- how many identifiers the texts stand for; a text that spells no entry stands for none
abbrev pub size_in : Option Entry → ℕ
size_in None = 0
size_in (Some entry) = size_of entry

abbrev pub count_in : List (List ℕ) → ℕ
count_in texts = sum_by (λ text. size_in (entry_in text)) texts

-- and which
abbrev pub range_in : Option Entry → List ℕ
range_in None = []
range_in (Some entry) = range_with_len entry.first (size_of entry)

abbrev pub identifiers_in : List (List ℕ) → List ℕ
identifiers_in texts = flat_map (λ text. range_in (entry_in text)) texts
