-- The texts of metadata fields, in the manner of the header fields of RFC 7230, section 3.2: which are
-- names, and which are values. A text is a list of bytes.
use Rattle.std.specs.Prelude.{◌≡◌, ℕ, Bool, true, false, not, ◌&&◌, ◌||◌, ◌==◌, nat_le, List, [], ◌∷◌, reverse, if◌then◌else◌, codes}
use Rattle.std.specs.List.{list_all, list_any}
use Rattle.std.specs.Str.{is_utf8}
use Rattle.std.specs.Char.{is_ascii_alphanumeric}

-- the bytes that a name may have beside ASCII letters and digits
abbrev pub name_marks : List ℕ
name_marks = codes "!#$%&'*+-.^_`|~"

abbrev pub is_name_byte : ℕ → Bool
is_name_byte b = is_ascii_alphanumeric b || list_any (λ mark. mark == b) name_marks

abbrev pub is_empty : List ℕ → Bool
is_empty [] = true
is_empty (b ∷ bs) = false

-- at least one byte, and each a byte of a name
abbrev pub is_name : List ℕ → Bool
is_name text = not (is_empty text) && list_all is_name_byte text

abbrev pub IsName : List ℕ → Type 0
IsName text = is_name text ≡ true

-- a tab, or a byte that is no control character
abbrev pub is_value_byte : ℕ → Bool
is_value_byte b = (b == 0x09 || nat_le 0x20 b) && not (b == 0x7F)

-- UTF-8 without control characters other than the tab
abbrev pub is_clean : List ℕ → Bool
is_clean text = is_utf8 text && list_all is_value_byte text

-- a space or a tab; no other character is a blank
abbrev pub is_blank : ℕ → Bool
is_blank b = b == 0x20 || b == 0x09

abbrev pub without_leading : List ℕ → List ℕ
without_leading [] = []
without_leading (b ∷ bs) = if is_blank b then without_leading bs else b ∷ bs

abbrev pub without_trailing : List ℕ → List ℕ
without_trailing text = reverse (without_leading (reverse text))

-- the text without the blanks at its two ends
abbrev pub trimmed : List ℕ → List ℕ
trimmed text = without_trailing (without_leading text)

-- a clean text with no blank at either end
pub record IsValue (text : List ℕ) : Type 0 where
  pub clean : is_clean text ≡ true
  pub ends : trimmed text ≡ text
