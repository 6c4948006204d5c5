-- The texts of a catalog's items are no longer than its text.
use Rattle.std.proofs.Common.{◌≡◌, ℕ, suc, ◌+◌, ◌≤◌, Bool, true, false, cond, List, [], ◌∷◌, Option, Some, None, length, refl, arith}
use Rattle.std.specs.Prelude.{◌^◌, All, unwrap_or, option_map, option_to_list, map, reverse, ◌==◌}
use Rattle.std.specs.List.{AllByRecursion, flat_map, onto_first}
use Rattle.std.proofs.lemmas.List.{length-reverse}
use Rattle.std.proofs.lemmas.List.Elements.{All-weaker}
use Rattle.carousel_cid.specs.Number.{number_below}
use Rattle.meta_text.specs.Lines.{is_line_feed, begin_with, cut, after_return, without_return, lines_of}
use Rattle.sender_plan.specs.CatalogInstance.{CatalogItem, CatalogInstance}
use Rattle.sender_plan.specs.CatalogLine.{Entry, Begin, is_tab, fields_of, entry_in}
use Rattle.sender_plan.specs.Catalog.{is_passed_over, said, instances_of}
use Rattle.sender_plan.proofs.Entries.{all_both, Says, HasAll, instances_have}

-- the item's texts have together at most so many bytes
abbrev pub IsShort : ℕ → CatalogItem → Type 0
IsShort n item = length item.location + length (unwrap_or item.kind []) ≤ n

abbrev SaysShort : ℕ → Entry → Type 0
SaysShort n entry = Says (λ number. Unit {0}) (IsShort n) entry

-- ---- the lines of a text, and the fields of a line, have together at most its bytes

abbrev lengths : List (List ℕ) → ℕ
lengths [] = 0
lengths (text ∷ texts) = length text + lengths texts

length_begin : (b : ℕ) (lines : List (List ℕ)) → lengths (begin_with b lines) ≡ lengths lines + 1
length_begin b [] = refl
length_begin b (line ∷ lines) = omega arith

length_cut : (text : List ℕ) → lengths (cut text) ≤ length text
length_cut [] = omega arith
length_cut (b ∷ bs) = by (is_line_feed b) (length_cut bs)
  where
    by : (t : Bool) → lengths (cut bs) ≤ length bs → lengths (cond t ([] ∷ cut bs) (begin_with b (cut bs))) ≤ suc (length bs)
    by true rest = omega (arith, rest)
    by false rest = omega (arith, rest, length_begin b (cut bs))

length_onto : (b : ℕ) (fields : List (List ℕ)) → lengths (onto_first b fields) ≡ lengths fields + 1
length_onto b [] = refl
length_onto b (field ∷ fields) = omega arith

length_fields : (line : List ℕ) → lengths (fields_of line) ≤ length line
length_fields [] = omega arith
length_fields (b ∷ bs) = by (is_tab b) (length_fields bs)
  where
    by : (t : Bool) → lengths (fields_of bs) ≤ length bs → lengths (cond t ([] ∷ fields_of bs) (onto_first b (fields_of bs))) ≤ suc (length bs)
    by true rest = omega (arith, rest)
    by false rest = omega (arith, rest, length_onto b (fields_of bs))

-- ---- a line without its carriage return

length_after : (line : List ℕ) → length (after_return line) ≤ length line
length_after [] = omega arith
length_after (b ∷ bs) = by (b == 0x0D)
  where
    by : (t : Bool) → length (cond t bs (b ∷ bs)) ≤ suc (length bs)
    by true = omega arith
    by false = omega arith

length_without : (line : List ℕ) → length (without_return line) ≤ length line
length_without line =
    omega (arith, length-reverse (after_return (reverse line)), length_after (reverse line), length-reverse line)

-- ---- what a line says is short

short_entry : (n : ℕ) (fields : List (List ℕ)) → lengths fields ≤ n → AllByRecursion (SaysShort n) (option_to_list (entry_in fields))
short_entry n [] few = tt
short_entry n (word ∷ []) few = tt
short_entry n (word ∷ number ∷ []) few = by (number_below (2 ^ 32) number)
  where
    by : (found : Option ℕ) → AllByRecursion (SaysShort n) (option_to_list (option_map Begin found))
    by None = tt
    by (Some value) = (tt, tt)
short_entry n (word ∷ name ∷ location ∷ []) few = (omega (arith, few), tt)
short_entry n (word ∷ name ∷ location ∷ kind ∷ []) few = (omega (arith, few), tt)
short_entry n (word ∷ name ∷ location ∷ kind ∷ more ∷ fields) few = tt

short_said : (n : ℕ) (line : List ℕ) → length line ≤ n → AllByRecursion (SaysShort n) (said line)
short_said n line few = by (is_passed_over line)
  where
    by : (t : Bool) → AllByRecursion (SaysShort n) (cond t [] (option_to_list (entry_in (fields_of line))))
    by true = tt
    by false = short_entry n (fields_of line) (omega (arith, few, length_fields line))

short_lines : (n : ℕ) (lines : List (List ℕ)) → lengths lines ≤ n → AllByRecursion (SaysShort n) (flat_map said (map without_return lines))
short_lines n [] few = tt
short_lines n (line ∷ lines) few =
    all_both (SaysShort n) (said (without_return line)) (flat_map said (map without_return lines))
    (short_said n (without_return line) (omega (arith, few, length_without line))) (short_lines n lines (omega (arith, few)))

-- ---- and so are the items

pub short_texts : (text : List ℕ) → All (λ i. All (IsShort (length text)) i.items) (instances_of (flat_map said (lines_of text)))
short_texts text =
    let n = length text in
    let entries = flat_map said (lines_of text) in
    All-weaker (HasAll (λ number. Unit {0}) (IsShort n)) (λ i. All (IsShort n) i.items) (λ i has. has.1) (instances_of entries)
    (instances_have (λ number. Unit {0}) (IsShort n) entries (short_lines n (cut text) (length_cut text)))

pub texts_within : (m n : ℕ) (instances : List CatalogInstance) → All (λ i. All (IsShort m) i.items) instances → m ≤ n
    → All (λ i. All (IsShort n) i.items) instances
texts_within m n instances are less = λ k i within at item short. omega (arith, are k i within at item short, less)
