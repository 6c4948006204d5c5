-- Which texts spell which entries, and the list that they make.
use Rattle.std.proofs.Common.{◌≡◌, ℕ, ◌+◌, ◌≤◌, ◌<◌, ◌^◌, Bool, true, false, ◌&&◌, ◌||◌, cond, List, [], ◌∷◌, ◌++◌, Option, Some}
use Rattle.std.proofs.Common.{None, refl, sym, ap, subst, ◌∙◌, inl, inr, arith, length, get_or, leb, length-append}
use Rattle.std.specs.Char.{is_ascii_digit}
use Rattle.std.specs.List.{list_any, list_all, position_or_len, before_first, after_first, range_with_len}
use Rattle.std.specs.Str.{all_ascii_digits}
use Rattle.std.proofs.lemmas.Bool.{cases_lt, leb-true, le-leb, and_parts, or_parts, eqb-true}
use Rattle.std.proofs.lemmas.Bool.Decides.{nat_tests}
use Rattle.std.proofs.lemmas.List.Folds.{list_all-append, list_any-append}
use Rattle.std.proofs.lemmas.List.Sums.{sum_by-cons, split_at_first, passes_at_first}
use Rattle.std.proofs.Math.Seq.{take-append_seam, drop-append-add}
use Rattle.meta_text.proofs.Public.{any_without_place}
use Rattle.carousel_cid.specs.declared.entry.Entry.{Entry}
use Rattle.carousel_cid.specs.IdentifierList.{dash, IsIdentifier, SpellsOne, SpellsRange, SpellsEntry, SpellEntries, size_of, count_of, identifiers_of}
use Rattle.carousel_cid.specs.Listing.{is_dash, identifier_in, one_entry, range_entry, entry_in, bad_after, bad_place, size_in, count_in, range_in, identifiers_in}
use Rattle.carousel_cid.proofs.Numbers.{number_from, number_to, digits_of_number}

-- ---- the bytes of a number, an entry and a list

-- each byte is a digit or a dash
abbrev pub is_entry_byte : ℕ → Bool
is_entry_byte b = is_ascii_digit b || is_dash b

digit_no_dash : (b : ℕ) → is_ascii_digit b ≡ true → is_dash b ≡ false
digit_no_dash b digit = grind (arith, nat_tests)

-- digits have no dash
no_dash : (ds : List ℕ) → all_ascii_digits ds ≡ true → list_any is_dash ds ≡ false
no_dash [] all = refl
no_dash (d ∷ ds) all =
    let both = and_parts (is_ascii_digit d) (all_ascii_digits ds) all in
    rw (digit_no_dash d both.0, no_dash ds both.1) refl

digits_in_entry : (ds : List ℕ) → all_ascii_digits ds ≡ true → list_all is_entry_byte ds ≡ true
digits_in_entry [] all = refl
digits_in_entry (d ∷ ds) all =
    let both = and_parts (is_ascii_digit d) (all_ascii_digits ds) all in
    rw (both.0, digits_in_entry ds both.1) refl

-- ---- a dash behind bytes that are none is the first

first_place : (front back : List ℕ) → list_any is_dash front ≡ false → position_or_len is_dash (front ++ dash ∷ back) ≡ length front
first_place [] back none = refl
first_place (b ∷ bs) back none =
    let both = or_parts (is_dash b) (list_any is_dash bs) none in
    rw (both.0, first_place bs back both.1) (omega arith)

before_dash : (front back : List ℕ) → list_any is_dash front ≡ false → before_first is_dash (front ++ dash ∷ back) ≡ front
before_dash front back none = rw (first_place front back none) (take-append_seam front (dash ∷ back))

after_dash : (front back : List ℕ) → list_any is_dash front ≡ false → after_first is_dash (front ++ dash ∷ back) ≡ back
after_dash front back none = rw (first_place front back none) (drop-append-add front (dash ∷ back) 1)

any_dash : (front back : List ℕ) → list_any is_dash (front ++ dash ∷ back) ≡ true
any_dash front back = rw (list_any-append is_dash front (dash ∷ back)) (by (list_any is_dash front))
  where
    by : (t : Bool) → (t || true) ≡ true
    by true = refl
    by false = refl

place_from_any : (p : ℕ → Bool) (xs : List ℕ) → list_any p xs ≡ true → position_or_len p xs < length xs
place_from_any p xs there = elim (cases_lt (position_or_len p xs) (length xs)) [
  | inl less ↦ less
  | inr past ↦ absurd (let none = any_without_place p xs past in cc)
]

-- a text with a dash is what stands before the first, the dash, and what stands after it
dash_at : (text : List ℕ) → list_any is_dash text ≡ true → text ≡ before_first is_dash text ++ dash ∷ after_first is_dash text
dash_at text there =
    let least = place_from_any is_dash text there in
    let at = passes_at_first is_dash text 0 least in
    split_at_first is_dash text 0 least ∙ ap (λ b. before_first is_dash text ++ b ∷ after_first is_dash text)
    (eqb-true (get_or text (position_or_len is_dash text) 0) dash at)

-- ---- entries

identifier_from : (text : List ℕ) (toi : ℕ) → identifier_in text ≡ Some toi → IsIdentifier text toi
identifier_from text toi read = let both = number_from (2 ^ 112) text toi read in record { number = both.0; fits = both.1 }

identifier_to : (text : List ℕ) (toi : ℕ) → IsIdentifier text toi → identifier_in text ≡ Some toi
identifier_to text toi is = number_to (2 ^ 112) text toi is.number is.fits

one_from : (text : List ℕ) (o : Option ℕ) (entry : Entry) → identifier_in text ≡ o → one_entry o ≡ Some entry → SpellsOne text entry
one_from text None entry is read = absurd (let other : None ≡ Some entry = read in cc)
one_from text (Some toi) entry is read =
    let same : record { first = toi; last = toi } ≡ entry = cc in
    record { one = subst (λ (e : Entry). IsIdentifier text e.first) same (identifier_from text toi is); same = subst (λ (e : Entry). e.last ≡ e.first) same refl }

range_from : (text front back : List ℕ) (o p : Option ℕ) (entry : Entry) → text ≡ front ++ dash ∷ back
    → identifier_in front ≡ o → identifier_in back ≡ p → range_entry o p ≡ Some entry → SpellsRange text entry
range_from text front back None p entry joined first last read = absurd (let other : None ≡ Some entry = read in cc)
range_from text front back (Some a) None entry joined first last read = absurd (let other : None ≡ Some entry = read in cc)
range_from text front back (Some a) (Some b) entry joined first last read = by (leb a b) refl read
  where
    by : (t : Bool) → leb a b ≡ t → cond t (Some (record { first = a; last = b })) None ≡ Some entry → SpellsRange text entry
    by true order e =
        let same : record { first = a; last = b } ≡ entry = cc in
        record {
          front = front;
          back = back;
          joined = joined;
          first = subst (λ (e : Entry). IsIdentifier front e.first) same (identifier_from front a first);
          last = subst (λ (e : Entry). IsIdentifier back e.last) same (identifier_from back b last);
          order = subst (λ (e : Entry). e.first ≤ e.last) same (leb-true a b order);
        }
    by false order e = absurd (let other : None ≡ Some entry = e in cc)

pub entry_from : (text : List ℕ) (entry : Entry) → entry_in text ≡ Some entry → SpellsEntry text entry
unfolding entry_in
entry_from text entry read = by (list_any is_dash text) refl read
  where
    by : (t : Bool) → list_any is_dash text ≡ t → cond t (range_entry (identifier_in (before_first is_dash text))
        (identifier_in (after_first is_dash text))) (one_entry (identifier_in text)) ≡ Some entry → SpellsEntry text entry
    by true there e = inr (range_from text (before_first is_dash text) (after_first is_dash text) _ _ entry (dash_at text there) refl refl e)
    by false none e = inl (one_from text (identifier_in text) entry refl e)

pub entry_to : (text : List ℕ) (entry : Entry) → SpellsEntry text entry → entry_in text ≡ Some entry
unfolding entry_in
entry_to text entry spells = elim spells [
  | inl s ↦
      let digits = digits_of_number text entry.first s.one.number in
      rw (no_dash text digits, identifier_to text entry.first s.one) (ap (λ k. Some (record { first = entry.first; last = k })) (sym s.same))
  | inr s ↦
      let digits = no_dash s.front (digits_of_number s.front entry.first s.first.number) in
      let there : list_any is_dash text ≡ true = ap (list_any is_dash) s.joined ∙ any_dash s.front s.back in
      let first : identifier_in (before_first is_dash text) ≡ Some entry.first = ap (λ (ys : List ℕ). identifier_in (before_first is_dash ys)) s.joined
      ∙ ap identifier_in (before_dash s.front s.back digits) ∙ identifier_to s.front entry.first s.first in
      let last : identifier_in (after_first is_dash text) ≡ Some entry.last = ap (λ (ys : List ℕ). identifier_in (after_first is_dash ys)) s.joined
      ∙ ap identifier_in (after_dash s.front s.back digits) ∙ identifier_to s.back entry.last s.last in
      rw (there, first, last, le-leb entry.first entry.last s.order) refl
]

-- ---- the texts of a list

-- texts that spell entries, and what they stand for
pub entries_from : (at : ℕ) (texts : List (List ℕ)) → bad_place at texts ≡ None → (entries : List Entry) × SpellEntries texts entries
entries_from at [] good = ([], tt)
entries_from at (text ∷ texts) good = by (entry_in text) refl (entries_from (at + length text + 1) texts) good
  where
    by : (o : Option Entry) → entry_in text ≡ o → (bad_place (at + length text + 1) texts ≡ None → (entries : List Entry) × SpellEntries texts entries)
        → bad_after at o (bad_place (at + length text + 1) texts) ≡ None → (entries : List Entry) × SpellEntries (text ∷ texts) entries
    by None is later e = absurd (let other : Some at ≡ None = e in cc)
    by (Some entry) is later e = let rest = later e in (entry ∷ rest.0, (entry_from text entry is, rest.1))

pub entries_good : (at : ℕ) (texts : List (List ℕ)) (entries : List Entry) → SpellEntries texts entries → bad_place at texts ≡ None
entries_good at [] [] spelled = refl
entries_good at [] (entry ∷ entries) spelled = absurd spelled
entries_good at (text ∷ texts) [] spelled = absurd spelled
entries_good at (text ∷ texts) (entry ∷ entries) spelled = rw (entry_to text entry spelled.0) (entries_good (at + length text + 1) texts entries spelled.1)

pub entries_count : (texts : List (List ℕ)) (entries : List Entry) → SpellEntries texts entries → count_in texts ≡ count_of entries
entries_count [] [] spelled = refl
entries_count [] (entry ∷ entries) spelled = absurd spelled
entries_count (text ∷ texts) [] spelled = absurd spelled
entries_count (text ∷ texts) (entry ∷ entries) spelled =
    sum_by-cons (λ t. size_in (entry_in t)) text texts
    ∙ ap (λ o. size_in o + count_in texts) (entry_to text entry spelled.0)
    ∙ ap (λ n. size_of entry + n) (entries_count texts entries spelled.1)
    ∙ sym (sum_by-cons size_of entry entries)

pub entries_identifiers : (texts : List (List ℕ)) (entries : List Entry) → SpellEntries texts entries → identifiers_in texts ≡ identifiers_of entries
entries_identifiers [] [] spelled = refl
entries_identifiers [] (entry ∷ entries) spelled = absurd spelled
entries_identifiers (text ∷ texts) [] spelled = absurd spelled
entries_identifiers (text ∷ texts) (entry ∷ entries) spelled =
    ap (λ o. range_in o ++ identifiers_in texts) (entry_to text entry spelled.0)
    ∙ ap (λ (ts : List ℕ). range_with_len entry.first (size_of entry) ++ ts) (entries_identifiers texts entries spelled.1)

-- ---- an entry's bytes are digits and dashes, and there is one

pub entry_bytes : (text : List ℕ) (entry : Entry) → SpellsEntry text entry → (list_all is_entry_byte text ≡ true) × (0 < length text)
entry_bytes text entry spells = elim spells [
  | inl s ↦ (digits_in_entry text (digits_of_number text entry.first s.one.number), s.one.number.digits.0)
  | inr s ↦ (
    ap (list_all is_entry_byte) s.joined ∙ list_all-append is_entry_byte s.front (dash ∷ s.back)
        ∙ (λ i. digits_in_entry s.front (digits_of_number s.front entry.first s.first.number)
        i && digits_in_entry s.back (digits_of_number s.back entry.last s.last.number) i),
    omega (arith, ap length s.joined, length-append s.front (dash ∷ s.back)),
  )
]
