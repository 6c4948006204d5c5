-- An address read number by number is four numbers joined by dots.
use Rattle.std.proofs.Common.{◌≡◌, ◌<◌, ◌+◌, ◌&&◌, ◌||◌, ℕ, Bool, true, false, not, suc, List, [], ◌∷◌, length, cond, Option, Some}
use Rattle.std.proofs.Common.{None, refl, sym, ap, ◌∙◌, arith, nat_le, option_map, option_and_then}
use Rattle.std.specs.Char.{is_ascii_digit}
use Rattle.std.specs.List.{list_any, list_all, slice_split, before_first, after_first, position_or_len}
use Rattle.std.specs.Str.Parse.{digits_value}
use Rattle.std.proofs.lemmas.Bool.{and_parts, leb-true, ne_eqb, or_parts, or_from, true≢false}
use Rattle.std.proofs.lemmas.List.Splits.{slice_split_first, length-slice_split}
use Rattle.fcast_words.specs.Pairs.{Text}
use Rattle.fcast_words.specs.Numbers.{is_in}
use Rattle.fcast_words.specs.Addresses.{is_dot, byte_of, bytes_of, address_of}
use Rattle.fcast_words.specs.Inner.Dots.{last_byte, byte_then, four_bytes}

-- ---- cutting at dots

first_dot : (text : Text) → list_any is_dot text ≡ true → position_or_len is_dot text < length text
first_dot [] e = absurd (true≢false (sym e))
first_dot (b ∷ text) e = by (is_dot b) (first_dot text) e
  where
    by : (dot : Bool) → (list_any is_dot text ≡ true → position_or_len is_dot text < length text) → (dot || list_any is_dot text) ≡ true
        → cond (not dot) (1 + position_or_len is_dot text) 0 < suc (length text)
    by true later e = omega arith
    by false later e = omega (arith, later e)

cut_at_dot : (text : Text) → list_any is_dot text ≡ true → slice_split is_dot text ≡ before_first is_dot text ∷ slice_split is_dot (after_first is_dot text)
cut_at_dot text e = slice_split_first is_dot text 0 (first_dot text e)

uncut : (text : Text) → list_any is_dot text ≡ false → slice_split is_dot text ≡ text ∷ []
uncut [] e = refl
uncut (b ∷ text) e =
    let parts = or_parts (is_dot b) (list_any is_dot text) e in
    rw (parts.0, uncut text parts.1) refl

-- ---- a number has no dot

digits_only : (text : Text) → list_all is_ascii_digit text ≡ true → list_any is_dot text ≡ false
digits_only [] e = refl
digits_only (b ∷ text) e =
    let parts = and_parts (is_ascii_digit b) (list_all is_ascii_digit text) e in
    let large = leb-true 48 b (and_parts (nat_le 48 b) (nat_le b 57) parts.0).0 in
    or_from (is_dot b) (list_any is_dot text) (ne_eqb b 46 (λ same. omega (arith, same, large))) (digits_only text parts.1)

not_digits : (text : Text) → list_any is_dot text ≡ true → list_all is_ascii_digit text ≡ false
not_digits text dot = by (list_all is_ascii_digit text) (digits_only text)
  where
    by : (digits : Bool) → (digits ≡ true → list_any is_dot text ≡ false) → digits ≡ false
    by true none = absurd (true≢false (sym dot ∙ none refl))
    by false none = refl

no_byte : (text : Text) → list_any is_dot text ≡ true → byte_of text ≡ None
no_byte text dot = rw (not_digits text dot) (by (nat_le (length text) 3) (nat_le 1 (length text)) (nat_le (length text) 20))
  where
    by : (short some fits : Bool) → cond short (cond ((some && (fits && false)) && is_in 0 255 (digits_value 10 text)) (Some (digits_value 10 text)) None) None ≡ None
    by false some fits = refl
    by true false fits = refl
    by true true false = refl
    by true true true = refl

-- ---- number by number

none_left : (parts : List Text) (text : Text) → 0 < length parts → bytes_of 1 (text ∷ parts) ≡ None
none_left [] text some = absurd (omega arith)
none_left (part ∷ parts) text some = by (byte_of text)
  where
    by : (o : Option ℕ) → option_and_then (λ byte. option_map (λ bytes. byte ∷ bytes) (bytes_of 0 (part ∷ parts))) o ≡ None
    by None = refl
    by (Some byte) = refl

last : (text : Text) → last_byte text ≡ bytes_of 1 (slice_split is_dot text)
last text = by (list_any is_dot text) refl
  where
    single : (o : Option ℕ) → option_map (λ byte. byte ∷ []) o ≡ option_and_then (λ byte. option_map (λ bytes. byte ∷ bytes) (bytes_of 0 [])) o
    single None = refl
    single (Some byte) = refl

    by : (dot : Bool) → list_any is_dot text ≡ dot → last_byte text ≡ bytes_of 1 (slice_split is_dot text)
    by true e =
        let some : 0 < length (slice_split is_dot (after_first is_dot text)) = omega (arith, length-slice_split is_dot (after_first is_dot text)) in
        rw (cut_at_dot text e, no_byte text e) (sym (none_left (slice_split is_dot (after_first is_dot text)) (before_first is_dot text) some))
    by false e = rw (uncut text e) (single (byte_of text))

more : (n : ℕ) (next : Text → Option (List ℕ)) → ((text : Text) → next text ≡ bytes_of (suc n) (slice_split is_dot text))
    → (text : Text) → byte_then next text ≡ bytes_of (suc (suc n)) (slice_split is_dot text)
more n next same text = by (list_any is_dot text) refl
  where
    behind : (o : Option ℕ) → option_and_then (λ (a : ℕ × Text). option_map (λ bytes. a.0 ∷ bytes) (next a.1)) (option_map (λ byte. (byte, after_first is_dot text)) o)
        ≡ option_and_then (λ byte. option_map (λ bytes. byte ∷ bytes) (bytes_of (suc n) (slice_split is_dot (after_first is_dot text)))) o
    behind None = refl
    behind (Some byte) = ap (option_map (λ bytes. byte ∷ bytes)) (same (after_first is_dot text))

    alone : (o : Option ℕ) → None ≡ option_and_then (λ byte. option_map (λ bytes. byte ∷ bytes) (bytes_of (suc n) [])) o
    alone None = refl
    alone (Some byte) = refl

    by : (dot : Bool) → list_any is_dot text ≡ dot → byte_then next text ≡ bytes_of (suc (suc n)) (slice_split is_dot text)
    by true e = rw (cut_at_dot text e, e) (behind (byte_of (before_first is_dot text)))
    by false e = rw (uncut text e, e) (alone (byte_of text))

pub address_read : (text : Text) → four_bytes text ≡ address_of text
address_read text = more 2 (byte_then (byte_then last_byte)) (more 1 (byte_then last_byte) (more 0 last_byte last)) text
