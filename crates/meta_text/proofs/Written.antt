-- What is written is read back.
use Rattle.std.proofs.Common.{◌≡◌, ℕ, ◌+◌, Bool, true, false, not, cond, eqb, List, [], ◌∷◌, ◌++◌, length, take, drop}
use Rattle.std.proofs.Common.{reverse, map, None, Ok, refl, sym, ap, ◌∙◌, append_assoc, arith}
use Rattle.std.specs.List.{list_all, list_any, position_or_len}
use Rattle.std.specs.Option.{option_or}
use Rattle.std.proofs.lemmas.Bool.{eqb-true, and_parts, and_from, false≢true}
use Rattle.std.proofs.lemmas.List.{take_at, drop_at, reverse-append, reverse-reverse, length-append, length_push}
use Rattle.meta_text.specs.Text.{is_name_byte, is_empty, is_name, is_value_byte, is_clean, trimmed, IsName, IsValue}
use Rattle.std.specs.Str.{is_utf8}
use Rattle.meta_text.specs.Fields.{Pair, IsPair, ArePairs, line_of, written}
use Rattle.meta_text.specs.Lines.{is_line_feed, is_colon, cut, begin_with, without_return, after_return, lines_of, numbered, name_in, value_in, pair_in, pairs_in}
use Rattle.meta_text.specs.Reading.{fault_of, fault_in, said, reading}
use Rattle.wire_bytes.specs.FirstFault.{unless_fault}
use Rattle.meta_text.proofs.Places.{any_from_place}
use Rattle.meta_text.proofs.Faults.{fault_none_by}
use Rattle.meta_text.proofs.Runs.{with_front, unless_front}

-- a weaker test passes too
all_weaker : (p q : ℕ → Bool) → ((b : ℕ) → p b ≡ true → q b ≡ true) → (xs : List ℕ) → list_all p xs ≡ true → list_all q xs ≡ true
all_weaker p q weaker [] all = refl
all_weaker p q weaker (b ∷ xs) all =
    let parts = and_parts (p b) (list_all p xs) all in
    and_from (q b) (list_all q xs) (weaker b parts.0) (all_weaker p q weaker xs parts.1)

-- a test that a byte fails is passed by other bytes alone
no_byte : (p : ℕ → Bool) (c : ℕ) → p c ≡ false → (b : ℕ) → p b ≡ true → not (eqb b c) ≡ true
no_byte p c fails b passes = by (eqb b c) refl
  where
    by : (t : Bool) → eqb b c ≡ t → not t ≡ true
    by true e = absurd (false≢true (sym fails ∙ ap p (sym (eqb-true b c e)) ∙ passes))
    by false e = refl

-- ---- one line

cut_line : (xs rest : List ℕ) → list_all (λ b. not (is_line_feed b)) xs ≡ true → cut (xs ++ 0x0A ∷ rest) ≡ xs ∷ cut rest
cut_line [] rest none = refl
cut_line (b ∷ xs) rest none =
    let parts = and_parts (not (is_line_feed b)) (list_all (λ b. not (is_line_feed b)) xs) none in
    by (is_line_feed b) parts.0 (cut_line xs rest parts.1)
  where
    by : (t : Bool) → not t ≡ true → cut (xs ++ 0x0A ∷ rest) ≡ xs ∷ cut rest
        → cond t ([] ∷ cut (xs ++ 0x0A ∷ rest)) (begin_with b (cut (xs ++ 0x0A ∷ rest))) ≡ (b ∷ xs) ∷ cut rest
    by true other before = absurd cc
    by false other before = ap (begin_with b) before

return_at_end : (xs : List ℕ) → without_return (xs ++ 0x0D ∷ []) ≡ xs
return_at_end xs = ap (λ (ys : List ℕ). reverse (after_return ys)) (reverse-append xs (0x0D ∷ [])) ∙ reverse-reverse xs

pub place_at : (p : ℕ → Bool) (xs : List ℕ) (y : ℕ) (ys : List ℕ) → list_all (λ b. not (p b)) xs ≡ true → p y ≡ true → position_or_len p (xs ++ y ∷ ys) ≡ length xs
place_at p [] y ys none is = ap (λ t. cond (not t) (1 + position_or_len p ys) 0) is
place_at p (x ∷ xs) y ys none is =
    let parts = and_parts (not (p x)) (list_all (λ b. not (p b)) xs) none in
    ap (λ t. cond t (1 + position_or_len p (xs ++ y ∷ ys)) 0) parts.0 ∙ omega (arith, place_at p xs y ys parts.1 is)

-- the text of a line, without its end
abbrev text_of : Pair → List ℕ
text_of pair = pair.0 ++ 0x3A ∷ 0x20 ∷ pair.1

pub name_free : (c : ℕ) → is_name_byte c ≡ false → (name : List ℕ) → IsName name → list_all (λ b. not (eqb b c)) name ≡ true
name_free c fails name is =
    all_weaker is_name_byte (λ b. not (eqb b c)) (no_byte is_name_byte c fails) name (and_parts (not (is_empty name)) (list_all is_name_byte name) is).1

value_free : (c : ℕ) → is_value_byte c ≡ false → (value : List ℕ) → IsValue value → list_all (λ b. not (eqb b c)) value ≡ true
value_free c fails value is =
    all_weaker is_value_byte (λ b. not (eqb b c)) (no_byte is_value_byte c fails) value (and_parts (is_utf8 value) (list_all is_value_byte value) is.clean).1

all_append : (p : ℕ → Bool) (xs ys : List ℕ) → list_all p xs ≡ true → list_all p ys ≡ true → list_all p (xs ++ ys) ≡ true
all_append p [] ys a b = b
all_append p (x ∷ xs) ys a b =
    let parts = and_parts (p x) (list_all p xs) a in
    and_from (p x) (list_all p (xs ++ ys)) parts.0 (all_append p xs ys parts.1 b)

lines_of_line : (pair : Pair) (rest : List ℕ) → IsPair pair → lines_of (line_of pair ++ rest) ≡ text_of pair ∷ lines_of rest
lines_of_line pair rest is =
    let bytes = text_of pair ++ 0x0D ∷ [] in
    let joined : line_of pair ++ rest ≡ bytes ++ 0x0A ∷ rest = simp append_assoc in
    let free : list_all (λ b. not (is_line_feed b)) bytes ≡ true =
    all_append (λ b. not (is_line_feed b)) (text_of pair) (0x0D ∷ [])
    (all_append (λ b. not (is_line_feed b)) pair.0 (0x3A ∷ 0x20 ∷ pair.1) (name_free 0x0A refl pair.0 is.name) (value_free 0x0A refl pair.1 is.value)) refl in
    ap lines_of joined ∙ ap (λ (ls : List (List ℕ)). map without_return ls) (cut_line bytes rest free) ∙ ap (λ l. l ∷ lines_of rest) (return_at_end (text_of pair))

-- what stands before the first colon, and behind it

colon_place : (name back : List ℕ) → IsName name → position_or_len is_colon (name ++ 0x3A ∷ back) ≡ length name
colon_place name back is = place_at is_colon name 0x3A back (name_free 0x3A refl name is) refl

pub name_before : (name back : List ℕ) → IsName name → name_in (name ++ 0x3A ∷ back) ≡ name
name_before name back is = ap (λ n. take n (name ++ 0x3A ∷ back)) (colon_place name back is) ∙ take_at name (0x3A ∷ back) (length name) refl

pub value_behind : (name back : List ℕ) → IsName name → value_in (name ++ 0x3A ∷ back) ≡ trimmed back
value_behind name back is =
    let line = name ++ 0x3A ∷ back in
    let joined : line ≡ (name ++ 0x3A ∷ []) ++ back = sym (append_assoc name (0x3A ∷ []) back) in
    let rest : drop (length name + 1) line ≡ back = ap (drop (length name + 1)) joined
    ∙ drop_at (name ++ 0x3A ∷ []) back (length name + 1) (length_push name 0x3A) in
    ap (λ n. trimmed (drop (n + 1) line)) (colon_place name back is) ∙ ap trimmed rest

pub colon_there : (name back : List ℕ) → IsName name → list_any is_colon (name ++ 0x3A ∷ back) ≡ true
colon_there name back is =
    any_from_place is_colon (name ++ 0x3A ∷ back) (omega (arith, colon_place name back is, length-append name (0x3A ∷ back)))

name_of_text : (pair : Pair) → IsPair pair → name_in (text_of pair) ≡ pair.0
name_of_text pair is = name_before pair.0 (0x20 ∷ pair.1) is.name

value_of_text : (pair : Pair) → IsPair pair → value_in (text_of pair) ≡ pair.1
value_of_text pair is = value_behind pair.0 (0x20 ∷ pair.1) is.name ∙ is.value.ends

sound_text : (n : ℕ) (pair : Pair) → IsPair pair → fault_of (n, text_of pair) ≡ None
sound_text n pair is =
    fault_none_by n (text_of pair) (colon_there pair.0 (0x20 ∷ pair.1) is.name)
    (ap is_name (name_of_text pair is) ∙ is.name) (ap is_clean (value_of_text pair is) ∙ is.value.clean)

-- ---- the lines of the pairs

not_empty : (xs : List ℕ) (y : ℕ) (ys : List ℕ) → is_empty (xs ++ y ∷ ys) ≡ false
not_empty [] y ys = refl
not_empty (x ∷ xs) y ys = refl

said_first : (n : ℕ) (pair : Pair) (lines : List (List ℕ)) → IsPair pair
    → said (numbered n (text_of pair ∷ lines)) ≡ with_front (pair ∷ []) (said (numbered (n + 1) lines))
said_first n pair lines is =
    let later = numbered (n + 1) lines in
    let some : numbered n (text_of pair ∷ lines) ≡ (n, text_of pair) ∷ later =
    ap (λ t. cond t later ((n, text_of pair) ∷ later)) (not_empty pair.0 0x3A (0x20 ∷ pair.1)) in
    let own : pair_in (n, text_of pair) ≡ pair = ap (λ name. (name, value_in (text_of pair)))
    (name_of_text pair is) ∙ ap (λ value. (pair.0, value)) (value_of_text pair is) in
    ap said some
    ∙ ap (λ f. unless_fault (option_or f (fault_in later)) (pair_in (n, text_of pair) ∷ pairs_in later)) (sound_text n pair is)
    ∙ ap (λ p. unless_fault (fault_in later) (p ∷ pairs_in later)) own
    ∙ sym (unless_front (pair ∷ []) (pairs_in later) (fault_in later))

said_written : (n : ℕ) (pairs : List Pair) → ArePairs pairs → said (numbered n (lines_of (written pairs))) ≡ Ok pairs
said_written n [] are = refl
said_written n (pair ∷ pairs) are =
    ap (λ (ls : List (List ℕ)). said (numbered n ls)) (lines_of_line pair (written pairs) are.0)
    ∙ said_first n pair (lines_of (written pairs)) are.0
    ∙ ap (with_front (pair ∷ [])) (said_written (n + 1) pairs are.1)

pub reading-written : (pairs : List Pair) → ArePairs pairs → reading (written pairs) ≡ Ok pairs
unfolding reading
reading-written pairs are = said_written 1 pairs are
