-- Words of the right shape, as pairs whose names have no dashes.
use Rattle.std.proofs.Common.{◌≡◌, ◌&&◌, ◌||◌, ◌==◌, ℕ, Bool, true, false, not, cond, List, [], ◌∷◌, ◌++◌, map, length, drop}
use Rattle.std.proofs.Common.{nat_lt, Option, Some, None, refl, sym, ap, ap₂, subst, ◌∙◌, arith, option_map}
use Rattle.std.specs.Prelude.{unwrap_or, find}
use Rattle.std.specs.List.{list_all, list_any, before_first, after_first, position_or_len}
use Rattle.std.specs.Option.{option_map_or}
use Rattle.std.specs.Str.{bytes_eq}
use Rattle.std.proofs.lemmas.Bool.{and_parts, and_from, or_parts, or_from, not-true, not_from_false, eqb-true, true≢false}
use Rattle.std.proofs.lemmas.List.{take_all}
use Rattle.std.proofs.lemmas.List.Folds.{list_any-append}
use Rattle.clap.specs.Lexer.{long_of, short_of, has_byte}
use Rattle.clap.specs.Walk.{Row, has_row}
use Rattle.fcast_words.specs.Pairs.{Text, Pairs, pairs_of, is_value, is_among, is_once, is_map, map_of, given}
use Rattle.fcast_words.specs.Shape.{is_name, are_shaped, has_shape}
use Rattle.fcast_words.specs.Inner.Parser.{dashed}
use Rattle.fcast_words.proofs.Texts.{other_text, among_dashed}
use Rattle.fcast_words.proofs.Walks.{IsPair, ArePairs, AreNew, are_known, row, words_of}

abbrev pub dash : Text × Text → Text × Text
dash p = (dashed p.0, p.1)

abbrev pub undash : Text × Text → Text × Text
undash p = (drop 2 p.0, p.1)

-- ---- a name and a value

before_none : (p : ℕ → Bool) (text : Text) → list_any p text ≡ false → position_or_len p text ≡ length text
before_none p [] e = refl
before_none p (x ∷ text) e =
    let parts = or_parts (p x) (list_any p text) e in
    let later = before_none p text parts.1 in
    rw (parts.0, later) (omega arith)

unsplit : (text : Text) → has_byte 61 text ≡ false → (before_first (λ x. x == 61) text ≡ text)
unsplit text e = take_all (position_or_len (λ x. x == 61) text) text (omega (arith, before_none (λ x. x == 61) text e))

record IsNamed (n : Text) : Type 0 where
  whole : dashed (drop 2 n) ≡ n
  long : long_of (dashed (drop 2 n)) ≡ Some (drop 2 n, None)
  dashes : bytes_eq (dashed (drop 2 n)) (45 ∷ 45 ∷ []) ≡ false

name_shaped : (n : Text) → is_name n ≡ true → IsNamed n
name_shaped [] e = absurd (true≢false (sym e))
name_shaped (a ∷ []) e = absurd (true≢false (sym e))
name_shaped (a ∷ b ∷ []) e = absurd (true≢false (sym e))
name_shaped (a ∷ b ∷ x ∷ xs) e =
    let one = and_parts (nat_lt 2 (length (a ∷ b ∷ x ∷ xs))) ((a == 45) && ((b == 45) && not (has_byte 61 (a ∷ b ∷ x ∷ xs)))) e in
    let two = and_parts (a == 45) ((b == 45) && not (has_byte 61 (a ∷ b ∷ x ∷ xs))) one.1 in
    let three = and_parts (b == 45) (not (has_byte 61 (a ∷ b ∷ x ∷ xs))) two.1 in
    let four = or_parts (a == 61) ((b == 61) || has_byte 61 (x ∷ xs)) (not-true (has_byte 61 (a ∷ b ∷ x ∷ xs)) three.1) in
    let none = (or_parts (b == 61) (has_byte 61 (x ∷ xs)) four.1).1 in
    record {
      whole = ap₂ (λ c d. c ∷ d ∷ x ∷ xs) (sym (eqb-true a 45 two.0)) (sym (eqb-true b 45 three.0));
      long = ap₂ (λ before has. Some (before, cond has (Some (after_first (λ x. x == 61) (x ∷ xs))) None)) (unsplit (x ∷ xs) none) none;
      dashes = refl;
    }

record IsValued (v : Text) : Type 0 where
  long : long_of v ≡ None
  short : short_of v ≡ None
  dashes : bytes_eq v (45 ∷ 45 ∷ []) ≡ false

value_shaped : (v : Text) → is_value v ≡ true → IsValued v
value_shaped [] e = absurd (true≢false (sym e))
value_shaped (y ∷ ys) e =
    let first = (or_parts (y == 45) (y == 43) (not-true ((y == 45) || (y == 43)) e)).0 in
    record { long = rw first refl; short = rw first refl; dashes = rw first refl }

pair_shaped : (p : Text × Text) → (is_name p.0 && is_value p.1) ≡ true → IsPair (undash p)
pair_shaped p e =
    let parts = and_parts (is_name p.0) (is_value p.1) e in
    let name = name_shaped p.0 parts.0 in
    let value = value_shaped p.1 parts.1 in
    record { name_long = name.long; name_dashes = name.dashes; value_long = value.long; value_short = value.short; value_dashes = value.dashes }

-- ---- all pairs

abbrev shaped : Pairs → Bool
shaped ps = list_all (λ p. is_name p.0 && is_value p.1) ps

pairs_shaped : (ps : Pairs) → shaped ps ≡ true → ArePairs (map undash ps)
pairs_shaped [] e = tt
pairs_shaped (p ∷ ps) e =
    let parts = and_parts (is_name p.0 && is_value p.1) (shaped ps) e in
    (pair_shaped p parts.0, pairs_shaped ps parts.1)

dashed_again : (ps : Pairs) → shaped ps ≡ true → map dash (map undash ps) ≡ ps
dashed_again [] e = refl
dashed_again (p ∷ ps) e =
    let parts = and_parts (is_name p.0 && is_value p.1) (shaped ps) e in
    let name = name_shaped p.0 (and_parts (is_name p.0) (is_value p.1) parts.0).0 in
    ap₂ (λ n qs. (n, p.1) ∷ qs) name.whole (dashed_again ps parts.1)

words_are : (words : List Text) (ps : Pairs) → pairs_of words ≡ Some ps → shaped ps ≡ true → words ≡ words_of (map undash ps)
words_are [] ps e all = ap (λ (o : Option Pairs). words_of (map undash (unwrap_or o []))) e
words_are (n ∷ []) ps e all = cc
words_are (n ∷ v ∷ rest) ps e all = by (pairs_of rest) refl e (words_are rest)
  where
    by : (o : Option Pairs) → pairs_of rest ≡ o → option_map (λ qs. (n, v) ∷ qs) o ≡ Some ps
        → ((qs : Pairs) → pairs_of rest ≡ Some qs → shaped qs ≡ true → rest ≡ words_of (map undash qs))
        → n ∷ v ∷ rest ≡ words_of (map undash ps)
    by None is e later = cc
    by (Some qs) is e later =
        let same : (n, v) ∷ qs ≡ ps = ap (λ (o : Option Pairs). unwrap_or o []) e in
        let parts = and_parts (is_name n && is_value v) (shaped qs) (subst (λ xs. shaped xs ≡ true) (sym same) all) in
        let name = name_shaped n (and_parts (is_name n) (is_value v) parts.0).0 in
        ap₂ (λ m ws. m ∷ v ∷ ws) (sym name.whole) (later qs is parts.1) ∙ ap (λ xs. words_of (map undash xs)) same

-- ---- names that stand once

once_dashed : (bs : Pairs) → is_once (map (λ p. p.0) (map dash bs)) ≡ is_once (map (λ p. p.0) bs)
once_dashed [] = refl
once_dashed (b ∷ bs) = ap₂ (λ among once. not among && once) (among b.0 bs) (once_dashed bs)
  where
    among : (n : Text) (bs : Pairs) → is_among (dashed n) (map (λ p. p.0) (map dash bs)) ≡ is_among n (map (λ p. p.0) bs)
    among n [] = refl
    among n (c ∷ bs) = ap (λ b. bytes_eq c.0 n || b) (among n bs)

abbrev no_rows : List Row → Pairs → Bool
no_rows rows ps = list_all (λ p. not (has_row p.0 rows)) ps

no_rows_more : (rows : List Row) (p : Text × Text) (ps : Pairs) → no_rows rows ps ≡ true
    → is_among p.0 (map (λ q. q.0) ps) ≡ false → no_rows (rows ++ row p ∷ []) ps ≡ true
no_rows_more rows p [] none e = refl
no_rows_more rows p (q ∷ ps) none e =
    let parts = and_parts (not (has_row q.0 rows)) (no_rows rows ps) none in
    let other = or_parts (bytes_eq q.0 p.0) (is_among p.0 (map (λ r. r.0) ps)) e in
    let fresh : has_row q.0 (rows ++ row p ∷ []) ≡ false =
    list_any-append (λ r. bytes_eq r.id q.0) rows (row p ∷ [])
    ∙ or_from (has_row q.0 rows) (bytes_eq p.0 q.0 || false) (not-true (has_row q.0 rows) parts.0) (or_from (bytes_eq p.0 q.0) false (other_text q.0 p.0 other.0) refl) in
    and_from (not (has_row q.0 (rows ++ row p ∷ []))) (no_rows (rows ++ row p ∷ []) ps)
    (not_from_false (has_row q.0 (rows ++ row p ∷ [])) fresh) (no_rows_more rows p ps parts.1 other.1)

new_from_once : (ps : Pairs) (rows : List Row) → no_rows rows ps ≡ true → is_once (map (λ p. p.0) ps) ≡ true → AreNew rows ps
new_from_once [] rows none once = tt
new_from_once (p ∷ ps) rows none once =
    let parts = and_parts (not (has_row p.0 rows)) (no_rows rows ps) none in
    let first = and_parts (not (is_among p.0 (map (λ q. q.0) ps))) (is_once (map (λ q. q.0) ps)) once in (
      not-true (has_row p.0 rows) parts.0,
      new_from_once ps (rows ++ row p ∷ []) (no_rows_more rows p ps parts.1 (not-true (is_among p.0 (map (λ q. q.0) ps)) first.0)) first.1,
    )

no_rows_yet : (ps : Pairs) → no_rows [] ps ≡ true
no_rows_yet [] = refl
no_rows_yet (p ∷ ps) = no_rows_yet ps

-- ---- the map

and_true : (b : Bool) → (b && true) ≡ b
and_true true = refl
and_true false = refl

known_map : (names : List Text) (bs : Pairs) → shaped (map dash bs) ≡ true
    → list_all (λ p. is_among p.0 (map dashed names) && is_value p.1) (map dash bs) ≡ are_known names bs
known_map names [] all = refl
known_map names (b ∷ bs) all =
    let parts = and_parts (is_name (dashed b.0) && is_value b.1) (shaped (map dash bs)) all in
    let value = (and_parts (is_name (dashed b.0)) (is_value b.1) parts.0).1 in
    ap₂ (λ first rest. first && rest) (rw (among_dashed b.0 names, value) (and_true (is_among b.0 names))) (known_map names bs parts.1)

pub given_dashed : (n : Text) (bs : Pairs) → given (dashed n) (map dash bs) ≡ given n bs
given_dashed n [] = refl
given_dashed n (b ∷ bs) = by (bytes_eq b.0 n) (given_dashed n bs)
  where
    by : (same : Bool) → given (dashed n) (map dash bs) ≡ given n bs
        → option_map (λ (p : Text × Text). p.1) (cond same (Some (dash b)) (find (λ p. bytes_eq p.0 (dashed n)) (map dash bs)))
        ≡ option_map (λ (p : Text × Text). p.1) (cond same (Some b) (find (λ p. bytes_eq p.0 n) bs))
    by true later = refl
    by false later = later

-- what words of the right shape are
pub record IsBare (words : List Text) (bs : Pairs) : Type 0 where
  pub spelled : words ≡ words_of bs
  pub pairs : ArePairs bs
  pub new : AreNew [] bs
  pub mapped : (names : List Text) → map_of (map dashed names) words ≡ cond (are_known names bs) (Some (map dash bs)) None

pub bare : (words : List Text) → has_shape words ≡ true → (bs : Pairs) × IsBare words bs
bare words e = by (pairs_of words) refl e
  where
    of : (ps : Pairs) → pairs_of words ≡ Some ps → are_shaped ps ≡ true → IsBare words (map undash ps)
    of ps is e =
        let parts = and_parts (shaped ps) (is_once (map (λ p. p.0) ps)) e in
        let again = dashed_again ps parts.0 in
        let once : is_once (map (λ p. p.0) (map undash ps)) ≡ true = sym (once_dashed (map undash ps))
        ∙ ap (λ (qs : Pairs). is_once (map (λ p. p.0) qs)) again ∙ parts.1 in
        record {
          spelled = words_are words ps is parts.0;
          pairs = pairs_shaped ps parts.0;
          new = new_from_once (map undash ps) [] (no_rows_yet (map undash ps)) once;
          mapped = λ names.
              let known = known_map names (map undash ps) (ap shaped again ∙ parts.0) in
              let all = ap (λ qs. list_all (λ (p : Text × Text). is_among p.0 (map dashed names) && is_value p.1) qs) (sym again) ∙ known in
              let mapped : is_map (map dashed names) ps ≡ are_known names (map undash ps) =
              ap₂ (λ a b. a && b) all parts.1 ∙ and_true (are_known names (map undash ps)) in
              rw (is, mapped, again) refl;
        }

    by : (o : Option Pairs) → pairs_of words ≡ o → option_map_or are_shaped o false ≡ true → (bs : Pairs) × IsBare words bs
    by None is e = absurd (true≢false (sym e))
    by (Some ps) is e = (map undash ps, of ps is e)
