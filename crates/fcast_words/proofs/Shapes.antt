-- The shape of words: the scan from the front tests it, and maps have it.
use Rattle.std.proofs.Common.{◌≡◌, ◌&&◌, ◌||◌, Bool, true, false, not, cond, List, [], ◌∷◌, map, Option, Some, None, inl, inr, refl, sym, ap, subst, ◌∙◌, option_map}
use Rattle.std.specs.Prelude.{option_and_then, unwrap_or}
use Rattle.std.specs.List.{list_all}
use Rattle.std.specs.Option.{option_map_or}
use Rattle.std.specs.Str.{bytes_eq}
use Rattle.std.proofs.lemmas.Bool.{and_parts, and_from, or_cases, true≢false}
use Rattle.fcast_words.specs.Pairs.{Text, Pairs, pairs_of, is_value, is_among, is_once, is_map, map_of}
use Rattle.fcast_words.specs.Shape.{is_name, are_shaped, has_shape}
use Rattle.fcast_words.specs.Table.{options_of}
use Rattle.fcast_words.specs.declared.command_word.CommandWord.{CommandWord}
use Rattle.fcast_words.specs.declared.command_word.CommandWord.TheVariants.{Replay, Recv, Send, Dump, Drill, Listen}
use Rattle.fcast_words.specs.Inner.Scan.{has_name, scan}
use Rattle.fcast_words.proofs.Texts.{same_text}

-- ---- the scan

-- every second word is a pair's name
names_are : (n : Text) (words : List Text) (ps : Pairs) → pairs_of words ≡ Some ps → has_name n words ≡ is_among n (map (λ p. p.0) ps)
names_are n [] ps e = ap (λ (o : Option Pairs). is_among n (map (λ p. p.0) (unwrap_or o []))) e
names_are n (m ∷ []) ps e = cc
names_are n (m ∷ v ∷ rest) ps e = by (pairs_of rest) refl e (names_are n rest)
  where
    by : (o : Option Pairs) → pairs_of rest ≡ o → option_map (λ qs. (m, v) ∷ qs) o ≡ Some ps
        → ((qs : Pairs) → pairs_of rest ≡ Some qs → has_name n rest ≡ is_among n (map (λ p. p.0) qs))
        → (bytes_eq m n || has_name n rest) ≡ is_among n (map (λ p. p.0) ps)
    by None is e later = cc
    by (Some qs) is e later = ap (λ b. bytes_eq m n || b) (later qs is) ∙ ap (λ (o : Option Pairs). is_among n (map (λ p. p.0) (unwrap_or o []))) e

regrouped : (name value among all once : Bool) → (name && (value && (not among && (all && once)))) ≡ (((name && value) && all) && (not among && once))
regrouped false value among all once = refl
regrouped true false among all once = refl
regrouped true true among true once = refl
regrouped true true true false once = refl
regrouped true true false false once = refl

nowhere : (name value new : Bool) → (name && (value && (new && false))) ≡ false
nowhere false value new = refl
nowhere true false new = refl
nowhere true true false = refl
nowhere true true true = refl

pub scan_is : (words : List Text) → scan words ≡ has_shape words
scan_is [] = refl
scan_is (n ∷ []) = refl
scan_is (n ∷ v ∷ rest) = by (pairs_of rest) refl (scan_is rest)
  where
    by : (o : Option Pairs) → pairs_of rest ≡ o → scan rest ≡ option_map_or are_shaped (pairs_of rest) false
        → (is_name n && (is_value v && (not (has_name n rest) && scan rest))) ≡ option_map_or are_shaped (option_map (λ qs. (n, v) ∷ qs) o) false
    by None is later = rw (later, is) (nowhere (is_name n) (is_value v) (not (has_name n rest)))
    by (Some qs) is later = rw (later, is, names_are n rest qs is)
        (regrouped (is_name n) (is_value v) (is_among n (map (λ p. p.0) qs))
        (list_all (λ (p : Text × Text). is_name p.0 && is_value p.1) qs) (is_once (map (λ p. p.0) qs)))

-- ---- maps

name_among : (options : List Text) (n : Text) → list_all is_name options ≡ true → is_among n options ≡ true → is_name n ≡ true
name_among [] n all among = cc
name_among (m ∷ options) n all among =
    let parts = and_parts (is_name m) (list_all is_name options) all in
    elim (or_cases (bytes_eq m n) (is_among n options) among) [
      | inl same ↦ subst (λ t. is_name t ≡ true) (same_text m n same) parts.0
      | inr later ↦ name_among options n parts.1 later
    ]

names_among : (options : List Text) (ps : Pairs) → list_all is_name options ≡ true → list_all (λ (p : Text × Text). is_among p.0 options && is_value p.1) ps ≡ true
    → list_all (λ (p : Text × Text). is_name p.0 && is_value p.1) ps ≡ true
names_among options [] all among = refl
names_among options (p ∷ ps) all among =
    let parts = and_parts (is_among p.0 options && is_value p.1) (list_all (λ (p : Text × Text). is_among p.0 options && is_value p.1) ps) among in
    let first = and_parts (is_among p.0 options) (is_value p.1) parts.0 in
    and_from (is_name p.0 && is_value p.1) (list_all (λ (p : Text × Text). is_name p.0 && is_value p.1) ps)
    (and_from (is_name p.0) (is_value p.1) (name_among options p.0 all first.0) first.1)
    (names_among options ps all parts.1)

shape_of_map : (options : List Text) (ps : Pairs) → list_all is_name options ≡ true → is_map options ps ≡ true → are_shaped ps ≡ true
shape_of_map options ps all e =
    let parts = and_parts (list_all (λ (p : Text × Text). is_among p.0 options && is_value p.1) ps) (is_once (map (λ p. p.0) ps)) e in
    and_from (list_all (λ (p : Text × Text). is_name p.0 && is_value p.1) ps) (is_once (map (λ p. p.0) ps)) (names_among options ps all parts.0) parts.1

-- words without the shape are no map
pub no_map : (options words : List Text) → list_all is_name options ≡ true → has_shape words ≡ false → map_of options words ≡ None
no_map options words all e = by (pairs_of words) e
  where
    unmapped : (ps : Pairs) (mapped : Bool) → is_map options ps ≡ mapped → are_shaped ps ≡ false → cond mapped (Some ps) None ≡ None
    unmapped ps true is e = absurd (true≢false (sym (shape_of_map options ps all is) ∙ e))
    unmapped ps false is e = refl

    by : (o : Option Pairs) → option_map_or are_shaped o false ≡ false → option_and_then (λ ps. cond (is_map options ps) (Some ps) None) o ≡ None
    by None e = refl
    by (Some ps) e = unmapped ps (is_map options ps) refl e

-- the options of every command are names
pub options_named : (word : CommandWord) → list_all is_name (options_of word) ≡ true
options_named Replay = refl
options_named Recv = refl
options_named Send = refl
options_named Dump = refl
options_named Drill = refl
options_named Listen = refl
