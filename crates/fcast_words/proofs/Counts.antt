-- A map has no more pairs than it has options.
use Rattle.std.proofs.Common.{◌≡◌, ◌<◌, ◌≤◌, ◌+◌, ◌*◌, ◌&&◌, ◌||◌, Bool, true, false, not, cond, List, [], ◌∷◌, map, length}
use Rattle.std.proofs.Common.{Option, Some, None, refl, sym, ap, subst, ◌∙◌, arith, option_map}
use Rattle.std.specs.Prelude.{option_and_then, unwrap_or}
use Rattle.std.specs.List.{list_all}
use Rattle.std.specs.Str.{bytes_eq}
use Rattle.std.proofs.lemmas.Bool.{and_parts, and_from, not-true, or_parts, true≢false}
use Rattle.fcast_words.specs.Pairs.{Text, Pairs, pairs_of, is_value, is_among, is_once, is_map, map_of}
use Rattle.fcast_words.proofs.Texts.{same_text}

-- the options without the first that is n
abbrev without : Text → List Text → List Text
without n [] = []
without n (m ∷ options) = cond (bytes_eq m n) options (m ∷ without n options)

one_less : (n : Text) (options : List Text) → is_among n options ≡ true → length options ≡ length (without n options) + 1
one_less n [] e = cc
one_less n (m ∷ options) e = by (bytes_eq m n) e (one_less n options)
  where
    by : (same : Bool) → (same || is_among n options) ≡ true → (is_among n options ≡ true → length options ≡ length (without n options) + 1)
        → length (m ∷ options) ≡ length (cond same options (m ∷ without n options)) + 1
    by true e later = omega arith
    by false e later = omega (arith, later e)

-- another option is still there
still : (n k : Text) (options : List Text) → bytes_eq k n ≡ false → is_among k options ≡ true → is_among k (without n options) ≡ true
still n k [] other e = e
still n k (m ∷ options) other e = by (bytes_eq m n) refl (bytes_eq m k) refl e (still n k options other)
  where
    by : (first : Bool) → bytes_eq m n ≡ first → (second : Bool) → bytes_eq m k ≡ second → (second || is_among k options) ≡ true
        → (is_among k options ≡ true → is_among k (without n options) ≡ true) → is_among k (cond first options (m ∷ without n options)) ≡ true
    by true is true is' e later = absurd (true≢false (sym (subst (λ t. bytes_eq t n ≡ true) (same_text m k is') is) ∙ other))
    by true is false is' e later = e
    by false is true is' e later = rw is' refl
    by false is false is' e later = rw is' (later e)

all_still : (n : Text) (ns options : List Text) → is_among n ns ≡ false
    → list_all (λ k. is_among k options) ns ≡ true → list_all (λ k. is_among k (without n options)) ns ≡ true
all_still n [] options new all = refl
all_still n (k ∷ ns) options new all =
    let parts = and_parts (is_among k options) (list_all (λ j. is_among j options) ns) all in
    let others = or_parts (bytes_eq k n) (is_among n ns) new in
    and_from (is_among k (without n options)) (list_all (λ j. is_among j (without n options)) ns)
    (still n k options others.0 parts.0) (all_still n ns options others.1 parts.1)

-- names that stand once, all of them options, are no more than the options
no_more : (ns options : List Text) → is_once ns ≡ true → list_all (λ k. is_among k options) ns ≡ true → length ns ≤ length options
no_more [] options once all = omega arith
no_more (n ∷ ns) options once all =
    let first = and_parts (not (is_among n ns)) (is_once ns) once in
    let new = not-true (is_among n ns) first.0 in
    let parts = and_parts (is_among n options) (list_all (λ k. is_among k options) ns) all in
    omega (arith, one_less n options parts.0, no_more ns (without n options) first.1 (all_still n ns options new parts.1))

names_among : (options : List Text) (ps : Pairs) → list_all (λ (p : Text × Text). is_among p.0 options && is_value p.1) ps ≡ true
    → list_all (λ k. is_among k options) (map (λ p. p.0) ps) ≡ true
names_among options [] e = refl
names_among options (p ∷ ps) e =
    let parts = and_parts (is_among p.0 options && is_value p.1) (list_all (λ (p : Text × Text). is_among p.0 options && is_value p.1) ps) e in
    and_from (is_among p.0 options) (list_all (λ k. is_among k options) (map (λ p. p.0) ps))
    (and_parts (is_among p.0 options) (is_value p.1) parts.0).0 (names_among options ps parts.1)

two_each : (words : List Text) (ps : Pairs) → pairs_of words ≡ Some ps → length words ≡ 2 * length (map (λ p. p.0) ps)
two_each [] ps e = ap (λ (o : Option Pairs). 2 * length (map (λ p. p.0) (unwrap_or o []))) e
two_each (n ∷ []) ps e = cc
two_each (n ∷ v ∷ rest) ps e = by (pairs_of rest) refl e (two_each rest)
  where
    by : (o : Option Pairs) → pairs_of rest ≡ o → option_map (λ qs. (n, v) ∷ qs) o ≡ Some ps
        → ((qs : Pairs) → pairs_of rest ≡ Some qs → length rest ≡ 2 * length (map (λ p. p.0) qs)) → length (n ∷ v ∷ rest) ≡ 2 * length (map (λ p. p.0) ps)
    by None is e later = cc
    by (Some qs) is e later =
        let longer : length (n ∷ v ∷ rest) ≡ 2 * length (map (λ p. p.0) ((n, v) ∷ qs)) = omega (arith, later qs is) in
        longer ∙ ap (λ (o : Option Pairs). 2 * length (map (λ p. p.0) (unwrap_or o []))) e

-- more words than that are no map
pub too_many : (options words : List Text) → 2 * length options < length words → map_of options words ≡ None
too_many options words more = by (pairs_of words) refl
  where
    fits : (ps : Pairs) → pairs_of words ≡ Some ps → is_map options ps ≡ true → ⊥
    fits ps is e =
        let parts = and_parts (list_all (λ (p : Text × Text). is_among p.0 options && is_value p.1) ps) (is_once (map (λ p. p.0) ps)) e in
        omega (arith, two_each words ps is, no_more (map (λ p. p.0) ps) options parts.1 (names_among options ps parts.0), more)

    unmapped : (ps : Pairs) → pairs_of words ≡ Some ps → (mapped : Bool) → is_map options ps ≡ mapped → cond mapped (Some ps) None ≡ None
    unmapped ps is true e = absurd (fits ps is e)
    unmapped ps is false e = refl

    by : (o : Option Pairs) → pairs_of words ≡ o → option_and_then (λ ps. cond (is_map options ps) (Some ps) None) o ≡ None
    by None is = refl
    by (Some ps) is = unmapped ps is (is_map options ps) refl
