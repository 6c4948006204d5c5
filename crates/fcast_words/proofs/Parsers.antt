-- The parser of a command, as `clap` builds it.
use Rattle.std.proofs.Common.{◌≡◌, ◌&&◌, ◌||◌, ◌+◌, ◌<◌, ℕ, Bool, true, false, not, cond, List, [], ◌∷◌, ◌++◌, map, length, take}
use Rattle.std.proofs.Common.{get_or, Some, None, is_some, refl, ap, ◌∙◌, count_by}
use Rattle.std.specs.List.{list_all, list_any, fold}
use Rattle.std.specs.Str.{bytes_eq}
use Rattle.std.specs.Borrow.{Bor}
use Rattle.std.proofs.lemmas.List.{map_more, map-append}
use Rattle.clap.specs.Walk.{Row, Rule, arg_by_id, arg_by_long, is_early_multiple, with_default, has_row}
use Rattle.clap.specs.Simple.{App, Shape, new_shape, filled, filled_from, built, matches_of, with_rule}
use Rattle.clap.specs.Kinds.{or_else}
use Rattle.clap.specs.Takes.{is_given}
use Rattle.clap.specs.Faults.{fault_of, built_fault, level_fault, is_simple_and_free, defaults_fault}
use Rattle.clap.proofs.FaultLemmas.{leaf_fault}
use Rattle.clap.specs.Walk.{nothing_held, rows_after}
use Rattle.fcast_words.specs.Pairs.{Text, is_among}
use Rattle.fcast_words.proofs.Texts.{same_text}
use Rattle.fcast_words.specs.Inner.Parser.{option_rule, options_app}

-- an option, with what `clap` fills in
abbrev pub built_option : Text → Rule
built_option n = filled (option_rule n)

abbrev pub built_shape : Text → List Text → Shape
built_shape name names = record (new_shape name) {
  rules = map built_option names;
  no_binary_name = true;
  disable_help_flag = true;
  disable_help_subcommand = true;
  is_built = true;
}

filled_all : (i : ℕ) (names : List Text) → filled_from i (map option_rule names) ≡ map built_option names
filled_all i [] = refl
filled_all i (n ∷ names) = ap (λ rules. built_option n ∷ rules) (filled_all i names)

built_is : (name : Text) (names : List Text) → built (options_app name names) ≡ record { top = built_shape name names; subs = [] }
built_is name names = ap (λ rules. record { top = record (built_shape name names) { rules = rules }; subs = [] }) (filled_all 1 names)

-- ---- such a command is simple

all_simple : (names : List Text) → list_all (λ (a : Rule). a.is_simple) (map option_rule names) ≡ true
all_simple [] = refl
all_simple (n ∷ names) = all_simple names

built_simple : (names : List Text) → list_all (λ (a : Rule). a.is_simple) (map built_option names) ≡ true
built_simple [] = refl
built_simple (n ∷ names) = built_simple names

all_free : (names : List Text) → list_all (λ (a : Rule). a.is_free) (map built_option names) ≡ true
all_free [] = refl
all_free (n ∷ names) = all_free names

none_early : (k : ℕ) (names : List Text) → list_any (is_early_multiple k) (map built_option names) ≡ false
none_early k [] = refl
none_early k (n ∷ names) = none_early k names

pub app_free : (name : Text) (names : List Text) → is_simple_and_free (options_app name names) ≡ true
app_free name names = rw (
  all_simple names,
  filled_all 1 names,
  built_simple names,
  none_early (count_by (λ (a : Rule). is_some a.index) (map built_option names)) names,
  all_free names,
) refl

-- ---- its faults are those of one level

pub app_fault : (name : Text) (names words : List Text) → fault_of (options_app name names) words ≡ level_fault (built_shape name names) [] nothing_held words false []
app_fault name names words =
    ap (λ (a : App). built_fault a nothing_held words) (built_is name names)
    ∙ leaf_fault (record { top = built_shape name names; subs = [] }) nothing_held words refl

pub app_matches : (name : Text) (names words : List Text) → matches_of (options_app name names) words ≡ rows_after (map built_option names) [] words
app_matches name names words = ap (λ rules. rows_after rules [] words) (filled_all 1 names)

-- one more option
pub option_added : (app : App) (name : Text) (options : List (Bor Text)) (i : ℕ) (d : Bor Text)
    → i < length options → app ≡ options_app name (map (λ s. s.now) (take i options))
    → with_rule app (option_rule (get_or options i d).now) ≡ options_app name (map (λ s. s.now) (take (i + 1) options))
option_added app name options i d fits is =
    let more : map option_rule (map (λ (s : Bor Text). s.now) (take (i + 1) options))
    ≡ map option_rule (map (λ s. s.now) (take i options)) ++ option_rule (get_or options i d).now ∷ [] =
    ap (map option_rule) (map_more (λ (s : Bor Text). s.now) options i d fits)
    ∙ map-append option_rule (map (λ (s : Bor Text). s.now) (take i options)) ((get_or options i d).now ∷ []) in
    ap (λ a. with_rule a (option_rule (get_or options i d).now)) is ∙ rw more refl

-- ---- searches among the options

pub by_id : (n : Text) (names : List Text) → arg_by_id (map built_option names) n ≡ cond (is_among n names) (Some (built_option n)) None
by_id n [] = refl
by_id n (m ∷ names) = by (bytes_eq m n) refl (by_id n names)
  where
    by : (same : Bool) → bytes_eq m n ≡ same → arg_by_id (map built_option names) n ≡ cond (is_among n names) (Some (built_option n)) None
        → cond same (Some (built_option m)) (arg_by_id (map built_option names) n) ≡ cond (same || is_among n names) (Some (built_option n)) None
    by true e later = ap (λ (t : Text). Some (built_option t)) (same_text m n e)
    by false e later = later

pub by_long : (n : Text) (names : List Text) → arg_by_long (map built_option names) n ≡ cond (is_among n names) (Some (built_option n)) None
by_long n [] = refl
by_long n (m ∷ names) = by (bytes_eq m n) refl (by_long n names)
  where
    by : (same : Bool) → bytes_eq m n ≡ same → arg_by_long (map built_option names) n ≡ cond (is_among n names) (Some (built_option n)) None
        → cond (same || false) (Some (built_option m)) (arg_by_long (map built_option names) n) ≡ cond (same || is_among n names) (Some (built_option n)) None
    by true e later = ap (λ (t : Text). Some (built_option t)) (same_text m n e)
    by false e later = later

-- ---- no option has a default, and none is required

pub defaults_kept : (names : List Text) (rows : List Row) → fold with_default rows (map built_option names) ≡ rows
defaults_kept [] rows = refl
defaults_kept (n ∷ names) rows = by (has_row n rows) (defaults_kept names rows)
  where
    by : (given : Bool) → fold with_default rows (map built_option names) ≡ rows → fold with_default (cond given rows rows) (map built_option names) ≡ rows
    by true later = later
    by false later = later

pub defaults_none : (names : List Text) (rows : List Row) → defaults_fault rows (map built_option names) ≡ []
unfolding defaults_fault
defaults_none [] rows = refl
defaults_none (n ∷ names) rows = by (has_row n rows) (defaults_none names rows)
  where
    by : (given : Bool) → defaults_fault rows (map built_option names) ≡ []
        → or_else (cond (given || true) [] []) (defaults_fault (cond given rows rows) (map built_option names)) ≡ []
    by true later = later
    by false later = later

pub required_none : (names : List Text) (rows : List Row) → list_any (λ (a : Rule). a.required && not (is_given a.id rows)) (map built_option names) ≡ false
required_none [] rows = refl
required_none (n ∷ names) rows = required_none names rows
