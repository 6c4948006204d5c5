-- How `clap` walks over words that are names and values in turn.
use Rattle.std.proofs.Common.{◌≡◌, ◌&&◌, ◌||◌, Bool, true, false, cond, List, [], ◌∷◌, ◌++◌, map, Option, Some, None, refl, ap, ◌∙◌, append-nil, append_assoc, option_map}
use Rattle.std.specs.Prelude.{find, option_and_then, slice_get}
use Rattle.std.specs.List.{list_all, fold}
use Rattle.std.specs.Str.{bytes_eq}
use Rattle.std.proofs.lemmas.Bool.{and_parts}
use Rattle.clap.specs.Lexer.{long_of, short_of}
use Rattle.clap.specs.Walk.{Row, Rule, Waiting, Walk, idle, option, at_row, with_values, has_row, more_values, settled_rows}
use Rattle.clap.specs.Walk.{walked, with_default, nothing_held, rows_after, first_of}
use Rattle.clap.specs.Simple.{Shape}
use Rattle.clap.specs.Kinds.{Kinds, or_else}
use Rattle.clap.specs.Faults.{level_fault, settle_fault, turn_fault, walk_fault, defaults_fault, check_fault}
use Rattle.clap.specs.declared.error.kind.ErrorKind.TheVariants.{UnknownArgument}
use Rattle.clap.specs.declared.parser.matches.ValueSource.TheVariants.{CommandLine}
use Rattle.clap.specs.declared.builder.value_parser.Reading.TheVariants.{AsWritten}
use Rattle.fcast_words.specs.Pairs.{Text, Pairs, is_among, given}
use Rattle.fcast_words.specs.Inner.Parser.{dashed}
use Rattle.fcast_words.proofs.Texts.{itself}
use Rattle.fcast_words.proofs.Parsers.{built_option, built_shape, by_id, by_long, defaults_kept, defaults_none, required_none}

-- ---- pairs of a name, without its dashes, and a value

-- `clap` takes the name for a name and the value for none
pub record IsPair (p : Text × Text) : Type 0 where
  pub name_long : long_of (dashed p.0) ≡ Some (p.0, None)
  pub name_dashes : bytes_eq (dashed p.0) (45 ∷ 45 ∷ []) ≡ false
  pub value_long : long_of p.1 ≡ None
  pub value_short : short_of p.1 ≡ None
  pub value_dashes : bytes_eq p.1 (45 ∷ 45 ∷ []) ≡ false

abbrev pub ArePairs : Pairs → Type 0
ArePairs [] = Unit {0}
ArePairs (p ∷ ps) = IsPair p × ArePairs ps

abbrev pub words_of : Pairs → List Text
words_of [] = []
words_of (p ∷ ps) = dashed p.0 ∷ p.1 ∷ words_of ps

abbrev pub are_known : List Text → Pairs → Bool
are_known names ps = list_all (λ p. is_among p.0 names) ps

-- the faults of such words
abbrev pub verdict : Bool → Kinds
verdict known = cond known [] (UnknownArgument ∷ [])

abbrev pub row : Text × Text → Row
row p = record { id = p.0; values = p.1 ∷ []; count = None; source = Some CommandLine; reading = AsWritten }

-- no name has a row yet, nor stands twice
abbrev pub AreNew : List Row → Pairs → Type 0
AreNew rows [] = Unit {0}
AreNew rows (p ∷ ps) = (has_row p.0 rows ≡ false) × AreNew (rows ++ row p ∷ []) ps

-- ---- rows

absent : (n : Text) (change : Row → List Row) (missing rows : List Row) → has_row n rows ≡ false → at_row n change missing rows ≡ rows ++ missing
absent n change missing [] e = refl
absent n change missing (r ∷ rows) e = by (bytes_eq r.id n) e (absent n change missing rows)
  where
    by : (same : Bool) → (same || has_row n rows) ≡ false → (has_row n rows ≡ false → at_row n change missing rows ≡ rows ++ missing)
        → cond same (change r ++ rows) (r ∷ at_row n change missing rows) ≡ r ∷ (rows ++ missing)
    by true e later = cc
    by false e later = ap (λ rs. r ∷ rs) (later e)

pub first_given : (n : Text) (ps : Pairs) → first_of n (map row ps) ≡ given n ps
first_given n [] = refl
first_given n (p ∷ ps) = by (bytes_eq p.0 n) (first_given n ps)
  where
    by : (same : Bool) → first_of n (map row ps) ≡ given n ps
        → option_and_then (λ (r : Row). slice_get r.values 0) (cond same (Some (row p)) (find (λ r. bytes_eq r.id n) (map row ps)))
        ≡ option_map (λ (p : Text × Text). p.1) (cond same (Some p) (find (λ p. bytes_eq p.0 n) ps))
    by true later = refl
    by false later = later

-- ---- the walk between two pairs

abbrev at : List Row → Option (Text × List Text) → Waiting → Walk
at rows pending waiting = record {
  held = record { rows = rows; pending = pending; skip = 0 };
  waiting = waiting;
  position = 1;
  is_trailing = false;
  stopped = None;
}

module _ (name : Text) (names : List Text) where
  abbrev c : List Rule
  c = map built_option names

  abbrev s : Shape
  s = built_shape name names

  module _ (rows : List Row) (pending : Option (Text × List Text)) (n word : Text)
      (long : long_of word ≡ Some (n, None)) (dashes : bytes_eq word (45 ∷ 45 ∷ []) ≡ false) where
    name_step : is_among n names ≡ true → walked c [] (at rows pending idle) word ≡ at (settled_rows c pending rows) (Some (n, [])) (option n)
    unfolding walked
    name_step known = rw (dashes, long, by_long n names, known) refl

    name_turn : is_among n names ≡ true → settle_fault c false (at rows pending idle).held ≡ [] → turn_fault s [] (at rows pending idle) word ≡ []
    name_turn known settled = rw (dashes, long, by_long n names, known, settled) refl

    unknown_turn : is_among n names ≡ false → turn_fault s [] (at rows pending idle) word ≡ UnknownArgument ∷ []
    unknown_turn unknown = rw (dashes, long, by_long n names, unknown) refl

  module _ (rows : List Row) (n v : Text) (long : long_of v ≡ None) (short : short_of v ≡ None) (dashes : bytes_eq v (45 ∷ 45 ∷ []) ≡ false) where
    value_step : is_among n names ≡ true → walked c [] (at rows (Some (n, [])) (option n)) v ≡ at rows (Some (n, v ∷ [])) idle
    unfolding walked
    value_step known = rw (dashes, long, short, by_id n names, known, itself n) refl

    value_turn : turn_fault s [] (at rows (Some (n, [])) (option n)) v ≡ []
    value_turn = rw (dashes, long, short) refl

  module _ (rows : List Row) (n v : Text) (known : is_among n names ≡ true) (new : has_row n rows ≡ false) where
    -- what is pending passes
    pending_fault : settle_fault c false (at rows (Some (n, v ∷ [])) idle).held ≡ []
    pending_fault = rw (by_id n names, known, new) refl

    -- and gets a row
    settled_new : settled_rows c (Some (n, v ∷ [])) rows ≡ rows ++ row (n, v) ∷ []
    settled_new = rw (by_id n names, known)
        (ap (with_values n AsWritten CommandLine (v ∷ [])) (absent n (λ _. []) [] rows new ∙ append-nil rows)
        ∙ absent n (more_values CommandLine (v ∷ [])) (row (n, v) ∷ []) rows new)

  -- ---- faults

  -- the faults of the walk from here over the words, and of what is pending at its end
  abbrev from_here : Walk → List Text → Kinds
  from_here w words = or_else (walk_fault s [] w words) (settle_fault c false (fold (walked c []) w words).held)

  two_words : (w : Walk) (a b : Text) (rest : List Text) → from_here w (a ∷ b ∷ rest)
      ≡ or_else (or_else (turn_fault s [] w a) (or_else (turn_fault s [] (walked c [] w a) b) (walk_fault s [] (walked c [] (walked c [] w a) b) rest)))
      (settle_fault c false (fold (walked c []) (walked c [] (walked c [] w a) b) rest).held)
  unfolding walk_fault
  two_words w a b rest = refl

  module _ (rows : List Row) (pending : Option (Text × List Text)) (p : Text × Text) (pair : IsPair p) (known : is_among p.0 names ≡ true) where
    -- the walk behind a known name and its value
    pair_walked : walked c [] (walked c [] (at rows pending idle) (dashed p.0)) p.1 ≡ at (settled_rows c pending rows) (Some (p.0, p.1 ∷ [])) idle
    pair_walked = ap (λ (w : Walk). walked c [] w p.1) (name_step rows pending p.0 (dashed p.0) pair.name_long pair.name_dashes known)
        ∙ value_step (settled_rows c pending rows) p.0 p.1 pair.value_long pair.value_short pair.value_dashes known

    value_passed : turn_fault s [] (walked c [] (at rows pending idle) (dashed p.0)) p.1 ≡ []
    value_passed = ap (λ (w : Walk). turn_fault s [] w p.1) (name_step rows pending p.0 (dashed p.0) pair.name_long pair.name_dashes known)
        ∙ value_turn (settled_rows c pending rows) p.0 p.1 pair.value_long pair.value_short pair.value_dashes

    known_pair : (rest : List Text) → settle_fault c false (at rows pending idle).held ≡ []
        → from_here (at rows pending idle) (dashed p.0 ∷ p.1 ∷ rest) ≡ from_here (at (settled_rows c pending rows) (Some (p.0, p.1 ∷ [])) idle) rest
    known_pair rest settled =
        let named = name_turn rows pending p.0 (dashed p.0) pair.name_long pair.name_dashes known settled in
        two_words (at rows pending idle) (dashed p.0) p.1 rest
        ∙ (λ i. or_else (or_else (named i) (or_else (value_passed i) (walk_fault s [] (pair_walked i) rest)))
        (settle_fault c false (fold (walked c []) (pair_walked i) rest).held))

  unknown_pair : (rows : List Row) (pending : Option (Text × List Text)) (p : Text × Text) (rest : List Text) → IsPair p → is_among p.0 names ≡ false
      → from_here (at rows pending idle) (dashed p.0 ∷ p.1 ∷ rest) ≡ UnknownArgument ∷ []
  unknown_pair rows pending p rest pair unknown =
      let turn = unknown_turn rows pending p.0 (dashed p.0) pair.name_long pair.name_dashes unknown in
      let behind = walked c [] (at rows pending idle) (dashed p.0) in
      two_words (at rows pending idle) (dashed p.0) p.1 rest
      ∙ (λ i. or_else (or_else (turn i) (or_else (turn_fault s [] behind p.1) (walk_fault s [] (walked c [] behind p.1) rest)))
      (settle_fault c false (fold (walked c []) (walked c [] behind p.1) rest).held))

  -- with a pair that is pending
  later_faults : (ps : Pairs) (rows : List Row) (n v : Text) → is_among n names ≡ true → has_row n rows ≡ false → ArePairs ps → AreNew (rows ++ row (n, v) ∷ []) ps
      → from_here (at rows (Some (n, v ∷ [])) idle) (words_of ps) ≡ verdict (are_known names ps)
  unfolding walk_fault
  later_faults [] rows n v known new pairs others = pending_fault rows n v known new
  later_faults (p ∷ ps) rows n v known new pairs others =
      by (is_among p.0 names) refl (λ is. later_faults ps (rows ++ row (n, v) ∷ []) p.0 p.1 is others.0 pairs.1 others.1)
    where
      by : (is : Bool) → is_among p.0 names ≡ is
          → (is_among p.0 names ≡ true → from_here (at (rows ++ row (n, v) ∷ []) (Some (p.0, p.1 ∷ [])) idle) (words_of ps) ≡ verdict (are_known names ps))
          → from_here (at rows (Some (n, v ∷ [])) idle) (words_of (p ∷ ps)) ≡ verdict (is && are_known names ps)
      by true is later = known_pair rows (Some (n, v ∷ [])) p pairs.0 is (words_of ps) (pending_fault rows n v known new)
          ∙ ap (λ rs. from_here (at rs (Some (p.0, p.1 ∷ [])) idle) (words_of ps)) (settled_new rows n v known new) ∙ later is
      by false is later = unknown_pair rows (Some (n, v ∷ [])) p (words_of ps) pairs.0 is

  all_faults : (ps : Pairs) → ArePairs ps → AreNew [] ps → from_here (at [] None idle) (words_of ps) ≡ verdict (are_known names ps)
  unfolding walk_fault
  all_faults [] pairs new = refl
  all_faults (p ∷ ps) pairs new = by (is_among p.0 names) refl
    where
      by : (is : Bool) → is_among p.0 names ≡ is → from_here (at [] None idle) (words_of (p ∷ ps)) ≡ verdict (is && are_known names ps)
      by true is = known_pair [] None p pairs.0 is (words_of ps) refl ∙ later_faults ps [] p.0 p.1 is refl pairs.1 new.1
      by false is = unknown_pair [] None p (words_of ps) pairs.0 is

  or_nothing : (ks : Kinds) → or_else ks [] ≡ ks
  or_nothing [] = refl
  or_nothing (k ∷ ks) = refl

  -- `clap` fails exactly where a name is unknown
  pub level_faults : (ps : Pairs) → ArePairs ps → AreNew [] ps → level_fault s [] nothing_held (words_of ps) false [] ≡ verdict (are_known names ps)
  level_faults ps pairs new =
      let h = (fold (walked c []) (at [] None idle) (words_of ps)).held in
      let none_later : or_else (defaults_fault (settled_rows c h.pending h.rows) c) (check_fault s (fold with_default (settled_rows c h.pending h.rows) c) false) ≡ [] =
      rw (defaults_none names (settled_rows c h.pending h.rows), required_none names (fold with_default (settled_rows c h.pending h.rows) c)) refl in
      ap (λ ks. or_else (walk_fault s [] (at [] None idle) (words_of ps)) (or_else (settle_fault c false h) ks)) none_later
      ∙ ap (λ ks. or_else (walk_fault s [] (at [] None idle) (words_of ps)) ks) (or_nothing (settle_fault c false h))
      ∙ all_faults ps pairs new

  -- ---- what was found

  -- the rows where the walk ends, with what is pending there
  abbrev end_rows : Walk → List Row
  end_rows w = settled_rows c w.held.pending w.held.rows

  later_rows : (ps : Pairs) (rows : List Row) (n v : Text) → is_among n names ≡ true
      → has_row n rows ≡ false → ArePairs ps → AreNew (rows ++ row (n, v) ∷ []) ps → are_known names ps ≡ true
      → end_rows (fold (walked c []) (at rows (Some (n, v ∷ [])) idle) (words_of ps)) ≡ rows ++ row (n, v) ∷ map row ps
  later_rows [] rows n v known new pairs others all = settled_new rows n v known new
  later_rows (p ∷ ps) rows n v known new pairs others all =
      let parts = and_parts (is_among p.0 names) (are_known names ps) all in
      ap (λ (w : Walk). end_rows (fold (walked c []) w (words_of ps)))
      (pair_walked rows (Some (n, v ∷ [])) p pairs.0 parts.0 ∙ ap (λ rs. at rs (Some (p.0, p.1 ∷ [])) idle) (settled_new rows n v known new))
      ∙ later_rows ps (rows ++ row (n, v) ∷ []) p.0 p.1 parts.0 others.0 pairs.1 others.1 parts.1
      ∙ append_assoc rows (row (n, v) ∷ []) (row p ∷ map row ps)

  all_rows : (ps : Pairs) → ArePairs ps → AreNew [] ps → are_known names ps ≡ true → end_rows (fold (walked c []) (at [] None idle) (words_of ps)) ≡ map row ps
  all_rows [] pairs new all = refl
  all_rows (p ∷ ps) pairs new all =
      let parts = and_parts (is_among p.0 names) (are_known names ps) all in
      ap (λ (w : Walk). end_rows (fold (walked c []) w (words_of ps))) (pair_walked [] None p pairs.0 parts.0)
      ∙ later_rows ps [] p.0 p.1 parts.0 refl pairs.1 new.1 parts.1

  -- each pair has a row, in order
  pub level_rows : (ps : Pairs) → ArePairs ps → AreNew [] ps → are_known names ps ≡ true → rows_after c [] (words_of ps) ≡ map row ps
  level_rows ps pairs new all =
      defaults_kept names (end_rows (fold (walked c []) (at [] None idle) (words_of ps))) ∙ all_rows ps pairs new all
