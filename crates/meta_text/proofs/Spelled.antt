-- A text is read exactly where it spells fields, and its fault is the first.
use Rattle.std.proofs.Common.{◌≡◌, ◌↔◌, ℕ, suc, ◌+◌, ◌<◌, Bool, true, false, not, ◌||◌, cond, List, [], ◌∷◌, ◌++◌, Option, Some, None, Ok, Err, refl, sym, ap, subst, ◌∙◌, inl, inr, arith, length, take, get_or}
use Rattle.std.specs.List.{list_all, list_any, position_or_len, before_first, after_first}
use Rattle.std.specs.Option.{option_or}
use Rattle.std.proofs.lemmas.Bool.{cases_lt, eqb-true, and_from, or_parts, or_from, false≢true}
use Rattle.std.proofs.lemmas.List.{take_at}
use Rattle.std.proofs.lemmas.List.Sums.{split_at_first, passes_at_first}
use Rattle.wire_bytes.specs.FirstFault.{unless_fault}
use Rattle.meta_text.specs.declared.fault.FieldFault.{FieldFault}
use Rattle.meta_text.specs.declared.fault.FieldFault.TheVariants.{NoColon, BadName, BadValue, Memory}
use Rattle.meta_text.specs.Text.{is_name, is_clean, trimmed}
use Rattle.meta_text.specs.Fields.{Pair}
use Rattle.meta_text.specs.Lines.{Line, is_colon, name_in, value_in, pair_in, pairs_in}
use Rattle.meta_text.specs.Reading.{fault_of, fault_in, reading}
use Rattle.meta_text.specs.Spelled.{colon, SpellsValue, SpellsPair, SpellPairs, some_lines, SpellsFields, IsFault, FaultyAt, IsFirstFault}
use Rattle.meta_text.proofs.Places.{any_without_place}
use Rattle.meta_text.proofs.Faults.{chosen, fault_by, fault_none_by}
use Rattle.meta_text.proofs.Trims.{trimmed_again, trimmed_between_blanks}
use Rattle.meta_text.proofs.LineLaws.{trimmed_between}
use Rattle.meta_text.proofs.Written.{place_at, name_before, value_behind, colon_there}

-- ---- a value

trimmed_value : (text value : List ℕ) → SpellsValue text value → trimmed text ≡ value
trimmed_value text value s = ap trimmed s.joined ∙ trimmed_between_blanks s.before value s.after s.blank_before s.blank_after s.is.ends

value_trimmed : (text : List ℕ) → is_clean (trimmed text) ≡ true → SpellsValue text (trimmed text)
value_trimmed text clean =
    let between = trimmed_between text in
    record {
      before = between.0;
      after = between.1;
      joined = between.4;
      blank_before = between.2;
      blank_after = between.3;
      is = record { clean = clean; ends = trimmed_again text };
    }

-- ---- the first colon

place_from_any : (line : List ℕ) → list_any is_colon line ≡ true → position_or_len is_colon line < length line
place_from_any line there = elim (cases_lt (position_or_len is_colon line) (length line)) [
  | inl less ↦ less
  | inr past ↦ absurd (let none = any_without_place is_colon line past in cc)
]

colon_at : (line : List ℕ) → list_any is_colon line ≡ true → line ≡ name_in line ++ colon ∷ after_first is_colon line
colon_at line there =
    let least = place_from_any line there in
    split_at_first is_colon line 0 least ∙ ap (λ b. name_in line ++ b ∷ after_first is_colon line)
    (eqb-true (get_or line (position_or_len is_colon line) 0) colon (passes_at_first is_colon line 0 least))

before_free : (line : List ℕ) → list_any is_colon (before_first is_colon line) ≡ false
before_free [] = refl
before_free (b ∷ bs) = by (is_colon b) (position_or_len is_colon bs) refl (before_free bs)
  where
    by : (t : Bool) (m : ℕ) → is_colon b ≡ t → list_any is_colon (take m bs) ≡ false → list_any is_colon (take (cond (not t) (1 + m) 0) (b ∷ bs)) ≡ false
    by true m is before = refl
    by false m is before = let one : 1 + m ≡ suc m = omega arith in rw one (or_from (is_colon b) (list_any is_colon (take m bs)) is before)

free_all : (xs : List ℕ) → list_any is_colon xs ≡ false → list_all (λ b. not (is_colon b)) xs ≡ true
free_all [] none = refl
free_all (b ∷ bs) none =
    let both = or_parts (is_colon b) (list_any is_colon bs) none in
    and_from (not (is_colon b)) (list_all (λ c. not (is_colon c)) bs) (ap not both.0) (free_all bs both.1)

name_first : (front back : List ℕ) → list_any is_colon front ≡ false → name_in (front ++ colon ∷ back) ≡ front
name_first front back none =
    ap (λ n. take n (front ++ colon ∷ back)) (place_at is_colon front colon back (free_all front none) refl) ∙ take_at front (colon ∷ back) (length front) refl

any_colon : (front back : List ℕ) → list_any is_colon (front ++ colon ∷ back) ≡ true
any_colon [] back = refl
any_colon (b ∷ bs) back = rw (any_colon bs back) (by (is_colon b))
  where
    by : (t : Bool) → (t || true) ≡ true
    by true = refl
    by false = refl

fails : (t : Bool) → (t ≡ true → ⊥) → t ≡ false
fails true never = absurd (never refl)
fails false never = refl

-- ---- a line

line_sound : (line : Line) (pair : Pair) → SpellsPair line.1 pair → (fault_of line ≡ None) × (pair_in line ≡ pair)
line_sound line pair s =
    let name : name_in line.1 ≡ pair.0 = ap name_in s.joined ∙ name_before pair.0 s.rest s.name in
    let value : value_in line.1 ≡ pair.1 = ap value_in s.joined ∙ value_behind pair.0 s.rest s.name ∙ trimmed_value s.rest pair.1 s.value in (
      fault_none_by line.0 line.1 (ap (list_any is_colon) s.joined ∙ colon_there pair.0 s.rest s.name)
          (ap is_name name ∙ s.name) (ap is_clean value ∙ s.value.is.clean),
      ap (λ n. (n, value_in line.1)) name ∙ ap (λ v. (pair.0, v)) value,
    )

-- what a line spells, by the answers to its three tests
line_by : (line : Line) (colon name value : Bool) → list_any is_colon line.1 ≡ colon → is_name (name_in line.1) ≡ name
    → is_clean (value_in line.1) ≡ value → chosen line.0 colon name value ≡ None → SpellsPair line.1 (pair_in line)
line_by line false name value a b c e = absurd cc
line_by line true false value a b c e = absurd cc
line_by line true true false a b c e = absurd cc
line_by line true true true a b c e =
    record { rest = after_first is_colon line.1; joined = colon_at line.1 a; name = b; value = value_trimmed (after_first is_colon line.1) c }

line_spells : (line : Line) → fault_of line ≡ None → SpellsPair line.1 (pair_in line)
line_spells line none = line_by line (list_any is_colon line.1) (is_name (name_in line.1)) (is_clean (value_in line.1)) refl refl refl none

-- and its fault
fault_by_tests : (line : Line) (fault : FieldFault) (colon name value : Bool) → list_any is_colon line.1 ≡ colon → is_name (name_in line.1) ≡ name
    → is_clean (value_in line.1) ≡ value → chosen line.0 colon name value ≡ Some fault → IsFault line fault
fault_by_tests line fault false name value a b c e = let same : NoColon line.0 ≡ fault = cc in subst (IsFault line) same (refl, a)
fault_by_tests line fault true false value a b c e =
    let same : BadName line.0 ≡ fault = cc in
    subst (IsFault line) same (
      refl,
      record {
        front = name_in line.1;
        back = after_first is_colon line.1;
        joined = colon_at line.1 a;
        first = before_free line.1;
        none = λ is. false≢true (sym b ∙ is);
      },
    )
fault_by_tests line fault true true false a b c e =
    let same : BadValue line.0 ≡ fault = cc in
    subst (IsFault line) same (
      refl,
      record {
        name = name_in line.1;
        back = after_first is_colon line.1;
        joined = colon_at line.1 a;
        is_name = b;
        none = λ value s. false≢true (sym c ∙ ap is_clean (trimmed_value (after_first is_colon line.1) value s) ∙ s.is.clean);
      },
    )
fault_by_tests line fault true true true a b c e = absurd cc

fault_is : (line : Line) (fault : FieldFault) → fault_of line ≡ Some fault → IsFault line fault
fault_is line fault e = fault_by_tests line fault (list_any is_colon line.1) (is_name (name_in line.1)) (is_clean (value_in line.1)) refl refl refl e

fault_told : (line : Line) (fault : FieldFault) → IsFault line fault → fault_of line ≡ Some fault
fault_told line (NoColon n) is =
    fault_by line.0 line.1 false (is_name (name_in line.1)) (is_clean (value_in line.1)) is.1 refl refl ∙ ap (λ k. Some (NoColon k)) (sym is.0)
fault_told line (BadName n) is =
    let bad = is.1 in
    let front : name_in line.1 ≡ bad.front = ap name_in bad.joined ∙ name_first bad.front bad.back bad.first in
    fault_by line.0 line.1 true false (is_clean (value_in line.1)) (ap (list_any is_colon) bad.joined ∙ any_colon bad.front bad.back)
    (ap is_name front ∙ fails (is_name bad.front) bad.none) refl ∙ ap (λ k. Some (BadName k)) (sym is.0)
fault_told line (BadValue n) is =
    let bad = is.1 in
    let name : name_in line.1 ≡ bad.name = ap name_in bad.joined ∙ name_before bad.name bad.back bad.is_name in
    let value : value_in line.1 ≡ trimmed bad.back = ap value_in bad.joined ∙ value_behind bad.name bad.back bad.is_name in
    let unclean : is_clean (trimmed bad.back) ≡ false = fails (is_clean (trimmed bad.back)) (λ clean. bad.none (trimmed bad.back) (value_trimmed bad.back clean)) in
    fault_by line.0 line.1 true true false (ap (list_any is_colon) bad.joined ∙ colon_there bad.name bad.back bad.is_name)
    (ap is_name name ∙ bad.is_name) (ap is_clean value ∙ unclean) ∙ ap (λ k. Some (BadValue k)) (sym is.0)
fault_told line Memory is = absurd is

-- ---- the lines

sound_lines : (lines : List Line) (pairs : List Pair) → SpellPairs lines pairs → (fault_in lines ≡ None) × (pairs_in lines ≡ pairs)
sound_lines [] [] s = (refl, refl)
sound_lines [] (pair ∷ pairs) s = absurd s
sound_lines (line ∷ lines) [] s = absurd s
sound_lines (line ∷ lines) (pair ∷ pairs) s =
    let own = line_sound line pair s.0 in
    let later = sound_lines lines pairs s.1 in
    (ap (λ f. option_or f (fault_in lines)) own.0 ∙ later.0, ap (λ p. p ∷ pairs_in lines) own.1 ∙ ap (λ (ps : List Pair). pair ∷ ps) later.1)

lines_spell : (lines : List Line) → fault_in lines ≡ None → SpellPairs lines (pairs_in lines)
lines_spell [] none = tt
lines_spell (line ∷ lines) none = by (fault_of line) refl none (lines_spell lines)
  where
    by : (o : Option FieldFault) → fault_of line ≡ o → option_or o (fault_in lines) ≡ None → (fault_in lines ≡ None → SpellPairs lines (pairs_in lines))
        → SpellPairs (line ∷ lines) (pairs_in (line ∷ lines))
    by None own e later = (line_spells line own, later e)
    by (Some fault) own e later = absurd cc

faulty_at : (lines : List Line) (fault : FieldFault) → fault_in lines ≡ Some fault → FaultyAt lines fault
faulty_at [] fault is = absurd cc
faulty_at (line ∷ lines) fault is = by (fault_of line) refl is (faulty_at lines fault)
  where
    by : (o : Option FieldFault) → fault_of line ≡ o → option_or o (fault_in lines) ≡ Some fault → (fault_in lines ≡ Some fault → FaultyAt lines fault) → FaultyAt (line ∷ lines) fault
    by None own e later =
        let rest = later e in
        record {
          before = line ∷ rest.before;
          line = rest.line;
          after = rest.after;
          joined = ap (λ (ls : List Line). line ∷ ls) rest.joined;
          pairs = pair_in line ∷ rest.pairs;
          sound = (line_spells line own, rest.sound);
          is = rest.is;
        }
    by (Some f) own e later = record {
      before = [];
      line = line;
      after = lines;
      joined = refl;
      pairs = [];
      sound = tt;
      is = fault_is line fault (own ∙ e);
    }

faulty_in : (before : List Line) (line : Line) (after : List Line) (pairs : List Pair) (fault : FieldFault)
    → SpellPairs before pairs → IsFault line fault → fault_in (before ++ line ∷ after) ≡ Some fault
faulty_in [] line after pairs fault sound is = ap (λ f. option_or f (fault_in after)) (fault_told line fault is)
faulty_in (first ∷ before) line after [] fault sound is = absurd sound
faulty_in (first ∷ before) line after (pair ∷ pairs) fault sound is =
    ap (λ f. option_or f (fault_in (before ++ line ∷ after))) (line_sound first pair sound.0).0 ∙ faulty_in before line after pairs fault sound.1 is

-- ---- a text

pub read_where_spelled : (text : List ℕ) (pairs : List Pair) → (reading text ≡ Ok pairs) ↔ SpellsFields text pairs
unfolding reading
read_where_spelled text pairs = (
  λ is. by (fault_in lines) refl is,
  λ s. let sound = sound_lines lines pairs s in ap (λ f. unless_fault f (pairs_in lines)) sound.0 ∙ ap (λ ps. Ok ps) sound.1,
)
  where
    lines : List Line
    lines = some_lines text

    by : (o : Option FieldFault) → fault_in lines ≡ o → unless_fault o (pairs_in lines) ≡ Ok pairs → SpellPairs lines pairs
    by None e is = let same : pairs_in lines ≡ pairs = cc in subst (SpellPairs lines) same (lines_spell lines e)
    by (Some fault) e is = absurd cc

pub first_fault_told : (text : List ℕ) (fault : FieldFault) → (reading text ≡ Err fault) ↔ IsFirstFault text fault
unfolding reading
first_fault_told text fault = (
  λ is. by (fault_in lines) refl is,
  λ f. ap (λ o. unless_fault o (pairs_in lines)) (ap fault_in f.joined ∙ faulty_in f.before f.line f.after f.pairs fault f.sound f.is),
)
  where
    lines : List Line
    lines = some_lines text

    by : (o : Option FieldFault) → fault_in lines ≡ o → unless_fault o (pairs_in lines) ≡ Err fault → FaultyAt lines fault
    by None e is = absurd cc
    by (Some f) e is = let same : f ≡ fault = cc in faulty_at lines fault (e ∙ ap (λ k. Some k) same)
