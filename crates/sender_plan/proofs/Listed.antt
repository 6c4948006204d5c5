-- What a text lists may be planned.
use Rattle.std.proofs.Common.{◌≡◌, ℕ, suc, ◌+◌, ◌-◌, ◌<◌, ◌≤◌, ◌^◌, Bool, true, false, not, cond, ◌&&◌, ◌||◌, List, [], ◌∷◌, Option, Some, None, Ok}
use Rattle.std.proofs.Common.{length, take, drop, get_or, refl, sym, ap, subst, ◌∙◌, arith}
use Rattle.std.specs.Prelude.{All, is_none, nat_le, option_map, option_to_list, ◌==◌, ◌++◌}
use Rattle.std.specs.Option.{ForSome, option_or}
use Rattle.std.specs.List.{AllByRecursion, flat_map, list_any, onto_first}
use Rattle.std.specs.Str.{IsUtf8, IsCharBoundary, bytes_eq}
use Rattle.std.proofs.lemmas.Bool.{eqb-true, or_parts}
use Rattle.std.proofs.lemmas.List.{drop_more}
use Rattle.std.proofs.lemmas.Str.{IsUtf8-between, IsUtf8-take, IsCharBoundary-end, IsCharBoundary-before_ascii, IsCharBoundary-after_ascii}
use Rattle.meta_text.specs.Lines.{lines_of}
use Rattle.meta_text.specs.Text.{is_clean}
use Rattle.meta_text.proofs.Public.{clean_is_utf8}
use Rattle.carousel_cid.specs.Number.{number_below}
use Rattle.carousel_cid.proofs.Public.{number_from}
use Rattle.wire_bytes.specs.FirstFault.{fault_when, first_fault, unless_fault}
use Rattle.wire_bytes.proofs.Public.{none_hold, cause_fails}
use Rattle.sender_plan.specs.declared.fault.BadLine.{BadLine}
use Rattle.sender_plan.specs.CatalogInstance.{CatalogInstance, IsItem, most_instances}
use Rattle.sender_plan.specs.CatalogLine.{Begin, is_tab, fields_of, file_word, is_instance, is_file, is_bad_text, number_in, causes_of, cause_of, entry_in}
use Rattle.sender_plan.specs.Catalog.{is_passed_over, begun_by, bad_at, bad_line, said, instances_of, reading}
use Rattle.sender_plan.specs.PlanOf.{IsFit}
use Rattle.sender_plan.specs.Inner.Lines.{IsField}
use Rattle.sender_plan.proofs.Fields.{are_fields, clean_bytes}
use Rattle.sender_plan.proofs.Causes.{item_is}
use Rattle.sender_plan.proofs.BadLines.{has_form}
use Rattle.sender_plan.proofs.Planned.{not_mapped}
use Rattle.sender_plan.proofs.Entries.{all_both, Says, instances_have}
use Rattle.sender_plan.proofs.Texts.{short_texts}

-- ---- the fields of a line in UTF-8 are in UTF-8

-- the fields of what stands from a place on: the first ends where the text may be cut, and the others are in UTF-8
abbrev AreCut : List ℕ → ℕ → List ℕ → List (List ℕ) → Type 0
AreCut line at rest [] = ⊥
AreCut line at rest (field ∷ fields) = (take (length field) rest ≡ field) × IsCharBoundary line (at + length field) × AllByRecursion IsUtf8 fields

fields_cut : (line : List ℕ) → IsUtf8 line → (rest : List ℕ) (at : ℕ) → drop at line ≡ rest → at + length rest ≡ length line → AreCut line at rest (fields_of rest)
fields_cut line utf8 [] at is ends = (refl, subst (IsCharBoundary line) (sym ends) (IsCharBoundary-end line), tt)
fields_cut line utf8 (b ∷ rest) at is ends =
    let within : at < length line = omega (arith, ends) in
    let both : b ∷ rest ≡ get_or line at 0 ∷ drop (at + 1) line = sym is ∙ drop_more line at 0 within in
    let here : get_or line at 0 ≡ b = cc in
    let next : drop (at + 1) line ≡ rest = cc in
    by within here next (is_tab b) refl (fields_of rest) (fields_cut line utf8 rest (at + 1) next (omega (arith, ends)))
  where
    by : at < length line → get_or line at 0 ≡ b → drop (at + 1) line ≡ rest → (t : Bool) → is_tab b ≡ t
        → (fields : List (List ℕ)) → AreCut line (at + 1) rest fields → AreCut line at (b ∷ rest) (cond t ([] ∷ fields) (onto_first b fields))
    by within here next t tab [] cut = absurd cut
    by within here next true tab (field ∷ fields) cut =
        let ascii : get_or line at 0 < 128 = omega (arith, here, eqb-true b 0x09 tab) in
        let start : at ≡ at + 0 = omega arith in
        let behind = IsUtf8-between line (at + 1) (at + 1 + length field) utf8 (omega arith) (IsCharBoundary-after_ascii line at utf8 within ascii) cut.1 in
        let size : at + 1 + length field - (at + 1) ≡ length field = omega arith in
        let whole = ap (λ n. take n (drop (at + 1) line)) size ∙ ap (take (length field)) next ∙ cut.0 in (
          refl,
          subst (IsCharBoundary line) start (IsCharBoundary-before_ascii line at within ascii),
          (subst IsUtf8 whole behind, cut.2),
        )
    by within here next false tab (field ∷ fields) cut =
        let further : at + 1 + length field ≡ at + suc (length field) = omega arith in
        (ap (λ ys. b ∷ ys) cut.0, subst (IsCharBoundary line) further cut.1, cut.2)

utf8_fields : (line : List ℕ) → IsUtf8 line → AllByRecursion IsUtf8 (fields_of line)
utf8_fields line utf8 = by (fields_of line) (fields_cut line utf8 line 0 refl (omega arith))
  where
    by : (fields : List (List ℕ)) → AreCut line 0 line fields → AllByRecursion IsUtf8 fields
    by [] cut = absurd cut
    by (field ∷ fields) cut =
        let start : 0 + length field ≡ length field = omega arith in
        (subst IsUtf8 cut.0 (IsUtf8-take line (length field) utf8 (subst (IsCharBoundary line) start cut.1)), cut.2)

-- ---- what a line says in which nothing is wrong

abbrev IsSmall : ℕ → Type 0
IsSmall number = number < 2 ^ 32

second_fails : (a b : Bool) → (a && b) ≡ false → a ≡ true → b ≡ false
second_fails true b none is = none
second_fails false b none is = absurd cc

clean_line : (before : ℕ) (line : List ℕ) → cause_of before line ≡ None → is_clean line ≡ true
unfolding cause_of
clean_line before line sound = by (is_clean line) (none_hold _ (causes_of before (fields_of line)) sound).0
  where
    by : (t : Bool) → fault_when {F = ℕ} (not t) 1 ≡ None → t ≡ true
    by true e = refl
    by false e = absurd cc

fifth_none : (a b c d e f : Option ℕ) → first_fault (a ∷ b ∷ c ∷ d ∷ e ∷ f ∷ []) ≡ None → e ≡ None
fifth_none a b c d e f none =
    let second = none_hold a (b ∷ c ∷ d ∷ e ∷ f ∷ []) none in
    let third = none_hold b (c ∷ d ∷ e ∷ f ∷ []) second.1 in
    let fourth = none_hold c (d ∷ e ∷ f ∷ []) third.1 in
    let fifth = none_hold d (e ∷ f ∷ []) fourth.1 in
    (none_hold e (f ∷ []) fifth.1).0

good_texts : (before : ℕ) (line : List ℕ) → cause_of before line ≡ None → (is_file (fields_of line) && list_any is_bad_text (drop 1 (fields_of line))) ≡ false
unfolding cause_of
good_texts before line sound =
    let fields = fields_of line in
    let bad = is_file fields && list_any is_bad_text (drop 1 fields) in
    cause_fails bad 5 (fifth_none (fault_when (not (is_clean line)) 1) (fault_when (not (is_instance fields || is_file fields)) 2)
    (fault_when (is_instance fields && is_none (number_in fields)) 3) (fault_when (is_file fields && (before == 0)) 4) (fault_when bad 5)
    (fault_when (is_instance fields && nat_le most_instances before) 6) sound)

fit_fields : (fields : List (List ℕ)) → AllByRecursion IsField fields → AllByRecursion IsUtf8 fields → (is_instance fields || is_file fields) ≡ true
    → (is_file fields && list_any is_bad_text (drop 1 fields)) ≡ false → AllByRecursion (Says IsSmall IsItem) (option_to_list (entry_in fields))
fit_fields [] are utf8 form good = tt
fit_fields (word ∷ []) are utf8 form good = tt
fit_fields (word ∷ number ∷ []) are utf8 form good = by (number_below (2 ^ 32) number) refl
  where
    by : (found : Option ℕ) → number_below (2 ^ 32) number ≡ found → AllByRecursion (Says IsSmall IsItem) (option_to_list (option_map Begin found))
    by None is = tt
    by (Some n) is = ((number_from (2 ^ 32) number n is).1, tt)
fit_fields (word ∷ name ∷ location ∷ []) are utf8 form good =
    let texts = second_fails (bytes_eq word file_word) (list_any is_bad_text (name ∷ location ∷ [])) good form in
    let place = or_parts (is_bad_text location) false (or_parts (is_bad_text name) (list_any is_bad_text (location ∷ [])) texts).1 in
    (item_is (record { name = name; location = location; kind = None }) utf8.1.1.0 (λ x e. cc) are.1 place.0 refl, tt)
fit_fields (word ∷ name ∷ location ∷ kind ∷ []) are utf8 form good =
    let texts = second_fails (bytes_eq word file_word) (list_any is_bad_text (name ∷ location ∷ kind ∷ [])) good form in
    let place = or_parts (is_bad_text location) (list_any is_bad_text (kind ∷ []))
    (or_parts (is_bad_text name) (list_any is_bad_text (location ∷ kind ∷ [])) texts).1 in
    let sort : ForSome (Some kind) IsUtf8 = λ x e. subst IsUtf8 (let same : kind ≡ x = cc in same) utf8.1.1.1.0 in
    (item_is (record { name = name; location = location; kind = Some kind }) utf8.1.1.0 sort are.1 place.0 place.1, tt)
fit_fields (word ∷ name ∷ location ∷ kind ∷ more ∷ fields) are utf8 form good = tt

fit_line : (before : ℕ) (line : List ℕ) → cause_of before line ≡ None → AllByRecursion (Says IsSmall IsItem) (option_to_list (entry_in (fields_of line)))
fit_line before line sound =
    let clean = clean_line before line sound in
    fit_fields (fields_of line) (are_fields line (clean_bytes line clean)) (utf8_fields line (clean_is_utf8 line clean))
    (has_form before line sound) (good_texts before line sound)

-- ---- what a text says in which no line is bad

neither : (o p : Option BadLine) → option_or o p ≡ None → (o ≡ None) × (p ≡ None)
neither None p none = (refl, none)
neither (Some bad) p none = absurd cc

fit_lines : (number before : ℕ) (lines : List (List ℕ)) → bad_line number before lines ≡ None → AllByRecursion (Says IsSmall IsItem) (flat_map said lines)
fit_lines number before [] none = tt
fit_lines number before (line ∷ lines) none = by (is_passed_over line) none (λ n k. fit_lines n k lines)
  where
    by : (t : Bool)
        → cond t (bad_line (number + 1) before lines)
        (option_or (option_map (bad_at number) (cause_of before line)) (bad_line (number + 1) (before + begun_by line) lines)) ≡ None
        → ((n k : ℕ) → bad_line n k lines ≡ None → AllByRecursion (Says IsSmall IsItem) (flat_map said lines))
        → AllByRecursion (Says IsSmall IsItem) (cond t [] (option_to_list (entry_in (fields_of line))) ++ flat_map said lines)
    by true none later = later (number + 1) before none
    by false none later =
        let parts = neither (option_map (bad_at number) (cause_of before line)) (bad_line (number + 1) (before + begun_by line) lines) none in
        all_both (Says IsSmall IsItem) (option_to_list (entry_in (fields_of line))) (flat_map said lines)
        (fit_line before line (not_mapped (bad_at number) (cause_of before line) parts.0)) (later (number + 1) (before + begun_by line) parts.1)

pub fit_listed : (text : List ℕ) (instances : List CatalogInstance) → reading text ≡ Ok instances → length text ≤ 16777216 → All IsFit instances
unfolding reading
fit_listed text instances is short = by (bad_line 1 0 (lines_of text)) refl is
  where
    by : (bad : Option BadLine) → bad_line 1 0 (lines_of text) ≡ bad → unless_fault bad (instances_of (flat_map said (lines_of text))) ≡ Ok instances
        → All IsFit instances
    by None none is =
        let same : instances_of (flat_map said (lines_of text)) ≡ instances = cc in
        let has = instances_have IsSmall IsItem (flat_map said (lines_of text)) (fit_lines 1 0 (lines_of text) none) in
        let texts = short_texts text in
        subst (All IsFit) same (λ at d within. record {
          small = (has at d within).0;
          files = λ at' d' within'. record { texts = (has at d within).1 at' d' within'; short = omega (arith, texts at d within at' d' within', short) };
        })
    by (Some bad) some is = absurd cc
