-- The texts of a list, one after another.
use Rattle.std.proofs.Common.{◌≡◌, ℕ, zero, suc, ◌+◌, ◌≤◌, ◌<◌, Bool, false, List, [], ◌∷◌, Option, Some, None, refl, sym, ap, ◌∙◌, arith, take, drop, length, min, get_or}
use Rattle.std.specs.Prelude.{position, IfSome, MatchOption}
use Rattle.std.specs.List.{position_or_len, list_any, slice_split}
use Rattle.std.proofs.lemmas.Bool.{le-leb, lt-leb, or_parts}
use Rattle.std.proofs.lemmas.List.{drop-drop, length-take, length-drop}
use Rattle.std.proofs.lemmas.List.Elements.{All-from_get_or}
use Rattle.std.proofs.lemmas.List.Sums.{sum_by-cons}
use Rattle.std.proofs.lemmas.List.Splits.{slice_split_first, slice_split_none}
use Rattle.meta_text.proofs.Public.{found_at, none_at, any_without_place}
use Rattle.carousel_cid.specs.declared.entry.Entry.{Entry}
use Rattle.carousel_cid.specs.declared.list.Kept.{Kept}
use Rattle.carousel_cid.specs.IdentifierList.{size_of, identifiers_of}
use Rattle.carousel_cid.specs.Listing.{is_comma, without_line_end, cut_at_commas, texts_in, entry_in, bad_place, size_in, count_in, identifiers_in, range_in}
use Rattle.carousel_cid.specs.Inner.Walks.{texts_from, added_all}
use Rattle.carousel_cid.proofs.Kept.{added_all-append}

-- ---- one text after another

pub none_passes : {X : Type 0} (p : X → Bool) (xs : List X) (d : X) → list_any p xs ≡ false → (i : ℕ) → i < length xs → p (get_or xs i d) ≡ false
none_passes p [] d none i less = absurd (omega arith)
none_passes p (x ∷ xs) d none zero less = (or_parts (p x) (list_any p xs) none).0
none_passes p (x ∷ xs) d none (suc i) less = none_passes p xs d (or_parts (p x) (list_any p xs) none).1 i (omega arith)

-- the texts from a place in the list on are those of the rest
from_within : (at : ℕ) (list : List ℕ) → at ≤ length list → texts_from at list ≡ slice_split is_comma (drop at list)
unfolding texts_from
from_within at list within = rw (le-leb at (length list) within) refl

-- behind the end there is none
pub from_past : (at : ℕ) (list : List ℕ) → length list < at → texts_from at list ≡ []
unfolding texts_from
from_past at list past = rw (lt-leb at (length list) past) refl

pub first_text : (list : List ℕ) (at comma : ℕ) → at ≤ length list → position is_comma (drop at list) ≡ Some comma
    → texts_from at list ≡ take comma (drop at list) ∷ texts_from (at + length (take comma (drop at list)) + 1) list
first_text list at comma start found =
    let place = found_at is_comma (drop at list) comma found in
    let least : position_or_len is_comma (drop at list) < length (drop at list) = rw place.0 place.1 in
    let size : length (take comma (drop at list)) ≡ comma = omega (arith, length-take comma (drop at list)) in
    let within : at + comma + 1 ≤ length list = omega (arith, length-drop at list) in
    let rest : drop (comma + 1) (drop at list) ≡ drop (at + comma + 1) list = drop-drop (comma + 1) at list ∙ ap (λ k. drop k list) (omega arith) in
    from_within at list start
    ∙ slice_split_first is_comma (drop at list) 0 least
    ∙ ap (λ k. take k (drop at list) ∷ slice_split is_comma (drop (k + 1) (drop at list))) place.0
    ∙ ap (λ (ys : List ℕ). take comma (drop at list) ∷ slice_split is_comma ys) rest
    ∙ ap (λ (ts : List (List ℕ)). take comma (drop at list) ∷ ts) (sym (from_within (at + comma + 1) list within) ∙ ap (λ k. texts_from (at + k + 1) list) (sym size))

pub last_text : (list : List ℕ) (at : ℕ) → at ≤ length list → position is_comma (drop at list) ≡ None
    → texts_from at list ≡ drop at list ∷ texts_from (at + length (drop at list) + 1) list
last_text list at start none =
    let nothing = any_without_place is_comma (drop at list) (none_at is_comma (drop at list) none) in
    let all = All-from_get_or (λ b. is_comma b ≡ false) (drop at list) 0 (none_passes is_comma (drop at list) 0 nothing) in
    let past : length list < at + length (drop at list) + 1 = omega (arith, length-drop at list) in
    from_within at list start ∙ slice_split_none is_comma (drop at list) all
    ∙ ap (λ (ts : List (List ℕ)). drop at list ∷ ts) (sym (from_past (at + length (drop at list) + 1) list past))

-- ---- the whole list

pub texts_none : (body list : List ℕ) → list ≡ without_line_end body → length list ≡ 0 → texts_in body ≡ []
unfolding texts_in
texts_none body [] is none = ap cut_at_commas (sym is)
texts_none body (b ∷ bs) is none = absurd (omega arith)

pub texts_all : (body list : List ℕ) → list ≡ without_line_end body → 0 < length list → texts_in body ≡ texts_from 0 list
unfolding texts_in
texts_all body [] is some = absurd (omega arith)
texts_all body (b ∷ bs) is some = ap cut_at_commas (sym is) ∙ sym (from_within 0 (b ∷ bs) (omega arith))

-- ---- what the walk finds at a text

pub bad_at : (at : ℕ) (texts rest : List (List ℕ)) (text : List ℕ) → texts ≡ text ∷ rest → entry_in text ≡ None → bad_place at texts ≡ Some at
bad_at at texts rest text first none = rw (first, none) refl

-- what an entry stands for, counted with what the texts behind it do
pub count_on : (text : List ℕ) (entry : Entry) (texts rest : List (List ℕ)) → texts ≡ text ∷ rest → Some entry ≡ entry_in text
    → count_in texts ≡ size_of entry + count_in rest
count_on text entry texts rest first is =
    ap count_in first ∙ sum_by-cons (λ t. size_in (entry_in t)) text rest ∙ ap (λ e. size_in e + count_in rest) (sym is)

-- the identifiers of an entry, added to those before it
pub walk_on : (old new text : List ℕ) (entry : Option Entry) (texts rest : List (List ℕ))
    → texts ≡ text ∷ rest → entry ≡ entry_in text → new ≡ added_all old (range_in entry)
    → added_all new (identifiers_in rest) ≡ added_all old (identifiers_in texts)
walk_on old new text entry texts rest first is adds =
    ap (λ (ts : List ℕ). added_all ts (identifiers_in rest)) (adds ∙ ap (λ e. added_all old (range_in e)) is)
    ∙ sym (added_all-append old (range_in (entry_in text)) (identifiers_in rest))
    ∙ ap (λ (ts : List (List ℕ)). added_all old (identifiers_in ts)) (sym first)

-- the same of what is kept: with what is to come it stays the whole
pub kept_walk_on : (old new : Option Kept) (text : List ℕ) (entry : Entry) (texts rest : List (List ℕ)) (whole : List ℕ)
    → texts ≡ text ∷ rest → Some entry ≡ entry_in text
    → IfSome new (λ n. MatchOption old ⊥ (λ o. identifiers_of n.runs.items ≡ added_all (identifiers_of o.runs.items) (range_in (Some entry))))
    → IfSome old (λ o. added_all (identifiers_of o.runs.items) (identifiers_in texts) ≡ whole)
    → IfSome new (λ n. added_all (identifiers_of n.runs.items) (identifiers_in rest) ≡ whole)
kept_walk_on old None text entry texts rest whole first is adds all = tt
kept_walk_on None (Some n) text entry texts rest whole first is adds all = absurd adds
kept_walk_on (Some o) (Some n) text entry texts rest whole first is adds all =
    walk_on (identifiers_of o.runs.items) (identifiers_of n.runs.items) text (Some entry) texts rest first is adds ∙ all

-- behind the end the walk knows of all texts whether one is bad, and their count up to what is too many
pub walked : (body list : List ℕ) (at count : ℕ) → list ≡ without_line_end body → 0 < length list → length list < at
    → bad_place at (texts_from at list) ≡ bad_place 0 (texts_from 0 list)
    → min (count + count_in (texts_from at list)) 4097 ≡ min (count_in (texts_from 0 list)) 4097
    → (bad_place 0 (texts_in body) ≡ None) × (min (count_in (texts_in body)) 4097 ≡ min (count + 0) 4097)
walked body list at count is some end bad counts =
    let all = texts_all body list is some in
    let past = from_past at list end in (
      ap (bad_place 0) all ∙ sym bad ∙ ap (bad_place at) past,
      ap (λ ts. min (count_in ts) 4097) all ∙ sym counts ∙ ap (λ ts. min (count + count_in ts) 4097) past,
    )
