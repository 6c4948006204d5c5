-- Where a list is bad, and when it is too long.
use Rattle.std.proofs.Common.{◌≡◌, ◌≢◌, ℕ, ◌+◌, ◌<◌, ◌≤◌, ◌==◌, Bool, true, false, cond, List, [], ◌∷◌, ◌++◌, Option, Some, None, refl, sym, ap, subst, ◌∙◌, inl, inr, arith, All}
use Rattle.std.proofs.Common.{length, length-append, append-nil, ltb, take, reverse}
use Rattle.std.specs.Prelude.{option_map}
use Rattle.std.specs.List.{flat_map, join_with_byte, list_any, slice_split, onto_first, AllByRecursion}
use Rattle.std.proofs.lemmas.List.{length-reverse, reverse-append, take_at}
use Rattle.std.proofs.lemmas.List.Elements.{All-from_get_or}
use Rattle.std.proofs.lemmas.List.Splits.{slice_split_at, slice_split_none, slice_split-cons_yes, slice_split-cons_no}
use Rattle.meta_text.specs.Lines.{after_return}
use Rattle.std.proofs.lemmas.Bool.{ltb-true}
use Rattle.wire_bytes.specs.FirstFault.{fault_when, first_fault}
use Rattle.carousel_cid.specs.declared.entry.Entry.{Entry}
use Rattle.carousel_cid.specs.declared.kind.Cause.TheVariants.{BadList, ListTooLong}
use Rattle.carousel_cid.specs.IdentifierList.{comma, SpellsEntry, SpellEntries, IsLineEnd, SpellsList, count_of}
use Rattle.carousel_cid.specs.BadEntry.{with_comma, EndsIn, StartsBad}
use Rattle.carousel_cid.specs.Causes.{list_fault}
use Rattle.carousel_cid.specs.Listing.{is_comma, after_line_end, without_line_end, cut_at_commas, texts_in, entry_in, bad_after, bad_place, count_in}
use Rattle.carousel_cid.proofs.Causes.{list_bad, list_long}
use Rattle.carousel_cid.proofs.Spellings.{entry_from, entry_to, entry_bytes, entries_good, entries_count}
use Rattle.carousel_cid.proofs.Texts.{none_passes}
use Rattle.carousel_cid.proofs.Lists.{no_comma, with_end, joined_cut, spells_list, texts_spelled}

-- what a bad place says of texts that start there
record SplitsAt (at0 : ℕ) (texts : List (List ℕ)) (at : ℕ) : Type 0 where
  before : List (List ℕ)
  bad : List ℕ
  after : List (List ℕ)
  entries : List Entry
  joined : texts ≡ before ++ bad ∷ after
  spelled : SpellEntries before entries
  none : entry_in bad ≡ None
  place : at ≡ at0 + length (flat_map with_comma before)

splits_at : (at0 : ℕ) (texts : List (List ℕ)) (at : ℕ) → bad_place at0 texts ≡ Some at → SplitsAt at0 texts at
splits_at at0 [] at is = absurd (let other : None ≡ Some at = is in cc)
splits_at at0 (text ∷ texts) at is = by (entry_in text) refl (splits_at (at0 + length text + 1) texts at) is
  where
    by : (o : Option Entry) → entry_in text ≡ o → (bad_place (at0 + length text + 1) texts ≡ Some at → SplitsAt (at0 + length text + 1) texts at)
        → bad_after at0 o (bad_place (at0 + length text + 1) texts) ≡ Some at → SplitsAt at0 (text ∷ texts) at
    by None unread later e =
        let here : at0 ≡ at = cc in
        record { before = []; bad = text; after = texts; entries = []; joined = refl; spelled = tt; none = unread; place = omega (arith, here) }
    by (Some entry) reads later e =
        let rest = later e in
        record {
          before = text ∷ rest.before;
          bad = rest.bad;
          after = rest.after;
          entries = entry ∷ rest.entries;
          joined = ap (λ (ts : List (List ℕ)). text ∷ ts) rest.joined;
          spelled = (entry_from text entry reads, rest.spelled);
          none = rest.none;
          place = omega (arith, rest.place, length-append (with_comma text) (flat_map with_comma rest.before), length-append text (comma ∷ []));
        }

bad_told : (o : Option ℕ) (long : Bool) (at : ℕ) → first_fault (option_map BadList o ∷ fault_when long ListTooLong ∷ []) ≡ Some (BadList at) → o ≡ Some at
bad_told (Some place) long at is = ap (λ k. Some k) (let same : place ≡ at = cc in same)
bad_told None true at is = cc
bad_told None false at is = cc

long_told : (o : Option ℕ) (long : Bool) → first_fault (option_map BadList o ∷ fault_when long ListTooLong ∷ []) ≡ Some ListTooLong → (o ≡ None) × (long ≡ true)
long_told (Some place) long is = cc
long_told None true is = (refl, refl)
long_told None false is = cc

-- ---- the end of line that is left out is the longest

after_return_le : (bs : List ℕ) → length (after_return bs) ≤ length bs
after_return_le [] = omega arith
after_return_le (b ∷ bs) = by (b == 0x0D)
  where
    by : (t : Bool) → length (cond t bs (b ∷ bs)) ≤ length (b ∷ bs)
    by true = omega arith
    by false = omega arith

after_line_end_le : (bs : List ℕ) → length (after_line_end bs) ≤ length bs
after_line_end_le [] = omega arith
after_line_end_le (b ∷ bs) = by (b == 0x0A)
  where
    by : (t : Bool) → length (cond t (after_return bs) (b ∷ bs)) ≤ length (b ∷ bs)
    by true = omega (arith, after_return_le bs)
    by false = omega arith

left_le : (front back : List ℕ) → IsLineEnd back → length (without_line_end (front ++ back)) ≤ length front
left_le front back ends = omega (arith, length-reverse (after_line_end (reverse (front ++ back))), stripped)
  where
    stripped : length (after_line_end (reverse (front ++ back))) ≤ length front
    stripped = elim ends [
      | inl none ↦ rw none (rw (append-nil front) (omega (arith, after_line_end_le (reverse front), length-reverse front)))
      | inr some ↦ elim some [
        | inl feed ↦ rw feed (rw (reverse-append front (0x0A ∷ [])) (omega (arith, after_return_le (reverse front), length-reverse front)))
        | inr both ↦ rw both (rw (reverse-append front (0x0D ∷ 0x0A ∷ [])) (omega (arith, length-reverse front)))
      ]
    ]

ends_in : (body : List ℕ) → EndsIn body (without_line_end body) (with_end body).0
ends_in body =
    let end = with_end body in
    record {
      joined = end.2;
      is = end.1;
      longest = λ front back joined is.
          let left = subst (λ (bs : List ℕ). length (without_line_end bs) ≤ length front) (sym joined) (left_le front back is) in
          omega (arith, left, ap length end.2, length-append (without_line_end body) end.0, ap length joined, length-append front back);
    }

-- so the list before it is what is left without it
list_is : (body list ending : List ℕ) → EndsIn body list ending → list ≡ without_line_end body
list_is body list ending ends =
    let own = ends_in body in
    let there = ends.longest (without_line_end body) (with_end body).0 own.joined own.is in
    let here = own.longest list ending ends.joined ends.is in
    let same : length list ≡ length (without_line_end body) =
    omega (arith, there, here, ap length ends.joined, ap length own.joined, length-append list ending, length-append (without_line_end body) (with_end body).0) in
    sym (take_at list ending (length list) refl) ∙ ap (take (length list)) (sym ends.joined ∙ own.joined)
    ∙ take_at (without_line_end body) (with_end body).0 (length list) (sym same)

-- ---- the parts between commas

abbrev IsPart : List ℕ → Type 0
IsPart text = list_any is_comma text ≡ false

onto_parts : (b : ℕ) (parts : List (List ℕ)) → is_comma b ≡ false → AllByRecursion IsPart parts → AllByRecursion IsPart (onto_first b parts)
onto_parts b [] other all = (rw other refl, tt)
onto_parts b (part ∷ parts) other all = (rw other all.0, all.1)

split_parts : (list : List ℕ) → AllByRecursion IsPart (slice_split is_comma list)
split_parts [] = (refl, tt)
split_parts (b ∷ bs) = by (is_comma b) refl (split_parts bs)
  where
    by : (t : Bool) → is_comma b ≡ t → AllByRecursion IsPart (slice_split is_comma bs) → AllByRecursion IsPart (slice_split is_comma (b ∷ bs))
    by true is rest = subst (AllByRecursion IsPart) (sym (slice_split-cons_yes is_comma b bs is)) (refl, rest)
    by false is rest = subst (AllByRecursion IsPart) (sym (slice_split-cons_no is_comma b bs is)) (onto_parts b (slice_split is_comma bs) is rest)

cut_parts : (list : List ℕ) → AllByRecursion IsPart (cut_at_commas list)
cut_parts [] = tt
cut_parts (b ∷ bs) = split_parts (b ∷ bs)

part_at : (before : List (List ℕ)) (bad : List ℕ) (after : List (List ℕ)) → AllByRecursion IsPart (before ++ bad ∷ after) → IsPart bad
part_at [] bad after all = all.0
part_at (t ∷ ts) bad after all = part_at ts bad after all.1

all_free : (text : List ℕ) → IsPart text → All (λ b. is_comma b ≡ false) text
all_free text none = All-from_get_or (λ b. is_comma b ≡ false) text 0 (none_passes is_comma text 0 none)

cut_some : (list : List ℕ) → list ≢ [] → cut_at_commas list ≡ slice_split is_comma list
cut_some [] some = absurd (some refl)
cut_some (b ∷ bs) some = refl

-- ---- a list that starts bad is told

cut_before : (before : List (List ℕ)) (entries : List Entry) (bad : List ℕ) (after : List (List ℕ)) → SpellEntries before entries
    → All (λ b. is_comma b ≡ false) bad
    → (rest : List (List ℕ)) × (slice_split is_comma (join_with_byte comma (before ++ bad ∷ after)) ≡ before ++ bad ∷ rest)
cut_before [] entries bad [] spelled whole = ([], slice_split_none is_comma bad whole)
cut_before [] entries bad (a ∷ after) spelled whole =
    (slice_split is_comma (join_with_byte comma (a ∷ after)), slice_split_at is_comma bad comma (join_with_byte comma (a ∷ after)) whole refl)
cut_before (t ∷ ts) [] bad after spelled whole = absurd spelled
cut_before (t ∷ []) (e ∷ es) bad after spelled whole =
    let rest = cut_before [] es bad after spelled.1 whole in (
      rest.0,
      slice_split_at is_comma t comma (join_with_byte comma (bad ∷ after)) (no_comma t (entry_bytes t e spelled.0).0) refl
          ∙ ap (λ (vs : List (List ℕ)). t ∷ vs) rest.1,
    )
cut_before (t ∷ u ∷ us) (e ∷ es) bad after spelled whole =
    let rest = cut_before (u ∷ us) es bad after spelled.1 whole in (
      rest.0,
      slice_split_at is_comma t comma (join_with_byte comma (u ∷ (us ++ bad ∷ after))) (no_comma t (entry_bytes t e spelled.0).0) refl
          ∙ ap (λ (vs : List (List ℕ)). t ∷ vs) rest.1,
    )

bad_place_at : (at0 : ℕ) (before : List (List ℕ)) (entries : List Entry) (bad : List ℕ) (rest : List (List ℕ)) → SpellEntries before entries
    → entry_in bad ≡ None → bad_place at0 (before ++ bad ∷ rest) ≡ Some (at0 + length (flat_map with_comma before))
bad_place_at at0 [] entries bad rest spelled none = ap (λ o. bad_after at0 o (bad_place (at0 + length bad + 1) rest)) none ∙ ap (λ k. Some k) (omega arith)
bad_place_at at0 (t ∷ ts) [] bad rest spelled none = absurd spelled
bad_place_at at0 (t ∷ ts) (e ∷ es) bad rest spelled none =
    ap (λ o. bad_after at0 o (bad_place (at0 + length t + 1) (ts ++ bad ∷ rest))) (entry_to t e spelled.0)
    ∙ bad_place_at (at0 + length t + 1) ts es bad rest spelled.1 none
    ∙ ap (λ k. Some k) (omega (arith, length-append (with_comma t) (flat_map with_comma ts), length-append t (comma ∷ [])))

unread : (bad : List ℕ) → ((entry : Entry) → ¬ SpellsEntry bad entry) → entry_in bad ≡ None
unread bad none = by (entry_in bad) refl
  where
    by : (o : Option Entry) → entry_in bad ≡ o → o ≡ None
    by None e = refl
    by (Some entry) e = absurd (none entry (entry_from bad entry e))

pub told_bad : (body : List ℕ) (at : ℕ) → StartsBad body at → list_fault body ≡ Some (BadList at)
unfolding texts_in
told_bad body at s =
    let cut = cut_before s.before s.entries s.bad s.after s.spelled (all_free s.bad s.whole) in
    let list : s.list ≡ without_line_end body = list_is body s.list s.ending s.ends in
    let texts : texts_in body ≡ s.before ++ s.bad ∷ cut.0 =
    ap cut_at_commas (sym list) ∙ cut_some s.list s.some ∙ ap (slice_split is_comma) s.joined ∙ cut.1 in
    list_bad body at (ap (bad_place 0) texts ∙ bad_place_at 0 s.before s.entries s.bad cut.0 s.spelled (unread s.bad s.none)
    ∙ ap (λ k. Some k) (omega (arith, s.place)))

-- ---- and a list that is told as bad starts so

pub starts_bad : (body : List ℕ) (at : ℕ) → list_fault body ≡ Some (BadList at) → StartsBad body at
unfolding list_fault texts_in
starts_bad body at is =
    let list = without_line_end body in
    let place = bad_told (bad_place 0 (cut_at_commas list)) (ltb 4096 (count_in (cut_at_commas list))) at is in
    let split = splits_at 0 (cut_at_commas list) at place in
    record {
      list = list;
      ending = (with_end body).0;
      ends = ends_in body;
      some = λ nothing. let none : None ≡ Some at = ap (λ (ys : List ℕ). bad_place 0 (cut_at_commas ys)) (sym nothing) ∙ place in cc;
      before = split.before;
      bad = split.bad;
      after = split.after;
      joined = sym (joined_cut list) ∙ ap (join_with_byte comma) split.joined;
      entries = split.entries;
      spelled = split.spelled;
      whole = part_at split.before split.bad split.after (subst (AllByRecursion IsPart) split.joined (cut_parts list));
      none = λ entry spells. let read = entry_to split.bad entry spells in let unread = split.none in cc;
      place = omega (arith, split.place);
    }

-- ---- a body is spelled by no list exactly where it starts bad at some place

pub no_list_bad : (body : List ℕ) (at : ℕ) (entries : List Entry) → StartsBad body at → ¬ SpellsList body entries
unfolding list_fault
no_list_bad body at entries s list =
    let texts = texts_spelled body entries list in
    let good : bad_place 0 (texts_in body) ≡ None = ap (bad_place 0) texts ∙ entries_good 0 list.texts entries list.spelled in
    let bad = bad_told (bad_place 0 (texts_in body)) (ltb 4096 (count_in (texts_in body))) at (told_bad body at s) in
    let other : None ≡ Some at = sym good ∙ bad in
    cc

pub bad_without_list : (body : List ℕ) → ((entries : List Entry) → ¬ SpellsList body entries) → (at : ℕ) × StartsBad body at
bad_without_list body none = by (bad_place 0 (texts_in body)) refl
  where
    by : (o : Option ℕ) → bad_place 0 (texts_in body) ≡ o → (at : ℕ) × StartsBad body at
    by None good = let list = spells_list body good in absurd (none list.0 list.1)
    by (Some at) bad = (at, starts_bad body at (list_bad body at bad))

pub too_long : (body : List ℕ) → list_fault body ≡ Some ListTooLong → (entries : List Entry) × SpellsList body entries × (4096 < count_of entries)
unfolding list_fault
too_long body is =
    let told = long_told (bad_place 0 (texts_in body)) (ltb 4096 (count_in (texts_in body))) is in
    let list = spells_list body told.0 in
    let count : count_of list.0 ≡ count_in (texts_in body) = sym (entries_count list.1.texts list.0 list.1.spelled) ∙ ap count_in list.2 in
    (list.0, list.1, omega (arith, count, ltb-true 4096 (count_in (texts_in body)) told.1))

pub told_long : (body : List ℕ) (entries : List Entry) → SpellsList body entries → 4096 < count_of entries → list_fault body ≡ Some ListTooLong
told_long body entries s long =
    let texts = texts_spelled body entries s in
    list_long body (ap (bad_place 0) texts ∙ entries_good 0 s.texts entries s.spelled) (omega (arith, ap count_in texts, entries_count s.texts entries s.spelled))
