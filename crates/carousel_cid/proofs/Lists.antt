-- A body and the list that it is: texts joined by commas, and an end of line.
use Rattle.std.proofs.Common.{◌≡◌, ℕ, zero, suc, ◌<◌, ◌==◌, Bool, true, false, ◌||◌, cond, List, [], ◌∷◌, ◌++◌, None, refl, sym}
use Rattle.std.proofs.Common.{ap, ◌∙◌, inl, inr, arith, length, All, get_or, append-nil, reverse}
use Rattle.std.specs.List.{list_all, slice_split, join_with_byte}
use Rattle.std.proofs.lemmas.Bool.{and_parts, eqb-true}
use Rattle.std.proofs.lemmas.Bool.Decides.{nat_tests}
use Rattle.std.proofs.lemmas.List.{reverse-reverse, reverse-append}
use Rattle.std.proofs.lemmas.List.Elements.{All-from_get_or}
use Rattle.std.proofs.lemmas.List.Folds.{list_all-append}
use Rattle.std.proofs.lemmas.List.Splits.{slice_split_at, slice_split_none, join_with_byte-slice_split}
use Rattle.meta_text.specs.Lines.{after_return}
use Rattle.meta_text.proofs.Public.{all_reversed}
use Rattle.carousel_cid.specs.declared.entry.Entry.{Entry}
use Rattle.carousel_cid.specs.IdentifierList.{comma, SpellEntries, IsLineEnd, SpellsList}
use Rattle.carousel_cid.specs.Listing.{is_comma, after_line_end, without_line_end, cut_at_commas, texts_in, bad_place}
use Rattle.carousel_cid.proofs.Joins.{join_some, not_empty}
use Rattle.carousel_cid.proofs.Spellings.{is_entry_byte, entries_from, entry_bytes}

-- ---- the end of line

-- in reverse: the end that is left out comes first
end_of : (bs : List ℕ) → (ending : List ℕ) × IsLineEnd (reverse ending) × (bs ≡ ending ++ after_line_end bs)
end_of [] = ([], inl refl, refl)
end_of (b ∷ bs) = by (b == 0x0A) refl
  where
    by_return : (cs : List ℕ) → (b ≡ 0x0A) → (ending : List ℕ) × IsLineEnd (reverse ending) × (b ∷ cs ≡ ending ++ after_return cs)
    by_return [] feed = (0x0A ∷ [], inr (inl refl), ap (λ x. x ∷ []) feed)
    by_return (r ∷ rs) feed = by_byte (r == 0x0D) refl
      where
        by_byte : (t : Bool) → (r == 0x0D) ≡ t → (ending : List ℕ) × IsLineEnd (reverse ending) × (b ∷ r ∷ rs ≡ ending ++ cond t rs (r ∷ rs))
        by_byte true is = (0x0A ∷ 0x0D ∷ [], inr (inr refl), ap (λ x. x ∷ r ∷ rs) feed ∙ ap (λ x. 0x0A ∷ x ∷ rs) (eqb-true r 0x0D is))
        by_byte false is = (0x0A ∷ [], inr (inl refl), ap (λ x. x ∷ r ∷ rs) feed)

    by : (t : Bool) → (b == 0x0A) ≡ t → (ending : List ℕ) × IsLineEnd (reverse ending) × (b ∷ bs ≡ ending ++ cond t (after_return bs) (b ∷ bs))
    by true is = by_return bs (eqb-true b 0x0A is)
    by false is = ([], inl refl, refl)

-- a body is what stands before its end of line, and that end
pub with_end : (body : List ℕ) → (ending : List ℕ) × IsLineEnd ending × (body ≡ without_line_end body ++ ending)
with_end body =
    let back = end_of (reverse body) in
    (reverse back.0, back.1, sym (reverse-reverse body) ∙ ap reverse back.2 ∙ reverse-append back.0 (after_line_end (reverse body)))

-- ---- the bytes of a list

abbrev is_list_byte : ℕ → Bool
is_list_byte b = is_entry_byte b || is_comma b

list_byte : (b : ℕ) → is_list_byte b ≡ true → ((b == 0x0A) ≡ false) × ((b == 0x0D) ≡ false)
list_byte b is = (grind (arith, nat_tests), grind (arith, nat_tests))

entry_byte : (b : ℕ) → is_entry_byte b ≡ true → (is_list_byte b ≡ true) × (is_comma b ≡ false)
entry_byte b is = (rw is refl, grind (arith, nat_tests))

entry_to_list : (bs : List ℕ) → list_all is_entry_byte bs ≡ true → list_all is_list_byte bs ≡ true
entry_to_list [] all = refl
entry_to_list (b ∷ bs) all =
    let both = and_parts (is_entry_byte b) (list_all is_entry_byte bs) all in
    rw ((entry_byte b both.0).0, entry_to_list bs both.1) refl

pub no_comma : (bs : List ℕ) → list_all is_entry_byte bs ≡ true → All (λ b. is_comma b ≡ false) bs
no_comma bs all = All-from_get_or (λ b. is_comma b ≡ false) bs 0 (at bs all)
  where
    at : (cs : List ℕ) → list_all is_entry_byte cs ≡ true → (i : ℕ) → i < length cs → is_comma (get_or cs i 0) ≡ false
    at [] all i less = absurd (omega arith)
    at (c ∷ cs) all zero less = (entry_byte c (and_parts (is_entry_byte c) (list_all is_entry_byte cs) all).0).1
    at (c ∷ cs) all (suc i) less = at cs (and_parts (is_entry_byte c) (list_all is_entry_byte cs) all).1 i (omega arith)

joined_bytes : (texts : List (List ℕ)) (entries : List Entry) → SpellEntries texts entries → list_all is_list_byte (join_with_byte comma texts) ≡ true
joined_bytes [] [] spelled = refl
joined_bytes [] (e ∷ es) spelled = absurd spelled
joined_bytes (t ∷ ts) [] spelled = absurd spelled
joined_bytes (t ∷ []) (e ∷ es) spelled = entry_to_list t (entry_bytes t e spelled.0).0
joined_bytes (t ∷ u ∷ ts) (e ∷ []) spelled = absurd spelled.1
joined_bytes (t ∷ u ∷ ts) (e ∷ f ∷ es) spelled =
    rw (
      list_all-append is_list_byte t (comma ∷ join_with_byte comma (u ∷ ts)),
      entry_to_list t (entry_bytes t e spelled.0).0,
      joined_bytes (u ∷ ts) (f ∷ es) spelled.1,
    ) refl

-- ---- what a list is read as

no_end : (bs : List ℕ) → list_all is_list_byte bs ≡ true → after_line_end bs ≡ bs
no_end [] all = refl
no_end (b ∷ bs) all = rw (list_byte b (and_parts (is_list_byte b) (list_all is_list_byte bs) all).0).0 refl

no_return : (bs : List ℕ) → list_all is_list_byte bs ≡ true → after_return bs ≡ bs
no_return [] all = refl
no_return (b ∷ bs) all = rw (list_byte b (and_parts (is_list_byte b) (list_all is_list_byte bs) all).0).1 refl

without_end : (list ending : List ℕ) → list_all is_list_byte list ≡ true → IsLineEnd ending → without_line_end (list ++ ending) ≡ list
without_end list ending all ends =
    let back = all_reversed is_list_byte list all in
    elim ends [
      | inl none ↦ ap (λ (e : List ℕ). without_line_end (list ++ e)) none
          ∙ ap without_line_end (append-nil list) ∙ ap reverse (no_end (reverse list) back) ∙ reverse-reverse list
      | inr some ↦ elim some [
        | inl feed ↦
            ap (λ (e : List ℕ). without_line_end (list ++ e)) feed ∙ ap (λ (bs : List ℕ). reverse (after_line_end bs)) (reverse-append list (0x0A ∷ []))
            ∙ ap reverse (no_return (reverse list) back) ∙ reverse-reverse list
        | inr both ↦
            ap (λ (e : List ℕ). without_line_end (list ++ e)) both ∙ ap (λ (bs : List ℕ). reverse (after_line_end bs)) (reverse-append list (0x0D ∷ 0x0A ∷ []))
            ∙ reverse-reverse list
      ]
    ]

split_joined : (t : List ℕ) (ts : List (List ℕ)) (entries : List Entry) → SpellEntries (t ∷ ts) entries → slice_split is_comma (join_with_byte comma (t ∷ ts)) ≡ t ∷ ts
split_joined t ts [] spelled = absurd spelled
split_joined t [] (e ∷ es) spelled = slice_split_none is_comma t (no_comma t (entry_bytes t e spelled.0).0)
split_joined t (u ∷ us) (e ∷ []) spelled = absurd spelled.1
split_joined t (u ∷ us) (e ∷ f ∷ es) spelled =
    slice_split_at is_comma t comma (join_with_byte comma (u ∷ us)) (no_comma t (entry_bytes t e spelled.0).0) refl
    ∙ ap (λ (vs : List (List ℕ)). t ∷ vs) (split_joined u us (f ∷ es) spelled.1)

cut_joined : (texts : List (List ℕ)) (entries : List Entry) → SpellEntries texts entries → cut_at_commas (join_with_byte comma texts) ≡ texts
cut_joined [] entries spelled = refl
cut_joined (t ∷ ts) [] spelled = absurd spelled
cut_joined (t ∷ ts) (e ∷ es) spelled =
    rw (not_empty (join_with_byte comma (t ∷ ts)) (join_some t ts (entry_bytes t e spelled.0).1)) (split_joined t ts (e ∷ es) spelled)

-- the texts of a body that spells a list
pub texts_spelled : (body : List ℕ) (entries : List Entry) (s : SpellsList body entries) → texts_in body ≡ s.texts
unfolding texts_in
texts_spelled body entries s =
    ap (λ (bs : List ℕ). cut_at_commas (without_line_end bs)) s.joined
    ∙ ap cut_at_commas (without_end (join_with_byte comma s.texts) s.ending (joined_bytes s.texts entries s.spelled) s.ends)
    ∙ cut_joined s.texts entries s.spelled

pub joined_cut : (list : List ℕ) → join_with_byte comma (cut_at_commas list) ≡ list
joined_cut [] = refl
joined_cut (b ∷ bs) = join_with_byte-slice_split comma (b ∷ bs)

-- a body without a bad entry spells a list
pub spells_list : (body : List ℕ) → bad_place 0 (texts_in body) ≡ None → (entries : List Entry) × (s : SpellsList body entries) × (s.texts ≡ texts_in body)
unfolding texts_in
spells_list body good =
    let read = entries_from 0 (cut_at_commas (without_line_end body)) good in
    let end = with_end body in (
      read.0,
      record {
        texts = cut_at_commas (without_line_end body);
        ending = end.0;
        spelled = read.1;
        ends = end.1;
        joined = end.2 ∙ ap (λ (bs : List ℕ). bs ++ end.0) (sym (joined_cut (without_line_end body)));
      },
      refl,
    )
