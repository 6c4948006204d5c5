-- Blanks at the ends of a text.
use Rattle.std.proofs.Common.{◌≡◌, ◌≢◌, ◌↔◌, ℕ, ◌≤◌, Bool, true, false, cond, eqb, List, [], ◌∷◌, ◌++◌, length, reverse, refl, sym, ap, ◌∙◌, append-nil, arith}
use Rattle.std.proofs.lemmas.List.{reverse-append, reverse-reverse, length-reverse}
use Rattle.std.proofs.lemmas.Bool.{eqb-true, eq-eqb}
use Rattle.std.specs.List.{list_all}
use Rattle.std.proofs.lemmas.Bool.{and_parts}
use Rattle.meta_text.specs.Text.{is_blank, without_leading, without_trailing, trimmed, is_clean, IsValue}
use Rattle.meta_text.proofs.LineLaws.{all_reversed}

lead_again : (xs : List ℕ) → without_leading (without_leading xs) ≡ without_leading xs
lead_again [] = refl
lead_again (b ∷ bs) = by (is_blank b) refl (lead_again bs)
  where
    by : (t : Bool) → is_blank b ≡ t → without_leading (without_leading bs) ≡ without_leading bs
        → without_leading (cond t (without_leading bs) (b ∷ bs)) ≡ cond t (without_leading bs) (b ∷ bs)
    by true e before = before
    by false e before = ap (λ t. cond t (without_leading bs) (b ∷ bs)) e

trail_again : (xs : List ℕ) → without_trailing (without_trailing xs) ≡ without_trailing xs
trail_again xs = ap (λ (ys : List ℕ). reverse (without_leading ys)) (reverse-reverse (without_leading (reverse xs))) ∙ ap reverse (lead_again (reverse xs))

lead_push : (xs : List ℕ) (b : ℕ) → is_blank b ≡ false → without_leading (xs ++ b ∷ []) ≡ without_leading xs ++ b ∷ []
lead_push [] b e = ap (λ t. cond t [] (b ∷ [])) e
lead_push (a ∷ xs) b e = by (is_blank a) (lead_push xs b e)
  where
    by : (t : Bool) → without_leading (xs ++ b ∷ []) ≡ without_leading xs ++ b ∷ []
        → cond t (without_leading (xs ++ b ∷ [])) (a ∷ (xs ++ b ∷ [])) ≡ cond t (without_leading xs) (a ∷ xs) ++ b ∷ []
    by true before = before
    by false before = refl

trail_cons : (b : ℕ) (bs : List ℕ) → is_blank b ≡ false → without_trailing (b ∷ bs) ≡ b ∷ without_trailing bs
trail_cons b bs e =
    let turned : reverse (b ∷ bs) ≡ reverse bs ++ b ∷ [] = reverse-append (b ∷ []) bs in
    let back : reverse (without_leading (reverse bs) ++ b ∷ []) ≡ b ∷ without_trailing bs = reverse-append (without_leading (reverse bs)) (b ∷ []) in
    ap (λ (ys : List ℕ). reverse (without_leading ys)) turned ∙ ap reverse (lead_push (reverse bs) b e) ∙ back

-- taking away the trailing blanks leaves no new leading one
lead_of_trimmed : (xs : List ℕ) → without_leading (trimmed xs) ≡ trimmed xs
lead_of_trimmed [] = refl
lead_of_trimmed (b ∷ bs) = by (is_blank b) refl (lead_of_trimmed bs)
  where
    by : (t : Bool) → is_blank b ≡ t → without_leading (trimmed bs) ≡ trimmed bs
        → without_leading (without_trailing (cond t (without_leading bs) (b ∷ bs))) ≡ without_trailing (cond t (without_leading bs) (b ∷ bs))
    by true e before = before
    by false e before =
        let c = trail_cons b bs e in
        ap without_leading c ∙ ap (λ t. cond t (without_leading (without_trailing bs)) (b ∷ without_trailing bs)) e ∙ sym c

-- what is trimmed is trimmed
pub trimmed_again : (xs : List ℕ) → trimmed (trimmed xs) ≡ trimmed xs
trimmed_again xs = ap without_trailing (lead_of_trimmed xs) ∙ trail_again (without_leading xs)

lead_le : (xs : List ℕ) → length (without_leading xs) ≤ length xs
lead_le [] = omega arith
lead_le (b ∷ bs) = by (is_blank b) (lead_le bs)
  where
    by : (t : Bool) → length (without_leading bs) ≤ length bs → length (cond t (without_leading bs) (b ∷ bs)) ≤ length (b ∷ bs)
    by true before = omega arith
    by false before = omega arith

lead_same : (xs : List ℕ) → length (without_leading xs) ≡ length xs → without_leading xs ≡ xs
lead_same [] e = refl
lead_same (b ∷ bs) e = by (is_blank b) e
  where
    by : (t : Bool) → length (cond t (without_leading bs) (b ∷ bs)) ≡ length (b ∷ bs) → cond t (without_leading bs) (b ∷ bs) ≡ b ∷ bs
    by true e = absurd (omega (arith, lead_le bs))
    by false e = refl

trail_le : (xs : List ℕ) → length (without_trailing xs) ≤ length xs
trail_le xs = omega (arith, length-reverse (without_leading (reverse xs)), length-reverse xs, lead_le (reverse xs))

trail_same : (xs : List ℕ) → length (without_trailing xs) ≡ length xs → without_trailing xs ≡ xs
trail_same xs e =
    let whole : without_leading (reverse xs) ≡ reverse xs = lead_same (reverse xs) (omega (arith, length-reverse (without_leading (reverse xs)), length-reverse xs)) in
    ap reverse whole ∙ reverse-reverse xs

-- a text that keeps its length is trimmed
pub trimmed_same : (xs : List ℕ) → length (trimmed xs) ≡ length xs → trimmed xs ≡ xs
trimmed_same xs e =
    let front : without_leading xs ≡ xs = lead_same xs (omega (arith, trail_le (without_leading xs), lead_le xs)) in
    let back : without_trailing (without_leading xs) ≡ without_leading xs = trail_same (without_leading xs) (omega (arith, trail_le (without_leading xs), lead_le xs)) in
    back ∙ front

-- a clean text that was trimmed is a value
pub IsValue-trimmed : (value text xs : List ℕ) → value ≡ text → text ≡ trimmed xs → is_clean text ≡ true → IsValue value
IsValue-trimmed value text xs same trim clean =
    let is : value ≡ trimmed xs = same ∙ trim in
    record { clean = ap is_clean same ∙ clean; ends = ap trimmed is ∙ trimmed_again xs ∙ sym is }

-- the length tells whether a clean text is a value
pub IsValue-by_length : (text front : List ℕ) → front ≡ trimmed text → is_clean text ≡ true → (eqb (length front) (length text) ≡ true) ↔ IsValue text
IsValue-by_length text front trim clean = (
  λ same. record { clean = clean; ends = trimmed_same text (ap length (sym trim) ∙ eqb-true (length front) (length text) same) },
  λ value. eq-eqb (length front) (length text) (ap length (trim ∙ value.ends)),
)

-- ---- a text with blanks at its ends

lead_blanks : (blanks xs : List ℕ) → list_all is_blank blanks ≡ true → without_leading (blanks ++ xs) ≡ without_leading xs
lead_blanks [] xs all = refl
lead_blanks (b ∷ bs) xs all =
    let both = and_parts (is_blank b) (list_all is_blank bs) all in
    rw both.0 (lead_blanks bs xs both.1)

trail_blanks : (xs blanks : List ℕ) → list_all is_blank blanks ≡ true → without_trailing (xs ++ blanks) ≡ without_trailing xs
trail_blanks xs blanks all =
    ap (λ (ys : List ℕ). reverse (without_leading ys)) (reverse-append xs blanks)
    ∙ ap reverse (lead_blanks (reverse blanks) (reverse xs) (all_reversed is_blank blanks all))

-- a text that is trimmed begins with no blank, whatever follows it
lead_kept : (xs rest : List ℕ) → without_leading xs ≡ xs → length xs ≢ 0 → without_leading (xs ++ rest) ≡ xs ++ rest
lead_kept [] rest same some = absurd (some refl)
lead_kept (b ∷ bs) rest same some = by (is_blank b) same
  where
    by : (t : Bool) → cond t (without_leading bs) (b ∷ bs) ≡ b ∷ bs → cond t (without_leading (bs ++ rest)) (b ∷ (bs ++ rest)) ≡ b ∷ (bs ++ rest)
    by true e = absurd (omega (arith, lead_le bs, ap length e))
    by false e = refl

pub trimmed_between_blanks : (before xs after : List ℕ) → list_all is_blank before ≡ true → list_all is_blank after ≡ true
    → trimmed xs ≡ xs → trimmed (before ++ (xs ++ after)) ≡ xs
trimmed_between_blanks before [] after all_before all_after same =
    ap without_trailing (lead_blanks before after all_before) ∙ ap (λ (ys : List ℕ). without_trailing (without_leading ys)) (sym (append-nil after))
    ∙ ap without_trailing (lead_blanks after [] all_after)
trimmed_between_blanks before (b ∷ bs) after all_before all_after same =
    let xs = b ∷ bs in
    let front : without_leading xs ≡ xs = ap without_leading (sym same) ∙ lead_of_trimmed xs ∙ same in
    ap without_trailing (lead_blanks before (xs ++ after) all_before ∙ lead_kept xs after front (λ none. cc))
    ∙ trail_blanks xs after all_after ∙ ap without_trailing (sym front) ∙ same
