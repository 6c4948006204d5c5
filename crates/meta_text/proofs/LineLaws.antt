-- The lines of a text make it up again, and so do a trimmed text and its blanks.
use Rattle.std.proofs.Common.{◌≡◌, ℕ, Bool, true, false, cond, List, [], ◌∷◌, ◌++◌, ◌⊎◌, inl, inr, length, length-append, reverse, refl, sym, ap, ◌∙◌, arith}
use Rattle.std.specs.List.{list_all, list_any, flat_map, AllByRecursion}
use Rattle.std.proofs.lemmas.Bool.{eqb-true, and_parts}
use Rattle.std.proofs.lemmas.List.{reverse-append, reverse-reverse}
use Rattle.std.proofs.lemmas.List.Folds.{list_all-append}
use Rattle.meta_text.specs.Text.{is_blank, without_leading, without_trailing, trimmed}
use Rattle.meta_text.specs.Lines.{is_line_feed, begin_with, cut, with_feed}

-- ---- no line has a line feed

begin_without : (b : ℕ) (lines : List (List ℕ)) → is_line_feed b ≡ false → AllByRecursion (λ line. list_any is_line_feed line ≡ false) lines
    → AllByRecursion (λ line. list_any is_line_feed line ≡ false) (begin_with b lines)
begin_without b [] other none = (rw other refl, tt)
begin_without b (line ∷ lines) other none = (rw other none.0, none.1)

pub no_feed : (text : List ℕ) → AllByRecursion (λ line. list_any is_line_feed line ≡ false) (cut text)
no_feed [] = tt
no_feed (b ∷ bs) = by (is_line_feed b) refl (no_feed bs)
  where
    by : (t : Bool) → is_line_feed b ≡ t → AllByRecursion (λ line. list_any is_line_feed line ≡ false) (cut bs)
        → AllByRecursion (λ line. list_any is_line_feed line ≡ false) (cond t ([] ∷ cut bs) (begin_with b (cut bs)))
    by true is rest = (refl, rest)
    by false is rest = begin_without b (cut bs) is rest

-- ---- with a line feed behind each they are the text, or the text and a line feed

abbrev Joins : List (List ℕ) → List ℕ → Type 0
Joins lines text = (flat_map with_feed lines ≡ text) ⊎ (flat_map with_feed lines ≡ text ++ 0x0A ∷ [])

begin_joins : (b : ℕ) (bs : List ℕ) (lines : List (List ℕ)) → Joins lines bs → Joins (begin_with b lines) (b ∷ bs)
begin_joins b bs [] joins = elim joins [
  | inl e ↦ inr (ap (λ (ys : List ℕ). b ∷ (ys ++ 0x0A ∷ [])) e)
  | inr e ↦ absurd (omega (arith, ap length e, length-append bs (0x0A ∷ [])))
]
begin_joins b bs (line ∷ lines) joins = elim joins [
  | inl e ↦ inl (ap (λ (ys : List ℕ). b ∷ ys) e)
  | inr e ↦ inr (ap (λ (ys : List ℕ). b ∷ ys) e)
]

pub lines_join : (text : List ℕ) → Joins (cut text) text
lines_join [] = inl refl
lines_join (b ∷ bs) = by (is_line_feed b) refl (lines_join bs)
  where
    by : (t : Bool) → is_line_feed b ≡ t → Joins (cut bs) bs → Joins (cond t ([] ∷ cut bs) (begin_with b (cut bs))) (b ∷ bs)
    by true is rest = elim rest [
      | inl e ↦ inl (ap (λ (ys : List ℕ). 0x0A ∷ ys) e ∙ ap (λ x. x ∷ bs) (sym (eqb-true b 0x0A is)))
      | inr e ↦ inr (ap (λ (ys : List ℕ). 0x0A ∷ ys) e ∙ ap (λ x. x ∷ (bs ++ 0x0A ∷ [])) (sym (eqb-true b 0x0A is)))
    ]
    by false is rest = begin_joins b bs (cut bs) rest

-- ---- a text is blanks, what is left of it without them, and blanks

blanks_front : (text : List ℕ) → (blanks : List ℕ) × (list_all is_blank blanks ≡ true) × (text ≡ blanks ++ without_leading text)
blanks_front [] = ([], refl, refl)
blanks_front (b ∷ bs) = by (is_blank b) refl (blanks_front bs)
  where
    by : (t : Bool) → is_blank b ≡ t → (blanks : List ℕ) × (list_all is_blank blanks ≡ true) × (bs ≡ blanks ++ without_leading bs)
        → (blanks : List ℕ) × (list_all is_blank blanks ≡ true) × (b ∷ bs ≡ blanks ++ cond t (without_leading bs) (b ∷ bs))
    by true is rest = (b ∷ rest.0, rw is rest.1, ap (λ (ys : List ℕ). b ∷ ys) rest.2)
    by false is rest = ([], refl, refl)

-- what each passes, each passes in reverse
pub all_reversed : (p : ℕ → Bool) (xs : List ℕ) → list_all p xs ≡ true → list_all p (reverse xs) ≡ true
all_reversed p [] all = refl
all_reversed p (x ∷ xs) all =
    let both = and_parts (p x) (list_all p xs) all in
    rw (reverse-append (x ∷ []) xs, list_all-append p (reverse xs) (x ∷ []), all_reversed p xs both.1, both.0) refl

blanks_back : (text : List ℕ) → (blanks : List ℕ) × (list_all is_blank blanks ≡ true) × (text ≡ without_trailing text ++ blanks)
blanks_back text =
    let front = blanks_front (reverse text) in
    (reverse front.0, all_reversed is_blank front.0 front.1, sym (reverse-reverse text) ∙ ap reverse front.2 ∙ reverse-append front.0 (without_leading (reverse text)))

pub trimmed_between : (text : List ℕ) → (before : List ℕ) × (after : List ℕ) × (list_all is_blank before ≡ true)
    × (list_all is_blank after ≡ true) × (text ≡ before ++ (trimmed text ++ after))
trimmed_between text =
    let front = blanks_front text in
    let back = blanks_back (without_leading text) in
    (front.0, back.0, front.1, back.1, front.2 ∙ ap (λ (ys : List ℕ). front.0 ++ ys) back.2)
