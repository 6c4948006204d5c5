-- A writer with a front of a text.
use Rattle.std.proofs.Common.{◌≡◌, ℕ, zero, suc, ◌<◌, List, [], ◌∷◌, ◌++◌, length, take, drop, map, get_or, refl, sym, ap, ◌∙◌, arith, append_assoc}
use Rattle.std.proofs.lemmas.List.{take_at, take-append-drop}
use Rattle.meta_text.specs.declared.span.Span.{Span}
use Rattle.meta_text.specs.Fields.{Pair, line_of, written}

-- what was added is a front of the text, whatever follows it there
pub front_added : (old done : List ℕ) (rest : List ℕ) (now text : List ℕ) → text ≡ done ++ rest → now ≡ old ++ done → (n : ℕ) × (now ≡ old ++ take n text)
front_added old done rest now text joined added =
    (length done, added ∙ ap (λ (bs : List ℕ). old ++ bs) (sym (ap (take (length done)) joined ∙ take_at done rest (length done) refl)))

-- the text of the pairs at spans, by those before one of them
written_at : (pair : Span → Pair) (spans : List Span) (i : ℕ) (d : Span) → i < length spans
    → written (map pair spans) ≡ written (map pair (take i spans)) ++ (line_of (pair (get_or spans i d)) ++ written (map pair (drop (suc i) spans)))
written_at pair [] i d less = absurd (omega arith)
written_at pair (span ∷ spans) zero d less = refl
written_at pair (span ∷ spans) (suc i) d less =
    ap (λ (bs : List ℕ). line_of (pair span) ++ bs) (written_at pair spans i d (omega arith))
    ∙ sym (append_assoc (line_of (pair span)) (written (map pair (take i spans))) _)

-- a front of one line, behind the lines before it, is a front of the text
pub front_of_line : (pair : Span → Pair) (spans : List Span) (i : ℕ) (d : Span) (old before now : List ℕ) (n : ℕ) → i < length spans
    → before ≡ old ++ written (map pair (take i spans)) → now ≡ before ++ take n (line_of (pair (get_or spans i d)))
    → (m : ℕ) × (now ≡ old ++ take m (written (map pair spans)))
front_of_line pair spans i d old before now n less lines front =
    let line = line_of (pair (get_or spans i d)) in
    let done = written (map pair (take i spans)) ++ take n line in
    let rest = drop n line ++ written (map pair (drop (suc i) spans)) in
    let whole : written (map pair spans) ≡ done ++ rest =
    written_at pair spans i d less
    ∙ ap (λ (bs : List ℕ). written (map pair (take i spans)) ++ (bs ++ written (map pair (drop (suc i) spans)))) (sym (take-append-drop n line))
    ∙ simp append_assoc in
    front_added old done rest now (written (map pair spans)) whole
    (front ∙ ap (λ (bs : List ℕ). bs ++ take n line) lines ∙ append_assoc old (written (map pair (take i spans))) (take n line))
