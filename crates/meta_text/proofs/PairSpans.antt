-- Pairs at spans of a text that grows.
use Rattle.std.proofs.Common.{◌≡◌, ℕ, ◌+◌, ◌-◌, ◌≤◌, List, [], ◌∷◌, ◌++◌, length, length-append, take, drop, refl, sym, ap, subst, ◌∙◌, arith}
use Rattle.std.specs.List.{AllByRecursion}
use Rattle.std.proofs.lemmas.List.{take-append-le, drop-append-le, length-drop, map_push}
use Rattle.std.proofs.Math.Seq.{take-append_seam, drop-append_seam, drop-append-add, take-length}
use Rattle.meta_text.specs.declared.span.Span.{Span}
use Rattle.meta_text.specs.Text.{IsName, IsValue}
use Rattle.meta_text.specs.Fields.{ArePairs}
use Rattle.meta_text.specs.Inner.Spans.{name_at, value_at, pair_at, pairs_at, IsSpan, AreSpans, Extends}

-- the part of a text stays where it is
part_grows : (text more : List ℕ) (start end : ℕ) → start ≤ end → end ≤ length text
    → take (end - start) (drop start (text ++ more)) ≡ take (end - start) (drop start text)
part_grows text more start end order within =
    ap (take (end - start)) (drop-append-le start text more (omega arith))
    ∙ take-append-le (end - start) (drop start text) more (omega (arith, length-drop start text))

span_grows : (text more : List ℕ) (span : Span) → IsSpan text span → IsSpan (text ++ more) span
span_grows text more span is = record {
  order = is.order;
  back = is.back;
  within = omega (arith, is.within, length-append text more);
  name = subst IsName (sym (part_grows text more span.start span.middle is.order (omega (arith, is.back, is.within)))) is.name;
  value = subst IsValue (sym (part_grows text more span.middle span.end is.back is.within)) is.value;
}

pub spans_grow : (text more : List ℕ) (spans : List Span) → AreSpans text spans → AreSpans (text ++ more) spans
spans_grow text more [] are = tt
spans_grow text more (p ∷ ps) are = (span_grows text more p are.0, spans_grow text more ps are.1)

pub pairs_grow : (text more : List ℕ) (spans : List Span) → AreSpans text spans → pairs_at (text ++ more) spans ≡ pairs_at text spans
pairs_grow text more [] are = refl
pairs_grow text more (p ∷ ps) are =
    let is = are.0 in
    let name = part_grows text more p.start p.middle is.order (omega (arith, is.back, is.within)) in
    let value = part_grows text more p.middle p.end is.back is.within in
    (λ i. (name i, value i) ∷ pairs_grow text more ps are.1 i)

-- the same, of a text that begins with another
pub extended : (first second : List ℕ) (spans : List Span) → AreSpans first spans → Extends first second
    → AreSpans second spans × (pairs_at second spans ≡ pairs_at first spans)
extended first second spans are more =
    (subst (λ t. AreSpans t spans) (sym more.1) (spans_grow first more.0 spans are), ap (λ t. pairs_at t spans) more.1 ∙ pairs_grow first more.0 spans are)

-- ---- a pair more

abbrev pub span_behind : List ℕ → List ℕ → List ℕ → Span
span_behind text name value = record { start = length text; middle = length text + length name; end = length text + length name + length value }

name_behind : (text name value : List ℕ) → name_at (text ++ (name ++ value)) (span_behind text name value) ≡ name
name_behind text name value =
    let size : length text + length name - length text ≡ length name = omega arith in
    rw (size, drop-append_seam) (take-append_seam name value)

value_behind : (text name value : List ℕ) → value_at (text ++ (name ++ value)) (span_behind text name value) ≡ value
value_behind text name value =
    let size : length text + length name + length value - (length text + length name) ≡ length value = omega arith in
    rw size (ap (take (length value)) (drop-append-add text (name ++ value) (length name) ∙ drop-append_seam name value) ∙ take-length value)

all_push : {X : Type 0} (P : X → Type 0) (xs : List X) (x : X) → AllByRecursion P xs → P x → AllByRecursion P (xs ++ x ∷ [])
all_push P [] x all is = (is, tt)
all_push P (y ∷ ys) x all is = (all.0, all_push P ys x all.1 is)

pub spans_more : (text name value : List ℕ) (spans : List Span) → AreSpans text spans → IsName name → IsValue value
    → AreSpans (text ++ (name ++ value)) (spans ++ span_behind text name value ∷ [])
spans_more text name value spans are is_name is_value =
    all_push (IsSpan (text ++ (name ++ value))) spans (span_behind text name value) (spans_grow text (name ++ value) spans are) (record {
      order = omega arith;
      back = omega arith;
      within = omega (arith, length-append text (name ++ value), length-append name value);
      name = subst IsName (sym (name_behind text name value)) is_name;
      value = subst IsValue (sym (value_behind text name value)) is_value;
    })

pub pairs_more : (text name value : List ℕ) (spans : List Span) → AreSpans text spans
    → pairs_at (text ++ (name ++ value)) (spans ++ span_behind text name value ∷ []) ≡ pairs_at text spans ++ (name, value) ∷ []
pairs_more text name value spans are =
    let new = text ++ (name ++ value) in
    map_push (pair_at new) spans (span_behind text name value)
    ∙ (λ i. pairs_grow text (name ++ value) spans are i ++ (name_behind text name value i, value_behind text name value i) ∷ [])

-- ---- the pairs are names and values

pub pairs_sound : (text : List ℕ) (spans : List Span) → AreSpans text spans → ArePairs (pairs_at text spans)
pairs_sound text [] are = tt
pairs_sound text (p ∷ ps) are = (record { name = are.0.name; value = are.0.value }, pairs_sound text ps are.1)
