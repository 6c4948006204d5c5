-- Identifiers as runs of numbers that follow each other.
use Rattle.std.proofs.Common.{◌≡◌, ℕ, zero, suc, ◌+◌, ◌-◌, ◌<◌, ◌≤◌, ◌==◌, true, false, ◌||◌, List, [], ◌∷◌, ◌++◌, ◌∙◌, refl, sym, ap, subst, arith, append_assoc, append-nil, Some, None, length, reverse}
use Rattle.std.specs.Prelude.{slice_index_or}
use Rattle.std.specs.List.{list_any, range_with_len, AllByRecursion}
use Rattle.std.proofs.lemmas.Bool.{eqb-true, eqb-false}
use Rattle.std.proofs.lemmas.Grind.{flat_map-append}
use Rattle.std.proofs.lemmas.List.{reverse-append}
use Rattle.carousel_cid.specs.declared.entry.Entry.{Entry}
use Rattle.carousel_cid.specs.Fronts.{first_of, after_first}
use Rattle.carousel_cid.specs.IdentifierList.{size_of, identifiers_of}
use Rattle.carousel_cid.specs.Inner.Runs.{IsRun, range_of, left}

-- ---- ranges

-- a range in two parts
pub range_parts : (a m n : ℕ) → range_with_len a (m + n) ≡ range_with_len a m ++ range_with_len (a + m) n
range_parts a zero n =
    let size : 0 + n ≡ n = omega arith in
    let start : a ≡ a + 0 = omega arith in
    ap (range_with_len a) size ∙ ap (λ k. range_with_len k n) start
range_parts a (suc m) n =
    let size : suc m + n ≡ suc (m + n) = omega arith in
    let rest : a + 1 + m ≡ a + suc m = omega arith in
    ap (range_with_len a) size ∙ ap (λ ts. a ∷ ts) (range_parts (a + 1) m n ∙ ap (λ k. range_with_len (a + 1) m ++ range_with_len k n) rest)

-- a range that ends at a number, cut in front of one in it
pub range_cut : (first next last : ℕ) → first ≤ next → next ≤ last + 1
    → range_with_len first (last + 1 - first) ≡ range_with_len first (next - first) ++ range_with_len next (last + 1 - next)
range_cut first next last from to =
    let size : last + 1 - first ≡ (next - first) + (last + 1 - next) = omega (arith, from, to) in
    let start : first + (next - first) ≡ next = omega (arith, from) in
    ap (range_with_len first) size ∙ range_parts first (next - first) (last + 1 - next)
    ∙ ap (λ k. range_with_len first (next - first) ++ range_with_len k (last + 1 - next)) start

-- a range from a number on that isn't above its end
pub range_starts : (first last : ℕ) → first ≤ last → range_with_len first (last + 1 - first) ≡ first ∷ range_with_len (first + 1) (last + 1 - (first + 1))
range_starts first last within =
    let size : last + 1 - first ≡ suc (last - first) = omega (arith, within) in
    let rest : last - first ≡ last + 1 - (first + 1) = omega (arith, within) in
    ap (range_with_len first) size ∙ ap (λ n. first ∷ range_with_len (first + 1) n) rest

-- what stands in a range lies in it, and the other way round
pub in_range : (a n t : ℕ) → a ≤ t → t < a + n → list_any (λ u. u == t) (range_with_len a n) ≡ true
in_range a zero t from to = absurd (omega (arith, from, to))
in_range a (suc n) t from to = elim (a == t) as (λ b. (a == t) ≡ b → (b || list_any (λ u. u == t) (range_with_len (a + 1) n)) ≡ true) [
  | true ↦ λ e. refl
  | false ↦ λ e. in_range (a + 1) n t (let other = eqb-false a t e in omega (arith, other, from)) (omega (arith, to))
] refl

pub from_range : (a n t : ℕ) → list_any (λ u. u == t) (range_with_len a n) ≡ true → (a ≤ t) × (t < a + n)
from_range a zero t there = absurd (let both : false ≡ true = there in cc)
from_range a (suc n) t there = elim (a == t) as (λ b. (a == t) ≡ b → (b || list_any (λ u. u == t) (range_with_len (a + 1) n)) ≡ true → (a ≤ t) × (t < a + suc n)) [
  | true ↦ λ e h. let same = eqb-true a t e in (omega (arith, same), omega (arith, same))
  | false ↦ λ e h. let rest = from_range (a + 1) n t h in (omega (arith, rest.0), omega (arith, rest.1))
] refl there

-- ---- the last run stands first

-- the run at the end stands first
pub left_more : (rs : List Entry) (r : Entry) → left (rs ++ r ∷ []) ≡ range_of r ++ left rs
left_more [] r = sym (append-nil (range_of r))
left_more (s ∷ rs) r = ap (λ ts. ts ++ range_of s) (left_more rs r) ∙ append_assoc (range_of r) (left rs) (range_of s)

pub left_reverse : (rs : List Entry) → left (reverse rs) ≡ identifiers_of rs
left_reverse [] = refl
left_reverse (r ∷ rs) = ap left (reverse-append (r ∷ []) rs) ∙ left_more (reverse rs) r ∙ ap (λ ts. range_of r ++ ts) (left_reverse rs)

-- the first of the last run is the first of all
first_is : (rs : List Entry) (r : Entry) → IsRun r → Some r.first ≡ first_of (left (rs ++ r ∷ []))
first_is rs r is = sym (ap first_of (left_more rs r ∙ ap (λ ts. ts ++ left rs) (range_starts r.first r.last is.order)))

-- without the first of a run of more than one
pub one_less : (rs : List Entry) (r : Entry) → r.first < r.last
    → left (rs ++ record { first = r.first + 1; last = r.last } ∷ []) ≡ after_first (left (rs ++ r ∷ []))
one_less rs r more =
    left_more rs (record { first = r.first + 1; last = r.last })
    ∙ sym (ap after_first (left_more rs r ∙ ap (λ ts. ts ++ left rs) (range_starts r.first r.last (omega (arith, more)))))

-- without a run of one
pub none_left : (rs : List Entry) (r : Entry) → IsRun r → (r.first < r.last → ⊥) → left rs ≡ after_first (left (rs ++ r ∷ []))
none_left rs r is one =
    sym (ap after_first (left_more rs r ∙ ap (λ ts. ts ++ left rs) (range_starts r.first r.last is.order ∙ ap (λ n. r.first ∷ range_with_len (r.first + 1) n) none))) where
      none : r.last + 1 - (r.first + 1) ≡ 0
      none = omega (arith, is.order, one)

first_before : (xs ys : List ℕ) (t : ℕ) → Some t ≡ first_of xs → Some t ≡ first_of (xs ++ ys)
first_before [] ys t e = absurd (let both : Some t ≡ None = e in cc)
first_before (x ∷ xs) ys t e = e

-- the first of the run at the end is the first of all
pub first_at_end : (rs : List Entry) (i : ℕ) (d : Entry) → i + 1 ≡ length rs → AllByRecursion IsRun rs → Some (slice_index_or rs i d).first ≡ first_of (left rs)
first_at_end [] i d e are = absurd (omega (arith, e))
first_at_end (r ∷ []) zero d e are = first_is [] r are.0
first_at_end (r ∷ []) (suc i) d e are = absurd (omega (arith, e))
first_at_end (r ∷ s ∷ rs) zero d e are = absurd (omega (arith, e))
first_at_end (r ∷ s ∷ rs) (suc i) d e are =
    first_before (left (s ∷ rs)) (range_of r) (slice_index_or (s ∷ rs) i d).first (first_at_end (s ∷ rs) i d (omega (arith, e)) are.1)

-- ---- each of them is a run

pub each_last : (rs : List Entry) (r : Entry) → AllByRecursion IsRun (rs ++ r ∷ []) → IsRun r
each_last [] r are = are.0
each_last (s ∷ rs) r are = each_last rs r are.1

pub each_front : (rs : List Entry) (r : Entry) → AllByRecursion IsRun (rs ++ r ∷ []) → AllByRecursion IsRun rs
each_front [] r are = tt
each_front (s ∷ rs) r are = (are.0, each_front rs r are.1)

pub each_more : (rs : List Entry) (r : Entry) → AllByRecursion IsRun rs → IsRun r → AllByRecursion IsRun (rs ++ r ∷ [])
each_more [] r are is = (is, tt)
each_more (s ∷ rs) r are is = (are.0, each_more rs r are.1 is)

pub each_reverse : (rs : List Entry) → AllByRecursion IsRun rs → AllByRecursion IsRun (reverse rs)
each_reverse [] are = tt
each_reverse (r ∷ rs) are = subst (AllByRecursion IsRun) (sym (reverse-append (r ∷ []) rs)) (each_more (reverse rs) r (each_reverse rs are.1) are.0)

-- ---- a run behind the others

pub one_behind : (rs : List Entry) (r : Entry) → identifiers_of (rs ++ r ∷ []) ≡ identifiers_of rs ++ range_with_len r.first (size_of r)
one_behind rs r =
    flat_map-append (λ (e : Entry). range_with_len e.first (size_of e)) rs (r ∷ [])
    ∙ ap (λ ts. identifiers_of rs ++ ts) (append-nil (range_with_len r.first (size_of r)))

-- a run that goes on where the last one ends
pub longer_behind : (rs : List Entry) (r : Entry) (first last : ℕ) → IsRun r → r.last + 1 ≡ first → first ≤ last
    → identifiers_of (rs ++ record { first = r.first; last = last } ∷ []) ≡ identifiers_of (rs ++ r ∷ []) ++ range_with_len first (last + 1 - first)
longer_behind rs r first last is follows order =
    let size : first - r.first ≡ r.last + 1 - r.first = omega (arith, follows) in
    one_behind rs (record { first = r.first; last = last })
    ∙ ap (λ ts. identifiers_of rs ++ ts) (range_cut r.first first last (omega (arith, is.order, follows)) (omega (arith, order))
    ∙ ap (λ k. range_with_len r.first k ++ range_with_len first (last + 1 - first)) size)
    ∙ sym (append_assoc (identifiers_of rs) (range_with_len r.first (r.last + 1 - r.first)) (range_with_len first (last + 1 - first)))
    ∙ ap (λ ts. ts ++ range_with_len first (last + 1 - first)) (sym (one_behind rs r))
