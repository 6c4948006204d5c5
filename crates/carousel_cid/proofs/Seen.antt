-- The identifiers that were seen, as runs that don't meet.
use Rattle.std.proofs.Common.{◌≡◌, ℕ, zero, suc, ◌+◌, ◌-◌, ◌<◌, ◌≤◌, ◌==◌, Bool, true, false, cond, ◌||◌, List, [], ◌∷◌, ◌++◌, ◌∙◌, refl, sym, ap, arith, append_assoc, append-nil, Some, None, inl, inr, ◌⊎◌}
use Rattle.std.specs.List.{list_any, range_with_len}
use Rattle.std.specs.Ordering.{nat_cmp, eq_by_cmp}
use Rattle.std.specs.BTreeMap.{get, Updates}
use Rattle.std.proofs.Math.Bool.{or-true}
use Rattle.std.proofs.lemmas.Bool.{cases_lt, eqb-true, eq-eqb}
use Rattle.std.proofs.lemmas.Bool.Decides.{nat_tests}
use Rattle.std.proofs.lemmas.List.Folds.{list_any-append}
use Rattle.carousel_cid.specs.declared.entry.Entry.{Entry}
use Rattle.carousel_cid.specs.Inner.Walks.{added, added_all}
use Rattle.carousel_cid.specs.Inner.Runs.{Seen, IsSeen, StandsIn, AreSeen, IsNext}
use Rattle.carousel_cid.proofs.Kept.{stands}
use Rattle.carousel_cid.proofs.Runs.{in_range, from_range}

-- ---- what is added of a range of which all, or none, is there

pub added_known : (kept : List ℕ) (a n : ℕ) → ((t : ℕ) → a ≤ t → t < a + n → stands t kept ≡ true) → added_all kept (range_with_len a n) ≡ kept
added_known kept a zero all = refl
added_known kept a (suc n) all =
    let here : added kept a ≡ kept = rw (all a (omega arith) (omega arith)) refl in
    ap (λ k. added_all k (range_with_len (a + 1) n)) here
    ∙ added_known kept (a + 1) n (λ t from to. all t (omega (arith, from)) (omega (arith, to)))

not_behind : (kept : List ℕ) (a t : ℕ) → stands t kept ≡ false → a + 1 ≤ t → stands t (kept ++ a ∷ []) ≡ false
not_behind kept a t none above =
    let other : (a == t) ≡ false = grind (arith, nat_tests) in
    list_any-append (λ u. u == t) kept (a ∷ []) ∙ rw (none, other) refl

pub added_new : (kept : List ℕ) (a n : ℕ) → ((t : ℕ) → a ≤ t → t < a + n → stands t kept ≡ false) → added_all kept (range_with_len a n) ≡ kept ++ range_with_len a n
added_new kept a zero none = sym (append-nil kept)
added_new kept a (suc n) none =
    let here : added kept a ≡ kept ++ a ∷ [] = rw (none a (omega arith) (omega arith)) refl in
    ap (λ k. added_all k (range_with_len (a + 1) n)) here
    ∙ added_new (kept ++ a ∷ []) (a + 1) n (λ t from to. not_behind kept a t (none t (omega (arith, from)) (omega (arith, to))) from)
    ∙ append_assoc kept (a ∷ []) (range_with_len (a + 1) n)

-- ---- what the next run says

pub all_known : (seen : Seen) (list : List ℕ) (at next : ℕ) (r : Entry) → AreSeen seen list → IsNext seen at (Some r) → r.first ≤ at → at ≤ next → next ≤ r.last + 1
    → list ≡ added_all list (range_with_len at (next - at))
all_known seen list at next r are is from on to =
    sym (added_known list at (next - at) (λ t above below. are.there t (record {
      first = r.first;
      last = r.last;
      is = is.1;
      from = omega (arith, from, above);
      to = omega (arith, on, to, below);
    })))

-- ---- one run more

record Added (old new : Seen) (list : List ℕ) (first last : ℕ) : Type 0 where
  are : AreSeen old list
  at : (t : ℕ) → get nat_cmp new t ≡ cond (last == t) (Some first) (get nat_cmp old t)
  order : first ≤ last
  fresh : (t : ℕ) → first ≤ t → t ≤ last → stands t list ≡ false

new_run : (old new : Seen) (list : List ℕ) (first last : ℕ) → Added old new list first last → IsSeen new first last
new_run old new list first last a = a.at last ∙ ap (λ b. cond b (Some first) (get nat_cmp old last)) (eq-eqb last last refl)

-- no run that was seen meets the new one
apart_from : (old new : Seen) (list : List ℕ) (first last f l t : ℕ) → Added old new list first last → IsSeen old f l → f ≤ t → t ≤ l → first ≤ t → t ≤ last → ⊥
apart_from old new list first last f l t a is f_to l_to from to =
    let there = a.are.there t (record { first = f; last = l; is = is; from = f_to; to = l_to }) in
    let both : true ≡ false = sym there ∙ a.fresh t from to in
    cc

old_run : (old new : Seen) (list : List ℕ) (first last f l : ℕ) → Added old new list first last → IsSeen old f l → IsSeen new f l
old_run old new list first last f l a is = elim (last == l) as (λ b. (last == l) ≡ b → IsSeen new f l) [
  | true ↦ λ e.
      let same = eqb-true last l e in
      absurd (apart_from old new list first last f l l a is (a.are.order f l is) (omega arith) (omega (arith, same, a.order)) (omega (arith, same)))
  | false ↦ λ e. a.at l ∙ ap (λ b. cond b (Some first) (get nat_cmp old l)) e ∙ is
] refl

which_run : (old new : Seen) (list : List ℕ) (first last f l : ℕ) → Added old new list first last → IsSeen new f l → ((f ≡ first) × (l ≡ last)) ⊎ IsSeen old f l
which_run old new list first last f l a is = elim (last == l) as (λ b. (last == l) ≡ b → ((f ≡ first) × (l ≡ last)) ⊎ IsSeen old f l) [
  | true ↦ λ e.
      let both : Some first ≡ Some f = sym (a.at l ∙ ap (λ b. cond b (Some first) (get nat_cmp old l)) e) ∙ is in
      inl (cc, sym (eqb-true last l e))
  | false ↦ λ e. inr (sym (a.at l ∙ ap (λ b. cond b (Some first) (get nat_cmp old l)) e) ∙ is)
] refl

order_more : (old new : Seen) (list : List ℕ) (first last : ℕ) → Added old new list first last → (f l : ℕ) → IsSeen new f l → f ≤ l
order_more old new list first last a f l is = elim (which_run old new list first last f l a is) [
  | inl same ↦ omega (arith, same.0, same.1, a.order)
  | inr seen ↦ a.are.order f l seen
]

there_more : (old new : Seen) (list : List ℕ) (first last : ℕ) → Added old new list first last
    → (t : ℕ) → StandsIn new t → stands t (list ++ range_with_len first (last + 1 - first)) ≡ true
there_more old new list first last a t s =
    list_any-append (λ u. u == t) list (range_with_len first (last + 1 - first)) ∙ elim (which_run old new list first last s.first s.last a s.is) [
      | inl same ↦
          ap (λ b. stands t list || b) (in_range first (last + 1 - first) t (omega (arith, same.0, s.from)) (omega (arith, same.1, s.to, a.order)))
          ∙ or-true (stands t list)
      | inr seen ↦ ap (λ b. b || stands t (range_with_len first (last + 1 - first))) (a.are.there t (record { first = s.first; last = s.last; is = seen; from = s.from; to = s.to }))
    ]

all_more : (old new : Seen) (list : List ℕ) (first last : ℕ) → Added old new list first last
    → (t : ℕ) → stands t (list ++ range_with_len first (last + 1 - first)) ≡ true → StandsIn new t
all_more old new list first last a t there = by (stands t list) refl (sym (list_any-append (λ u. u == t) list (range_with_len first (last + 1 - first))) ∙ there) where
  by : (b : Bool) → stands t list ≡ b → (b || stands t (range_with_len first (last + 1 - first))) ≡ true → StandsIn new t
  by true e h =
      let s = a.are.all t e in
      record { first = s.first; last = s.last; is = old_run old new list first last s.first s.last a s.is; from = s.from; to = s.to }
  by false e h =
      let both = from_range first (last + 1 - first) t h in
      record { first = first; last = last; is = new_run old new list first last a; from = both.0; to = omega (arith, both.1, a.order) }

apart_more : (old new : Seen) (list : List ℕ) (first last : ℕ) → Added old new list first last
    → (f l g m : ℕ) → IsSeen new f l → IsSeen new g m → l < m → l < g
apart_more old new list first last a f l g m is later less = elim (which_run old new list first last f l a is) [
  | inl same ↦ elim (which_run old new list first last g m a later) [
    | inl again ↦ absurd (omega (arith, same.1, again.1, less))
    | inr seen ↦ elim (cases_lt l g) [
      | inl below ↦ below
      | inr meets ↦ absurd (apart_from old new list first last g m last a seen (omega (arith, meets, same.1)) (omega (arith, less, same.1)) a.order (omega arith))
    ]
  ]
  | inr was ↦ elim (which_run old new list first last g m a later) [
    | inl again ↦ elim (cases_lt l g) [
      | inl below ↦ below
      | inr meets ↦ absurd (apart_from old new list first last f l l a was (a.are.order f l was) (omega arith) (omega (arith, meets, again.0)) (omega (arith, less, again.1)))
    ]
    | inr seen ↦ a.are.apart f l g m was seen less
  ]
]

tied : (x y : ℕ) → eq_by_cmp nat_cmp x y ≡ (x == y)
tied x y = grind (arith, nat_tests)

-- with the new run stands in the list what was there and the range
pub seen_more : (old new : Seen) (list : List ℕ) (first last : ℕ) → AreSeen old list → Updates nat_cmp old new last (Some first) → first ≤ last
    → ((t : ℕ) → first ≤ t → t ≤ last → stands t list ≡ false) → AreSeen new (list ++ range_with_len first (last + 1 - first))
seen_more old new list first last are updates order fresh =
    let a : Added old new list first last = record {
      are = are;
      at = λ t. updates.0 t ∙ ap (λ b. cond b (Some first) (get nat_cmp old t)) (tied last t);
      order = order;
      fresh = fresh;
    } in
    record {
      order = order_more old new list first last a;
      there = there_more old new list first last a;
      all = all_more old new list first last a;
      apart = apart_more old new list first last a;
    }
