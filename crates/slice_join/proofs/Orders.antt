-- Slices of a body in any order.
use Rattle.std.proofs.Common.{◌≡◌, ℕ, zero, suc, ◌+◌, ◌<◌, ◌≤◌, ◌^◌, ◌==◌, Bool, true, false, not, cond, ◌&&◌, ◌||◌, List, [], ◌∷◌, ◌++◌, Option, Some, None, length, map, nat_lt, unwrap_or, refl, sym, ap, subst, ◌∙◌, arith, append_assoc}
use Rattle.std.specs.List.{AllByRecursion, filter, flat_map, range_with_len, sum_by}
use Rattle.std.specs.List.Sorted.{IsPermutation}
use Rattle.std.specs.Option.{option_eq}
use Rattle.std.specs.Str.{bytes_eq}
use Rattle.std.proofs.lemmas.Bool.{eqb-true, eq-eqb}
use Rattle.std.proofs.lemmas.Bool.Decides.{nat_tests}
use Rattle.std.proofs.lemmas.List.Elements.{All-from_recursion, recursion_from_All}
use Rattle.std.proofs.lemmas.List.Sorted.{All-permutation}
use Rattle.std.proofs.lemmas.List.{length-append}
use Rattle.std.proofs.lemmas.List.Sums.{sum_by-append, sum_by-cons}
use Rattle.carousel_cid.specs.declared.file_of.FileOf.{FileOf}
use Rattle.slice_join.specs.SliceKind.{slice_kind}
use Rattle.slice_join.specs.Slice.{Slice, head_length, slice_of, slices_from, whole}
use Rattle.slice_join.specs.Cut.{piece_of}
use Rattle.slice_join.specs.Carried.{piece_content}
use Rattle.slice_join.specs.Groups.{belong, entries_of, is_apart}
use Rattle.slice_join.specs.Faults.{first_where, found_in, is_among, is_placed, missing, places_of, repeated}
use Rattle.slice_join.specs.Joins.{part_at}
use Rattle.slice_join.proofs.Bodies.{long_enough, said_again}
use Rattle.slice_join.proofs.Grouping.{text_same}

-- ---- lists in another order

pub permuted : {X : Type 0} (P : X → Type 0) (xs ys : List X) → IsPermutation xs ys → AllByRecursion P xs → AllByRecursion P ys
permuted P xs ys order each = recursion_from_All P ys (All-permutation P xs ys order (All-from_recursion P xs each))

pub unmapped : {X Y : Type 0} (P : Y → Type 0) (f : X → Y) (xs : List X) → AllByRecursion P (map f xs) → AllByRecursion (λ x. P (f x)) xs
unmapped P f [] each = tt
unmapped P f (x ∷ xs) each = (each.0, unmapped P f xs each.1)

pub each_both : {X : Type 0} (P Q R : X → Type 0) → ((x : X) → P x → Q x → R x) → (xs : List X) → AllByRecursion P xs → AllByRecursion Q xs → AllByRecursion R xs
each_both P Q R step [] ps qs = tt
each_both P Q R step (x ∷ xs) ps qs = (step x ps.0 qs.0, each_both P Q R step xs ps.1 qs.1)

-- ---- the part at each place

-- at p is the first of these parts, at (p + 1) the next, and so on
abbrev pub Follows : (ℕ → List ℕ) → ℕ → List (List ℕ) → Type 0
Follows at p [] = Unit {0}
Follows at p (q ∷ qs) = (at p ≡ q) × Follows at (p + 1) qs

abbrev pub part_from : ℕ → List (List ℕ) → ℕ → List ℕ
part_from p [] x = []
part_from p (q ∷ qs) x = cond (p == x) q (part_from (p + 1) qs x)

follows_same : (f g : ℕ → List ℕ) (p : ℕ) (qs : List (List ℕ)) → ((x : ℕ) → p ≤ x → f x ≡ g x) → Follows g p qs → Follows f p qs
follows_same f g p [] same h = tt
follows_same f g p (q ∷ qs) same h = (same p (omega arith) ∙ h.0, follows_same f g (p + 1) qs (λ x from. same x (omega (arith, from))) h.1)

pub follows : (p : ℕ) (qs : List (List ℕ)) → Follows (part_from p qs) p qs
follows p [] = tt
follows p (q ∷ qs) = (
  ap (λ b. cond b q (part_from (p + 1) qs p)) (eq-eqb p p refl),
  follows_same (part_from p (q ∷ qs)) (part_from (p + 1) qs) (p + 1) qs
      (λ x from. let other : (p == x) ≡ false = grind (arith, nat_tests) in ap (λ b. cond b q (part_from (p + 1) qs x)) other) (follows (p + 1) qs),
)

pub follows_whole : (at : ℕ → List ℕ) (p : ℕ) (qs : List (List ℕ)) → Follows at p qs → flat_map at (range_with_len p (length qs)) ≡ whole qs
follows_whole at p [] h = refl
follows_whole at p (q ∷ qs) h = ap (λ xs. xs ++ flat_map at (range_with_len (p + 1) (length qs))) h.0 ∙ ap (λ xs. q ++ xs) (follows_whole at (p + 1) qs h.1)

-- ---- what holds of each slice

pub record Fits (at : ℕ → List ℕ) (n t : ℕ) (s : Slice) : Type 0 where
  pub placed : is_placed s ≡ true
  pub count : s.count ≡ n
  pub total : s.total ≡ t
  pub part : s.part ≡ at s.place

placed_at : (p n : ℕ) → 1 ≤ p → p ≤ n → n ≤ 4096 → (nat_lt 0 p && (not (nat_lt n p) && not (nat_lt 4096 n))) ≡ true
placed_at p n from to few =
    let a : nat_lt 0 p ≡ true = grind (arith, nat_tests) in
    let b : nat_lt n p ≡ false = grind (arith, nat_tests) in
    let c : nat_lt 4096 n ≡ false = grind (arith, nat_tests) in
    rw (a, b, c) refl

pub all_fit : (at : ℕ → List ℕ) (p n t : ℕ) (qs : List (List ℕ)) → 1 ≤ p → p + length qs ≤ n + 1 → n ≤ 4096 → Follows at p qs → AllByRecursion (Fits at n t) (slices_from p n t qs)
all_fit at p n t [] from to few h = tt
all_fit at p n t (q ∷ qs) from to few h =
    (record { placed = placed_at p n from (omega (arith, to)) few; count = refl; total = refl; part = sym h.0 }, all_fit at (p + 1) n t qs (omega arith) (omega (arith, to)) few h.1)

-- the slices are read from their pieces
pub read_back : (kind : Option (List ℕ)) (p n t : ℕ) (qs : List (List ℕ)) → p + length qs ≤ n + 1 → n ≤ 4096 → t < 2 ^ 64
    → map (λ x. slice_of x.1) (map piece_content (map (piece_of kind) (slices_from p n t qs))) ≡ slices_from p n t qs
read_back kind p n t [] to few small = refl
read_back kind p n t (q ∷ qs) to few small =
    let s : Slice = record { place = p; count = n; total = t; part = q } in
    let rest = slices_from (p + 1) n t qs in
    ap (λ y. y ∷ map (λ x. slice_of x.1) (map piece_content (map (piece_of kind) rest))) (said_again s (omega (arith, to, few)) (omega (arith, few)) small)
    ∙ ap (λ ys. s ∷ ys) (read_back kind (p + 1) n t qs (omega (arith, to)) few small)

-- type and length of what carries a slice
pub record IsCarrier (kind : Option (List ℕ)) (x : Option (List ℕ) × List ℕ) : Type 0 where
  pub is : x.0 ≡ Some (slice_kind kind)
  pub long : nat_lt (length x.1) head_length ≡ false

pub all_carry : (kind : Option (List ℕ)) (ss : List Slice) → AllByRecursion (IsCarrier kind) (map piece_content (map (piece_of kind) ss))
all_carry kind [] = tt
all_carry kind (s ∷ ss) = (record { is = refl; long = long_enough s }, all_carry kind ss)

pub places_are : (p n t : ℕ) (qs : List (List ℕ)) → places_of (slices_from p n t qs) ≡ range_with_len p (length qs)
places_are p n t [] = refl
places_are p n t (q ∷ qs) = ap (λ ps. p ∷ ps) (places_are (p + 1) n t qs)

pub bytes_are : (p n t : ℕ) (qs : List (List ℕ)) → found_in (slices_from p n t qs) ≡ length (whole qs)
bytes_are p n t [] = refl
bytes_are p n t (q ∷ qs) =
    let rest = bytes_are (p + 1) n t qs in
    sum_by-cons (λ s. length s.part) (record { place = p; count = n; total = t; part = q }) (slices_from (p + 1) n t qs) ∙ ap (λ k. length q + k) rest ∙ sym (length-append q (whole qs))

-- ---- one entry

filter_all : {X : Type 0} (p : X → Bool) (xs : List X) → AllByRecursion (λ x. p x ≡ true) xs → filter p xs ≡ xs
filter_all p [] each = refl
filter_all p (x ∷ xs) each = rw each.0 (ap (λ ys. x ∷ ys) (filter_all p xs each.1))

filters_turned : {X : Type 0} (p q : X → Bool) (xs : List X) → filter p (filter q xs) ≡ filter q (filter p xs)
filters_turned p q [] = refl
filters_turned p q (x ∷ xs) = elim (p x) as (λ a. p x ≡ a → filter p (cond (q x) (x ∷ filter q xs) (filter q xs)) ≡ filter q (cond a (x ∷ filter p xs) (filter p xs))) [
  | true ↦ λ e. elim (q x) as (λ b. q x ≡ b → filter p (cond b (x ∷ filter q xs) (filter q xs)) ≡ filter q (x ∷ filter p xs)) [
    | true ↦ λ k. rw (e, k) (ap (λ ys. x ∷ ys) (filters_turned p q xs))
    | false ↦ λ k. rw k (filters_turned p q xs)
  ] refl
  | false ↦ λ e. elim (q x) as (λ b. filter p (cond b (x ∷ filter q xs) (filter q xs)) ≡ filter q (filter p xs)) [
    | true ↦ rw e (filters_turned p q xs)
    | false ↦ filters_turned p q xs
  ]
] refl

none_apart : (f : FileOf) (fs : List FileOf) → AllByRecursion (λ g. belong f g ≡ true) fs → filter (is_apart f) (entries_of fs) ≡ []
none_apart f [] each = refl
none_apart f (g ∷ gs) each =
    rw each.0 (filters_turned (is_apart f) (is_apart g) (entries_of gs) ∙ ap (filter (is_apart g)) (none_apart f gs each.1))

pub one_entry : (f : FileOf) (fs : List FileOf) → AllByRecursion (λ g. belong f g ≡ true) fs → entries_of (f ∷ fs) ≡ record { first = f; more = fs } ∷ []
one_entry f fs each =
    ap (λ gs. record { first = f; more = gs } ∷ filter (is_apart f) (entries_of fs)) (filter_all (belong f) fs each)
    ∙ ap (λ es. record { first = f; more = fs } ∷ es) (none_apart f fs each)

-- ---- no fault holds

pub no_first : (test : FileOf → Bool) (fs : List FileOf) → AllByRecursion (λ g. test g ≡ false) fs → first_where test fs ≡ None
no_first test [] each = refl
no_first test (f ∷ fs) each = rw each.0 (no_first test fs each.1)

pub agree_there : (a b c d : ℕ) (k l : Option (List ℕ)) (x : List ℕ) → a ≡ b → c ≡ d → k ≡ Some x → l ≡ Some x
    → (not (a == b) || (not (c == d) || not (option_eq bytes_eq k l))) ≡ false
agree_there a b c d k l x ab cd kx lx =
    let kinds : option_eq bytes_eq k l ≡ true = ap (λ y. option_eq bytes_eq y l) kx ∙ ap (option_eq bytes_eq (Some x)) lx ∙ text_same x x refl in
    rw (eq-eqb a b ab, eq-eqb c d cd, kinds) refl

-- how often a number stands in a list
abbrev pub times : ℕ → List ℕ → ℕ
times p ps = sum_by (λ q. cond (q == p) 1 0) ps

times_step : (p q : ℕ) (qs : List ℕ) → times p (q ∷ qs) ≡ cond (q == p) 1 0 + times p qs
times_step p q qs = sum_by-cons (λ r. cond (r == p) 1 0) q qs

times_among : (p : ℕ) (ps : List ℕ) → is_among ps p ≡ true → 1 ≤ times p ps
times_among p [] e = absurd cc
times_among p (q ∷ qs) e = subst (λ n. 1 ≤ n) (sym (times_step p q qs)) (elim (q == p) as (λ b. (b || is_among qs p) ≡ true → 1 ≤ cond b 1 0 + times p qs) [
  | true ↦ λ h. omega arith
  | false ↦ λ h. let rest = times_among p qs h in omega (arith, rest)
] e)

pub no_repeat : (before places : List ℕ) → ((p : ℕ) → times p (before ++ places) ≤ 1) → repeated before places ≡ None
no_repeat before [] once = refl
no_repeat before (p ∷ ps) once = elim (is_among before p) as (λ b. is_among before p ≡ b → cond b (Some p) (repeated (before ++ p ∷ []) ps) ≡ None) [
  | true ↦ λ e.
      let some = times_among p before e in
      let one : ℕ = 1 in
      let own : cond (p == p) one 0 ≡ one = ap (λ b. cond b one 0) (eq-eqb p p refl) in
      let step = times_step p p ps in
      let all = sum_by-append (λ q. cond (q == p) 1 0) before (p ∷ ps) in
      let most = once p in
      absurd (omega (arith, some, own, step, all, most))
  | false ↦ λ e. no_repeat (before ++ p ∷ []) ps (λ q. subst (λ qs. times q qs ≤ 1) (sym (append_assoc before (p ∷ []) ps)) (once q))
] refl

not_below : (x p k : ℕ) → x < p → times x (range_with_len p k) ≡ 0
not_below x p zero less = refl
not_below x p (suc k) less =
    let other : (p == x) ≡ false = grind (arith, nat_tests) in
    let rest = not_below x (p + 1) k (omega (arith, less)) in
    times_step x p (range_with_len (p + 1) k) ∙ rw other (omega (arith, rest))

pub once_in_range : (x p k : ℕ) → times x (range_with_len p k) ≤ 1
once_in_range x p zero = omega arith
once_in_range x p (suc k) = subst (λ n. n ≤ 1) (sym (times_step x p (range_with_len (p + 1) k))) (elim (p == x) as (λ b. (p == x) ≡ b → cond b 1 0 + times x (range_with_len (p + 1) k) ≤ 1) [
  | true ↦ λ e. let same = eqb-true p x e in let none = not_below x (p + 1) k (omega (arith, same)) in omega (arith, none)
  | false ↦ λ e. let rest = once_in_range x (p + 1) k in omega (arith, rest)
] refl)

pub in_range : (x p k : ℕ) → p ≤ x → x < p + k → is_among (range_with_len p k) x ≡ true
in_range x p zero from to = absurd (omega (arith, from, to))
in_range x p (suc k) from to = elim (p == x) as (λ b. (p == x) ≡ b → (b || is_among (range_with_len (p + 1) k) x) ≡ true) [
  | true ↦ λ e. refl
  | false ↦ λ e. let other : p + 1 ≤ x = grind (arith, nat_tests) in in_range x (p + 1) k other (omega (arith, to))
] refl

pub none_missing : (places : List ℕ) (p k : ℕ) → ((x : ℕ) → p ≤ x → x < p + k → is_among places x ≡ true) → missing places (range_with_len p k) ≡ None
none_missing places p zero there = refl
none_missing places p (suc k) there = rw (there p (omega arith) (omega arith)) (none_missing places (p + 1) k (λ x from to. there x (omega (arith, from)) (omega (arith, to))))

-- ---- the body

pub part_is : (at : ℕ → List ℕ) (n t : ℕ) (ss : List Slice) (p : ℕ) → AllByRecursion (Fits at n t) ss → is_among (places_of ss) p ≡ true → unwrap_or (part_at ss p) [] ≡ at p
part_is at n t [] p each e = absurd cc
part_is at n t (s ∷ ss) p each e = elim (s.place == p) as (λ b. (s.place == p) ≡ b → (b || is_among (places_of ss) p) ≡ true → unwrap_or (cond b (Some s.part) (part_at ss p)) [] ≡ at p) [
  | true ↦ λ k h. each.0.part ∙ ap at (eqb-true s.place p k)
  | false ↦ λ k h. part_is at n t ss p each.1 h
] refl e

pub same_within : (f g : ℕ → List ℕ) (p k : ℕ) → ((x : ℕ) → p ≤ x → x < p + k → f x ≡ g x) → flat_map f (range_with_len p k) ≡ flat_map g (range_with_len p k)
same_within f g p zero same = refl
same_within f g p (suc k) same =
    ap (λ xs. xs ++ flat_map f (range_with_len (p + 1) k)) (same p (omega arith) (omega arith))
    ∙ ap (λ xs. g p ++ xs) (same_within f g (p + 1) k (λ x from to. same x (omega (arith, from)) (omega (arith, to))))
