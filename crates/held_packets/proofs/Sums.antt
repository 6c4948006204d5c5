-- Sums over sorted entries, when one of them changes.
use Rattle.std.proofs.Common.{◌≡◌, ◌≢◌, ℕ, ◌+◌, ◌<◌, ◌≤◌, Bool, true, false, cond, ◌&&◌, List, [], ◌∷◌, refl, sym, ap, arith, Some, None}
use Rattle.std.specs.Prelude.{if◌then◌else◌, T, is_some}
use Rattle.std.specs.List.{sum_by}
use Rattle.std.specs.declared.cmp.Ordering.TheVariants.{Less, Equal, Greater}
use Rattle.std.specs.Ordering.{nat_cmp, is_lt, is_eq, eq_by_cmp}
use Rattle.std.specs.FinMap.{find}
use Rattle.std.specs.FinMap.Entries.{put, by_order, below_all, is_sorted}
use Rattle.std.proofs.lemmas.List.Sums.{sum_by-cons}
use Rattle.std.proofs.lemmas.Bool.Decides.{nat_tests}

-- ---- sorted entries

-- what holds is true
is_true : (b : Bool) → T b → b ≡ true
is_true true h = refl
is_true false h = absurd h

-- both of two tests hold
pub both_hold : (a b : Bool) → T (a && b) → T a × T b
both_hold true true h = (tt, tt)
both_hold true false h = absurd h
both_hold false b h = absurd h

-- less in order is less
below : (x y : ℕ) → is_lt (nat_cmp x y) ≡ true → x < y
below x y h = grind (arith, nat_tests)

-- Less says less
order_less : (x y : ℕ) → nat_cmp x y ≡ Less → x < y
order_less x y h = grind (arith, nat_tests)

-- Equal says equal
order_equal : (x y : ℕ) → nat_cmp x y ≡ Equal → x ≡ y
order_equal x y h = grind (arith, nat_tests)

-- Greater says greater
order_greater : (x y : ℕ) → nat_cmp x y ≡ Greater → y < x
order_greater x y h = grind (arith, nat_tests)

-- the entries above a key have the same terms, where only the key's own changes
sum_above : {X : Type 0} (f g : ℕ × X → ℕ) (k x : ℕ) (es : List (ℕ × X)) → k ≤ x
    → T (below_all nat_cmp x es) → ((e : ℕ × X) → e.0 ≢ k → g e ≡ f e) → sum_by g es ≡ sum_by f es
sum_above f g k x [] low sorted alike = refl
sum_above f g k x (e ∷ es) low sorted alike =
    let parts = both_hold (is_lt (nat_cmp x e.0)) (below_all nat_cmp x es) sorted in
    let higher : x < e.0 = below x e.0 (is_true (is_lt (nat_cmp x e.0)) parts.0) in
    let apart : e.0 ≢ k = omega arith in
    omega (arith, sum_by-cons g e es, sum_by-cons f e es, alike e apart, sum_above f g k x es low parts.1 alike)

-- a key isn't found among the entries above it
pub missing_above : {X : Type 0} (k x : ℕ) (es : List (ℕ × X)) → k ≤ x → T (below_all nat_cmp x es) → find nat_cmp k es ≡ None
missing_above k x [] low sorted = refl
missing_above k x (e ∷ es) low sorted =
    let parts = both_hold (is_lt (nat_cmp x e.0)) (below_all nat_cmp x es) sorted in
    let higher : x < e.0 = below x e.0 (is_true (is_lt (nat_cmp x e.0)) parts.0) in
    let apart : eq_by_cmp nat_cmp k e.0 ≡ false = grind (arith, nat_tests) in
    rw apart (missing_above k x es low parts.1)

-- the sum over the entries with one put among them
pub sum_put : {X : Type 0} (f g : ℕ × X → ℕ) (k : ℕ) (v : X) (es : List (ℕ × X)) → T (is_sorted nat_cmp es)
    → ((e : ℕ × X) → e.0 ≢ k → g e ≡ f e) → ((w : X) → find nat_cmp k es ≡ Some w → w ≡ v)
    → sum_by g (put nat_cmp k v es) + (if is_some (find nat_cmp k es) then f (k, v) else 0) ≡ sum_by f es + g (k, v)
sum_put f g k v [] sorted alike agrees = omega arith
sum_put {X = X} f g k v (e ∷ es) sorted alike agrees =
    let parts = both_hold (below_all nat_cmp e.0 es) (is_sorted nat_cmp es) sorted in
    elim (nat_cmp k e.0) as (λ r. nat_cmp k e.0 ≡ r → ((w : X) → cond (is_eq r) (Some e.1) (find nat_cmp k es) ≡ Some w → w ≡ v)
    → sum_by g (by_order r ((k, v) ∷ e ∷ es) ((e.0, v) ∷ es) (e ∷ put nat_cmp k v es)) + (if is_some (cond (is_eq r) (Some e.1) (find nat_cmp k es)) then f (k, v) else 0)
    ≡ sum_by f (e ∷ es) + g (k, v)) [
      | Less ↦ λ order agrees.
          let less = order_less k e.0 order in
          let apart : e.0 ≢ k = omega arith in
          rw (missing_above k e.0 es (omega arith) parts.0)
          (omega (arith, sum_by-cons g (k, v) (e ∷ es), sum_by-cons g e es, sum_by-cons f e es, alike e apart, sum_above f g k e.0 es (omega arith) parts.0 alike))
      | Equal ↦ λ order agrees.
          let same = order_equal k e.0 order in
          let entry : e ≡ (k, v) = λ i. (sym same i, agrees e.1 refl i) in
          omega (arith, sum_by-cons g (e.0, v) es, sum_by-cons f e es, ap f entry, ap (λ x. g (x, v)) same, sum_above f g k e.0 es (omega arith) parts.0 alike)
      | Greater ↦ λ order agrees.
          let less = order_greater k e.0 order in
          let apart : e.0 ≢ k = omega arith in
          omega (arith, sum_by-cons g e (put nat_cmp k v es), sum_by-cons f e es, alike e apart, sum_put f g k v es parts.1 alike agrees)
    ] refl agrees
