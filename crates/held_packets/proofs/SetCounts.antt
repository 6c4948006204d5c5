-- The byte count of the kept set is that of the held pair.
use Rattle.std.proofs.Common.{◌≡◌, ℕ, ◌+◌, ◌<◌, ◌≤◌, min, Bool, true, false, cond, ◌&&◌, ◌==◌, List, [], ◌∷◌, ◌∙◌, refl, sym, ap}
use Rattle.std.proofs.Common.{subst, arith, inl, inr, Option, Some, None}
use Rattle.std.specs.Prelude.{T, is_some}
use Rattle.std.specs.List.{sum_by}
use Rattle.std.specs.Ordering.{nat_cmp, eq_by_cmp}
use Rattle.std.specs.FinMap.{get, find, entries, get-entries, entries_sorted}
use Rattle.std.specs.FinMap.Entries.{below_all, is_sorted}
use Rattle.std.proofs.lemmas.Bool.{cases_lt}
use Rattle.std.proofs.lemmas.Bool.Decides.{nat_tests}
use Rattle.std.proofs.lemmas.List.Sums.{sum_by-cons}
use Rattle.oti_blocks.specs.Partition.{ObjectInformation, IsSound, blocks, size_at, encoding_at}
use Rattle.oti_blocks.proofs.Public.{size_bounds}
use Rattle.wire_bytes.proofs.Public.{sum_alike, count_more, count_same}
use Rattle.held_packets.specs.Held.{Held, place, row_at, is_held, symbols_held}
use Rattle.held_packets.specs.Count.{block_count, object_count, byte_count}
use Rattle.held_packets.specs.Session.{Session, Sent, IsSession}
use Rattle.held_packets.specs.KeptSet.{capped_count, object_total, set_count}
use Rattle.held_packets.proofs.Sums.{missing_above}
use Rattle.held_packets.proofs.Agreeing.{Agrees}

-- ---- sums over sorted entries

-- what is found later isn't the key in front
later : {X : Type 0} (t : ℕ) (o : X) (e : ℕ × X) (es : List (ℕ × X)) → T (below_all nat_cmp e.0 es) → find nat_cmp t es ≡ Some o → eq_by_cmp nat_cmp t e.0 ≡ false
later t o e es low found = elim (eq_by_cmp nat_cmp t e.0) as (λ b. eq_by_cmp nat_cmp t e.0 ≡ b → b ≡ false) [
  | false ↦ λ h. refl
  | true ↦ λ h. absurd (let none : find nat_cmp t es ≡ None = missing_above t e.0 es (tied t e.0 h) low in let both : None ≡ Some o = sym none ∙ found in cc)
] refl where
  tied : (x y : ℕ) → eq_by_cmp nat_cmp x y ≡ true → x ≤ y
  tied x y h = grind (arith, nat_tests)

-- sums whose terms agree for each entry that is found
sum_found : {X : Type 0} (f g : ℕ × X → ℕ) (es : List (ℕ × X)) → T (is_sorted nat_cmp es)
    → ((t : ℕ) (o : X) → find nat_cmp t es ≡ Some o → g (t, o) ≡ f (t, o)) → sum_by g es ≡ sum_by f es
sum_found f g [] sorted agree = refl
sum_found f g (e ∷ es) sorted agree =
    let parts = both_hold (below_all nat_cmp e.0 es) (is_sorted nat_cmp es) sorted in
    let here : g (e.0, e.1) ≡ f (e.0, e.1) = agree e.0 e.1 (ap (λ b. cond b (Some e.1) (find nat_cmp e.0 es)) (itself e.0)) in
    omega (
      arith,
      sum_by-cons g e es,
      sum_by-cons f e es,
      here,
      sum_found f g es parts.1 (λ t o found. agree t o (ap (λ b. cond b (Some e.1) (find nat_cmp t es)) (later t o e es parts.0 found) ∙ found)),
    )
  where
    both_hold : (a b : Bool) → T (a && b) → T a × T b
    both_hold true true h = (tt, tt)
    both_hold true false h = absurd h
    both_hold false b h = absurd h

    itself : (x : ℕ) → eq_by_cmp nat_cmp x x ≡ true
    itself x = grind (arith, nat_tests)

-- ---- one block

-- with no more than k symbols held, all of a block that isn't full in the set, and no fewer there, both count the same
capped_is : (o : ObjectInformation) (k held set : ℕ) → 1 ≤ k → held ≤ k → held ≤ set → (held < k → set ≡ held) → capped_count o k set ≡ block_count o held
capped_is o k held set some most more same = elim (cases_lt held k) [
  | inl less ↦
      let is = same less in
      let least : min k set ≡ held = omega (arith, is) in
      rw (is, lesser k held less) refl
  | inr full ↦
      let is : held ≡ k = omega arith in
      let least : min k set ≡ held = omega (arith, is, more) in
      rw (nonzero held (omega (arith, some, is)), nonzero set (omega (arith, some, is, more)), least) refl
] where
  lesser : (a b : ℕ) → b < a → min a b ≡ b
  lesser a b h = omega arith

  nonzero : (n : ℕ) → 1 ≤ n → (n == 0) ≡ false
  nonzero n h = grind (arith, nat_tests)

-- ---- all of them

-- the set has no fewer symbols of a block
pub more_in_set : (s : Session) (held set : Held) (t b : ℕ) (o : ObjectInformation) → Agrees s held set → symbols_held held t o b ≤ symbols_held set t o b
more_in_set s held set t b o agrees =
    count_more (encoding_at o b) (λ j. is_held held (place t b j)) (λ j. is_held set (place t b j))
    (λ j less. there (row_at held (place t b j)) (row_at set (place t b j)) (λ row is. agrees.rows t b j row is))
  where
    there : (m n : Option (List ℕ)) → ((row : List ℕ) → m ≡ Some row → n ≡ Some row) → is_some m ≡ true → is_some n ≡ true
    there None n more e = cc
    there (Some row) n more e = ap is_some (more row refl)

-- a block that isn't full has as many symbols in both
pub same_symbols : (s : Session) (held set : Held) (t b : ℕ) (x : Sent) → Agrees s held set → s t ≡ Some x
    → symbols_held held t x.oti b < size_at x.oti b → symbols_held set t x.oti b ≡ symbols_held held t x.oti b
same_symbols s held set t b x agrees sent fewer =
    count_same (encoding_at x.oti b) (λ j. is_held set (place t b j)) (λ j. is_held held (place t b j)) (λ j within. ap is_some (agrees.same t b x sent fewer j))

-- one object
object_is : (s : Session) (held set : Held) (t : ℕ) (o : ObjectInformation) → IsSession s
    → Agrees s held set → get held.objects t ≡ Some o → object_total set t o ≡ object_count held t o
object_is s held set t o session agrees open_ =
    let sent = agrees.sent t o open_ in
    let x = sent.0 in
    let sound : IsSound o = subst IsSound (sym sent.2) (session t x sent.1).sound in
    ap (λ n. 256 + n) (sum_alike (blocks o) (λ b. block_count o (symbols_held held t o b)) (λ b. capped_count o (size_at o b) (symbols_held set t o b))
    (λ b less. capped_is o (size_at o b) (symbols_held held t o b) (symbols_held set t o b) (size_bounds o sound b less).0
    (subst (λ i. symbols_held held t i b ≤ size_at i b) (sym sent.2) (agrees.most t b x sent.1))
    (more_in_set s held set t b o agrees)
    (λ fewer. subst (λ i. symbols_held held t i b < size_at i b → symbols_held set t i b ≡ symbols_held held t i b)
    (sym sent.2) (same_symbols s held set t b x agrees sent.1) fewer)))

-- the count of what is held is that of the set
pub counts_agree : (s : Session) (held set : Held) → IsSession s → Agrees s held set → byte_count held ≡ set_count set
unfolding byte_count set_count
counts_agree s held set session agrees =
    sym (ap (λ m. sum_by (λ e. object_total set e.0 e.1) (entries m)) agrees.objects
    ∙ sum_found (λ e. object_count held e.0 e.1) (λ e. object_total set e.0 e.1) (entries held.objects) (entries_sorted held.objects)
    (λ t o found. object_is s held set t o session agrees (get-entries held.objects t ∙ found)))
