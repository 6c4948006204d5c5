-- Each symbol stands once among the symbols of its object, and nothing else stands there.
use Rattle.std.proofs.Common.{◌≡◌, ◌≢◌, ℕ, zero, suc, ◌+◌, ◌-◌, ◌<◌, ◌≤◌, true, false, cond, List, [], ◌∷◌, ◌++◌, refl, ap, ap₂, ◌∙◌, arith, subst, inl, inr}
use Rattle.std.proofs.Common.{get_or, eq-eqb, ne_eqb}
use Rattle.std.specs.Prelude.{nat_lt, All}
use Rattle.std.specs.List.{range_with_len, flat_map}
use Rattle.std.proofs.lemmas.Bool.{cases_eq, lt-ltb, ltb-true}
use Rattle.std.proofs.lemmas.List.Elements.{All-map}
use Rattle.oti_blocks.specs.Partition.{ObjectInformation, IsSound, blocks, encoding_at, most_encoding}
use Rattle.oti_blocks.proofs.Public.{encoding_at_bounds}
use Rattle.sender_schedule.specs.SymbolIds.{IsSymbolId, from_to, symbol_of_each, having, round, symbol_ids}
use Rattle.sender_schedule.specs.Times.{is_same, times}
use Rattle.sender_schedule.specs.declared.symbol_id.SymbolId.{SymbolId}
use Rattle.sender_schedule.proofs.Objects.{All-flat_map}

times-append : (p : SymbolId) (xs ys : List SymbolId) → times p (xs ++ ys) ≡ times p xs + times p ys
times-append p [] ys = omega arith
times-append p (x ∷ xs) ys = elim (is_same p x) as (λ b. cond b (times p (xs ++ ys) + 1) (times p (xs ++ ys)) ≡ cond b (times p xs + 1) (times p xs) + times p ys) [
  | true ↦ omega (arith, times-append p xs ys)
  | false ↦ times-append p xs ys
]

-- ---- in a round

other_number : (p : SymbolId) (j : ℕ) (bs : List ℕ) → p.esi ≢ j → times p (symbol_of_each j bs) ≡ 0
other_number p j [] other = refl
other_number p j (b ∷ bs) other = rw (ne_eqb p.esi j other) (other_number p j bs other)

other_block : (p : SymbolId) (b : ℕ) → p.sbn ≢ b → is_same p (record { esi = p.esi; sbn = b }) ≡ false
other_block p b other = rw (eq-eqb p.esi p.esi refl, ne_eqb p.sbn b other) refl

same_block : (p : SymbolId) (b : ℕ) → p.sbn ≡ b → is_same p (record { esi = p.esi; sbn = b }) ≡ true
same_block p b same = rw (eq-eqb p.esi p.esi refl, eq-eqb p.sbn b same) refl

-- not among blocks that are all behind its own
behind : (o : ObjectInformation) (p : SymbolId) (a m : ℕ) → p.sbn < a → times p (symbol_of_each p.esi (having o p.esi (range_with_len a m))) ≡ 0
behind o p a zero less = refl
behind o p a (suc m) less = elim (nat_lt p.esi (encoding_at o a))
    as (λ b. nat_lt p.esi (encoding_at o a) ≡ b → times p (symbol_of_each p.esi (having o p.esi (range_with_len a (suc m)))) ≡ 0) [
      | true ↦ λ e. rw (e, other_block p a (omega arith)) (behind o p (a + 1) m (omega arith))
      | false ↦ λ e. rw e (behind o p (a + 1) m (omega arith))
    ] refl

-- once among blocks of which one is its own
among : (o : ObjectInformation) (p : SymbolId) (a m : ℕ) → IsSymbolId o p → a ≤ p.sbn → p.sbn < a + m
    → times p (symbol_of_each p.esi (having o p.esi (range_with_len a m))) ≡ 1
among o p a zero is from less = absurd (omega arith)
among o p a (suc m) is from less = elim (cases_eq p.sbn a) [
  | inl here ↦
      let has : nat_lt p.esi (encoding_at o a) ≡ true = lt-ltb p.esi (encoding_at o a) (subst (λ b. p.esi < encoding_at o b) here is.esi) in
      rw (has, same_block p a here) (ap (λ n. n + 1) (behind o p (a + 1) m (omega arith)))
  | inr later ↦ elim (nat_lt p.esi (encoding_at o a))
      as (λ b. nat_lt p.esi (encoding_at o a) ≡ b → times p (symbol_of_each p.esi (having o p.esi (range_with_len a (suc m)))) ≡ 1) [
        | true ↦ λ e. rw (e, other_block p a later) (among o p (a + 1) m is (omega arith) (omega arith))
        | false ↦ λ e. rw e (among o p (a + 1) m is (omega arith) (omega arith))
      ] refl
]

-- ---- in all rounds

rounds_behind : (o : ObjectInformation) (p : SymbolId) (a m : ℕ) → p.esi < a → times p (flat_map (round o) (range_with_len a m)) ≡ 0
rounds_behind o p a zero less = refl
rounds_behind o p a (suc m) less =
    times-append p (round o a) (flat_map (round o) (range_with_len (a + 1) m))
    ∙ ap₂ (λ x y. x + y) (other_number p a (having o a (from_to 0 (blocks o))) (omega arith)) (rounds_behind o p (a + 1) m (omega arith))

rounds_among : (o : ObjectInformation) (p : SymbolId) (a m : ℕ) → IsSymbolId o p → a ≤ p.esi → p.esi < a + m → times p (flat_map (round o) (range_with_len a m)) ≡ 1
rounds_among o p a zero is from less = absurd (omega arith)
rounds_among o p a (suc m) is from less =
    times-append p (round o a) (flat_map (round o) (range_with_len (a + 1) m))
    ∙ elim (cases_eq p.esi a) [
      | inl here ↦
          ap₂ (λ x y. x + y)
          (subst (λ j. times p (symbol_of_each j (having o j (from_to 0 (blocks o)))) ≡ 1) here (among o p 0 (blocks o - 0) is (omega arith) (omega (arith, is.sbn))))
          (rounds_behind o p (a + 1) m (omega arith))
      | inr later ↦
          ap₂ (λ x y. x + y) (other_number p a (having o a (from_to 0 (blocks o))) later) (rounds_among o p (a + 1) m is (omega arith) (omega arith))
    ]

pub once : (o : ObjectInformation) → IsSound o → (p : SymbolId) → IsSymbolId o p → times p (symbol_ids o) ≡ 1
once o sound p is =
    let most = (encoding_at_bounds o sound p.sbn is.sbn).1 in
    rounds_among o p 0 (most_encoding o - 0) is (omega arith) (omega (arith, most, is.esi))

-- ---- and no other

having_from : (o : ObjectInformation) (j a m : ℕ) → a + m ≤ blocks o → All (λ b. IsSymbolId o (record { esi = j; sbn = b })) (having o j (range_with_len a m))
having_from o j a zero within = λ k d less. absurd (omega arith)
having_from o j a (suc m) within = elim (nat_lt j (encoding_at o a))
    as (λ b. nat_lt j (encoding_at o a) ≡ b → All (λ b. IsSymbolId o (record { esi = j; sbn = b })) (having o j (range_with_len a (suc m)))) [
      | true ↦ λ e. rw e (with_first j a (having o j (range_with_len (a + 1) m))
          (record { sbn = omega arith; esi = ltb-true j (encoding_at o a) e }) (having_from o j (a + 1) m (omega arith)))
      | false ↦ λ e. rw e (having_from o j (a + 1) m (omega arith))
    ] refl where
      with_first : (j a : ℕ) (bs : List ℕ) → IsSymbolId o (record { esi = j; sbn = a })
          → All (λ b. IsSymbolId o (record { esi = j; sbn = b })) bs → All (λ b. IsSymbolId o (record { esi = j; sbn = b })) (a ∷ bs)
      with_first j a bs first rest zero d less = first
      with_first j a bs first rest (suc k) d less = rest k d (omega arith)

pub only : (o : ObjectInformation) → All (IsSymbolId o) (symbol_ids o)
only o =
    All-flat_map (IsSymbolId o) (round o) (from_to 0 (most_encoding o))
    (λ k d less. All-map (IsSymbolId o) (λ b. record { esi = get_or (from_to 0 (most_encoding o)) k d; sbn = b })
    (having o (get_or (from_to 0 (most_encoding o)) k d) (from_to 0 (blocks o)))
    (having_from o (get_or (from_to 0 (most_encoding o)) k d) 0 (blocks o - 0) (omega arith)))
