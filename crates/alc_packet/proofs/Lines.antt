-- The lines of a packet's values hold exactly where the values make no packet.
use Rattle.std.proofs.Common.{◌≡◌, ℕ, ◌+◌, ◌^◌, ◌<◌, Bool, true, false, not, cond, List, [], ◌∷◌, length, drop, Option, Some, None}
use Rattle.std.proofs.Common.{refl, sym, ap, ◌∙◌, arith, inl, inr, ◌⊎◌}
use Rattle.std.specs.Prelude.{◌==◌, ◌&&◌, option_map, position}
use Rattle.std.specs.List.{position_from}
use Rattle.std.proofs.lemmas.Bool.{eqb-true, eq-eqb, leb-false, lt-leb, and_parts, and_from, and_left, and_right}
use Rattle.std.proofs.lemmas.List.{drop_all}
use Rattle.std.proofs.lemmas.Iterator.Adapters.{position_from-zero}
use Rattle.wire_bytes.specs.Bytes.{are_zero}
use Rattle.wire_bytes.specs.FirstFault.{first_fault}
use Rattle.wire_bytes.proofs.Public.{past, none_hold, cause_fails, fault_is_none, zeros_from_test, test_from_zeros}
use Rattle.oti_blocks.specs.Partition.{IsSound, blocks, size_at, encoding_at, last_length, symbol_of}
use Rattle.alc_packet.specs.declared.refusal.Refusal.TheVariants.{FillNotZero}
use Rattle.alc_packet.specs.Packet.{SymbolPacket, IsPacket, IsLastSource, HasWholeSymbol, HasCutSymbol}
use Rattle.alc_packet.specs.Refusal.{is_last, is_whole, is_cut, bad_fill, block_out, symbol_out, symbol_length, fill_not_zero, packet_lines}

-- ---- bytes that aren't zero

passed : (zero : Bool) (i : ℕ) (rest : Option ℕ) → cond (not zero) (Some i) rest ≡ None → (zero ≡ true) × (rest ≡ None)
passed true i rest e = (refl, e)
passed false i rest e = absurd cc

zeros_from : (i : ℕ) (xs : List ℕ) → position_from (λ x. not (x == 0)) i xs ≡ None → are_zero xs ≡ true
zeros_from i [] e = refl
zeros_from i (x ∷ xs) e =
    let first = passed (x == 0) i (position_from (λ y. not (y == 0)) (i + 1) xs) e in
    and_from (x == 0) (are_zero xs) first.0 (zeros_from (i + 1) xs first.1)

none_from : (i : ℕ) (xs : List ℕ) → are_zero xs ≡ true → position_from (λ x. not (x == 0)) i xs ≡ None
none_from i [] e = refl
none_from i (x ∷ xs) e =
    let parts = and_parts (x == 0) (are_zero xs) e in
    rw parts.0 (none_from (i + 1) xs parts.1)

-- no byte from a place on is bad exactly where all are zero there
pub mapped_none : {A B : Type 0} (f : A → B) (o : Option A) → option_map f o ≡ None → o ≡ None
mapped_none f None e = refl
mapped_none f (Some x) e = absurd cc

zeros_behind : (start : ℕ) (symbol : List ℕ) → bad_fill start symbol ≡ None → are_zero (drop start symbol) ≡ true
zeros_behind start symbol e =
    zeros_from 0 (drop start symbol) (sym (position_from-zero (λ x. not (x == 0)) (drop start symbol))
    ∙ mapped_none (λ i. start + i) (position (λ x. not (x == 0)) (drop start symbol)) e)

no_bad_fill : (start : ℕ) (symbol : List ℕ) → are_zero (drop start symbol) ≡ true → bad_fill start symbol ≡ None
no_bad_fill start symbol e = ap (option_map (λ i. start + i)) (position_from-zero (λ x. not (x == 0)) (drop start symbol) ∙ none_from 0 (drop start symbol) e)

-- ---- the tests

last_from_test : (p : SymbolPacket) → is_last p ≡ true → IsLastSource p
last_from_test p e =
    let parts = and_parts (p.sbn + 1 == blocks p.oti) (p.esi + 1 == size_at p.oti p.sbn) e in
    record { block = eqb-true _ _ parts.0; place = eqb-true _ _ parts.1 }

test_from_last : (p : SymbolPacket) → IsLastSource p → is_last p ≡ true
test_from_last p last = and_from (p.sbn + 1 == blocks p.oti) (p.esi + 1 == size_at p.oti p.sbn) (eq-eqb _ _ last.block) (eq-eqb _ _ last.place)

-- one of two holds
one_holds : (a b : Bool) → (not a && not b) ≡ false → (a ≡ true) ⊎ (b ≡ true)
one_holds true b e = inl refl
one_holds false true e = inr refl
one_holds false false e = absurd cc

-- ---- values without a line make a packet

-- a whole symbol is filled with zeros
filled : (p : SymbolPacket) → is_whole p ≡ true → fill_not_zero p ≡ None → IsLastSource p → are_zero (drop (last_length p.oti) p.symbol) ≡ true
filled p whole none last =
    let test : (is_last p && is_whole p) ≡ true = and_from (is_last p) (is_whole p) (test_from_last p last) whole in
    let same : option_map (λ at. FillNotZero at) (bad_fill (last_length p.oti) p.symbol) ≡ None =
    sym (ap (λ (b : Bool). cond b (option_map (λ at. FillNotZero at) (bad_fill (last_length p.oti) p.symbol)) None) test) ∙ none in
    zeros_behind (last_length p.oti) p.symbol (mapped_none (λ at. FillNotZero at) (bad_fill (last_length p.oti) p.symbol) same)

pub packet_from_lines : (p : SymbolPacket) → p.tsi < 2 ^ 48 → p.toi < 2 ^ 112 → IsSound p.oti → first_fault (packet_lines p) ≡ None → IsPacket p
packet_from_lines p tsi toi sound e =
    let t1 = none_hold (block_out p) (symbol_out p ∷ symbol_length p ∷ fill_not_zero p ∷ []) e in
    let t2 = none_hold (symbol_out p) (symbol_length p ∷ fill_not_zero p ∷ []) t1.1 in
    let t3 = none_hold (symbol_length p) (fill_not_zero p ∷ []) t2.1 in
    let t4 = none_hold (fill_not_zero p) [] t3.1 in
    record {
      tsi_fits = tsi;
      toi_fits = toi;
      sound = sound;
      block = leb-false (blocks p.oti) p.sbn (cause_fails _ _ t1.0);
      place = leb-false (encoding_at p.oti p.sbn) p.esi (cause_fails _ _ t2.0);
      symbol = elim (one_holds (is_whole p) (is_cut p) (cause_fails _ _ t3.0)) [
        | inl whole ↦ inl (record { whole = eqb-true _ _ whole; filled = λ last. zeros_from_test _ (filled p whole t4.0 last) })
        | inr cut ↦
            let parts = and_parts (is_last p) (length p.symbol == last_length p.oti) cut in
            inr (record { last = last_from_test p parts.0; cut = eqb-true _ _ parts.1 })
      ];
    }

-- ---- no line holds of a packet

-- its symbol has a right length
length_right : (p : SymbolPacket) → HasWholeSymbol p ⊎ HasCutSymbol p → (not (is_whole p) && not (is_cut p)) ≡ false
length_right p symbol = elim symbol [
  | inl whole ↦ and_left (not (is_whole p)) (not (is_cut p)) (ap not (eq-eqb (length p.symbol) (symbol_of p.oti) whole.whole))
  | inr cut ↦ and_right (not (is_whole p)) (not (is_cut p))
      (ap not (and_from (is_last p) (length p.symbol == last_length p.oti) (test_from_last p cut.last) (eq-eqb (length p.symbol) (last_length p.oti) cut.cut)))
]

-- and where it is whole and the last one, its end is zero
end_zero : (p : SymbolPacket) → HasWholeSymbol p ⊎ HasCutSymbol p → IsLastSource p → are_zero (drop (last_length p.oti) p.symbol) ≡ true
end_zero p symbol last = elim symbol [
  | inl whole ↦ test_from_zeros _ (whole.filled last)
  | inr cut ↦ ap are_zero (drop_all (last_length p.oti) p.symbol (omega (arith, cut.cut)))
]

right_fill : (p : SymbolPacket) (test : Bool) → (is_last p && is_whole p) ≡ test → HasWholeSymbol p ⊎ HasCutSymbol p
    → cond test (option_map (λ at. FillNotZero at) (bad_fill (last_length p.oti) p.symbol)) None ≡ None
right_fill p true e symbol =
    let parts = and_parts (is_last p) (is_whole p) e in
    ap (option_map (λ at. FillNotZero at)) (no_bad_fill (last_length p.oti) p.symbol (end_zero p symbol (last_from_test p parts.0)))
right_fill p false e symbol = refl

pub lines_from_packet : (p : SymbolPacket) → IsPacket p → first_fault (packet_lines p) ≡ None
lines_from_packet p is =
    past (block_out p) (symbol_out p ∷ symbol_length p ∷ fill_not_zero p ∷ []) (fault_is_none _ _ (lt-leb (blocks p.oti) p.sbn is.block))
    ∙ past (symbol_out p) (symbol_length p ∷ fill_not_zero p ∷ []) (fault_is_none _ _ (lt-leb (encoding_at p.oti p.sbn) p.esi is.place))
    ∙ past (symbol_length p) (fill_not_zero p ∷ []) (fault_is_none _ _ (length_right p is.symbol))
    ∙ past (fill_not_zero p) [] (right_fill p (is_last p && is_whole p) refl is.symbol)
