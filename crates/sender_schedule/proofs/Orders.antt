-- The order of symbols: a round after a round, and in each a block after a block.
use Rattle.std.proofs.Common.{◌≡◌, ℕ, zero, suc, ◌+◌, ◌-◌, ◌<◌, ◌≤◌, false, List, [], ◌∷◌, ◌++◌, refl, ap, ap₂, ◌∙◌, arith}
use Rattle.std.specs.Prelude.{nat_lt}
use Rattle.std.specs.List.{range_with_len, flat_map}
use Rattle.std.proofs.lemmas.Bool.{lt-ltb}
use Rattle.oti_blocks.specs.Partition.{ObjectInformation, IsSound, blocks, encoding_at, most_encoding}
use Rattle.oti_blocks.proofs.Public.{bounds, max_block_within, blocks_pos, size_bounds, encoding_at_bounds, encoding_falls}
use Rattle.sender_schedule.specs.SymbolIds.{IsSymbolId, opening, from_to, symbol_of_each, having, round, symbol_ids}
use Rattle.sender_schedule.specs.Inner.Rest.{round_from, symbol_ids_from}
use Rattle.sender_schedule.specs.declared.symbol_id.SymbolId.{SymbolId}

-- where there is a next number, it comes first
pub from_to_more : (a b : ℕ) → a < b → from_to a b ≡ a ∷ from_to (a + 1) b
from_to_more a b less = let one : b - a ≡ suc (b - (a + 1)) = omega arith in rw one refl

-- a number isn't below one that is no larger
not_below : (j n : ℕ) → n ≤ j → nat_lt j n ≡ false
not_below j n le = grind arith

-- ---- blocks without a symbol j

having_none : (o : ObjectInformation) (j a m : ℕ) → ((b : ℕ) → a ≤ b → b < a + m → encoding_at o b ≤ j) → having o j (range_with_len a m) ≡ []
having_none o j a zero none = refl
having_none o j a (suc m) none =
    rw (not_below j (encoding_at o a) (none a (omega arith) (omega arith)))
    (having_none o j (a + 1) m (λ b low high. none b (omega arith) (omega arith)))

-- no block from b on has a symbol j, where the first of them has none
round_none : (o : ObjectInformation) → IsSound o → (j b : ℕ) → (b < blocks o → encoding_at o b ≤ j) → round_from o j b ≡ []
round_none o sound j b none =
    ap (symbol_of_each j) (having_none o j b (blocks o - b)
    (λ c low high.
    let first = none (omega arith) in
    omega (arith, first, encoding_falls o sound b c low (omega arith))))

-- no round from j on has a symbol, where block 0 has none
rounds_none : (o : ObjectInformation) → IsSound o → (j m : ℕ) → encoding_at o 0 ≤ j → flat_map (round o) (range_with_len j m) ≡ []
rounds_none o sound j zero none = refl
rounds_none o sound j (suc m) none =
    ap₂ (λ xs ys. xs ++ ys) (round_none o sound j 0 (λ some. none)) (rounds_none o sound (j + 1) m (omega arith))

-- ---- the next symbol

-- a round is its first symbol and the rest
pub round_more : (o : ObjectInformation) (p : SymbolId) → IsSymbolId o p → round_from o p.esi p.sbn ≡ p ∷ round_from o p.esi (p.sbn + 1)
round_more o p is = rw (from_to_more p.sbn (blocks o) is.sbn, lt-ltb p.esi (encoding_at o p.sbn) is.esi) refl

-- where the next block has no symbol of this number, the next round follows
turns : (o : ObjectInformation) (p : SymbolId) → IsSound o → IsSymbolId o p → (p.sbn + 1 < blocks o → encoding_at o (p.sbn + 1) ≤ p.esi)
    → symbol_ids_from o p ≡ p ∷ flat_map (round o) (from_to (p.esi + 1) (most_encoding o))
turns o p sound is none =
    ap (λ (ps : List SymbolId). ps ++ flat_map (round o) (from_to (p.esi + 1) (most_encoding o)))
    (round_more o p is ∙ ap (λ (ps : List SymbolId). p ∷ ps) (round_none o sound p.esi (p.sbn + 1) none))

-- and it starts in block 0
pub next_round : (o : ObjectInformation) (p : SymbolId) → IsSound o → IsSymbolId o p → (p.sbn + 1 < blocks o → encoding_at o (p.sbn + 1) ≤ p.esi)
    → p.esi + 1 < encoding_at o 0 → symbol_ids_from o p ≡ p ∷ symbol_ids_from o (record { esi = p.esi + 1; sbn = 0 })
next_round o p sound is none more =
    let most = encoding_at_bounds o sound 0 (blocks_pos o sound) in
    turns o p sound is none
    ∙ ap (λ js. p ∷ flat_map (round o) js) (from_to_more (p.esi + 1) (most_encoding o) (omega (arith, more, most.1)))

-- where block 0 has no next symbol, none follows
pub no_round : (o : ObjectInformation) (p : SymbolId) → IsSound o → IsSymbolId o p → (p.sbn + 1 < blocks o → encoding_at o (p.sbn + 1) ≤ p.esi)
    → encoding_at o 0 ≤ p.esi + 1 → symbol_ids_from o p ≡ p ∷ []
no_round o p sound is none last =
    turns o p sound is none ∙ ap (λ (ps : List SymbolId). p ∷ ps) (rounds_none o sound (p.esi + 1) (most_encoding o - (p.esi + 1)) last)

-- ---- the first symbol

pub first_symbol_id : (o : ObjectInformation) → IsSound o → IsSymbolId o opening
first_symbol_id o sound =
    let some = blocks_pos o sound in
    let size = size_bounds o sound 0 some in
    let encoding = encoding_at_bounds o sound 0 some in
    record { sbn = some; esi = omega (arith, size.0, encoding.0) }

pub all_symbol_ids : (o : ObjectInformation) → IsSound o → symbol_ids o ≡ symbol_ids_from o opening
all_symbol_ids o sound = ap (flat_map (round o)) (from_to_more 0 (most_encoding o) (omega (arith, (bounds o sound).some_block, max_block_within o sound)))
