-- A new packet adds its charge to the byte count.
use Rattle.std.proofs.Common.{◌≡◌, ◌≢◌, ℕ, zero, suc, ◌+◌, ◌<◌, Bool, true, false, cond, ◌&&◌, ◌∙◌, refl, sym, ap, arith, eqb-true, Option, Some, None}
use Rattle.std.specs.Prelude.{if◌then◌else◌, is_some, ◌==◌}
use Rattle.std.specs.List.{sum_by}
use Rattle.std.specs.Ordering.{nat_cmp}
use Rattle.std.specs.Cmp.{nat_cmp_total}
use Rattle.std.specs.FinMap.{get, entries, get-insert, get-entries, entries_sorted, entries-insert}
use Rattle.std.specs.FinMap.Entries.{put}
use Rattle.std.proofs.lemmas.Bool.Decides.{nat_tests}
use Rattle.oti_blocks.specs.Partition.{ObjectInformation, blocks, encoding_at, symbol_of}
use Rattle.alc_packet.specs.Packet.{SymbolPacket, full}
use Rattle.held_packets.specs.Held.{Held, place, place_of, row_at, is_held, symbols_held, joined}
use Rattle.held_packets.specs.Count.{block_count, object_count, byte_count, charge}
use Rattle.held_packets.proofs.Places.{place_total, tied_places}
use Rattle.wire_bytes.proofs.Public.{count_is_sum, sum_alike, sum_zero, sum_with}
use Rattle.held_packets.proofs.Sums.{sum_put}

-- What a new packet finds: its object isn't held under other transmission information, its place isn't
-- held, and nothing of its object is where the object isn't held.
pub record IsFresh (held : Held) (p : SymbolPacket) : Type 0 where
  pub agrees : (o : ObjectInformation) → get held.objects p.toi ≡ Some o → o ≡ p.oti
  pub vacant : row_at held (place_of p) ≡ None
  pub unopened : get held.objects p.toi ≡ None → (b j : ℕ) → row_at held (place p.toi b j) ≡ None
  pub block : p.sbn < blocks p.oti
  pub symbol : p.esi < encoding_at p.oti p.sbn

-- the rows with the packet's among them
pub row_joined : (held : Held) (p : SymbolPacket) (t b j : ℕ)
    → row_at (joined held p) (place t b j) ≡ cond ((p.toi == t) && ((p.sbn == b) && (p.esi == j))) (Some (full p)) (row_at held (place t b j))
row_joined held p t b j =
    get-insert place_total held.rows (place_of p) (full p) (place t b j)
    ∙ ap (λ x. cond x (Some (full p)) (row_at held (place t b j))) (tied_places t b j p.toi p.sbn p.esi)

-- places that differ don't pass the test for equal ones
pub another : (t b j u c k : ℕ) → (t ≡ u → b ≡ c → j ≡ k → ⊥) → ((t == u) && ((b == c) && (j == k))) ≡ false
another t b j u c k apart = elim (t == u) as (λ x. (t == u) ≡ x → (x && ((b == c) && (j == k))) ≡ false) [
  | false ↦ λ e. refl
  | true ↦ λ e. elim (b == c) as (λ y. (b == c) ≡ y → (y && (j == k)) ≡ false) [
    | false ↦ λ f. refl
    | true ↦ λ f. elim (j == k) as (λ z. (j == k) ≡ z → z ≡ false) [
      | false ↦ λ g. refl
      | true ↦ λ g. absurd (apart (eqb-true t u e) (eqb-true b c f) (eqb-true j k g))
    ] refl
  ] refl
] refl

-- a place passes the test against itself
itself : (t b j : ℕ) → ((t == t) && ((b == b) && (j == j))) ≡ true
itself t b j = grind (arith, nat_tests)

-- another place is held as before
pub held_elsewhere : (held : Held) (p : SymbolPacket) (t b j : ℕ) → (p.toi ≡ t → p.sbn ≡ b → p.esi ≡ j → ⊥)
    → is_held (joined held p) (place t b j) ≡ is_held held (place t b j)
held_elsewhere held p t b j apart = ap is_some (row_joined held p t b j
    ∙ ap (λ x. cond x (Some (full p)) (row_at held (place t b j))) (another p.toi p.sbn p.esi t b j apart))

-- the packet's place is held once it has joined
held_here : (held : Held) (p : SymbolPacket) → is_held (joined held p) (place_of p) ≡ true
held_here held p = ap is_some (row_joined held p p.toi p.sbn p.esi ∙ ap (λ x. cond x (Some (full p)) (row_at held (place_of p))) (itself p.toi p.sbn p.esi))

-- 1 for what holds
abbrev one_if : Bool → ℕ
one_if b = if b then 1 else 0

-- the place is held
abbrev pub held_at : Held → ℕ → ℕ → ℕ → Bool
held_at held t b j = is_held held (place t b j)

-- another block has as many symbols as before
pub symbols_elsewhere : (held : Held) (p : SymbolPacket) (t b : ℕ) (o : ObjectInformation)
    → (p.toi ≡ t → p.sbn ≡ b → ⊥) → symbols_held (joined held p) t o b ≡ symbols_held held t o b
symbols_elsewhere held p t b o apart =
    let n = encoding_at o b in
    count_is_sum n (held_at (joined held p) t b)
    ∙ sum_alike n (λ j. one_if (held_at held t b j)) (λ j. one_if (held_at (joined held p) t b j))
    (λ j less. ap one_if (held_elsewhere held p t b j (λ x y z. apart x y)))
    ∙ sym (count_is_sum n (held_at held t b))

-- the packet's block has one more
pub symbols_here : (held : Held) (p : SymbolPacket) → IsFresh held p → symbols_held (joined held p) p.toi p.oti p.sbn ≡ symbols_held held p.toi p.oti p.sbn + 1
symbols_here held p fresh =
    let n = encoding_at p.oti p.sbn in
    let before : held_at held p.toi p.sbn p.esi ≡ false = ap is_some fresh.vacant in
    let after : held_at (joined held p) p.toi p.sbn p.esi ≡ true = held_here held p in
    count_is_sum n (held_at (joined held p) p.toi p.sbn)
    ∙ sum_with n (λ j. one_if (held_at held p.toi p.sbn j)) (λ j. one_if (held_at (joined held p) p.toi p.sbn j)) p.esi 1 fresh.symbol
    (ap one_if after ∙ ap (λ x. one_if x + 1) (sym before))
    (λ j apart. ap one_if (held_elsewhere held p p.toi p.sbn j (λ x y z. apart (sym z))))
    ∙ ap (λ c. c + 1) (sym (count_is_sum n (held_at held p.toi p.sbn)))

-- a positive number isn't 0
positive : (n : ℕ) → 0 < n → (n == 0) ≡ false
positive n h = grind (arith, nat_tests)

-- a symbol more adds its length, and 64 where it opens its block
block_more : (o : ObjectInformation) (c : ℕ) → block_count o (c + 1) ≡ block_count o c + ((if c == 0 then 64 else 0) + symbol_of o)
block_more o zero = omega arith
block_more o (suc c) = rw (positive (suc c + 1) (omega arith), positive (suc c) (omega arith)) (omega arith)

-- the byte count of one object
abbrev counted : Held → ℕ × ObjectInformation → ℕ
counted held e = object_count held e.0 e.1

-- another object counts as before
counted_elsewhere : (held : Held) (p : SymbolPacket) (e : ℕ × ObjectInformation) → e.0 ≢ p.toi → counted (joined held p) e ≡ counted held e
counted_elsewhere held p e apart =
    ap (λ s. 256 + s) (sum_alike (blocks e.1) (λ b. block_count e.1 (symbols_held held e.0 e.1 b)) (λ b. block_count e.1 (symbols_held (joined held p) e.0 e.1 b))
    (λ b less. ap (block_count e.1) (symbols_elsewhere held p e.0 b e.1 (λ x y. apart (sym x)))))

-- what the packet adds to its object
abbrev added : Held → SymbolPacket → ℕ
added held p = (if symbols_held held p.toi p.oti p.sbn == 0 then 64 else 0) + symbol_of p.oti

-- the packet's object counts what the packet adds
counted_here : (held : Held) (p : SymbolPacket) → IsFresh held p → counted (joined held p) (p.toi, p.oti) ≡ counted held (p.toi, p.oti) + added held p
counted_here held p fresh =
    let more = sum_with (blocks p.oti) (λ b. block_count p.oti (symbols_held held p.toi p.oti b))
    (λ b. block_count p.oti (symbols_held (joined held p) p.toi p.oti b)) p.sbn (added held p) fresh.block
    (ap (block_count p.oti) (symbols_here held p fresh) ∙ block_more p.oti (symbols_held held p.toi p.oti p.sbn))
    (λ b apart. ap (block_count p.oti) (symbols_elsewhere held p p.toi b p.oti (λ x y. apart (sym y)))) in
    omega (arith, more)

-- nothing is counted of an object that isn't open
counted_unopened : (held : Held) (p : SymbolPacket) → IsFresh held p → get held.objects p.toi ≡ None → counted held (p.toi, p.oti) ≡ 256
counted_unopened held p fresh closed =
    let empty_block : (b : ℕ) → symbols_held held p.toi p.oti b ≡ 0 = λ b.
    count_is_sum (encoding_at p.oti b) (held_at held p.toi b)
    ∙ sum_zero (encoding_at p.oti b) (λ j. one_if (held_at held p.toi b j)) (λ j less. ap (λ o. one_if (is_some o)) (fresh.unopened closed b j)) in
    ap (λ s. 256 + s) (sum_zero (blocks p.oti) (λ b. block_count p.oti (symbols_held held p.toi p.oti b)) (λ b less. ap (block_count p.oti) (empty_block b)))

-- what was counted and the charge are what is counted, whether the object was open or not
with_charge : {X : Type 0} (found : Option X) (after before own block symbol : ℕ)
    → after + (if is_some found then own else 0) ≡ before + (own + (block + symbol)) → (found ≡ None → own ≡ 256)
    → after ≡ before + (((if is_some found then 0 else 256) + block) + symbol)
with_charge None after before own block symbol e closed = omega (arith, closed refl)
with_charge (Some x) after before own block symbol e closed = omega arith

-- the byte count with the packet
pub joined_count : (held : Held) (p : SymbolPacket) → IsFresh held p → byte_count (joined held p) ≡ byte_count held + charge held p
unfolding byte_count charge
joined_count held p fresh =
    let es = entries held.objects in
    let sums = sum_put (counted held) (counted (joined held p)) p.toi p.oti es (entries_sorted held.objects) (counted_elsewhere held p)
    (λ o found. fresh.agrees o (get-entries held.objects p.toi ∙ found)) in
    ap (sum_by (counted (joined held p))) (entries-insert nat_cmp_total held.objects p.toi p.oti)
    ∙ with_charge (get held.objects p.toi) _ (sum_by (counted held) es) (counted held (p.toi, p.oti))
    (if symbols_held held p.toi p.oti p.sbn == 0 then 64 else 0) (symbol_of p.oti)
    (ap (λ found. sum_by (counted (joined held p)) (put nat_cmp p.toi p.oti es)
    + (if is_some found then counted held (p.toi, p.oti) else 0)) (get-entries held.objects p.toi)
    ∙ sums ∙ ap (λ own. sum_by (counted held) es + own) (counted_here held p fresh))
    (counted_unopened held p fresh)
