-- What is whole of a session's packets is what was sent.
use Rattle.std.proofs.Common.{◌≡◌, ℕ, ◌*◌, ◌<◌, ◌≤◌, Bool, true, false, List, length, take, ◌∙◌, refl, sym, ap, subst, arith, inl, inr, Option, Some, None}
use Rattle.std.specs.Prelude.{if◌then◌else◌, nat_le, is_some}
use Rattle.std.specs.FinMap.{get}
use Rattle.std.proofs.lemmas.Bool.{cases_lt}
use Rattle.std.proofs.lemmas.Bool.Decides.{nat_tests}
use Rattle.oti_blocks.specs.Partition.{ObjectInformation, IsSound, sources, blocks, size_at, encoding_at, symbol_of}
use Rattle.oti_blocks.proofs.Public.{sources_bounds, blocks_pos, size_bounds}
use Rattle.rs_code.specs.SourceRows.{IsSymbolRow}
use Rattle.wire_bytes.proofs.Public.{length_filled, front_filled, all_same, not_all_below, count_none}
use Rattle.held_packets.specs.Held.{Held, place, row_at, is_held, symbols_held}
use Rattle.held_packets.specs.Ready.{is_ready, is_block_ready}
use Rattle.held_packets.specs.HeldPair.{IsHeldPair}
use Rattle.held_packets.specs.Whole.{whole, bytes_when_ready}
use Rattle.held_packets.specs.ObjectRows.{AreSourceRows}
use Rattle.held_packets.specs.Session.{Session, Sent, IsSession, IsSent, AreOf, filled, block_rows}
use Rattle.alc_packet.specs.Packet.{SymbolPacket}
use Rattle.held_packets.specs.Verdict.{held_after}
use Rattle.held_packets.specs.KeptSet.{sent_when_ready, ready_objects, kept, gathered}
use Rattle.held_packets.proofs.KeptSets.{ends_of}
use Rattle.held_packets.proofs.Symbols.{IsSymbolAt, one_object}
use Rattle.held_packets.proofs.Agreeing.{Agrees}
use Rattle.held_packets.proofs.SetCounts.{more_in_set, same_symbols}
use Rattle.held_packets.proofs.WholeOnly.{whole_only}

-- ---- the held pair of a session

-- a row that is held is a symbol of the session
held_symbol : (s : Session) (held set : Held) (t b j : ℕ) (row : List ℕ) → Agrees s held set → row_at held (place t b j) ≡ Some row → IsSymbolAt s t b j row
held_symbol s held set t b j row agrees is = agrees.symbols t b j row (agrees.rows t b j row is)

pub pair_of : (s : Session) (held set : Held) → IsSession s → Agrees s held set → IsHeldPair held
pair_of s held set session agrees = record {
  sound = λ t o open_. let sent = agrees.sent t o open_ in subst IsSound (sym sent.2) (session t sent.0 sent.1).sound;
  opened = λ t b j row is. let at = held_symbol s held set t b j row agrees is in ap is_some (agrees.opened t b j row at.object (agrees.rows t b j row is) at.sent);
  within = λ t b j row o is open_.
      let at = held_symbol s held set t b j row agrees is in
      let sent = agrees.sent t o open_ in
      let same : at.object.oti ≡ o = ap (λ (x : Sent). x.oti) (one_object s t at.object sent.0 at.sent sent.1) ∙ sym sent.2 in
      (subst (λ i. b < blocks i) same at.block, subst (λ i. j < encoding_at i b) same at.place, at.symbol.full ∙ ap (λ (i : ObjectInformation). symbol_of i) same);
  most = λ t b o open_. let sent = agrees.sent t o open_ in subst (λ i. symbols_held held t i b ≤ size_at i b) (sym sent.2) (agrees.most t b sent.0 sent.1);
}

-- the session's filled bytes are rows whose symbols at the held places are the held rows
session_rows : (s : Session) (held set : Held) (t : ℕ) (x : Sent) → Agrees s held set → s t ≡ Some x → IsSent x → AreSourceRows held t x.oti (filled x)
unfolding filled block_rows
session_rows s held set t x agrees sent is = record {
  long = length_filled (sources x.oti * symbol_of x.oti) x.bytes (omega (arith, is.long, (sources_bounds x.oti is.sound).0));
  symbols = λ b j row less found.
      let at = held_symbol s held set t b j row agrees found in
      subst (λ (y : Sent). IsSymbolRow (block_rows y b) (symbol_of y.oti) j row) (one_object s t at.object x at.sent sent) at.symbol;
}

-- ---- ready in both

alike : (k held set : ℕ) → held ≤ k → held ≤ set → (held < k → set ≡ held) → nat_le k held ≡ nat_le k set
alike k held set most more same = elim (cases_lt held k) [
  | inl less ↦ ap (nat_le k) (sym (same less))
  | inr full ↦ both (nat_le k held) (nat_le k set) (yes_if k held (omega arith)) (yes_if k set (omega (arith, more)))
] where
  yes_if : (n m : ℕ) → n ≤ m → nat_le n m ≡ true
  yes_if n m h = grind (arith, nat_tests)

  both : (a b : Bool) → a ≡ true → b ≡ true → a ≡ b
  both a b e f = e ∙ sym f

pub same_ready : (s : Session) (held set : Held) (t : ℕ) (x : Sent) → Agrees s held set → s t ≡ Some x → is_ready held t x.oti ≡ is_ready set t x.oti
same_ready s held set t x agrees sent =
    all_same (blocks x.oti) (is_block_ready held t x.oti) (is_block_ready set t x.oti)
    (λ b less. alike (size_at x.oti b) (symbols_held held t x.oti b) (symbols_held set t x.oti b) (agrees.most t b x sent) (more_in_set s held set t b x.oti agrees)
    (λ fewer. same_symbols s held set t b x agrees sent fewer))

-- an object that isn't open isn't ready: nothing of its first block is held
unopened_not_ready : (s : Session) (held set : Held) (t : ℕ) (x : Sent) → Agrees s held set
    → s t ≡ Some x → IsSent x → get held.objects t ≡ None → is_ready held t x.oti ≡ false
unopened_not_ready s held set t x agrees sent is closed =
    let some = size_bounds x.oti is.sound 0 (blocks_pos x.oti is.sound) in
    let none : symbols_held held t x.oti 0 ≡ 0 = count_none (encoding_at x.oti 0)
    (λ j. is_held held (place t 0 j)) (λ j less. vacant (row_at held (place t 0 j)) (λ row found.
    let open_ = agrees.opened t 0 j row x (agrees.rows t 0 j row found) sent in
    let both : None ≡ Some x.oti = sym closed ∙ open_ in cc)) in
    not_all_below (blocks x.oti) 0 (is_block_ready held t x.oti) (blocks_pos x.oti is.sound) (ap (nat_le (size_at x.oti 0)) none ∙ above (size_at x.oti 0) some.0)
  where
    vacant : (o : Option (List ℕ)) → ((row : List ℕ) → o ≡ Some row → ⊥) → is_some o ≡ false
    vacant None never = refl
    vacant (Some row) never = absurd (never row refl)

    above : (n : ℕ) → 1 ≤ n → nat_le n 0 ≡ false
    above n h = grind (arith, nat_tests)

-- ---- whole

-- the sent bytes stand at the front of the filled ones
front_of : (x : Sent) → take (length x.bytes) (filled x) ≡ x.bytes
unfolding filled
front_of x = front_filled (sources x.oti * symbol_of x.oti) x.bytes

-- of an object that is open
open_is : (s : Session) (held set : Held) (t : ℕ) (o : ObjectInformation) → IsSession s
    → Agrees s held set → get held.objects t ≡ Some o → whole held t ≡ ready_objects s set t
unfolding whole ready_objects
open_is s held set t o session agrees open_ =
    let sent = agrees.sent t o open_ in
    let x = sent.0 in
    let is = session t x sent.1 in
    let open_x : get held.objects t ≡ Some x.oti = open_ ∙ ap (λ i. Some i) sent.2 in
    let both = same_ready s held set t x agrees sent.1 in
    elim (is_ready held t x.oti) as (λ b. is_ready held t x.oti ≡ b → whole held t ≡ sent_when_ready set t (s t)) [
      | true ↦ λ ready.
          whole_only held t x.oti (filled x) (pair_of s held set session agrees) open_x ready (session_rows s held set t x agrees sent.1 is)
          ∙ ap (λ xs. Some xs) (ap (λ n. take n (filled x)) (sym is.long) ∙ front_of x)
          ∙ sym (ap (sent_when_ready set t) sent.1 ∙ ap (λ b. if b then Some x.bytes else None) (sym both ∙ ready))
      | false ↦ λ not_ready.
          ap (bytes_when_ready held t) open_x ∙ rw not_ready refl
          ∙ sym (ap (sent_when_ready set t) sent.1 ∙ ap (λ b. if b then Some x.bytes else None) (sym both ∙ not_ready))
    ] refl

-- and of one that isn't
closed_is : (s : Session) (held set : Held) (t : ℕ) → IsSession s → Agrees s held set → get held.objects t ≡ None → whole held t ≡ ready_objects s set t
unfolding whole ready_objects
closed_is s held set t session agrees closed =
    ap (bytes_when_ready held t) closed
    ∙ elim (s t) as (λ o. s t ≡ o → None ≡ sent_when_ready set t o) [
      | None ↦ λ e. refl
      | Some x ↦ λ e. sym (ap (λ b. if b then Some x.bytes else None)
          (sym (same_ready s held set t x agrees e) ∙ unopened_not_ready s held set t x agrees e (session t x e) closed))
    ] refl

-- what is whole is what was sent of the objects that are ready in the set
pub whole_is : (s : Session) (held set : Held) (t : ℕ) → IsSession s → Agrees s held set → whole held t ≡ ready_objects s set t
whole_is s held set t session agrees = elim (get held.objects t) as (λ o. get held.objects t ≡ o → whole held t ≡ ready_objects s set t) [
  | None ↦ λ e. closed_is s held set t session agrees e
  | Some o ↦ λ e. open_is s held set t o session agrees e
] refl

pub whole_is_sent : (s : Session) (budget : ℕ) (ps : List SymbolPacket) (t : ℕ) → IsSession s
    → AreOf s ps → whole (held_after budget ps) t ≡ ready_objects s (gathered (kept budget ps)) t
whole_is_sent s budget ps t session are = whole_is s (held_after budget ps) (gathered (kept budget ps)) t session (ends_of s budget ps session are).agrees
