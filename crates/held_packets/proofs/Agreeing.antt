-- The held pair of a session's packets and the set of those that are kept: what they have in common, and that each
-- packet leaves it so.
use Rattle.std.proofs.lemmas.Bool.{eqb-false}
use Rattle.std.proofs.lemmas.Option.{same_Some}
use Rattle.std.proofs.lemmas.Bool.Decides.{nat_tests}
use Rattle.std.proofs.Common.{◌≡◌, ◌≢◌, ℕ, ◌<◌, ◌≤◌, true, false, cond, ◌∙◌, refl, sym, ap, subst, arith, List, Some, ◌⊎◌, inl, inr, eqb-true}
use Rattle.std.specs.Prelude.{is_some, ◌==◌}
use Rattle.std.specs.Cmp.{nat_cmp_total}
use Rattle.std.specs.FinMap.{get, insert, same_map, nat_cmp-IsAntisymmetric}
use Rattle.oti_blocks.specs.Partition.{ObjectInformation, size_at, encoding_at}
use Rattle.alc_packet.specs.Packet.{SymbolPacket, IsPacket, full}
use Rattle.wire_bytes.proofs.Public.{count_more}
use Rattle.held_packets.specs.Held.{Held, place, place_of, row_at, is_held, symbols_held, joined}
use Rattle.held_packets.specs.Session.{Session, Sent, Belongs}
use Rattle.held_packets.proofs.Counting.{IsFresh, row_joined, symbols_here, symbols_elsewhere}
use Rattle.held_packets.proofs.Joined.{at_place, there, by_test, with_row, object_joined, with_object}
use Rattle.held_packets.proofs.Symbols.{IsSymbolAt, one_object, same_symbol, symbol_of_packet}

-- Both have the same objects, which the session has. The set has each row that is held, all its rows are the session's
-- symbols, and a block that isn't full is the same in both.
pub record Agrees (s : Session) (held set : Held) : Type 0 where
  pub objects : set.objects ≡ held.objects
  pub rows : (t b j : ℕ) (row : List ℕ) → row_at held (place t b j) ≡ Some row → row_at set (place t b j) ≡ Some row
  pub symbols : (t b j : ℕ) (row : List ℕ) → row_at set (place t b j) ≡ Some row → IsSymbolAt s t b j row
  pub opened : (t b j : ℕ) (row : List ℕ) (x : Sent) → row_at set (place t b j) ≡ Some row → s t ≡ Some x → get held.objects t ≡ Some x.oti
  pub sent : (t : ℕ) (o : ObjectInformation) → get held.objects t ≡ Some o → (x : Sent) × (s t ≡ Some x) × (o ≡ x.oti)
  pub same : (t b : ℕ) (x : Sent) → s t ≡ Some x → symbols_held held t x.oti b < size_at x.oti b → (j : ℕ) → row_at set (place t b j) ≡ row_at held (place t b j)
  pub most : (t b : ℕ) (x : Sent) → s t ≡ Some x → symbols_held held t x.oti b ≤ size_at x.oti b

-- the packet's symbol at its place, by any names of the place
symbol_there : (s : Session) (p : SymbolPacket) (t b j : ℕ) (row : List ℕ) → IsPacket p
    → Belongs s p → at_place p t b j ≡ true → Some (full p) ≡ Some row → IsSymbolAt s t b j row
symbol_there s p t b j row packet belongs test is =
    let at = there p t b j test in
    subst (λ r. IsSymbolAt s t b j r) (same_Some (full p) row is)
    (subst (λ n. IsSymbolAt s t b n (full p)) at.esi (subst (λ n. IsSymbolAt s t n p.esi (full p))
    at.sbn (subst (λ n. IsSymbolAt s n p.sbn p.esi (full p)) at.toi (symbol_of_packet s p packet belongs))))

-- the session's information of the packet's object is the packet's
pub information_is : (s : Session) (p : SymbolPacket) (t : ℕ) (x : Sent) → Belongs s p → p.toi ≡ t → s t ≡ Some x → p.oti ≡ x.oti
information_is s p t x belongs at sent = belongs.information ∙ ap (λ (y : Sent). y.oti) (one_object s t belongs.object x (ap s (sym at) ∙ belongs.sent) sent)

-- an object that is open under the session's information stays so
opened_joined : (s : Session) (held : Held) (p : SymbolPacket) (t : ℕ) (x : Sent) → Belongs s p
    → s t ≡ Some x → get held.objects t ≡ Some x.oti → get (joined held p).objects t ≡ Some x.oti
opened_joined s held p t x belongs sent open_ =
    with_object held p t (λ o. o ≡ Some x.oti) (λ at. ap (λ o. Some o) (information_is s p t x belongs at sent)) (λ e. open_)

-- the set's symbols stay symbols
symbols_joined : (s : Session) (set : Held) (p : SymbolPacket) → IsPacket p → Belongs s p
    → ((t b j : ℕ) (row : List ℕ) → row_at set (place t b j) ≡ Some row → IsSymbolAt s t b j row)
    → (t b j : ℕ) (row : List ℕ) → row_at (joined set p) (place t b j) ≡ Some row → IsSymbolAt s t b j row
symbols_joined s set p packet belongs before t b j row =
    with_row set p t b j (λ o. o ≡ Some row → IsSymbolAt s t b j row) (λ test is. symbol_there s p t b j row packet belongs test is) (λ test is. before t b j row is)

-- a block has no fewer symbols once a packet has joined
more_symbols : (held : Held) (p : SymbolPacket) (t b : ℕ) (o : ObjectInformation) → symbols_held held t o b ≤ symbols_held (joined held p) t o b
more_symbols held p t b o =
    count_more (encoding_at o b) (λ j. is_held held (place t b j)) (λ j. is_held (joined held p) (place t b j))
    (λ j less. with_row held p t b j (λ r. is_held held (place t b j) ≡ true → is_some r ≡ true) (λ test e. refl) (λ test e. e))

-- of a bound on a block's symbols, by other names of the block
moved : (held : Held) (t u : ℕ) (o v : ObjectInformation) (b c : ℕ) → t ≡ u → o ≡ v
    → b ≡ c → symbols_held held t o b ≤ size_at o b → symbols_held held u v c ≤ size_at v c
moved held t u o v b c at is in_ le =
    subst (λ n. symbols_held held u v n ≤ size_at v n)
    in_ (subst (λ i. symbols_held held u i b ≤ size_at i b) is (subst (λ n. symbols_held held n o b ≤ size_at o b) at le))

-- no block has more symbols than it has source symbols
most_joined : (s : Session) (held : Held) (p : SymbolPacket) (t b : ℕ) (x : Sent) → Belongs s p
    → IsFresh held p → symbols_held held p.toi p.oti p.sbn < size_at p.oti p.sbn → s t ≡ Some x
    → symbols_held held t x.oti b ≤ size_at x.oti b → symbols_held (joined held p) t x.oti b ≤ size_at x.oti b
most_joined s held p t b x belongs fresh wanting sent most =
    let own : symbols_held (joined held p) p.toi p.oti p.sbn ≤ size_at p.oti p.sbn = omega (arith, symbols_here held p fresh, wanting) in
    elim (p.toi == t) as (λ c. (p.toi == t) ≡ c → symbols_held (joined held p) t x.oti b ≤ size_at x.oti b) [
      | false ↦ λ e. omega (arith, symbols_elsewhere held p t b x.oti (λ same other. eqb-false p.toi t e same), most)
      | true ↦ λ e. elim (p.sbn == b) as (λ c. (p.sbn == b) ≡ c → symbols_held (joined held p) t x.oti b ≤ size_at x.oti b) [
        | false ↦ λ f. omega (arith, symbols_elsewhere held p t b x.oti (λ same other. eqb-false p.sbn b f other), most)
        | true ↦ λ f.
            let at = eqb-true p.toi t e in
            moved (joined held p) p.toi t p.oti x.oti p.sbn b at (information_is s p t x belongs at sent) (eqb-true p.sbn b f) own
      ] refl
    ] refl

-- an object of the session is the packet's, or was open
sent_joined : (s : Session) (held : Held) (p : SymbolPacket) (t : ℕ) (o : ObjectInformation) → Belongs s p
    → ((u : ℕ) (v : ObjectInformation) → get held.objects u ≡ Some v → (x : Sent) × (s u ≡ Some x) × (v ≡ x.oti))
    → get (joined held p).objects t ≡ Some o → (x : Sent) × (s t ≡ Some x) × (o ≡ x.oti)
sent_joined s held p t o belongs before =
    with_object held p t (λ i. i ≡ Some o → (x : Sent) × (s t ≡ Some x) × (o ≡ x.oti))
    (λ at is. (belongs.object, ap s (sym at) ∙ belongs.sent, sym (same_Some p.oti o is) ∙ belongs.information))
    (λ e is. before t o is)

-- both with a packet that joins what is held
pub join_both : (s : Session) (held set : Held) (p : SymbolPacket) → Agrees s held set → IsPacket p
    → Belongs s p → IsFresh held p → symbols_held held p.toi p.oti p.sbn < size_at p.oti p.sbn
    → Agrees s (joined held p) (joined set p)
join_both s held set p agrees packet belongs fresh wanting = record {
  objects = ap (λ m. insert m p.toi p.oti) agrees.objects;
  rows = λ t b j row. with_row held p t b j (λ o. o ≡ Some row → row_at (joined set p) (place t b j) ≡ Some row)
      (λ test is. row_joined set p t b j ∙ ap (λ c. cond c (Some (full p)) (row_at set (place t b j))) test ∙ is)
      (λ test is. row_joined set p t b j ∙ ap (λ c. cond c (Some (full p)) (row_at set (place t b j))) test ∙ agrees.rows t b j row is);
  symbols = symbols_joined s set p packet belongs agrees.symbols;
  opened = λ t b j row x. with_row set p t b j (λ o. o ≡ Some row → s t ≡ Some x → get (joined held p).objects t ≡ Some x.oti)
      (λ test is sent.
      let at = there p t b j test in
      object_joined held p t ∙ by_test (λ o. o ≡ Some x.oti) (p.toi == t) (Some p.oti) (get held.objects t)
      (λ e. ap (λ o. Some o) (information_is s p t x belongs at.toi sent)) (λ e. absurd (eqb-false p.toi t e at.toi)))
      (λ test is sent. opened_joined s held p t x belongs sent (agrees.opened t b j row x is sent));
  sent = λ t o. sent_joined s held p t o belongs agrees.sent;
  same = λ t b x sent less j.
      row_joined set p t b j ∙ ap (cond (at_place p t b j) (Some (full p)))
      (agrees.same t b x sent (omega (arith, less, more_symbols held p t b x.oti)) j) ∙ sym (row_joined held p t b j);
  most = λ t b x sent. most_joined s held p t b x belongs fresh wanting sent (agrees.most t b x sent);
}

-- the set with a packet that doesn't join: its symbol is held, or its block is full
pub join_set : (s : Session) (held set : Held) (p : SymbolPacket) → Agrees s held set → IsPacket p → Belongs s p → get held.objects p.toi ≡ Some p.oti
    → (row_at held (place_of p) ≡ Some (full p)) ⊎ (size_at p.oti p.sbn ≤ symbols_held held p.toi p.oti p.sbn) → Agrees s held (joined set p)
join_set s held set p agrees packet belongs open_ there_or_full = record {
  objects = same_map nat_cmp_total nat_cmp-IsAntisymmetric _ _ (λ t.
      with_object set p t (λ o. o ≡ get held.objects t) (λ at. sym open_ ∙ ap (get held.objects) at) (λ e. ap (λ m. get m t) agrees.objects));
  rows = λ t b j row is. with_row set p t b j (λ o. o ≡ Some row)
      (λ test. ap (λ r. Some r)
      (same_symbol s t b j (full p) row (symbol_there s p t b j (full p) packet belongs test refl) (agrees.symbols t b j row (agrees.rows t b j row is))))
      (λ test. agrees.rows t b j row is);
  symbols = symbols_joined s set p packet belongs agrees.symbols;
  opened = λ t b j row x. with_row set p t b j (λ o. o ≡ Some row → s t ≡ Some x → get held.objects t ≡ Some x.oti)
      (λ test is sent.
      let at = there p t b j test in
      ap (get held.objects) (sym at.toi) ∙ open_ ∙ ap (λ o. Some o) (information_is s p t x belongs at.toi sent))
      (λ test is sent. agrees.opened t b j row x is sent);
  sent = agrees.sent;
  same = λ t b x sent less j. with_row set p t b j (λ o. o ≡ row_at held (place t b j))
      (λ test.
      let at = there p t b j test in
      elim there_or_full [
        | inl held_ ↦ sym held_ ∙ ap (λ q. row_at held q) (λ i. place (at.toi i) (at.sbn i) (at.esi i))
        | inr full_ ↦ absurd (let none : size_at x.oti b ≤ symbols_held held t x.oti b =
            full_by held p.toi t p.oti x.oti p.sbn b at.toi (information_is s p t x belongs at.toi sent) at.sbn full_ in omega (arith, none, less))
      ])
      (λ test. agrees.same t b x sent less j);
  most = agrees.most;
} where
  full_by : (h : Held) (t u : ℕ) (o v : ObjectInformation) (b c : ℕ) → t ≡ u → o ≡ v → b ≡ c → size_at o b ≤ symbols_held h t o b → size_at v c ≤ symbols_held h u v c
  full_by h t u o v b c at is in_ le = subst (λ n. size_at v n ≤ symbols_held h u v n)
      in_ (subst (λ i. size_at i b ≤ symbols_held h u i b) is (subst (λ n. size_at o b ≤ symbols_held h n o b) at le))
