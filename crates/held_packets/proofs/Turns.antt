-- One packet of a session: its verdict, and what it leaves of the held pair and the kept set.
use Rattle.std.proofs.Common.{◌≡◌, ℕ, ◌+◌, ◌<◌, ◌≤◌, true, false, ◌∙◌, refl, sym, ap, subst, arith, List, Option, Some, None, inl, inr}
use Rattle.std.specs.Prelude.{if◌then◌else◌, nat_le, nat_lt, is_some}
use Rattle.std.specs.Str.{bytes_eq}
use Rattle.std.specs.FinMap.{get}
use Rattle.std.proofs.lemmas.Bool.Decides.{nat_tests}
use Rattle.std.proofs.lemmas.Slice.Eq.{bytes_eq-Decides}
use Rattle.oti_blocks.specs.Partition.{ObjectInformation, size_at, encoding_at}
use Rattle.oti_blocks.proofs.Public.{size_bounds}
use Rattle.wire_bytes.proofs.Public.{count_none}
use Rattle.alc_packet.specs.Packet.{SymbolPacket, IsPacket, full}
use Rattle.held_packets.specs.declared.kept.Kept.{Kept}
use Rattle.held_packets.specs.declared.kept.Kept.TheVariants.{Repeat, Spare, OverBudget}
use Rattle.held_packets.specs.Held.{Held, place, place_of, row_at, is_held, symbols_held, same_information, joined}
use Rattle.held_packets.specs.Count.{byte_count, charge}
use Rattle.held_packets.specs.Ready.{is_block_ready}
use Rattle.held_packets.specs.Verdict.{verdict, verdict_on_object, verdict_on_row, verdict_on_fresh, new_in, is_new, is_kept, IsNoDifference}
use Rattle.held_packets.specs.Session.{Session, IsSession, Belongs, IsOf}
use Rattle.held_packets.specs.KeptSet.{set_count}
use Rattle.held_packets.proofs.Counting.{IsFresh, joined_count}
use Rattle.held_packets.proofs.Verdicts.{not_le, not_lt}
use Rattle.held_packets.proofs.Symbols.{same_symbol, symbol_of_packet}
use Rattle.held_packets.proofs.Agreeing.{Agrees, information_is, join_both, join_set}
use Rattle.held_packets.proofs.SetCounts.{counts_agree}

-- ---- the verdict

-- the verdict on a packet of the session, with what shows it
pub data Found (budget : ℕ) (held : Held) (p : SymbolPacket) : Type 0 where
  FoundRepeat : get held.objects p.toi ≡ Some p.oti → row_at held (place_of p) ≡ Some (full p) → verdict budget held p ≡ Repeat → Found budget held p
  FoundSpare : get held.objects p.toi ≡ Some p.oti → size_at p.oti p.sbn ≤ symbols_held held p.toi p.oti p.sbn → verdict budget held p ≡ Spare → Found budget held p
  FoundOver : IsFresh held p → symbols_held held p.toi p.oti p.sbn < size_at p.oti p.sbn → budget < byte_count held + charge held p
      → verdict budget held p ≡ OverBudget (byte_count held) (charge held p) → Found budget held p
  FoundNew : IsFresh held p → symbols_held held p.toi p.oti p.sbn < size_at p.oti p.sbn → byte_count held + charge held p ≤ budget
      → verdict budget held p ≡ new_in (joined held p) p → Found budget held p

-- information is the same as itself
same_as_itself : (o : ObjectInformation) → same_information o o ≡ true
same_as_itself o = grind (arith, nat_tests)

-- the object isn't held under other information
on_row : (s : Session) (budget : ℕ) (held set : Held) (p : SymbolPacket) → Agrees s held set → Belongs s p → (o : Option ObjectInformation) → get held.objects p.toi ≡ o
    → verdict_on_object budget held p o ≡ verdict_on_row budget held p (row_at held (place_of p))
on_row s budget held set p agrees belongs None e = refl
on_row s budget held set p agrees belongs (Some o) e =
    let sent = agrees.sent p.toi o e in
    let is : o ≡ p.oti = sent.2 ∙ sym (information_is s p p.toi sent.0 belongs refl sent.1) in
    let test : same_information o p.oti ≡ true = ap (λ i. same_information i p.oti) is ∙ same_as_itself p.oti in
    rw test refl

-- an open object of the session is open under the packet's information
open_as : (s : Session) (held set : Held) (p : SymbolPacket) (o : ObjectInformation) → Agrees s held set → Belongs s p → get held.objects p.toi ≡ Some o → o ≡ p.oti
open_as s held set p o agrees belongs e = let sent = agrees.sent p.toi o e in sent.2 ∙ sym (information_is s p p.toi sent.0 belongs refl sent.1)

-- a packet whose place isn't held is fresh
fresh : (s : Session) (held set : Held) (p : SymbolPacket) → Agrees s held set → IsPacket p → Belongs s p → row_at held (place_of p) ≡ None → IsFresh held p
fresh s held set p agrees packet belongs vacant = record {
  agrees = λ o e. open_as s held set p o agrees belongs e;
  vacant = vacant;
  unopened = λ closed b j. none (row_at held (place p.toi b j)) (λ row is.
      let open_ = agrees.opened p.toi b j row belongs.object (agrees.rows p.toi b j row is) belongs.sent in
      let both : None ≡ Some belongs.object.oti = sym closed ∙ open_ in cc);
  block = packet.block;
  symbol = packet.place;
} where
  none : (o : Option (List ℕ)) → ((row : List ℕ) → o ≡ Some row → ⊥) → o ≡ None
  none None never = refl
  none (Some row) never = absurd (never row refl)

-- a row of the packet's place shows that the object is open under its information
open_by_row : (s : Session) (held set : Held) (p : SymbolPacket) (b j : ℕ) (row : List ℕ) → Agrees s held set
    → Belongs s p → row_at held (place p.toi b j) ≡ Some row → get held.objects p.toi ≡ Some p.oti
open_by_row s held set p b j row agrees belongs is =
    agrees.opened p.toi b j row belongs.object (agrees.rows p.toi b j row is) belongs.sent ∙ ap (λ o. Some o) (sym belongs.information)

at_most : (n m : ℕ) → nat_le n m ≡ true → n ≤ m
at_most n m h = grind (arith, nat_tests)

less : (n m : ℕ) → nat_lt n m ≡ true → n < m
less n m h = grind (arith, nat_tests)

-- a row is equal to itself
equal_rows : (xs : List ℕ) → bytes_eq xs xs ≡ true
equal_rows xs = (bytes_eq-Decides xs xs).1 refl

-- a packet whose place is held is a repeat: there is one symbol for each place
found_row : (s : Session) (budget : ℕ) (held set : Held) (p : SymbolPacket) (row : List ℕ)
    → Agrees s held set → IsPacket p → Belongs s p → row_at held (place_of p) ≡ Some row
    → verdict budget held p ≡ verdict_on_row budget held p (row_at held (place_of p)) → Found budget held p
found_row s budget held set p row agrees packet belongs is on =
    let one : row ≡ full p = same_symbol s p.toi p.sbn p.esi row (full p)
    (agrees.symbols p.toi p.sbn p.esi row (agrees.rows p.toi p.sbn p.esi row is)) (symbol_of_packet s p packet belongs) in
    let test : bytes_eq row (full p) ≡ true = ap (λ r. bytes_eq r (full p)) one ∙ equal_rows (full p) in
    FoundRepeat (open_by_row s held set p p.sbn p.esi row agrees belongs is) (is ∙ ap (λ r. Some r) one) (on ∙ ap (verdict_on_row budget held p) is ∙ rw test refl)

-- where some symbol of a block is held, a place that isn't vacant shows that its object is open
found_spare : (s : Session) (budget : ℕ) (held set : Held) (p : SymbolPacket) → Agrees s held set
    → IsPacket p → Belongs s p → row_at held (place_of p) ≡ None → is_block_ready held p.toi p.oti p.sbn ≡ true
    → verdict budget held p ≡ verdict_on_fresh budget held p → Found budget held p
found_spare s budget held set p agrees packet belongs vacant full_ on =
    let enough = at_most (size_at p.oti p.sbn) (symbols_held held p.toi p.oti p.sbn) full_ in
    let some = (size_bounds p.oti packet.sound p.sbn packet.block).0 in
    elim (get held.objects p.toi) as (λ o. get held.objects p.toi ≡ o → Found budget held p) [
      | None ↦ λ e. absurd (let none = unopened_symbols held p.toi p.oti p.sbn ((fresh s held set p agrees packet belongs vacant).unopened e) in
          omega (arith, none, enough, some))
      | Some o ↦ λ e. FoundSpare (e ∙ ap (λ i. Some i) (open_as s held set p o agrees belongs e)) enough (on ∙ rw full_ refl)
    ] refl
  where
    unopened_symbols : (h : Held) (t : ℕ) (o : ObjectInformation) (b : ℕ) → ((c j : ℕ) → row_at h (place t c j) ≡ None) → symbols_held h t o b ≡ 0
    unopened_symbols h t o b none = count_none (encoding_at o b) (λ j. is_held h (place t b j)) (λ j within. ap is_some (none b j))

-- the verdict on a packet of the session
pub found : (s : Session) (budget : ℕ) (held set : Held) (p : SymbolPacket) → Agrees s held set → IsPacket p → Belongs s p → Found budget held p
found s budget held set p agrees packet belongs =
    let on = on_row s budget held set p agrees belongs (get held.objects p.toi) refl in
    elim (row_at held (place_of p)) as (λ r. row_at held (place_of p) ≡ r → Found budget held p) [
      | Some row ↦ λ is. found_row s budget held set p row agrees packet belongs is on
      | None ↦ λ vacant.
          let on_fresh : verdict budget held p ≡ verdict_on_fresh budget held p = on ∙ ap (verdict_on_row budget held p) vacant in
          elim (is_block_ready held p.toi p.oti p.sbn) as (λ b. is_block_ready held p.toi p.oti p.sbn ≡ b → Found budget held p) [
            | true ↦ λ full_. found_spare s budget held set p agrees packet belongs vacant full_ on_fresh
            | false ↦ λ wanting.
                let fewer = not_le (size_at p.oti p.sbn) (symbols_held held p.toi p.oti p.sbn) wanting in
                elim (nat_lt budget (byte_count held + charge held p)) as (λ b. nat_lt budget (byte_count held + charge held p) ≡ b → Found budget held p) [
                  | true ↦ λ over. FoundOver (fresh s held set p agrees packet belongs vacant)
                      fewer (less budget (byte_count held + charge held p) over) (on_fresh ∙ rw (wanting, over) refl)
                  | false ↦ λ fits. FoundNew (fresh s held set p agrees packet belongs vacant)
                      fewer (not_lt budget (byte_count held + charge held p) fits) (on_fresh ∙ rw (wanting, fits) refl)
                ] refl
          ] refl
    ] refl

-- ---- what the packet leaves

-- the set with the packet, where it is kept
abbrev pub set_after : Held → SymbolPacket → Kept → Held
set_after set p kept = if is_kept kept then joined set p else set

-- what a packet with this verdict leaves
pub record Leaves (s : Session) (budget : ℕ) (held set : Held) (p : SymbolPacket) (kept : Kept) : Type 0 where
  pub agrees : Agrees s (if is_new kept then joined held p else held) (set_after set p kept)
  pub within : byte_count (if is_new kept then joined held p else held) ≤ budget
  pub fits : is_kept kept ≡ nat_le (set_count (joined set p)) budget
  pub no_difference : IsNoDifference kept

is_at_most : (n m : ℕ) → n ≤ m → true ≡ nat_le n m
is_at_most n m h = grind (arith, nat_tests)

is_above : (n m : ℕ) → m < n → false ≡ nat_le n m
is_above n m h = grind (arith, nat_tests)

leaves_found : (s : Session) (budget : ℕ) (held set : Held) (p : SymbolPacket) → IsSession s → Agrees s held set → byte_count held ≤ budget → IsPacket p → Belongs s p
    → Found budget held p → Leaves s budget held set p (verdict budget held p)
leaves_found s budget held set p session agrees within packet belongs (FoundRepeat open_ is e) =
    let again = join_set s held set p agrees packet belongs open_ (inl is) in
    subst (Leaves s budget held set p) (sym e)
    (record { agrees = again; within = within; fits = is_at_most _ _ (omega (arith, counts_agree s held (joined set p) session again, within)); no_difference = tt })
leaves_found s budget held set p session agrees within packet belongs (FoundSpare open_ full_ e) =
    let again = join_set s held set p agrees packet belongs open_ (inr full_) in
    subst (Leaves s budget held set p) (sym e)
    (record { agrees = again; within = within; fits = is_at_most _ _ (omega (arith, counts_agree s held (joined set p) session again, within)); no_difference = tt })
leaves_found s budget held set p session agrees within packet belongs (FoundOver is_fresh wanting over e) =
    let both = join_both s held set p agrees packet belongs is_fresh wanting in
    let count = counts_agree s (joined held p) (joined set p) session both in
    subst (Leaves s budget held set p) (sym e)
    (record { agrees = agrees; within = within; fits = is_above _ _ (omega (arith, joined_count held p is_fresh, count, over)); no_difference = tt })
leaves_found s budget held set p session agrees within packet belongs (FoundNew is_fresh wanting room e) =
    let both = join_both s held set p agrees packet belongs is_fresh wanting in
    let count = counts_agree s (joined held p) (joined set p) session both in
    let more = joined_count held p is_fresh in
    subst (Leaves s budget held set p) (sym e)
    (record { agrees = both; within = omega (arith, more, room); fits = is_at_most _ _ (omega (arith, more, count, room)); no_difference = tt })

pub leaves : (s : Session) (budget : ℕ) (held set : Held) (p : SymbolPacket) → IsSession s
    → Agrees s held set → byte_count held ≤ budget → IsOf s p → Leaves s budget held set p (verdict budget held p)
leaves s budget held set p session agrees within is =
    leaves_found s budget held set p session agrees within is.packet is.belongs (found s budget held set p agrees is.packet is.belongs)
