-- Each datagram of the schedule spells a packet of the session.
use Rattle.std.proofs.Common.{◌≡◌, ℕ, ◌-◌, Some, get_or, refl, sym, subst, arith, inl, inr}
use Rattle.std.specs.Prelude.{All}
use Rattle.std.specs.List.{flat_map}
use Rattle.std.proofs.lemmas.Option.{slice_get_cases}
use Rattle.std.proofs.lemmas.List.Elements.{All-map}
use Rattle.wire_bytes.proofs.Public.{filled_whole}
use Rattle.oti_blocks.specs.Partition.{symbol_of}
use Rattle.oti_blocks.specs.Sent.{Sent, block_rows}
use Rattle.rs_code.specs.SourceRows.{IsSymbolRow}
use Rattle.object_symbols.specs.SymbolRow.{symbol_row}
use Rattle.object_symbols.proofs.Public.{length-block_rows, few_rows, block_rows_bytes, length-symbol_row, symbol_row_of_bytes}
use Rattle.alc_packet.specs.Packet.{full}
use Rattle.alc_packet.proofs.Public.{written_spells}
use Rattle.sender_plan.specs.Session.{Session, SentObject, HasObject, IsSession, objects_of, object_of}
use Rattle.sender_schedule.specs.SymbolIds.{IsSymbolId, symbol_ids}
use Rattle.sender_schedule.specs.Datagram.{sent_of, packet, datagram}
use Rattle.sender_schedule.specs.Schedule.{all_cycles, datagrams_of, object_datagrams, schedule}
use Rattle.sender_schedule.specs.Belonging.{Belongs}
use Rattle.sender_schedule.specs.Inner.Sending.{CanBeSent}
use Rattle.sender_schedule.specs.declared.symbol_id.SymbolId.{SymbolId}
use Rattle.sender_schedule.proofs.Objects.{All-flat_map, all_known, can_be_sent, schedule_by_objects}
use Rattle.sender_schedule.proofs.Packets.{packet_is}
use Rattle.sender_schedule.proofs.Once.{only}

-- its bytes are those of the symbol
symbol_is : (tsi : ℕ) (o : SentObject) (p : SymbolId) → CanBeSent o → IsSymbolId o.oti p
    → IsSymbolRow (block_rows (sent_of o) p.sbn) (symbol_of o.oti) p.esi (full (packet tsi o p))
unfolding full
symbol_is tsi o p can is =
    let x : Sent = sent_of o in
    let row = symbol_row (block_rows x p.sbn) (symbol_of o.oti) p.esi in
    let few = few_rows x p.sbn can.sent is.sbn in
    subst (IsSymbolRow (block_rows x p.sbn) (symbol_of o.oti) p.esi)
    (sym (filled_whole (symbol_of o.oti) row (omega (arith, length-symbol_row (block_rows x p.sbn) (symbol_of o.oti) p.esi))))
    (symbol_row_of_bytes (block_rows x p.sbn) (symbol_of o.oti) p.esi (λ at less. block_rows_bytes x p.sbn at can.sent less)
    (λ at. omega (arith, few, length-block_rows x p.sbn at)))

-- the datagram of a symbol belongs to the session
symbol_belongs : (s : Session) (toi : ℕ) (o : SentObject) (p : SymbolId) → IsSession s → HasObject s toi → object_of s toi ≡ Some o → IsSymbolId o.oti p
    → Belongs s (datagram s.tsi o p)
unfolding datagram
symbol_belongs s toi o p session has found is =
    let can = can_be_sent s toi o session has found in
    let toi_is : o.toi ≡ toi = omega (arith, (session.objects (toi - 1) o found).toi, has.some) in
    record {
      packet = packet s.tsi o p;
      spells = written_spells (packet s.tsi o p) (packet_is s.tsi o p session.tsi can is);
      sent = record {
        tsi = refl;
        toi = subst (HasObject s) (sym toi_is) has;
        object = o;
        known = subst (λ t. object_of s t ≡ Some o) (sym toi_is) found;
        information = refl;
        block = is.sbn;
        place = is.esi;
        symbol = symbol_is s.tsi o p can is;
        close = refl;
      };
    }

object_belongs : (s : Session) (toi : ℕ) → IsSession s → HasObject s toi → All (Belongs s) (object_datagrams s toi)
object_belongs s toi session has = elim (slice_get_cases s.objects (toi - 1)).1 [
  | inl some ↦
      let o : SentObject = some.0 in
      let found : object_of s toi ≡ Some o = some.2 in
      subst (λ x. All (Belongs s) (datagrams_of s.tsi x)) (sym found)
      (All-map (Belongs s) (datagram s.tsi o) (symbol_ids o.oti) (λ k d less. symbol_belongs s toi o (get_or (symbol_ids o.oti) k d) session has found (only o.oti k d less)))
  | inr past ↦ absurd (omega (arith, past.0, has.some, has.within))
]

pub each_belongs : (s : Session) → IsSession s → All (Belongs s) (schedule s)
each_belongs s session =
    subst (All (Belongs s)) (schedule_by_objects s)
    (All-flat_map (Belongs s) (object_datagrams s) (flat_map objects_of (all_cycles s.cycles s.instances))
    (λ k d less. object_belongs s (get_or (flat_map objects_of (all_cycles s.cycles s.instances)) k d) session (all_known s session k d less)))
