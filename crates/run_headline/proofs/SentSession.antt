-- Each datagram of a schedule is one of the session's, as the headline takes it.
use Rattle.std.proofs.Common.{◌≡◌, ℕ, ◌-◌, Bool, true, false, List, Option, Some, None, Ok, refl, sym, ap, ◌∙◌, subst, arith, get_or, inl, inr}
use Rattle.std.specs.Prelude.{All, ◌==◌, if◌then◌else◌, option_map, slice_get}
use Rattle.std.specs.List.{flat_map}
use Rattle.std.proofs.lemmas.Bool.{ne_eqb}
use Rattle.std.proofs.lemmas.Option.{slice_get_cases}
use Rattle.std.proofs.lemmas.List.Elements.{All-map}
use Rattle.wire_bytes.specs.Bytes.{AreBytes}
use Rattle.std.proofs.lemmas.List.{get_or_default}
use Rattle.gf256.specs.Polynomial.{power}
use Rattle.gf256.proofs.Public.{power_lt, value_lt}
use Rattle.rs_code.specs.SourceRows.{IsSymbolRow}
use Rattle.oti_blocks.specs.Partition.{symbol_of}
use Rattle.oti_blocks.specs.Sent.{Sent, IsSent, block_rows}
use Rattle.object_symbols.specs.SymbolRow.{symbol_row}
use Rattle.object_symbols.proofs.Public.{length-block_rows, few_rows, block_rows_bytes, symbol_row_of_bytes}
use Rattle.alc_packet.specs.Packet.{SymbolPacket, full}
use Rattle.alc_packet.specs.Datagram.{Spells}
use Rattle.alc_packet.specs.declared.datagram.Datagram.TheVariants.{Symbol}
use Rattle.alc_packet.proofs.Public.{answered}
use Rattle.held_packets.specs.Session as headline
use Rattle.sender_plan.specs.Session.{Session, SentObject, IsSession, HasObject, object_of, objects_of}
use Rattle.sender_schedule.specs.Datagram.{sent_of, packet, datagram}
use Rattle.sender_schedule.specs.SymbolIds.{IsSymbolId, symbol_ids}
use Rattle.sender_schedule.specs.Schedule.{all_cycles, datagrams_of, object_datagrams, schedule}
use Rattle.sender_schedule.specs.declared.symbol_id.SymbolId.{SymbolId}
use Rattle.sender_schedule.specs.Belonging.{IsSentOf, Belongs}
use Rattle.sender_schedule.proofs.Public.{each_belongs}
use Rattle.sender_schedule.proofs.Public.{All-flat_map, all_known, can_be_sent, schedule_by_objects}
use Rattle.sender_schedule.proofs.Public.{packet_is}
use Rattle.sender_schedule.proofs.Public.{only}
use Rattle.run_headline.specs.Headline.{IsDatagramOf}
use Rattle.run_headline.specs.SentSession.{objects_sent}
use Rattle.run_headline.proofs.DatagramBytes.{written_bytes}

of_object : (s : Session) (at : ℕ) (o : Option SentObject) (x : Sent) → IsSession s → slice_get s.objects at ≡ o → option_map sent_of o ≡ Some x → IsSent x
of_object s at None x session found is = cc
of_object s at (Some o) x session found is =
    let object = session.objects at o found in
    subst IsSent (let same : sent_of o ≡ x = cc in same) (record { sound = object.sound; bytes = object.bytes; long = object.long })

of_identifier : (s : Session) (none : Bool) (at : ℕ) (x : Sent) → IsSession s
    → (if none then None else option_map sent_of (slice_get s.objects at)) ≡ Some x → IsSent x
of_identifier s true at x session is = cc
of_identifier s false at x session is = of_object s at (slice_get s.objects at) x session refl is

pub session_is : (s : Session) → IsSession s → headline.IsSession (objects_sent s)
session_is s session t x is = of_identifier s (t == 0) (t - 1) x session is

-- the packet is one of the headline's
packet_belongs : (s : Session) (p : SymbolPacket) → IsSentOf s p → headline.Belongs (objects_sent s) p
packet_belongs s p sent = record {
  object = sent_of sent.object;
  sent = ap (λ none. if none then None else option_map sent_of (object_of s p.toi)) (ne_eqb p.toi 0 (λ zero. omega (arith, zero, sent.toi.some)))
      ∙ ap (option_map sent_of) sent.known;
  information = sent.information;
  symbol = subst (λ o. IsSymbolRow (block_rows (sent_of sent.object) p.sbn) (symbol_of o) p.esi (full p)) sent.information sent.symbol;
}

pub packets_belong : (s : Session) (d : List ℕ) (p : SymbolPacket) → Belongs s d → Spells d p → headline.Belongs (objects_sent s) p
packets_belong s d p belongs spells =
    let both = sym (answered d (Ok (Symbol belongs.packet)) belongs.spells) ∙ answered d (Ok (Symbol p)) spells in
    subst (headline.Belongs (objects_sent s)) (let same : belongs.packet ≡ p = cc in same) (packet_belongs s belongs.packet belongs.sent)

pub datagram_is : (s : Session) (d : List ℕ) → AreBytes d → Belongs s d → IsDatagramOf (objects_sent s) s.tsi d
datagram_is s d bytes belongs = record { bytes = bytes; belongs = λ p spells tsi. packets_belong s d p belongs spells }

-- ---- and bytes

symbol_bytes : (rows : List (List ℕ)) (size j : ℕ) (row : List ℕ) → IsSymbolRow rows size j row → AreBytes row
symbol_bytes rows size j row is = λ k d less.
    let symbol = is.symbols k (omega (arith, less, is.full)) in
    let byte = value_lt symbol.coefs (power j) symbol.bytes (power_lt j) in
    let same = get_or_default row k d 0 less in
    omega (arith, byte, symbol.symbol, same)

place_bytes : (s : Session) (toi : ℕ) (o : SentObject) (p : SymbolId) → IsSession s → HasObject s toi → object_of s toi ≡ Some o → IsSymbolId o.oti p
    → AreBytes (datagram s.tsi o p)
unfolding datagram
place_bytes s toi o p session has found is =
    let can = can_be_sent s toi o session has found in
    let x : Sent = sent_of o in
    let few = few_rows x p.sbn can.sent is.sbn in
    written_bytes (packet s.tsi o p) (packet_is s.tsi o p session.tsi can is)
    (symbol_bytes (block_rows x p.sbn) (symbol_of o.oti) p.esi (symbol_row (block_rows x p.sbn) (symbol_of o.oti) p.esi)
    (symbol_row_of_bytes (block_rows x p.sbn) (symbol_of o.oti) p.esi (λ at less. block_rows_bytes x p.sbn at can.sent less)
    (λ at. omega (arith, few, length-block_rows x p.sbn at))))

object_bytes : (s : Session) (toi : ℕ) → IsSession s → HasObject s toi → All AreBytes (object_datagrams s toi)
object_bytes s toi session has = elim (slice_get_cases s.objects (toi - 1)).1 [
  | inl some ↦
      let o : SentObject = some.0 in
      let found : object_of s toi ≡ Some o = some.2 in
      subst (λ x. All AreBytes (datagrams_of s.tsi x)) (sym found)
      (All-map AreBytes (datagram s.tsi o) (symbol_ids o.oti) (λ k d less. place_bytes s toi o (get_or (symbol_ids o.oti) k d) session has found (only o.oti k d less)))
  | inr past ↦ absurd (omega (arith, past.0, has.some, has.within))
]

all_bytes : (s : Session) → IsSession s → All AreBytes (schedule s)
all_bytes s session =
    subst (All AreBytes) (schedule_by_objects s)
    (All-flat_map AreBytes (object_datagrams s) (flat_map objects_of (all_cycles s.cycles s.instances))
    (λ k d less. object_bytes s (get_or (flat_map objects_of (all_cycles s.cycles s.instances)) k d) session (all_known s session k d less)))

pub all_of_session : (s : Session) → IsSession s → All (IsDatagramOf (objects_sent s) s.tsi) (schedule s)
all_of_session s session = λ k d less.
    datagram_is s (get_or (schedule s) k d) (all_bytes s session k d less) (each_belongs s session k d less)
