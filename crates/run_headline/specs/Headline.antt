-- What a run that reads its list to its end installs, in the words of the session that the datagrams belong to.
use Rattle.std.specs.Prelude.{◌≡◌, ℕ, List, ◌++◌, map, Option, Some, None}
use Rattle.wire_bytes.specs.Bytes.{AreBytes}
use Rattle.alc_packet.specs.Packet.{SymbolPacket}
use Rattle.alc_packet.specs.Datagram.{Spells}
use Rattle.held_packets.specs.Session.{Session, Belongs}
use Rattle.held_packets.specs.KeptSet.{kept, drops, gathered, ready_objects}
use Rattle.edge_io.specs.Shelved.{Shelved}
use Rattle.carousel_cid.specs.Instances.{Shown}
use Rattle.receiver_core.specs.InstanceOf.{IsBestInstance}
use Rattle.receiver_core.specs.SessionPackets.{ArePacketsOf}
use Rattle.run_receive.specs.Texts.{manifest, best_lines, over_line}
use Rattle.run_base.specs.declared.settings.Settings.{Settings}

-- the datagram is bytes, and a packet with this TSI that it spells belongs to the session
pub record IsDatagramOf (s : Session) (tsi : ℕ) (datagram : List ℕ) : Type 0 where
  pub bytes : AreBytes datagram
  pub belongs : (p : SymbolPacket) → Spells datagram p → p.tsi ≡ tsi → Belongs s p

-- the shelf holds the instance as finished: its number, its files byte for byte, and its manifest
abbrev pub IsInstalled : Option Shown → Shelved → Shelved → Type 0
IsInstalled None old new = new ≡ old
IsInstalled (Some i) old new = new.done ≡ Some (record { number = i.number; files = map (λ f. (f.toi, f.body)) i.files; manifest = manifest i })

-- Of the packets that the datagrams spell, in order: the best instance of the session's objects that are ready in the set of
-- those kept, as the session has them. It is on the shelf and in the report. Where there is none, the shelf is as before,
-- and the report says so.
pub record InstallsBest (s : Session) (c : Settings) (taken : List (List ℕ)) (shelf shelf' : Shelved) (text text' : List ℕ) : Type 0 where
  pub packets : List SymbolPacket
  pub spelled : ArePacketsOf c.tsi taken packets
  pub best : Option Shown
  pub greatest : IsBestInstance (ready_objects s (gathered (kept c.budget packets))) best
  pub installed : IsInstalled best shelf shelf'
  pub reported : text' ≡ text ++ (best_lines best ++ over_line (drops c.budget packets))
