-- The outcome of a list of datagrams that is taken: how the run ends, what the text gets, the calls that the shelf gets, and the
-- events that the watchers hear.
use Rattle.std.specs.Prelude.{ℕ, ◌==◌, true, false, if◌then◌else◌, List, [], ◌∷◌, ◌++◌, map, take, Option, Some, None, is_some}
use Rattle.edge_io.specs.ShelfCalls.{Call, Begin, Put, Finish}
use Rattle.alc_packet.specs.Packet.{SymbolPacket}
use Rattle.carousel_cid.specs.Instances.{Shown}
use Rattle.carousel_cid.specs.declared.file_of.FileOf.{FileOf}
use Rattle.held_packets.specs.KeptSet.{drops}
use Rattle.receiver_core.specs.Classes.{packets_of}
use Rattle.receiver_core.specs.BestOf.{installed_after}
use Rattle.run_base.specs.declared.bound.Bound.{Bound}
use Rattle.run_base.specs.declared.bound.Bound.TheVariants.{Most, Count}
use Rattle.run_base.specs.declared.ending.Ending.{Ending}
use Rattle.run_base.specs.declared.ending.Ending.TheVariants.{End, Torn, TooMany}
use Rattle.run_base.specs.declared.settings.Settings.{Settings}
use Rattle.run_base.specs.declared.status.Status.{Status}
use Rattle.run_base.specs.declared.status.Status.TheVariants as statuses
use Rattle.run_base.specs.Bounds.{asked, ending_of, datagrams_taken}
use Rattle.run_base.specs.Outcome.{Outcome, Uses, Once, Pieces, Writes}
use Rattle.run_base.specs.Texts.{ending_line}
use Rattle.run_receive.specs.Events.{events_of, events_taken}
use Rattle.run_receive.specs.Texts.{manifest, best_lines, over_line}

-- read to its end: by whether a packet was over the budget, and else by whether an instance is installed
abbrev pub end_status : ℕ → Option Shown → Status
end_status drops installed =
    if drops == 0 then (if is_some installed then statuses.Done else statuses.NothingInstalled) else statuses.OverBudget

abbrev pub base_status : Ending → ℕ → Option Shown → Status
base_status End drops installed = end_status drops installed
base_status (Torn at) drops installed = statuses.Torn
base_status TooMany drops installed = statuses.TooMany

abbrev pub put_of : FileOf → Call
put_of f = Put f.toi f.body

-- the calls that install an instance
abbrev pub installing : Option Shown → List Call
installing None = []
installing (Some i) = Begin i.number ∷ (map put_of i.files ++ Finish (manifest i) ∷ [])

-- the shelf is touched where the list was read to its end alone
abbrev pub calls_of : Ending → Option Shown → List Call
calls_of End installed = installing installed
calls_of ending installed = []

-- of a list: how its taking ended, how many packets were over the budget, and what is installed
abbrev pub report_of : Ending → ℕ → Option Shown → List ℕ
report_of ending drops installed = best_lines installed ++ (over_line drops ++ ending_line ending)

-- the packets of the receiver's session among them
abbrev pub packets_taken : Settings → List (List ℕ) → List SymbolPacket
packets_taken c left = packets_of c.tsi (datagrams_taken c left)

-- what a receiver of these settings does of a list: how its taking ended, how many packets were over the budget, and what is installed
abbrev pub outcome_of : Settings → List (List ℕ) → Ending → ℕ → Option Shown → Outcome
outcome_of c left ending drops installed = record {
  status = base_status ending drops installed;
  text = report_of ending drops installed;
  sent = [];
  calls = calls_of ending installed;
  events = events_taken c left;
  first_events = λ n. events_of c.tsi c.budget (take n left);
  asked = asked c.bound;
}

-- of a receiver that takes of the datagrams that are left, where their log is torn there
unfoldable pub received : Settings → List (List ℕ) → Option ℕ → Outcome
received c left torn =
    outcome_of c left (ending_of c.bound left torn) (drops c.budget (packets_taken c left)) (installed_after c.budget (packets_taken c left))

-- where a count ends the list, none is too many
abbrev pub bound_statuses : Bound → List Status
bound_statuses (Most most) = statuses.Done ∷ statuses.NothingInstalled ∷ statuses.Torn ∷ statuses.OverBudget ∷ statuses.TooMany ∷ []
bound_statuses (Count count) = statuses.Done ∷ statuses.NothingInstalled ∷ statuses.Torn ∷ statuses.OverBudget ∷ []

-- a receiver takes the datagrams of its place, and uses shelf, text and watchers; its text is written so
abbrev pub uses_of : Writes → Settings → Uses
uses_of writes c = record {
  datagrams = Some c.place;
  emit = None;
  files = false;
  shelf = true;
  watchers = true;
  writes = writes;
  statuses = bound_statuses c.bound;
}

abbrev pub receive_uses : Settings → Uses
receive_uses c = uses_of Once c

-- beside readers the text gets their lines too, which stand in no piece with the report
abbrev pub listen_uses : Settings → Uses
listen_uses c = uses_of Pieces c
