-- A drill: a catalog of drawn files is sent, its datagrams are lost, repeated and put in another order by further draws,
-- and a receiver takes them. All follows from the number that the drill starts with. Where a draw stands in a
-- definition, the state of the generator stands before it, and the state after it has a definition beside.
use Rattle.std.specs.Prelude.{ℕ, suc, zero, ◌+◌, ◌-◌, ◌*◌, ◌/◌, ◌%◌, ◌^◌, ◌==◌, if◌then◌else◌, List, [], ◌∷◌, ◌++◌, length, take, map, replicate, codes, ◌≡◌, Option, Some, None}
use Rattle.std.specs.List.{range_with_len, swap, sum_by}
use Rattle.std.specs.Fmt.{decimal}
use Rattle.carousel_cid.specs.Instances.{Shown}
use Rattle.carousel_cid.specs.declared.file_of.FileOf.{FileOf}
use Rattle.held_packets.specs.Held.{Held}
use Rattle.held_packets.specs.Verdict.{held_after}
use Rattle.receiver_core.specs.BestOf.{installed_after}
use Rattle.receiver_core.specs.Classes.{packets_of}
use Rattle.sender_plan.specs.CatalogInstance.{CatalogItem, CatalogInstance}
use Rattle.sender_plan.specs.declared.params.Params.{Params}
use Rattle.sender_plan.specs.Plan.{planned}
use Rattle.sender_schedule.specs.Schedule.{schedule}
use Rattle.run_base.specs.Outcome.{Outcome, Uses, text_outcome, text_uses}
use Rattle.run_base.specs.declared.status.Status.{Status}
use Rattle.run_base.specs.declared.status.Status.TheVariants as statuses
use Rattle.run_base.specs.Texts.{line, number_line}
use Rattle.run_drill.specs.declared.summary.Summary.{Summary}

-- ---- the generator: a linear congruential one of 64 bits

unfoldable pub next_state : ℕ → ℕ
next_state x = (x * 6364136223846793005 + 1442695040888963407) % 2 ^ 64

-- the number that is drawn at a state: the high 32 bits of the next one
unfoldable pub draw : ℕ → ℕ
draw x = next_state x / 2 ^ 32

-- the state after so many draws
abbrev pub after_draws : ℕ → ℕ → ℕ
after_draws zero x = x
after_draws (suc n) x = after_draws n (next_state x)

-- ---- the files

-- so many bytes, each of a draw
abbrev pub drawn_bytes : ℕ → ℕ → List ℕ
drawn_bytes zero x = []
drawn_bytes (suc n) x = draw x % 256 ∷ drawn_bytes n (next_state x)

-- how many bytes the file that is drawn first has
unfoldable pub body_length : ℕ → ℕ
body_length x = draw x % 200000

-- a file: its length is a draw, and so is each of its bytes
unfoldable pub body : ℕ → List ℕ
body x = drawn_bytes (body_length x) (next_state x)

unfoldable pub after_body : ℕ → ℕ
after_body x = after_draws (body_length x) (next_state x)

-- so many files
abbrev pub bodies : ℕ → ℕ → List (List ℕ)
bodies zero x = []
bodies (suc n) x = body x ∷ bodies n (after_body x)

abbrev pub after_bodies : ℕ → ℕ → ℕ
after_bodies zero x = x
after_bodies (suc n) x = after_bodies n (after_body x)

-- ---- the catalog: the instances 1, 2 and 3 have eight files each, four of which the next one has not

abbrev pub location : ℕ → List ℕ
location file = codes "drill/" ++ decimal file

abbrev pub item : ℕ → CatalogItem
item file = record { name = location file; location = location file; kind = None }

-- the instance with eight files, from this one on
abbrev pub instance_from : ℕ → ℕ → CatalogInstance
instance_from number first = record { number = number; items = map item (range_with_len first 8) }

unfoldable pub drill_catalog : List CatalogInstance
drill_catalog = instance_from 1 0 ∷ instance_from 2 2 ∷ instance_from 3 4 ∷ []

abbrev pub drill_params : Params
drill_params = record { tsi = 1; symbol = 512; max_block = 32; max_n = 48; cycles = 2 }

-- ---- the link

-- how many times a datagram is delivered at a draw: not at all, twice or once
unfoldable pub copies : ℕ → ℕ
copies d = if d % 3 == 0 then 0 else if d % 8 == 1 then 2 else 1

-- what passes of the datagrams: a draw for each, in order
abbrev pub passed : ℕ → List (List ℕ) → List (List ℕ)
passed x [] = []
passed x (datagram ∷ datagrams) = replicate (copies (draw x)) datagram ++ passed (next_state x) datagrams

-- Another order of the datagrams: at each place from this one down to 1 the datagram there is exchanged with the one
-- at a drawn place that isn't behind it.
abbrev pub shuffled : ℕ → ℕ → List (List ℕ) → List (List ℕ)
shuffled zero x datagrams = datagrams
shuffled (suc i) x datagrams = shuffled i (next_state x) (swap datagrams (i + 1) (draw x % (i + 2)))

-- in another order as a whole
abbrev pub reordered : ℕ → List (List ℕ) → List (List ℕ)
reordered x datagrams = shuffled (length datagrams - 1) x datagrams

-- of datagrams that are sent when the generator is in this state: what is delivered, in order
abbrev pub delivered : ℕ → List (List ℕ) → List (List ℕ)
delivered x datagrams = reordered (after_draws (length datagrams) x) (passed x datagrams)

-- ---- the whole

-- the datagrams that are sent
unfoldable pub sent : ℕ → List (List ℕ)
sent start = schedule (planned drill_catalog (bodies 12 start) drill_params)

-- the datagrams that the receiver gets
unfoldable pub deliveries : ℕ → List (List ℕ)
deliveries start = delivered (after_bodies 12 start) (sent start)

-- what the receiver has installed then
unfoldable pub installed_of : ℕ → Option Shown
installed_of start = installed_after 67108864 (packets_of 1 (deliveries start))

abbrev pub number_of : Option Shown → Option ℕ
number_of None = None
number_of (Some i) = Some i.number

abbrev pub files_of : Option Shown → List FileOf
files_of None = []
files_of (Some i) = i.files

-- the bytes of the files together
abbrev pub total_of : List FileOf → ℕ
total_of files = sum_by (λ f. length f.body) files

-- how many datagrams were sent and delivered, and what is installed
abbrev pub summed : ℕ → ℕ → Option Shown → Summary
summed sent delivered installed = record {
  sent = sent;
  delivered = delivered;
  installed = number_of installed;
  files = length (files_of installed);
  total = total_of (files_of installed);
}

unfoldable pub summary : ℕ → Summary
summary start = summed (length (sent start)) (length (deliveries start)) (installed_of start)

-- the held pair is that of the first so many of the deliveries
pub record HoldsPart (deliveries : List (List ℕ)) (held : Held) : Type 0 where
  pub taken : ℕ
  pub front : held ≡ held_after 67108864 (packets_of 1 (take taken deliveries))

-- ---- the lines

abbrev pub installed_line : Option ℕ → List ℕ
installed_line None = line (codes "nothing installed")
installed_line (Some number) = number_line (codes "installed ") number

abbrev pub files_line : ℕ → ℕ → List ℕ
files_line files total = codes "files " ++ decimal files ++ number_line (codes " ") total

abbrev pub summary_lines : Summary → List ℕ
summary_lines s =
    number_line (codes "sent ") s.sent ++ number_line (codes "delivered ") s.delivered
    ++ installed_line s.installed ++ files_line s.files s.total

abbrev pub summary_status : Option ℕ → Status
summary_status None = statuses.NothingInstalled
summary_status (Some number) = statuses.Done

abbrev pub drill_statuses : List Status
drill_statuses = statuses.Done ∷ statuses.NothingInstalled ∷ []

-- a drill uses its text alone
abbrev pub drill_uses : Uses
drill_uses = text_uses drill_statuses

-- the drill that starts with this number
unfoldable pub drilled : ℕ → Outcome
drilled start = text_outcome (summary_status (summary start).installed) (summary_lines (summary start)) 0
