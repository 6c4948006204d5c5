-- What the watchers of a run are told of a list of datagrams, and the instances that are installed while it is taken.
use Rattle.std.specs.Prelude.{ℕ, ◌==◌, ◌&&◌, Bool, if◌then◌else◌, List, [], ◌∷◌, ◌++◌, Option, Some, None, option_map}
use Rattle.std.specs.Cmp.Lexicographic.{pointwise}
use Rattle.std.specs.List.{cons_option, filter_map}
use Rattle.std.specs.Option.{option_eq}
use Rattle.std.specs.Str.{bytes_eq}
use Rattle.alc_packet.specs.Code.{code_of, detail_of}
use Rattle.carousel_cid.specs.Instances.{Shown}
use Rattle.carousel_cid.specs.declared.file_of.FileOf.{FileOf}
use Rattle.held_packets.specs.Held.{Held, nothing_held}
use Rattle.held_packets.specs.declared.kept.Kept.{Kept}
use Rattle.held_packets.specs.declared.kept.Kept.TheVariants as kept
use Rattle.receiver_core.specs.BestOf.{best}
use Rattle.receiver_core.specs.Classes.{taken_of, held_with}
use Rattle.receiver_core.specs.declared.taken.Taken.{Taken}
use Rattle.receiver_core.specs.declared.taken.Taken.TheVariants as taken
use Rattle.watch_list.specs.declared.event.Event.{Event}
use Rattle.watch_list.specs.declared.event.Event.TheVariants.{Refused, Elsewhere, Control, New, Repeat, Spare, OtiDiffers, SymbolDiffers, OverBudget, Installed}
use Rattle.run_base.specs.Bounds.{datagrams_taken}
use Rattle.run_base.specs.declared.settings.Settings.{Settings}

-- a packet of the session, for this object, source block and encoding symbol, by its verdict
abbrev pub event_of_packet : ℕ → ℕ → ℕ → Kept → Event
event_of_packet toi sbn esi (kept.New block object) = New toi sbn esi block object
event_of_packet toi sbn esi kept.Repeat = Repeat toi sbn esi
event_of_packet toi sbn esi kept.Spare = Spare toi sbn esi
event_of_packet toi sbn esi (kept.OtiDiffers o) = OtiDiffers toi
event_of_packet toi sbn esi (kept.SymbolDiffers at) = SymbolDiffers toi sbn esi at
event_of_packet toi sbn esi (kept.OverBudget count charge) = OverBudget toi sbn esi count charge

-- the event of a datagram's class
abbrev pub event_of : Taken → Event
event_of (taken.Refused refusal) = Refused (code_of refusal) (detail_of refusal)
event_of (taken.Elsewhere tsi) = Elsewhere tsi
event_of (taken.Control close) = Control close
event_of (taken.Packet toi sbn esi verdict) = event_of_packet toi sbn esi verdict

-- ---- whether another instance is installed

abbrev pub same_file : FileOf → FileOf → Bool
same_file f g = (f.toi == g.toi) && (bytes_eq f.location g.location && (option_eq bytes_eq f.kind g.kind && bytes_eq f.body g.body))

abbrev pub same_instance : Shown → Shown → Bool
same_instance i j =
    (i.number == j.number) && ((i.descriptor_toi == j.descriptor_toi) && (bytes_eq i.listed j.listed && pointwise same_file i.files j.files))

-- what is installed now, where it differs from what was installed before
abbrev pub other_instance : Option Shown → Option Shown → Option Shown
other_instance old None = None
other_instance old (Some i) = if option_eq same_instance old (Some i) then None else Some i

-- its number
abbrev pub other_number : Option Shown → Option Shown → Option ℕ
other_number old new = option_map (λ i. i.number) (other_instance old new)

abbrev pub announcement : Option ℕ → List Event
announcement None = []
announcement (Some number) = Installed number ∷ []

-- ---- the events of a list

-- Of one datagram more, of a receiver of this session with this budget that holds this: its class, and then the number of
-- what is installed with it, where that differs from what was installed before.
abbrev pub events_with : ℕ → ℕ → Held → List ℕ → List Event
events_with tsi budget held datagram =
    event_of (taken_of tsi budget held datagram) ∷ announcement (other_number (best held) (best (held_with tsi budget held datagram)))

-- of datagrams, of which the first finds this held
abbrev pub events_from : ℕ → ℕ → Held → List (List ℕ) → List Event
events_from tsi budget held [] = []
events_from tsi budget held (datagram ∷ datagrams) =
    events_with tsi budget held datagram ++ events_from tsi budget (held_with tsi budget held datagram) datagrams

-- of datagrams, of which the first finds nothing held and nothing installed
unfoldable pub events_of : ℕ → ℕ → List (List ℕ) → List Event
events_of tsi budget datagrams = events_from tsi budget nothing_held datagrams

-- of the datagrams that a receiver takes
abbrev pub events_taken : Settings → List (List ℕ) → List Event
events_taken c left = events_of c.tsi c.budget (datagrams_taken c left)

-- ---- the instances that are installed one after the other

-- with one datagram more: what is installed with it, where that differs from what was installed before
abbrev pub published_with : ℕ → ℕ → Held → List ℕ → Option Shown
published_with tsi budget held datagram = other_instance (best held) (best (held_with tsi budget held datagram))

-- of datagrams, of which the first finds this held
abbrev pub published_from : ℕ → ℕ → Held → List (List ℕ) → List Shown
published_from tsi budget held [] = []
published_from tsi budget held (datagram ∷ datagrams) =
    cons_option (published_with tsi budget held datagram) (published_from tsi budget (held_with tsi budget held datagram) datagrams)

-- of datagrams, of which the first finds nothing held and nothing installed
unfoldable pub published_of : ℕ → ℕ → List (List ℕ) → List Shown
published_of tsi budget datagrams = published_from tsi budget nothing_held datagrams

-- of the datagrams that a receiver takes
abbrev pub published : Settings → List (List ℕ) → List Shown
published c left = published_of c.tsi c.budget (datagrams_taken c left)

abbrev pub installed_number : Event → Option ℕ
installed_number (Installed number) = Some number
installed_number event = None

-- the numbers of the instances that events tell of, in order
abbrev pub installed_numbers : List Event → List ℕ
installed_numbers events = filter_map installed_number events
