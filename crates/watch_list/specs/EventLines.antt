-- The lines of events. Numbers are decimal, truth values are 0 and 1, and a line ends with a line feed.
use Rattle.std.specs.Prelude.{ℕ, Bool, if◌then◌else◌, List, [], ◌∷◌, ◌++◌, codes}
use Rattle.std.specs.Fmt.{decimal}
use Rattle.watch_list.specs.declared.event.Event.{Event}
use Rattle.watch_list.specs.declared.event.Event.TheVariants.{Refused, Elsewhere, Control, New, Repeat, Spare, OtiDiffers, SymbolDiffers, OverBudget, Installed}

unfoldable pub labelled : List ℕ → ℕ → List ℕ
labelled label number = label ++ decimal number

-- a number behind those before it
abbrev pub spaced : ℕ → List ℕ
spaced number = labelled (codes " ") number

abbrev pub truth : Bool → ℕ
truth b = if b then 1 else 0

-- where a symbol belongs: its object, its source block, its place there
unfoldable pub place_text : List ℕ → ℕ → ℕ → ℕ → List ℕ
place_text label toi sbn esi = labelled label toi ++ spaced sbn ++ spaced esi

-- the line of an event, up to its line feed
abbrev pub event_text : Event → List ℕ
event_text (Refused code detail) = labelled (codes "refused ") code ++ spaced detail
event_text (Elsewhere tsi) = labelled (codes "elsewhere ") tsi
event_text (Control close) = labelled (codes "control ") (truth close)
event_text (New toi sbn esi block object) = place_text (codes "new ") toi sbn esi ++ spaced (truth block) ++ spaced (truth object)
event_text (Repeat toi sbn esi) = place_text (codes "repeat ") toi sbn esi
event_text (Spare toi sbn esi) = place_text (codes "spare ") toi sbn esi
event_text (OtiDiffers toi) = labelled (codes "oti differs ") toi
event_text (SymbolDiffers toi sbn esi at) = place_text (codes "symbol differs ") toi sbn esi ++ spaced at
event_text (OverBudget toi sbn esi count charge) = place_text (codes "over budget ") toi sbn esi ++ spaced count ++ spaced charge
event_text (Installed number) = labelled (codes "installed ") number

-- the line of an event
abbrev pub event_line : Event → List ℕ
event_line event = event_text event ++ 10 ∷ []

-- what a bell writes of an event: the line of an `Installed`, and nothing of any other
abbrev pub bell_line : Event → List ℕ
bell_line (Refused code detail) = []
bell_line (Elsewhere tsi) = []
bell_line (Control close) = []
bell_line (New toi sbn esi block object) = []
bell_line (Repeat toi sbn esi) = []
bell_line (Spare toi sbn esi) = []
bell_line (OtiDiffers toi) = []
bell_line (SymbolDiffers toi sbn esi at) = []
bell_line (OverBudget toi sbn esi count charge) = []
bell_line (Installed number) = event_line (Installed number)
