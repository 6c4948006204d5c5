-- A catalog as a text, and what it lists. The text is this project's own.
use Rattle.std.specs.Prelude.{◌≡◌, ℕ, ◌+◌, ◌==◌, Bool, true, if◌then◌else◌, List, [], ◌∷◌, Option, None, Result, Ok, Err, IsOk, option_map, option_to_list}
use Rattle.std.specs.List.{flat_map}
use Rattle.std.specs.Option.{option_or}
use Rattle.wire_bytes.specs.FirstFault.{unless_fault}
use Rattle.meta_text.specs.Lines.{lines_of}
use Rattle.sender_plan.specs.declared.fault.BadLine.{BadLine}
use Rattle.sender_plan.specs.declared.fault.CatalogFault.{CatalogFault}
use Rattle.sender_plan.specs.declared.fault.CatalogFault.TheVariants.{Line, Memory}
use Rattle.sender_plan.specs.CatalogInstance.{CatalogItem, CatalogInstance}
use Rattle.sender_plan.specs.CatalogLine.{Entry, Begin, Item, fields_of, is_instance, cause_of, entry_in}

-- an empty line, or one that starts with `#`
abbrev pub is_passed_over : List ℕ → Bool
is_passed_over [] = true
is_passed_over (b ∷ bs) = b == 0x23

-- a line counts as one more instance
abbrev pub begun_by : List ℕ → ℕ
begun_by line = if is_instance (fields_of line) then 1 else 0

abbrev pub bad_at : ℕ → ℕ → BadLine
bad_at number cause = record { line = number; cause = cause }

-- The first bad line of these, and its lowest cause. They are counted from this number on, with the ones that are
-- passed over, and stand behind so many `instance` lines.
abbrev pub bad_line : ℕ → ℕ → List (List ℕ) → Option BadLine
bad_line number before [] = None
bad_line number before (line ∷ lines) =
    if is_passed_over line then bad_line (number + 1) before lines
    else option_or (option_map (bad_at number) (cause_of before line)) (bad_line (number + 1) (before + begun_by line) lines)

-- what a line says
abbrev pub said : List ℕ → List Entry
said line = if is_passed_over line then [] else option_to_list (entry_in (fields_of line))

-- the files up to the next instance
abbrev pub items_before : List Entry → List CatalogItem
items_before [] = []
items_before (Begin number ∷ entries) = []
items_before (Item item ∷ entries) = item ∷ items_before entries

-- the instances that begin, each with the files up to the next one
abbrev pub instances_of : List Entry → List CatalogInstance
instances_of [] = []
instances_of (Begin number ∷ entries) = record { number = number; items = items_before entries } ∷ instances_of entries
instances_of (Item item ∷ entries) = instances_of entries

-- what a text lists, unless a line is bad; its lines are counted from 1
unfoldable pub reading : List ℕ → Result (List CatalogInstance) BadLine
reading text = unless_fault (bad_line 1 0 (lines_of text)) (instances_of (flat_map said (lines_of text)))

-- an answer is what the text lists; memory runs out only where no line is bad
abbrev pub Gives : Result (List CatalogInstance) CatalogFault → Result (List CatalogInstance) BadLine → Type 0
Gives (Ok instances) read = read ≡ Ok instances
Gives (Err (Line number cause)) read = read ≡ Err (bad_at number cause)
Gives (Err Memory) read = IsOk read
