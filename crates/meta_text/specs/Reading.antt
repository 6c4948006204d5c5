-- What a text of metadata fields says, or the fault of its first faulty line.
use Rattle.std.specs.Prelude.{◌≡◌, ℕ, not, List, [], ◌∷◌, Option, None, Result, Ok, Err}
use Rattle.std.specs.List.{list_any}
use Rattle.std.specs.Option.{option_or}
use Rattle.wire_bytes.specs.FirstFault.{fault_when, first_fault, unless_fault}
use Rattle.meta_text.specs.declared.fault.FieldFault.{FieldFault}
use Rattle.meta_text.specs.declared.fault.FieldFault.TheVariants.{NoColon, BadName, BadValue, Memory}
use Rattle.meta_text.specs.Text.{is_name, is_clean}
use Rattle.meta_text.specs.Fields.{Pair}
use Rattle.meta_text.specs.Lines.{Line, is_colon, name_in, value_in, lines_of, numbered, pairs_in}

-- what is wrong with a line: the first of its causes
abbrev pub fault_of : Line → Option FieldFault
fault_of line = first_fault (
    fault_when (not (list_any is_colon line.1)) (NoColon line.0)
    ∷ fault_when (not (is_name (name_in line.1))) (BadName line.0)
    ∷ fault_when (not (is_clean (value_in line.1))) (BadValue line.0)
    ∷ [])

-- the fault of the first line that has one
abbrev pub fault_in : List Line → Option FieldFault
fault_in [] = None
fault_in (line ∷ lines) = option_or (fault_of line) (fault_in lines)

-- the pairs of the lines, unless a line is faulty
abbrev pub said : List Line → Result (List Pair) FieldFault
said lines = unless_fault (fault_in lines) (pairs_in lines)

-- what the text says; its lines are counted from 1
unfoldable pub reading : List ℕ → Result (List Pair) FieldFault
reading text = said (numbered 1 (lines_of text))

-- an answer is what the text says, unless memory ran out
abbrev pub Fails : FieldFault → Result (List Pair) FieldFault → Type 0
Fails Memory read = Unit {0}
Fails fault read = read ≡ Err fault

abbrev pub Gives : Result (List Pair) FieldFault → Result (List Pair) FieldFault → Type 0
Gives (Ok pairs) read = read ≡ Ok pairs
Gives (Err fault) read = Fails fault read
