-- The grammar of metadata fields, in the manner of RFC 7230, section 3.2: what a text spells, and where one is faulty.
use Rattle.std.specs.Prelude.{◌≡◌, ℕ, true, false, List, [], ◌∷◌, ◌++◌}
use Rattle.std.specs.List.{list_all, list_any}
use Rattle.meta_text.specs.declared.fault.FieldFault.{FieldFault}
use Rattle.meta_text.specs.declared.fault.FieldFault.TheVariants.{NoColon, BadName, BadValue, Memory}
use Rattle.meta_text.specs.Text.{is_blank, IsName, IsValue}
use Rattle.meta_text.specs.Fields.{Pair}
use Rattle.meta_text.specs.Lines.{Line, is_colon, lines_of, numbered}

abbrev pub colon : ℕ
colon = 0x3A

-- the text is the value, with blanks before it and behind it
pub record SpellsValue (text value : List ℕ) : Type 0 where
  pub before : List ℕ
  pub after : List ℕ
  pub joined : text ≡ before ++ (value ++ after)
  pub blank_before : list_all is_blank before ≡ true
  pub blank_after : list_all is_blank after ≡ true
  pub is : IsValue value

-- the line is the name, a colon and the value
pub record SpellsPair (line : List ℕ) (pair : Pair) : Type 0 where
  pub rest : List ℕ
  pub joined : line ≡ pair.0 ++ colon ∷ rest
  pub name : IsName pair.0
  pub value : SpellsValue rest pair.1

-- each line spells the pair at its place
abbrev pub SpellPairs : List Line → List Pair → Type 0
SpellPairs [] [] = Unit {0}
SpellPairs (line ∷ lines) (pair ∷ pairs) = SpellsPair line.1 pair × SpellPairs lines pairs
SpellPairs [] (pair ∷ pairs) = ⊥
SpellPairs (line ∷ lines) [] = ⊥

-- the lines of the text that aren't empty, counted from 1 with the empty ones
abbrev pub some_lines : List ℕ → List Line
some_lines text = numbered 1 (lines_of text)

-- the text says these pairs: its lines that aren't empty spell them in order
abbrev pub SpellsFields : List ℕ → List Pair → Type 0
SpellsFields text pairs = SpellPairs (some_lines text) pairs

-- what stands before the first colon is no name
pub record HasBadName (line : List ℕ) : Type 0 where
  pub front : List ℕ
  pub back : List ℕ
  pub joined : line ≡ front ++ colon ∷ back
  pub first : list_any is_colon front ≡ false
  pub none : ¬ IsName front

-- a name stands before the first colon, and behind it is no value
pub record HasBadValue (line : List ℕ) : Type 0 where
  pub name : List ℕ
  pub back : List ℕ
  pub joined : line ≡ name ++ colon ∷ back
  pub is_name : IsName name
  pub none : (value : List ℕ) → ¬ SpellsValue back value

-- the line with this number has this fault
abbrev pub IsFault : Line → FieldFault → Type 0
IsFault line (NoColon number) = (number ≡ line.0) × (list_any is_colon line.1 ≡ false)
IsFault line (BadName number) = (number ≡ line.0) × HasBadName line.1
IsFault line (BadValue number) = (number ≡ line.0) × HasBadValue line.1
IsFault line Memory = ⊥

-- the lines before the first faulty one spell pairs, and it has this fault
pub record FaultyAt (lines : List Line) (fault : FieldFault) : Type 0 where
  pub before : List Line
  pub line : Line
  pub after : List Line
  pub joined : lines ≡ before ++ line ∷ after
  pub pairs : List Pair
  pub sound : SpellPairs before pairs
  pub is : IsFault line fault

-- the fault of the first faulty line of a text
abbrev pub IsFirstFault : List ℕ → FieldFault → Type 0
IsFirstFault text fault = FaultyAt (some_lines text) fault
