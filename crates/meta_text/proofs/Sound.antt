-- A text without a faulty line, and one with such a line.
use Rattle.std.proofs.Common.{◌≡◌, ◌≢◌, ℕ, Bool, true, false, not, List, [], ◌∷◌, Option, Some, None, Result, Ok, Err, refl, ap, ◌∙◌}
use Rattle.std.specs.Prelude.{IfErr, IsOk}
use Rattle.std.specs.List.{list_any}
use Rattle.std.specs.Option.{option_or}
use Rattle.meta_text.specs.declared.fault.FieldFault.{FieldFault}
use Rattle.meta_text.specs.declared.fault.FieldFault.TheVariants.{NoColon, BadName, BadValue, Memory}
use Rattle.meta_text.specs.Text.{is_name, is_clean}
use Rattle.meta_text.specs.Fields.{Pair}
use Rattle.meta_text.specs.Lines.{Line, is_colon, name_in, value_in, numbered, lines_of, pairs_in}
use Rattle.meta_text.specs.Reading.{fault_of, fault_in, reading, Fails}
use Rattle.wire_bytes.specs.FirstFault.{fault_when, first_fault, unless_fault}

-- ---- what is read

pub reading_faulty : (text : List ℕ) (fault : FieldFault) → fault_in (numbered 1 (lines_of text)) ≡ Some fault → reading text ≡ Err fault
unfolding reading
reading_faulty text fault is = ap (λ f. unless_fault f (pairs_in (numbered 1 (lines_of text)))) is

pub reading_sound : (text : List ℕ) → fault_in (numbered 1 (lines_of text)) ≡ None → reading text ≡ Ok (pairs_in (numbered 1 (lines_of text)))
unfolding reading
reading_sound text is = ap (λ f. unless_fault f (pairs_in (numbered 1 (lines_of text)))) is

pub Fails_is : (fault : FieldFault) (read : Result (List Pair) FieldFault) → read ≡ Err fault → Fails fault read
Fails_is (NoColon n) read e = e
Fails_is (BadName n) read e = e
Fails_is (BadValue n) read e = e
Fails_is Memory read e = tt

pub ok_given : {V : Type 0} (r : Result V FieldFault) (text : List ℕ) → fault_in (numbered 1 (lines_of text)) ≡ None → IfErr r (λ e. e ≡ Memory → IsOk (reading text))
ok_given (Ok v) text is = tt
ok_given (Err e) text is = λ same. rw (reading_sound text is) refl

-- ---- no line has the fault Memory

other_fault : (line : Line) (colon name value : Bool) (fault : FieldFault)
    → first_fault (fault_when (not colon) (NoColon line.0) ∷ fault_when (not name) (BadName line.0) ∷ fault_when (not value) (BadValue line.0) ∷ []) ≡ Some fault
    → fault ≢ Memory
other_fault line false name value fault is same = cc
other_fault line true false value fault is same = cc
other_fault line true true false fault is same = cc
other_fault line true true true fault is same = cc

pub no_memory_fault : (lines : List Line) (fault : FieldFault) → fault_in lines ≡ Some fault → fault ≢ Memory
no_memory_fault [] fault is same = cc
no_memory_fault (line ∷ lines) fault is same = by (fault_of line) refl (no_memory_fault lines fault) is
  where
    by : (o : Option FieldFault) → fault_of line ≡ o → (fault_in lines ≡ Some fault → fault ≢ Memory) → option_or o (fault_in lines) ≡ Some fault → ⊥
    by None own later e = later e same
    by (Some f) own later e =
        let is_fault : f ≡ fault = cc in
        other_fault line (list_any is_colon line.1) (is_name (name_in line.1)) (is_clean (value_in line.1)) f own (is_fault ∙ same)

pub never_memory : (text : List ℕ) → reading text ≢ Err Memory
unfolding reading
never_memory text is = by (fault_in (numbered 1 (lines_of text))) refl is
  where
    by : (o : Option FieldFault) → fault_in (numbered 1 (lines_of text)) ≡ o → unless_fault o (pairs_in (numbered 1 (lines_of text))) ≡ Err Memory → ⊥
    by None e read = cc
    by (Some fault) e read = no_memory_fault (numbered 1 (lines_of text)) fault e (let same : fault ≡ Memory = cc in same)
