-- Reading lines one after another, as a loop does.
use Rattle.std.proofs.Common.{◌≡◌, ◌≢◌, ℕ, ◌+◌, Bool, true, false, cond, List, [], ◌∷◌, ◌++◌, Option, Some, None, Result, Ok, Err, refl, sym, ap, ◌∙◌}
use Rattle.std.specs.Option.{option_or}
use Rattle.meta_text.specs.declared.fault.FieldFault.{FieldFault}
use Rattle.meta_text.specs.declared.fault.FieldFault.TheVariants.{NoColon, BadName, BadValue, Memory}
use Rattle.meta_text.specs.Text.{is_empty}
use Rattle.meta_text.specs.Fields.{Pair}
use Rattle.meta_text.specs.Lines.{numbered, pair_in, pairs_in, lines_of}
use Rattle.meta_text.specs.Reading.{fault_of, fault_in, said, reading, Fails}
use Rattle.wire_bytes.specs.FirstFault.{unless_fault}

-- the pairs before, and what is said after them
abbrev pub with_front : List Pair → Result (List Pair) FieldFault → Result (List Pair) FieldFault
with_front front (Ok pairs) = Ok (front ++ pairs)
with_front front (Err fault) = Err fault

front_nil : (read : Result (List Pair) FieldFault) → with_front [] read ≡ read
front_nil (Ok pairs) = refl
front_nil (Err fault) = refl

pub unless_front : (front pairs : List Pair) (fault : Option FieldFault) → with_front front (unless_fault fault pairs) ≡ unless_fault fault (front ++ pairs)
unless_front front pairs None = refl
unless_front front pairs (Some fault) = refl

stop_at : (pairs : List Pair) (fault : FieldFault) (own later : Option FieldFault) → option_or own None ≡ Some fault → unless_fault (option_or own later) pairs ≡ Err fault
stop_at pairs fault None later is = absurd cc
stop_at pairs fault (Some other) later is = cc

-- a line with a fault: that is what is said
fault_step : (fault : FieldFault) (front : List Pair) (n : ℕ) (line : List ℕ) (lines : List (List ℕ)) → fault_in (numbered n (line ∷ [])) ≡ Some fault
    → with_front front (said (numbered n (line ∷ lines))) ≡ Err fault
fault_step fault front n line lines is = by (is_empty line) is
  where
    by : (t : Bool) → fault_in (cond t [] ((n, line) ∷ [])) ≡ Some fault
        → with_front front (said (cond t (numbered (n + 1) lines) ((n, line) ∷ numbered (n + 1) lines))) ≡ Err fault
    by true s = absurd cc
    by false s = ap (with_front front)
        (stop_at (pair_in (n, line) ∷ pairs_in (numbered (n + 1) lines)) fault (fault_of (n, line)) (fault_in (numbered (n + 1) lines)) s)

pub begins : (text : List ℕ) → with_front [] (said (numbered 1 (lines_of text))) ≡ reading text
unfolding reading
begins text = front_nil (said (numbered 1 (lines_of text)))

pub ends : (fault : FieldFault) (front : List Pair) (n : ℕ) (rest line after : List ℕ) (total : Result (List Pair) FieldFault) → lines_of rest ≡ line ∷ lines_of after
    → (fault ≢ Memory → fault_in (numbered n (line ∷ [])) ≡ Some fault) → with_front front (said (numbered n (lines_of rest))) ≡ total → Fails fault total
ends fault front n rest line after total lines is so_far = by fault is
  where
    at : (f : FieldFault) → fault_in (numbered n (line ∷ [])) ≡ Some f → total ≡ Err f
    at f e = sym so_far ∙ ap (λ (ls : List (List ℕ)). with_front front (said (numbered n ls))) lines ∙ fault_step f front n line (lines_of after) e

    by : (f : FieldFault) → (f ≢ Memory → fault_in (numbered n (line ∷ [])) ≡ Some f) → Fails f total
    by Memory e = tt
    by (NoColon k) e = at (NoColon k) (e (λ same. cc))
    by (BadName k) e = at (BadName k) (e (λ same. cc))
    by (BadValue k) e = at (BadValue k) (e (λ same. cc))
