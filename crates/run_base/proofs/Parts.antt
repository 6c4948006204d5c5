-- What is written or sent of a list where a run stops.
use Rattle.std.proofs.Common.{◌≡◌, ℕ, List, ◌++◌, ◌∙◌, sym, ap, length, take, drop, append_assoc}
use Rattle.std.specs.Prelude.{Result, Ok, Err, OnErr}
use Rattle.std.proofs.lemmas.List.{take-append-drop, append-nil}
use Rattle.std.proofs.Math.Seq.{take-append_seam}
use Rattle.run_base.specs.Answers.{AfterAll}
use Rattle.run_base.specs.Outcome.{Streams}
use Rattle.run_base.specs.Parts.{AddsPart}
use Rattle.run_base.specs.declared.fault.Fault.{Fault}

-- ---- what is written of a text is its first bytes

pub front_written : (front rest old new : List ℕ) → new ≡ old ++ front → AddsPart (front ++ rest) old new
front_written front rest old new is = record { added = length front; all = is ∙ ap (λ t. old ++ t) (sym (take-append_seam front rest)) }

-- a part of the front is a part of all
pub part_of_front : (front rest old new : List ℕ) → AddsPart front old new → AddsPart (front ++ rest) old new
part_of_front front rest old new part =
    let first = take part.added front in
    let all : front ++ rest ≡ first ++ (drop part.added front ++ rest) =
    ap (λ t. t ++ rest) (sym (take-append-drop part.added front)) ∙ append_assoc first (drop part.added front) rest in
    rw all (front_written first (drop part.added front ++ rest) old new part.all)

-- what holds is what follows from an error
pub on_error : {A E : Type 0} (r : Result A E) (P : Type 0) → P → OnErr r P
on_error (Ok a) P holds = tt
on_error (Err e) P holds = holds

pub nothing_added : {A : Type 0} (list old new : List A) → new ≡ old → AddsPart list old new
nothing_added list old new is = record { added = 0; all = is ∙ sym (append-nil old) }

-- what holds does so once the datagrams were all taken
pub holds_after : {A : Type 0} (r : Result A Fault) (P : Type 0) → P → AfterAll Streams r P
holds_after (Ok a) P holds = holds
holds_after (Err e) P holds = tt
