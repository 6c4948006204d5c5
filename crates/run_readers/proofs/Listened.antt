-- What a listening leaves, from what its receiver leaves and what is written behind its end.
use Rattle.std.proofs.Common.{◌≡◌, ℕ, ◌≤◌, true, List, ◌++◌, ◌∙◌, refl, sym, ap, subst, arith, length, take, replicate, None, append_assoc}
use Rattle.std.specs.Prelude.{Ok, Err, IfOk, IsErrAnd, option_map}
use Rattle.std.proofs.lemmas.List.{append-nil, length-replicate}
use Rattle.std.proofs.lemmas.List.Elements.{All-replicate}
use Rattle.std.proofs.Math.Seq.{take-append_seam}
use Rattle.carousel_cid.specs.Instances.{Shown}
use Rattle.edge_io.specs.Faults.{Rose}
use Rattle.edge_io.specs.Shelved.{Shelved}
use Rattle.edge_io.specs.ShelfCalls.{Call}
use Rattle.snapshot_hub.specs.Histories.{last_of}
use Rattle.watch_list.specs.declared.event.Event.{Event}
use Rattle.run_base.specs.declared.fault.Fault.{Fault}
use Rattle.run_base.specs.declared.fault.Fault.TheVariants.{Datagrams, Text, Emit, Shelf, Files, Memory}
use Rattle.run_base.specs.declared.status.Status.{Status}
use Rattle.run_base.specs.Statuses.{Answer, leaves_shelf}
use Rattle.run_base.specs.Outcome.{Once, Pieces}
use Rattle.run_base.specs.Answers.{Blames, AfterTaking, LeavesNothing, LeavesText, LeavesShelf}
use Rattle.run_base.specs.Tellings.{Tells}
use Rattle.run_readers.specs.ReaderLines.{reader_lines, MayNote, AreReaderLines, TellsReaders, TellsPart}
use Rattle.run_readers.specs.Listens.{LeavesLines, AddsReaderLines, AddsLines, ComesOf}
use Rattle.run_receive.proofs.Public.{part_all, whole_is_part}

-- ---- counts of faults

-- a count that rose at first, or then, rose in all
pub rose_before : (old between new : ℕ) → old ≤ between → between ≤ new → Rose old between → Rose old new
rose_before old between new first then rose = λ back. let full = rose (omega (arith, back, then)) in omega (arith, back, first, then, full)

pub rose_behind : (old between new : ℕ) → old ≤ between → Rose between new → Rose old new
rose_behind old between new first rose = λ back. rose (omega (arith, back, first))

-- there are lines of so many readers
some_lines : (published : List Shown) (readers : ℕ) → AreReaderLines published readers (reader_lines 1 (replicate readers None) (option_map (λ i. i.number) (last_of published)))
some_lines published readers = record {
  saw = replicate readers None;
  count = length-replicate readers None;
  known = All-replicate (MayNote published) readers None tt;
  is = refl;
}

-- ---- text

part_at : (report lines : List ℕ) → take (length report) (report ++ lines) ≡ report
part_at report lines = take-append_seam report lines

pub nothing_told : (published : List Shown) (readers : ℕ) (report old new : List ℕ) → new ≡ old → TellsPart published readers report old new
nothing_told published readers report old new is = record {
  lines = reader_lines 1 (replicate readers None) (option_map (λ i. i.number) (last_of published));
  are = some_lines published readers;
  part = record { added = 0; all = is ∙ sym (append-nil old) };
}

report_told : (published : List Shown) (readers : ℕ) (report old new : List ℕ) → new ≡ old ++ report → TellsPart published readers report old new
report_told published readers report old new is =
    let lines = reader_lines 1 (replicate readers None) (option_map (λ (i : Shown). i.number) (last_of published)) in record {
      lines = lines;
      are = some_lines published readers;
      part = record { added = length report; all = is ∙ ap (λ (xs : List ℕ). old ++ xs) (sym (part_at report lines)) };
    }

all_told : (published : List Shown) (readers : ℕ) (report old between new : List ℕ) → between ≡ old ++ report → AddsReaderLines published readers between new
    → TellsReaders published readers report old new
all_told published readers report old between new first adds = record {
  lines = adds.lines;
  are = adds.are;
  all = adds.all ∙ ap (λ (xs : List ℕ). xs ++ adds.lines) first ∙ append_assoc old report adds.lines;
}

-- nothing was written where a fault came before the text
none_left : (f : Fault) (published : List Shown) (readers : ℕ) (report old new : List ℕ) → new ≡ old → LeavesLines (Err f) published readers report old new
none_left Datagrams published readers report old new is = is
none_left Text published readers report old new is = nothing_told published readers report old new is
none_left Emit published readers report old new is = nothing_told published readers report old new is
none_left Shelf published readers report old new is = is
none_left Files published readers report old new is = is
none_left Memory published readers report old new is = nothing_told published readers report old new is

-- the report was, where a fault came after it
report_left : (f : Fault) (t : Type 0) (published : List Shown) (readers : ℕ) (report old new : List ℕ)
    → Blames {A = Unit {0}} (Err f) ⊥ t ⊥ ⊥ ⊥ → new ≡ old ++ report → LeavesLines (Err f) published readers report old new
report_left Datagrams t published readers report old new blames is = absurd blames
report_left Text t published readers report old new blames is = report_told published readers report old new is
report_left Emit t published readers report old new blames is = absurd blames
report_left Shelf t published readers report old new blames is = absurd blames
report_left Files t published readers report old new blames is = absurd blames
report_left Memory t published readers report old new blames is = report_told published readers report old new is

pub text_behind : (done answer : Answer) (t : Type 0) (published : List Shown) (readers : ℕ) (report old between new : List ℕ)
    → ComesOf done answer t → LeavesText Once done report old between → AddsLines answer published readers between new
    → LeavesLines answer published readers report old new
text_behind (Ok s) (Ok v) t published readers report old between new comes first adds = all_told published readers report old between new first adds
text_behind (Ok s) (Err f) t published readers report old between new comes first adds =
    report_left f t published readers report old new comes (adds ∙ first)
text_behind (Err f) (Ok v) t published readers report old between new comes first adds = cc
text_behind (Err f) (Err g) t published readers report old between new comes first adds = none_left g published readers report old new (adds ∙ first)

pub nothing_at_memory : (answer : Answer) (published : List Shown) (readers : ℕ) (report old : List ℕ)
    → IsErrAnd answer (λ e. e ≡ Memory) → LeavesLines answer published readers report old old
nothing_at_memory (Ok v) published readers report old is = absurd is
nothing_at_memory (Err f) published readers report old is = none_left f published readers report old old refl

untouched : (f : Fault) (old new : List ℕ) → new ≡ old → LeavesNothing {A = Status} Pieces (Err f) old new
untouched Datagrams old new is = is
untouched Text old new is = tt
untouched Emit old new is = tt
untouched Shelf old new is = is
untouched Files old new is = is
untouched Memory old new is = tt

unless_blamed : (f : Fault) (t : Type 0) (old new : List ℕ) → Blames {A = Unit {0}} (Err f) ⊥ t ⊥ ⊥ ⊥ → LeavesNothing {A = Status} Pieces (Err f) old new
unless_blamed Datagrams t old new blames = absurd blames
unless_blamed Text t old new blames = tt
unless_blamed Emit t old new blames = tt
unless_blamed Shelf t old new blames = absurd blames
unless_blamed Files t old new blames = absurd blames
unless_blamed Memory t old new blames = tt

pub nothing_behind : (done answer : Answer) (t : Type 0) (published : List Shown) (readers : ℕ) (old between new : List ℕ)
    → ComesOf done answer t → LeavesNothing Once done old between → AddsLines answer published readers between new → LeavesNothing Pieces answer old new
nothing_behind done (Ok v) t published readers old between new comes first adds = tt
nothing_behind (Ok s) (Err f) t published readers old between new comes first adds = unless_blamed f t old new comes
nothing_behind (Err f) (Err g) t published readers old between new comes first adds = untouched g old new (adds ∙ first)

-- what was published is told where the receiver came to its end
pub lines_of : (done answer : Answer) (t : Type 0) (history published : List Shown) (n readers : ℕ) (old new : List ℕ)
    → ComesOf done answer t → AfterTaking done (history ≡ published) → n ≡ readers → AddsLines answer history n old new → AddsLines answer published readers old new
lines_of (Ok s) (Ok v) t history published n readers old new comes is many adds =
    subst (λ h. AddsReaderLines h readers old new) is (subst (λ m. AddsReaderLines history m old new) many adds)
lines_of (Err f) (Ok v) t history published n readers old new comes is many adds = cc
lines_of done (Err f) t history published n readers old new comes is many adds = adds

-- ---- all else

pub ok_behind : (done answer : Answer) (t : Type 0) (P : Status → Type 0) → ComesOf done answer t → IfOk done P → IfOk answer P
ok_behind (Ok s) (Ok v) t P comes holds = subst P (sym comes) holds
ok_behind (Err f) (Ok v) t P comes holds = cc
ok_behind done (Err f) t P comes holds = tt

-- what holds of each fault that may come after the end, and of the end, holds then
after_end : (f : Fault) (t : Type 0) (P : Fault → Type 0) → P Text → P Memory → Blames {A = Unit {0}} (Err f) ⊥ t ⊥ ⊥ ⊥ → P f
after_end Datagrams t P text memory blames = absurd blames
after_end Text t P text memory blames = text
after_end Emit t P text memory blames = absurd blames
after_end Shelf t P text memory blames = absurd blames
after_end Files t P text memory blames = absurd blames
after_end Memory t P text memory blames = memory

pub shelf_behind : (done answer : Answer) (t : Type 0) (calls : List Call) (old new : Shelved)
    → ComesOf done answer t → LeavesShelf done calls old new → LeavesShelf answer calls old new
shelf_behind (Ok s) (Ok v) t calls old new comes leaves = leaves
shelf_behind (Ok s) (Err f) t calls old new comes leaves =
    after_end f t (λ f. LeavesShelf {A = Status} (Err f) calls old new) leaves (part_all calls old new leaves) comes
shelf_behind (Err f) answer t calls old new comes leaves = subst (λ (a : Answer). LeavesShelf a calls old new) (sym comes) leaves

pub apart_behind : (done answer : Answer) (t : Type 0) → ComesOf done answer t → leaves_shelf answer ≡ true → leaves_shelf done ≡ true
apart_behind (Ok s) (Ok v) t comes leaves = ap (λ (s : Status). leaves_shelf (Ok s)) (sym comes) ∙ leaves
apart_behind (Ok s) (Err f) t comes leaves = after_end f t (λ f. leaves_shelf (Err f) ≡ true → leaves_shelf (Ok s) ≡ true) (λ e. cc) (λ e. cc) comes leaves
apart_behind (Err f) answer t comes leaves = ap leaves_shelf (sym comes) ∙ leaves

pub taking_behind : (done answer : Answer) (t P : Type 0) → ComesOf done answer t → AfterTaking done P → AfterTaking answer P
taking_behind (Ok s) (Ok v) t P comes holds = holds
taking_behind (Ok s) (Err f) t P comes holds = after_end f t (λ f. AfterTaking {A = Status} (Err f) P) holds tt comes
taking_behind (Err f) answer t P comes holds = subst (λ (a : Answer). AfterTaking a P) (sym comes) holds

blames_more : (answer : Answer) (d t e s f t' : Type 0) → (t → t') → Blames answer d t e s f → Blames answer d t' e s f
blames_more (Ok v) d t e s f t' more blames = tt
blames_more (Err Datagrams) d t e s f t' more blames = blames
blames_more (Err Text) d t e s f t' more blames = more blames
blames_more (Err Emit) d t e s f t' more blames = blames
blames_more (Err Shelf) d t e s f t' more blames = blames
blames_more (Err Files) d t e s f t' more blames = blames
blames_more (Err Memory) d t e s f t' more blames = tt

pub blames_behind : (done answer : Answer) (d t e s f t' t'' : Type 0) → ComesOf done answer t'' → (t → t') → (t'' → t')
    → Blames done d t e s f → Blames answer d t' e s f
blames_behind (Ok v) (Ok w) d t e s f t' t'' comes first second blames = tt
blames_behind (Ok v) (Err Datagrams) d t e s f t' t'' comes first second blames = absurd comes
blames_behind (Ok v) (Err Text) d t e s f t' t'' comes first second blames = second comes
blames_behind (Ok v) (Err Emit) d t e s f t' t'' comes first second blames = absurd comes
blames_behind (Ok v) (Err Shelf) d t e s f t' t'' comes first second blames = absurd comes
blames_behind (Ok v) (Err Files) d t e s f t' t'' comes first second blames = absurd comes
blames_behind (Ok v) (Err Memory) d t e s f t' t'' comes first second blames = tt
blames_behind (Err g) answer d t e s f t' t'' comes first second blames =
    subst (λ (a : Answer). Blames a d t' e s f) (sym comes) (blames_more (Err g) d t e s f t' first blames)

pub events_behind : (done answer : Answer) (t : Type 0) (events : List Event) (first : ℕ → List Event) (Hears : List Event → Type 0)
    → ComesOf done answer t → Tells done events first Hears → Tells answer events first Hears
events_behind (Ok s) (Ok v) t events first Hears comes tells = tells
events_behind (Ok s) (Err f) t events first Hears comes tells =
    after_end f t (λ f. Tells {A = Status} (Err f) events first Hears) tells (whole_is_part events Hears tells) comes
events_behind (Err f) answer t events first Hears comes tells =
    subst (λ (a : Answer). Tells a events first Hears) (sym comes) tells
