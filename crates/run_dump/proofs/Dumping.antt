-- The lines of a dump, one after another, and the part of them that is written where it stops.
use Rattle.std.proofs.Common.{◌≡◌, ℕ, ◌+◌, ◌≤◌, List, [], ◌∷◌, ◌++◌, ◌∙◌, refl, sym, ap, arith, length, take, drop, append_assoc}
use Rattle.std.specs.Prelude.{Option, Result, Ok, Err, IfOk, OnOk, OnErr}
use Rattle.std.proofs.lemmas.List.{append-nil, take-append-drop, take-take, length-take-le}
use Rattle.run_base.specs.declared.bound.Bound.TheVariants.{Most}
use Rattle.run_base.specs.declared.ending.Ending.{Ending}
use Rattle.run_base.specs.declared.fault.Fault.{Fault}
use Rattle.run_dump.specs.Dump.{dump_line, dump_lines, dump_status, dumped}
use Rattle.run_base.specs.Parts.{AddsPart}
use Rattle.run_base.specs.declared.status.Status.{Status}
use Rattle.run_base.specs.Answers.{LeavesText}
use Rattle.run_base.specs.Bounds.{asked, ending_of}
use Rattle.run_base.specs.Outcome.{Streams}
use Rattle.run_base.specs.Texts.{ending_line}
use Rattle.run_base.proofs.Public.{front_written, part_of_front}

lines_front : (place : ℕ) (ds es : List (List ℕ)) → dump_lines place (ds ++ es) ≡ dump_lines place ds ++ dump_lines (place + length ds) es
lines_front place [] es = ap (λ n. dump_lines n es) (let none : place ≡ place + 0 = omega arith in none)
lines_front place (d ∷ ds) es =
    ap (λ ls. dump_line place d ++ ls) (lines_front (place + 1) ds es)
    ∙ ap (λ n. dump_line place d ++ (dump_lines (place + 1) ds ++ dump_lines n es))
    (let more : place + 1 + length ds ≡ place + length (d ∷ ds) = omega arith in more)
    ∙ sym (append_assoc (dump_line place d) (dump_lines (place + 1) ds) (dump_lines (place + length (d ∷ ds)) es))

-- one line more
pub lines_more : (i : ℕ) (left : List (List ℕ)) (d : List ℕ) → i ≤ length left → take (i + 1) left ≡ take i left ++ d ∷ []
    → dump_lines 0 (take (i + 1) left) ≡ dump_lines 0 (take i left) ++ dump_line i d
lines_more i left d few next =
    ap (dump_lines 0) next ∙ lines_front 0 (take i left) (d ∷ [])
    ∙ ap (λ n. dump_lines 0 (take i left) ++ dump_lines n (d ∷ [])) (let all : 0 + length (take i left) ≡ i = omega (arith, length-take-le i left few) in all)
    ∙ ap (λ ls. dump_lines 0 (take i left) ++ ls) (append-nil (dump_line i d))

pub written_more : (i : ℕ) (left : List (List ℕ)) (d : List ℕ) (old mid new : List ℕ) → i ≤ length left
    → take (i + 1) left ≡ take i left ++ d ∷ [] → mid ≡ old ++ dump_lines 0 (take i left) → new ≡ mid ++ dump_line i d
    → new ≡ old ++ dump_lines 0 (take (i + 1) left)
written_more i left d old mid new few next before now =
    now ∙ ap (λ t. t ++ dump_line i d) before ∙ append_assoc old (dump_lines 0 (take i left)) (dump_line i d)
    ∙ ap (λ t. old ++ t) (sym (lines_more i left d few next))

-- the first of the lines
pub lines_written : (i most : ℕ) (left : List (List ℕ)) (old new : List ℕ) → i ≤ most → new ≡ old ++ dump_lines 0 (take i left)
    → AddsPart (dump_lines 0 (take most left)) old new
lines_written i most left old new few is =
    let ds = take i (take most left) in
    let all : dump_lines 0 (take most left) ≡ dump_lines 0 ds ++ dump_lines (0 + length ds) (drop i (take most left)) =
    ap (dump_lines 0) (sym (take-append-drop i (take most left))) ∙ lines_front 0 ds (drop i (take most left)) in
    rw all (front_written (dump_lines 0 ds) (dump_lines (0 + length ds) (drop i (take most left))) old new
    (is ∙ ap (λ xs. old ++ dump_lines 0 xs) (sym (take-take i most left few))))

-- ---- how a dump ends, from how its lines end

pub ended : (most : ℕ) (left left' : List (List ℕ)) (torn torn' : Option ℕ) (ending : Ending) → left' ≡ left → torn' ≡ torn
    → ending ≡ ending_of (Most most) left' torn' → ending ≡ ending_of (Most most) left torn
ended most left left' torn torn' ending same same_torn is = is ∙ ap (λ l. ending_of (Most most) l torn') same ∙ ap (ending_of (Most most) left) same_torn

pub status_is : (most : ℕ) (left : List (List ℕ)) (torn : Option ℕ) (ending : Ending) (r : Result Status Fault) → ending ≡ ending_of (Most most) left torn
    → IfOk r (λ s. s ≡ dump_status ending) → IfOk r (λ s. s ≡ (dumped most left torn).status)
unfolding dumped
status_is most left torn ending (Ok s) is status = status ∙ ap dump_status is
status_is most left torn ending (Err f) is status = tt

-- the lines and the end's, or the lines alone
pub text_is : (r : Result Status Fault) (most : ℕ) (left : List (List ℕ)) (torn : Option ℕ) (ending : Ending) (told : Type 0) (old mid new : List ℕ)
    → told → ending ≡ ending_of (Most most) left torn → mid ≡ old ++ dump_lines 0 (take most left)
    → OnOk r (told → new ≡ mid ++ ending_line ending) → OnErr r (told → new ≡ mid) → LeavesText Streams r (dumped most left torn).text old new
unfolding dumped
text_is (Ok s) most left torn ending told old mid new is_told is lines line same =
    line is_told ∙ ap (λ e. mid ++ ending_line e) is ∙ ap (λ t. t ++ ending_line (ending_of (Most most) left torn)) lines
    ∙ append_assoc old (dump_lines 0 (take most left)) (ending_line (ending_of (Most most) left torn))
text_is (Err f) most left torn ending told old mid new is_told is lines line same =
    front_written (dump_lines 0 (take most left)) (ending_line (ending_of (Most most) left torn)) old new (same is_told ∙ lines)

pub part_is_part : (most : ℕ) (left : List (List ℕ)) (torn : Option ℕ) (old new : List ℕ)
    → AddsPart (dump_lines 0 (take most left)) old new → AddsPart (dumped most left torn).text old new
unfolding dumped
part_is_part most left torn old new part = part_of_front (dump_lines 0 (take most left)) (ending_line (ending_of (Most most) left torn)) old new part

-- all that is asked for was read
pub asks : (most : ℕ) (left : List (List ℕ)) (torn : Option ℕ) → (dumped most left torn).asked ≡ asked (Most most)
unfolding dumped
asks most left torn = refl
