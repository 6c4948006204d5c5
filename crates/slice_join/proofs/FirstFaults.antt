-- The first fault of a group, from what was found of it.
use Rattle.std.proofs.Common.{◌≡◌, ℕ, ◌==◌, Bool, true, false, not, List, [], ◌∷◌, Option, Some, None, Bor, map, nat_cmp, refl, ap, subst, ◌∙◌}
use Rattle.std.specs.BTreeMap.{BTreeMap, get}
use Rattle.std.specs.Option.{is_some, option_map}
use Rattle.wire_bytes.specs.FirstFault.{fault_when, first_fault}
use Rattle.wire_bytes.proofs.Public.{past, past_cause, held_first}
use Rattle.slice_join.specs.declared.fault.JoinFault.{JoinFault}
use Rattle.slice_join.specs.declared.fault.JoinFault.TheVariants.{Header, Disagree, Twice, Missing, Total}
use Rattle.slice_join.specs.declared.stop.Stop.{Stop}
use Rattle.slice_join.specs.declared.stop.Stop.TheVariants.{Fault, Memory}
use Rattle.slice_join.specs.Groups.{Entry, files_of}
use Rattle.slice_join.specs.Faults.{all_said, disagrees, first_where, found_in, has_bad_head, is_among, join_fault, missing, places_of, places_to, repeated, said}
use Rattle.slice_join.specs.Inner.Places.{AreParts}
use Rattle.slice_join.specs.Inner.Stops.{StopsFor}
use Rattle.carousel_cid.specs.declared.file_of.FileOf.{FileOf}
use Rattle.slice_join.proofs.Walks.{held_is_among}

-- the faults of the list, each by itself
abbrev pub header_in : Entry → Option JoinFault
header_in e = option_map Header (first_where has_bad_head (files_of e))

abbrev pub disagree_in : Entry → Option JoinFault
disagree_in e = option_map Disagree (first_where (disagrees e.first) (files_of e))

abbrev pub twice_in : Entry → Option JoinFault
twice_in e = option_map Twice (repeated [] (places_of (all_said e)))

abbrev pub missing_in : Entry → Option JoinFault
missing_in e = option_map Missing (missing (places_of (all_said e)) (places_to (said e.first).count))

abbrev pub differs : Entry → Bool
differs e = not (found_in (all_said e) == (said e.first).total)

abbrev from_total : Entry → List (Option JoinFault)
from_total e = fault_when (differs e) (Total (found_in (all_said e))) ∷ []

abbrev from_missing : Entry → List (Option JoinFault)
from_missing e = missing_in e ∷ from_total e

abbrev from_twice : Entry → List (Option JoinFault)
from_twice e = twice_in e ∷ from_missing e

abbrev from_disagree : Entry → List (Option JoinFault)
from_disagree e = disagree_in e ∷ from_twice e

opened : (e : Entry) → join_fault e ≡ first_fault (header_in e ∷ from_disagree e)
unfolding join_fault
opened e = refl

held : (o : Option JoinFault) (faults : List (Option JoinFault)) (f : JoinFault) → o ≡ Some f → first_fault (o ∷ faults) ≡ Some f
held o faults f is = rw is refl

pub is_header : (e : Entry) (f : JoinFault) → header_in e ≡ Some f → join_fault e ≡ Some f
is_header e f is = opened e ∙ held (header_in e) (from_disagree e) f is

-- what holds where the heads are good, and so on
pub past_header : (e : Entry) → header_in e ≡ None → join_fault e ≡ first_fault (from_disagree e)
past_header e good = opened e ∙ past (header_in e) (from_disagree e) good

pub is_disagree : (e : Entry) (f : JoinFault) → header_in e ≡ None → disagree_in e ≡ Some f → join_fault e ≡ Some f
is_disagree e f good is = past_header e good ∙ held (disagree_in e) (from_twice e) f is

past_disagree : (e : Entry) → header_in e ≡ None → disagree_in e ≡ None → join_fault e ≡ first_fault (from_twice e)
past_disagree e good alike = past_header e good ∙ past (disagree_in e) (from_twice e) alike

pub is_twice : (e : Entry) (f : JoinFault) → header_in e ≡ None → disagree_in e ≡ None → twice_in e ≡ Some f → join_fault e ≡ Some f
is_twice e f good alike is = past_disagree e good alike ∙ held (twice_in e) (from_missing e) f is

past_twice : (e : Entry) → header_in e ≡ None → disagree_in e ≡ None → twice_in e ≡ None → join_fault e ≡ first_fault (from_missing e)
past_twice e good alike once = past_disagree e good alike ∙ past (twice_in e) (from_missing e) once

pub is_missing : (e : Entry) (f : JoinFault) → header_in e ≡ None → disagree_in e ≡ None → twice_in e ≡ None → missing_in e ≡ Some f → join_fault e ≡ Some f
is_missing e f good alike once is = past_twice e good alike once ∙ held (missing_in e) (from_total e) f is

past_missing : (e : Entry) → header_in e ≡ None → disagree_in e ≡ None → twice_in e ≡ None → missing_in e ≡ None → join_fault e ≡ first_fault (from_total e)
past_missing e good alike once there = past_twice e good alike once ∙ past (missing_in e) (from_total e) there

pub is_total : (e : Entry) → header_in e ≡ None → disagree_in e ≡ None → twice_in e ≡ None → missing_in e ≡ None → differs e ≡ true → join_fault e ≡ Some (Total (found_in (all_said e)))
is_total e good alike once there other = past_missing e good alike once there ∙ held_first (differs e) (Total (found_in (all_said e))) [] other

pub is_none : (e : Entry) → header_in e ≡ None → disagree_in e ≡ None → twice_in e ≡ None → missing_in e ≡ None → differs e ≡ false → join_fault e ≡ None
is_none e good alike once there same = past_missing e good alike once there ∙ past_cause (differs e) (Total (found_in (all_said e))) [] same

-- ---- what stops for one of the list stops for the first

pub stops_header : (e : Entry) (stop : Stop) → StopsFor (header_in e) stop → StopsFor (join_fault e) stop
stops_header e (Fault f) h = is_header e f h
stops_header e Memory h = tt

pub stops_twice : (e : Entry) (stop : Stop) → header_in e ≡ None → disagree_in e ≡ None → StopsFor (twice_in e) stop → StopsFor (join_fault e) stop
stops_twice e (Fault f) good alike h = is_twice e f good alike h
stops_twice e Memory good alike h = tt

-- ---- the faults, by what the code has of the entry

pub disagree_from : (e : Entry) (first : FileOf) (fs : List FileOf) → first ≡ e.first → fs ≡ files_of e → option_map Disagree (first_where (disagrees first) fs) ≡ disagree_in e
disagree_from e first fs one all =
    ap (λ f. option_map Disagree (first_where (disagrees f) fs)) one
    ∙ ap (λ gs. option_map Disagree (first_where (disagrees e.first) gs)) all

pub twice_from : (e : Entry) (fs : List FileOf) → fs ≡ files_of e → option_map Twice (repeated [] (places_of (map said fs))) ≡ twice_in e
twice_from e fs all = ap (λ gs. option_map Twice (repeated [] (places_of (map said gs)))) all

pub count_from : (e : Entry) (first : FileOf) (count : ℕ) → count ≡ (said first).count → first ≡ e.first → count ≡ (said e.first).count
count_from e first count is one = is ∙ ap (λ f. (said f).count) one

pub missing_from : (e : Entry) (count : ℕ) → count ≡ (said e.first).count → option_map Missing (missing (places_of (all_said e)) (places_to count)) ≡ missing_in e
missing_from e count is = ap (λ n. option_map Missing (missing (places_of (all_said e)) (places_to n))) is

pub parts_from : (e : Entry) (fs : List FileOf) (parts : BTreeMap ℕ (Bor (List ℕ))) → fs ≡ files_of e → AreParts parts (map said fs) → AreParts parts (all_said e)
parts_from e fs parts all are = subst (λ gs. AreParts parts (map said gs)) all are

pub among_from : (e : Entry) (parts : BTreeMap ℕ (Bor (List ℕ))) → AreParts parts (all_said e) → (p : ℕ) → is_some (get nat_cmp parts p) ≡ is_among (places_of (all_said e)) p
among_from e parts are p = held_is_among (get nat_cmp parts p) (all_said e) p (are p)
