-- What holds of a plan that nothing refuses.
use Rattle.std.proofs.Common.{◌≡◌, ℕ, zero, suc, ◌+◌, ◌*◌, ◌≤◌, Bool, true, false, not, cond, List, [], ◌∷◌, ◌++◌, Option, Some, None}
use Rattle.std.proofs.Common.{length, length-append, get_or, refl, sym, ap, subst, ◌∙◌, arith}
use Rattle.std.specs.Prelude.{All, filter, slice_get, option_map, nat_lt}
use Rattle.std.specs.List.{flat_map, AllByRecursion}
use Rattle.std.specs.Str.{bytes_eq}
use Rattle.std.proofs.lemmas.Bool.{ltb-false}
use Rattle.std.proofs.lemmas.List.{length-map}
use Rattle.std.proofs.lemmas.List.Concat.{flat_map-cons}
use Rattle.std.proofs.lemmas.List.Elements.{All-from_recursion}
use Rattle.std.proofs.lemmas.List.Sums.{sum_by-cons}
use Rattle.wire_bytes.specs.FirstFault.{fault_when, first_fault}
use Rattle.wire_bytes.proofs.Public.{none_hold, cause_fails}
use Rattle.sender_plan.specs.declared.params.Params.{Params}
use Rattle.sender_plan.specs.declared.fault.PlanFault.{PlanFault}
use Rattle.sender_plan.specs.declared.fault.PlanFault.TheVariants.{NumberNotRising, TooManyFiles, TooLarge}
use Rattle.sender_plan.specs.declared.fault.PlanFault.TheVariants as faults
use Rattle.sender_plan.specs.CatalogInstance.{CatalogItem, CatalogInstance}
use Rattle.sender_plan.specs.Check.{not_rising, too_many, check_faults, most_files, most_bytes}
use Rattle.sender_plan.specs.Names.{item_names, names_of}
use Rattle.sender_plan.specs.Distinct.{distinct}
use Rattle.sender_plan.specs.Content.{Descriptor, same}
use Rattle.sender_plan.specs.Plan.{contents_of, contents, files_of, file_of, objects_from, total_of, plan_faults}
use Rattle.sender_plan.specs.Session.{SentObject, SentInstance, Session, IsObject, IsInstance, objects_of}
use Rattle.sender_plan.specs.Inner.Planning.{IsSendable, HasPlaces}

-- ---- what isn't refused

pub not_mapped : {X Y : Type 0} (f : X → Y) (o : Option X) → option_map f o ≡ None → o ≡ None
not_mapped f None is = refl
not_mapped f (Some x) is = absurd cc

first_back : (faults more : List (Option PlanFault)) → first_fault faults ≡ None → first_fault (faults ++ more) ≡ first_fault more
first_back [] more none = refl
first_back (None ∷ faults) more none = first_back faults more none
first_back (Some first ∷ faults) more none = absurd cc

none_front : (faults more : List (Option PlanFault)) → first_fault (faults ++ more) ≡ None → first_fault faults ≡ None
none_front [] more none = refl
none_front (None ∷ faults) more none = none_front faults more none
none_front (Some first ∷ faults) more none = absurd cc

abbrev large : List (List ℕ) → List (Option PlanFault)
large bodies = fault_when (nat_lt most_bytes (total_of bodies)) (TooLarge (total_of bodies)) ∷ []

pub not_refused : (instances : List CatalogInstance) (bodies : List (List ℕ)) (params : Params) → first_fault (check_faults instances params) ≡ None
    → nat_lt most_bytes (total_of bodies) ≡ false → first_fault (plan_faults instances bodies params) ≡ None
not_refused instances bodies params none less = first_back (check_faults instances params) (large bodies) none ∙ rw less refl

within_total : (bodies : List (List ℕ)) (at : ℕ) → length (get_or bodies at []) ≤ total_of bodies
within_total [] at = omega arith
within_total (b ∷ bodies) zero = omega (arith, sum_by-cons length b bodies)
within_total (b ∷ bodies) (suc at) = omega (arith, sum_by-cons length b bodies, within_total bodies at)

-- no body of a plan that isn't refused is larger than all may be together
pub short_bodies : (instances : List CatalogInstance) (bodies : List (List ℕ)) (params : Params) → first_fault (plan_faults instances bodies params) ≡ None
    → (at : ℕ) → length (get_or bodies at []) ≤ 268435456
short_bodies instances bodies params none at =
    let few = none_front (check_faults instances params) (large bodies) none in
    let last = none_hold (fault_when (nat_lt most_bytes (total_of bodies)) (TooLarge (total_of bodies))) []
    (sym (first_back (check_faults instances params) (large bodies) few) ∙ none) in
    let all = ltb-false most_bytes (total_of bodies) (cause_fails (nat_lt most_bytes (total_of bodies)) (TooLarge (total_of bodies)) last.0) in
    omega (arith, all, within_total bodies at)

pub record NoneRefuses (instances : List CatalogInstance) (params : Params) : Type 0 where
  pub rising : not_rising 1 None instances ≡ None
  pub few : too_many 1 instances ≡ None
  pub block_within : params.max_block ≤ params.max_n

pub none_checked : (instances : List CatalogInstance) (params : Params) → first_fault (check_faults instances params) ≡ None → NoneRefuses instances params
none_checked instances params sound =
    let block = fault_when (nat_lt params.max_n params.max_block) faults.Params in
    let many = option_map TooManyFiles (too_many 1 instances) in
    let first = none_hold (option_map NumberNotRising (not_rising 1 None instances)) (many ∷ block ∷ []) sound in
    let second = none_hold many (block ∷ []) first.1 in
    let third = none_hold block [] second.1 in
    record {
      rising = not_mapped NumberNotRising (not_rising 1 None instances) first.0;
      few = not_mapped TooManyFiles (too_many 1 instances) second.0;
      block_within = ltb-false params.max_n params.max_block (cause_fails (nat_lt params.max_n params.max_block) faults.Params third.0);
    }

pub none_refuses : (instances : List CatalogInstance) (bodies : List (List ℕ)) (params : Params) → first_fault (plan_faults instances bodies params) ≡ None
    → NoneRefuses instances params
none_refuses instances bodies params sound = none_checked instances params (none_front (check_faults instances params) (large bodies) sound)

pub few_files : (at : ℕ) (instances : List CatalogInstance) → too_many at instances ≡ None → AllByRecursion (λ i. length i.items ≤ 4096) instances
few_files at [] few = tt
few_files at (i ∷ instances) few = by (nat_lt most_files (length i.items)) refl few (few_files (at + 1) instances)
  where
    by : (t : Bool) → nat_lt most_files (length i.items) ≡ t → cond t (Some at) (too_many (at + 1) instances) ≡ None
        → (too_many (at + 1) instances ≡ None → AllByRecursion (λ j. length j.items ≤ 4096) instances) → AllByRecursion (λ j. length j.items ≤ 4096) (i ∷ instances)
    by true is few later = absurd cc
    by false is few later = (ltb-false most_files (length i.items) is, later few)

-- ---- how many there are

filtered_length : {X : Type 0} (keeps : X → Bool) (xs : List X) → length (filter keeps xs) ≤ length xs
filtered_length keeps [] = omega arith
filtered_length keeps (x ∷ xs) = by (keeps x) (filtered_length keeps xs)
  where
    by : (t : Bool) → length (filter keeps xs) ≤ length xs → length (cond t (x ∷ filter keeps xs) (filter keeps xs)) ≤ suc (length xs)
    by true less = omega (arith, less)
    by false less = omega (arith, less)

pub distinct_length : {X : Type 0} (same_as : X → X → Bool) (xs : List X) → length (distinct same_as xs) ≤ length xs
distinct_length same_as [] = omega arith
distinct_length same_as (x ∷ xs) = omega (arith, filtered_length (λ y. not (same_as y x)) (distinct same_as xs), distinct_length same_as xs)

names_length : (instances : List CatalogInstance) → AllByRecursion (λ i. length i.items ≤ 4096) instances
    → length (flat_map (λ i. item_names i.items) instances) ≤ 4096 * length instances
names_length [] few = omega arith
names_length (i ∷ instances) few =
    omega (
      arith,
      few.0,
      names_length instances few.1,
      ap length (flat_map-cons (λ (j : CatalogInstance). item_names j.items) i instances),
      length-append (item_names i.items) (flat_map (λ (j : CatalogInstance). item_names j.items) instances),
      length-map i.items (λ (item : CatalogItem). item.name),
    )

pub few_names : (instances : List CatalogInstance) → AllByRecursion (λ i. length i.items ≤ 4096) instances → length instances ≤ 256
    → length (names_of instances) ≤ 1048576
few_names instances few less =
    omega (arith, less, names_length instances few, distinct_length bytes_eq (flat_map (λ (i : CatalogInstance). item_names i.items) instances))

contents_length : (body : List ℕ → List ℕ) (instances : List CatalogInstance) → AllByRecursion (λ i. length i.items ≤ 4096) instances
    → length (contents body instances) ≤ 4097 * length instances
contents_length body [] few = omega arith
contents_length body (i ∷ instances) few =
    omega (
      arith,
      few.0,
      contents_length body instances few.1,
      ap length (flat_map-cons (contents_of body) i instances),
      length-append (contents_of body i) (contents body instances),
      length-append (files_of body i) (Descriptor i ∷ []),
      length-map i.items (file_of body),
    )

pub few_contents : (body : List ℕ → List ℕ) (instances : List CatalogInstance) → AllByRecursion (λ i. length i.items ≤ 4096) instances → length instances ≤ 256
    → length (distinct same (contents body instances)) ≤ 1048832
few_contents body instances few less = omega (arith, less, contents_length body instances few, distinct_length same (contents body instances))

-- ---- it is a session

pub same_some : {X : Type 0} (x y : X) → Some x ≡ Some y → x ≡ y
same_some x y is = cc

toi_at : (params : Params) (toi : ℕ) (texts : List (List ℕ)) (position : ℕ) (o : SentObject) → slice_get (objects_from params toi texts) position ≡ Some o
    → o.toi ≡ position + toi
toi_at params toi [] position o is = absurd cc
toi_at params toi (bytes ∷ texts) zero o is = omega (arith, ap (λ (x : SentObject). x.toi) (same_some _ _ is))
toi_at params toi (bytes ∷ texts) (suc position) o is = omega (arith, toi_at params (toi + 1) texts position o is)

sendable_at : (objects : List SentObject) (position : ℕ) (o : SentObject) → AllByRecursion IsSendable objects → slice_get objects position ≡ Some o → IsSendable o
sendable_at [] position o all is = absurd cc
sendable_at (x ∷ objects) zero o all is = subst IsSendable (same_some x o is) all.0
sendable_at (x ∷ objects) (suc position) o all is = sendable_at objects position o all.1 is

pub is_object : (params : Params) (texts : List (List ℕ)) (objects : List SentObject) → objects ≡ objects_from params 1 texts → AllByRecursion IsSendable objects
    → (position : ℕ) (o : SentObject) → slice_get objects position ≡ Some o → IsObject position o
is_object params texts objects made all position o is =
    let sendable = sendable_at objects position o all is in
    record {
      toi = toi_at params 1 texts position o (subst (λ (os : List SentObject). slice_get os position ≡ Some o) made is);
      sound = sendable.sound;
      bytes = sendable.bytes;
      long = sendable.long;
      symbol = sendable.symbol;
    }

pub is_instance : (s : Session) (i : SentInstance) → HasPlaces (length s.objects) i → IsInstance s i
is_instance s i has =
    let known = All-from_recursion (λ toi. (1 ≤ toi) × (toi ≤ length s.objects)) (objects_of i) has.known in
    record { known = λ at d within. let k = known at d within in record { some = k.0; within = k.1 }; different = has.different }

pub are_instances : (s : Session) (sent : List SentInstance) → AllByRecursion (HasPlaces (length s.objects)) sent → All (IsInstance s) sent
are_instances s sent all i d within = is_instance s (get_or sent i d) (All-from_recursion (HasPlaces (length s.objects)) sent all i d within)
