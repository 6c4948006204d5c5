-- A session with one instance more.
use Rattle.std.proofs.Common.{◌≡◌, ℕ, suc, ◌+◌, ◌<◌, ◌≤◌, Bool, true, false, not, ◌==◌, ◌||◌, ◌&&◌, cond, List, [], ◌∷◌, ◌++◌, Option, Some}
use Rattle.std.proofs.Common.{None, length, refl, sym, ap, subst, ◌∙◌, append_assoc, append-nil, arith}
use Rattle.std.specs.Prelude.{map, filter, nat_le}
use Rattle.std.specs.List.{list_any, position_or_len, AllByRecursion}
use Rattle.std.proofs.lemmas.Bool.{eqb-true, eq-eqb, leb-false, false_from_ne_true}
use Rattle.std.proofs.lemmas.Grind.{flat_map-append}
use Rattle.std.proofs.lemmas.List.Concat.{flat_map-cons}
use Rattle.std.proofs.lemmas.List.Folds.{list_any-append}
use Rattle.carousel_cid.specs.Repeats.{first_places, are_different}
use Rattle.sender_plan.specs.CatalogInstance.{CatalogItem, CatalogInstance}
use Rattle.sender_plan.specs.Check.{is_within, not_rising}
use Rattle.sender_plan.specs.Distinct.{distinct}
use Rattle.sender_plan.specs.Content.{Content, File, Descriptor, same, identifier}
use Rattle.sender_plan.specs.Plan.{file_of, files_of, contents_of, contents, listed_of}
use Rattle.sender_plan.specs.Session.{SentInstance}
use Rattle.sender_plan.specs.Inner.Sets.{added_all, IsTransitive}
use Rattle.sender_plan.specs.Inner.Planning.{place_in, HasPlaces}
use Rattle.sender_plan.proofs.Sets.{added_all-append, added_all-distinct}
use Rattle.sender_plan.proofs.Keys.{equal_files, files_itself}
use Rattle.sender_plan.proofs.Keeping.{place_in_front, place_at_end, added_new}
use Rattle.sender_plan.proofs.Identifiers.{added_all_front, all_added, none_added_all, content_itself}

pub same_transitive : IsTransitive same
same_transitive (File l k x) (File m j y) (File n i z) ab bc =
    subst (λ c. same (File l k x) c ≡ true) (equal_files l m k j x y ab ∙ equal_files m n j i y z bc) (files_itself l k x)
same_transitive (File l k x) (File m j y) (Descriptor c) ab bc = absurd cc
same_transitive (File l k x) (Descriptor b) c ab bc = absurd cc
same_transitive (Descriptor a) (File m j y) c ab bc = absurd cc
same_transitive (Descriptor a) (Descriptor b) (File n i z) ab bc = absurd cc
same_transitive (Descriptor a) (Descriptor b) (Descriptor c) ab bc = eq-eqb a.number c.number (eqb-true a.number b.number ab ∙ eqb-true b.number c.number bc)

-- ---- numbers rise

pub not_first : (t : Bool) (at : ℕ) (later : Option ℕ) → cond t (Some at) later ≡ None → (t ≡ false) × (later ≡ None)
not_first true at later is = absurd cc
not_first false at later is = (refl, is)

pub rises : (at before : ℕ) (x : CatalogInstance) (front rest : List CatalogInstance) → not_rising at (Some before) (front ++ x ∷ rest) ≡ None → before < x.number
rises at before x [] rest rising =
    leb-false x.number before (not_first (nat_le x.number before) at (not_rising (at + 1) (Some x.number) rest) rising).0
rises at before x (y ∷ front) rest rising =
    let parts = not_first (nat_le y.number before) at (not_rising (at + 1) (Some y.number) (front ++ x ∷ rest)) rising in
    omega (arith, leb-false y.number before parts.0, rises (at + 1) y.number x front rest parts.1)

no_file : (body : List ℕ → List ℕ) (x : CatalogInstance) (items : List CatalogItem) → list_any (same (Descriptor x)) (map (file_of body) items) ≡ false
no_file body x [] = refl
no_file body x (item ∷ items) = no_file body x items

-- a descriptor is none of the contents before it
other_numbers : (body : List ℕ → List ℕ) (at : ℕ) (before : Option ℕ) (x : CatalogInstance) (front rest : List CatalogInstance)
    → not_rising at before (front ++ x ∷ rest) ≡ None → list_any (same (Descriptor x)) (contents body front) ≡ false
other_numbers body at before x [] rest rising = refl
other_numbers body at before x (y ∷ front) rest rising =
    let p = same (Descriptor x) in
    let parts = not_first (is_within y.number before) at (not_rising (at + 1) (Some y.number) (front ++ x ∷ rest)) rising in
    let less = rises (at + 1) y.number x front rest parts.1 in
    let differ : (x.number == y.number) ≡ false = false_from_ne_true (x.number == y.number) (λ is. absurd (omega (arith, less, eqb-true x.number y.number is))) in
    let later = other_numbers body (at + 1) (Some y.number) x front rest parts.1 in
    let here : list_any p (contents_of body y) ≡ false =
    list_any-append p (files_of body y) (Descriptor y ∷ []) ∙ (λ i. no_file body x y.items i || (differ i || false)) in
    ap (list_any p) (flat_map-cons (contents_of body) y front) ∙ list_any-append p (contents_of body y) (contents body front)
    ∙ (λ i. here i || later i)

-- ---- the contents up to an instance

module _ (body : List ℕ → List ℕ) (front : List CatalogInstance) (instance : CatalogInstance) where
  -- the distinct contents before it, and with its files
  abbrev pub before : List Content
  before = added_all same [] (contents body front)

  abbrev pub with_files : List Content
  with_files = added_all same before (files_of body instance)

  pub contents_more : (rest : List CatalogInstance) → contents body (front ++ instance ∷ rest)
      ≡ contents body front ++ (files_of body instance ++ Descriptor instance ∷ contents body rest)
  contents_more rest =
      flat_map-append (contents_of body) front (instance ∷ rest)
      ∙ ap (λ cs. contents body front ++ cs) (flat_map-cons (contents_of body) instance rest
      ∙ append_assoc (files_of body instance) (Descriptor instance ∷ []) (contents body rest))

  new_descriptor : (rest : List CatalogInstance) → not_rising 1 None (front ++ instance ∷ rest) ≡ None → list_any (same (Descriptor instance)) with_files ≡ false
  new_descriptor rest rising =
      let p = same (Descriptor instance) in
      none_added_all same p before (files_of body instance)
      (none_added_all same p [] (contents body front) refl (other_numbers body 1 None instance front rest rising)) (no_file body instance instance.items)

  before_more : (rest : List CatalogInstance) → list_any (same (Descriptor instance)) with_files ≡ false
      → added_all same [] (contents body (front ++ instance ∷ rest)) ≡ added_all same (with_files ++ Descriptor instance ∷ []) (contents body rest)
  before_more rest none =
      ap (added_all same []) (contents_more rest)
      ∙ added_all-append same [] (contents body front) (files_of body instance ++ Descriptor instance ∷ contents body rest)
      ∙ added_all-append same before (files_of body instance) (Descriptor instance ∷ contents body rest)
      ∙ ap (λ ks. added_all same ks (contents body rest)) (added_new with_files (Descriptor instance) none)

  pub before_next : (rest : List CatalogInstance) → not_rising 1 None (front ++ instance ∷ rest) ≡ None
      → added_all same [] (contents body (front ++ instance ∷ [])) ≡ with_files ++ Descriptor instance ∷ []
  before_next rest rising = before_more [] (new_descriptor rest rising)

  whole : (rest : List CatalogInstance) → list_any (same (Descriptor instance)) with_files ≡ false
      → (more : List Content) × (distinct same (contents body (front ++ instance ∷ rest)) ≡ (with_files ++ Descriptor instance ∷ []) ++ more)
  whole rest none =
      let end = added_all_front same (with_files ++ Descriptor instance ∷ []) (contents body rest) in
      (end.0, sym (added_all-distinct same same_transitive (contents body (front ++ instance ∷ rest))) ∙ before_more rest none ∙ end.1)

  -- what is listed is what the planned session says
  pub listed_is : (rest : List CatalogInstance) (listed : List ℕ) → not_rising 1 None (front ++ instance ∷ rest) ≡ None
      → ((more : List Content) → listed ≡ first_places (map (place_in (with_files ++ more)) (files_of body instance)))
      → listed ≡ listed_of (contents body (front ++ instance ∷ rest)) body instance
  listed_is rest listed rising is =
      let all = whole rest (new_descriptor rest rising) in
      is (Descriptor instance ∷ all.0)
      ∙ ap (λ (ks : List Content). first_places (map (place_in ks) (files_of body instance)))
      (sym (all.1 ∙ append_assoc with_files (Descriptor instance ∷ []) all.0))

  pub toi_is : (rest : List CatalogInstance) (toi : ℕ) → not_rising 1 None (front ++ instance ∷ rest) ≡ None → toi ≡ length with_files + 1
      → toi ≡ identifier (contents body (front ++ instance ∷ rest)) (Descriptor instance)
  toi_is rest toi rising is =
      let p = same (Descriptor instance) in
      let none = new_descriptor rest rising in
      let all = whole rest none in
      let itself = content_itself (Descriptor instance) in
      let there : list_any p (with_files ++ Descriptor instance ∷ []) ≡ true =
      list_any-append p with_files (Descriptor instance ∷ []) ∙ (λ i. none i || (itself i || false)) in
      is ∙ ap (λ n. n + 1) (sym (ap (position_or_len p) all.1 ∙ place_in_front p (with_files ++ Descriptor instance ∷ []) all.0 there
      ∙ place_at_end p with_files (Descriptor instance) none itself))

-- ---- an instance's identifiers are those of objects, and differ

module _ {X : Type 0} (p : X → Bool) where
  place_within : (xs : List X) → list_any p xs ≡ true → position_or_len p xs < length xs
  place_within [] there = absurd cc
  place_within (x ∷ xs) there = by (p x) there (place_within xs)
    where
      by : (t : Bool) → (t || list_any p xs) ≡ true → (list_any p xs ≡ true → position_or_len p xs < length xs)
          → cond (not t) (1 + position_or_len p xs) 0 < suc (length xs)
      by true there later = omega arith
      by false there later = omega (arith, later there)

abbrev IsWithin : ℕ → ℕ → Type 0
IsWithin n t = (1 ≤ t) × (t ≤ n)

places_within : (kept files : List Content) → AllByRecursion (λ c. list_any (same c) kept ≡ true) files
    → AllByRecursion (IsWithin (length kept)) (map (place_in kept) files)
places_within kept [] there = tt
places_within kept (c ∷ files) there =
    let less = place_within (same c) kept there.0 in
    ((omega arith, omega (arith, less)), places_within kept files there.1)

all_filtered : (P : ℕ → Type 0) (keeps : ℕ → Bool) (ts : List ℕ) → AllByRecursion P ts → AllByRecursion P (filter keeps ts)
all_filtered P keeps [] all = tt
all_filtered P keeps (t ∷ ts) all = by (keeps t) (all_filtered P keeps ts all.1)
  where
    by : (b : Bool) → AllByRecursion P (filter keeps ts) → AllByRecursion P (cond b (t ∷ filter keeps ts) (filter keeps ts))
    by true rest = (all.0, rest)
    by false rest = rest

first_within : (P : ℕ → Type 0) (ts : List ℕ) → AllByRecursion P ts → AllByRecursion P (first_places ts)
first_within P [] all = tt
first_within P (t ∷ ts) all = (all.0, all_filtered P (λ u. not (u == t)) (first_places ts) (first_within P ts all.1))

all_more : (m n : ℕ) (ts : List ℕ) → m ≤ n → AllByRecursion (IsWithin m) ts → AllByRecursion (IsWithin n) ts
all_more m n [] more all = tt
all_more m n (t ∷ ts) more all = ((all.0.0, omega (arith, all.0.1, more)), all_more m n ts more all.1)

none_above : (m : ℕ) (ts : List ℕ) → AllByRecursion (IsWithin m) ts → list_any (λ u. u == (m + 1)) ts ≡ false
none_above m [] all = refl
none_above m (t ∷ ts) all =
    let differ : (t == (m + 1)) ≡ false = false_from_ne_true (t == (m + 1)) (λ is. absurd (omega (arith, eqb-true t (m + 1) is, all.0.1))) in
    rw (differ, none_above m ts all.1) refl

pub has_places : (body : List ℕ → List ℕ) (kept : List Content) (instance : CatalogInstance) (sent : SentInstance)
    → sent.listed ≡ first_places (map (place_in (added_all same kept (files_of body instance) ++ [])) (files_of body instance))
    → sent.descriptor_toi ≡ length (added_all same kept (files_of body instance)) + 1 → are_different sent.listed ≡ true
    → HasPlaces (length (added_all same kept (files_of body instance)) + 1) sent
has_places body kept instance sent is toi different =
    let files = files_of body instance in
    let held = added_all same kept files in
    let same_list : sent.listed ≡ first_places (map (place_in held) files) = is ∙ ap (λ (ks : List Content). first_places (map (place_in ks) files)) (append-nil held) in
    let within = first_within (IsWithin (length held)) (map (place_in held) files) (places_within held files (all_added same content_itself kept files)) in
    let all : AllByRecursion (IsWithin (length held)) sent.listed = subst (AllByRecursion (IsWithin (length held))) (sym same_list) within in
    let none : list_any (λ u. u == sent.descriptor_toi) sent.listed ≡ false =
    ap (λ n. list_any (λ u. u == n) sent.listed) toi ∙ none_above (length held) sent.listed all in
    record {
      known = ((omega (arith, toi), omega (arith, toi)), all_more (length held) (length held + 1) sent.listed (omega arith) all);
      different = λ i. not (none i) && different i;
    }

pub more_places : (m n : ℕ) (sent : List SentInstance) → m ≤ n → AllByRecursion (HasPlaces m) sent → AllByRecursion (HasPlaces n) sent
more_places m n [] more all = tt
more_places m n (s ∷ sent) more all = (
  record { known = ((all.0.known.0.0, omega (arith, all.0.known.0.1, more)), all_more m n s.listed more all.0.known.1); different = all.0.different },
  more_places m n sent more all.1,
)
