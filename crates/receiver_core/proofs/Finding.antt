-- What is known when the fresh objects are read and the candidates advanced.
use Rattle.std.proofs.Common.{◌≡◌, ℕ, Bool, true, false, cond, ◌||◌, List, [], ◌∷◌, ◌++◌, ◌∙◌, refl, sym, ap, subst, map, take, drop, length, Option, Some, None}
use Rattle.std.proofs.Common.{inl, inr, ◌⊎◌, eqb-true, arith, take_all, reverse}
use Rattle.std.specs.Prelude.{is_some, option_map, ◌==◌, Result, OnErr, IfOk, Ok, Err}
use Rattle.std.specs.Option.{option_or, option_and_then}
use Rattle.std.specs.List.{flat_map}
use Rattle.std.specs.BTreeMap.{get}
use Rattle.std.specs.Ordering.{nat_cmp}
use Rattle.std.proofs.lemmas.Bool.Decides.{nat_tests}
use Rattle.carousel_cid.specs.Instances.{Shown, IsListed as IsListedFiles}
use Rattle.carousel_cid.specs.declared.file_of.FileOf.{FileOf}
use Rattle.carousel_cid.specs.Kinds.{kind_of_object}
use Rattle.carousel_cid.specs.declared.kind.Kind.TheVariants.{Descriptor}
use Rattle.object_store.specs.Store.{Store, is_in, IsListed}
use Rattle.held_packets.specs.Whole.{whole}
use Rattle.receiver_core.specs.declared.candidate.Candidate.{Candidate}
use Rattle.receiver_core.specs.declared.standing.Standing.{Standing}
use Rattle.receiver_core.specs.Best.{Objects, complete, files_of, file_of_kind}
use Rattle.receiver_core.specs.Inner.Lists.{Each, first_of}
use Rattle.receiver_core.specs.Inner.Candidates.{candidates_in, toi_of, advanced, is_file_at, kind_at, IsCandidate}
use Rattle.receiver_core.specs.Inner.Choice.{beats_installed}
use Rattle.receiver_core.specs.Inner.Standings.{Standings, AreStandings, standing_of_bytes, is_known}
use Rattle.receiver_core.specs.Inner.Waiting.{Waiting, waiting_for, ended_of, waits_of, WaitsFor, AreWaiting, Waits, IsCovered, AreCovered}
use Rattle.receiver_core.specs.Inner.Settling.{IsRead}
use Rattle.receiver_core.proofs.Lists.{each_weaker, each_append, each_flat_map, each_reverse, one_in, in_parts, in_first, in_second, in_reverse}
use Rattle.receiver_core.proofs.Completing.{complete_descriptor, descriptor_of, listed_differ, files_named, tests_of_files, is_there_some}
use Rattle.receiver_core.proofs.Candidacies.{new_candidates, in_candidates}
use Rattle.receiver_core.proofs.Going.{IsEnded, IsKnown, each_ended, each_awaiting, all_went}
use Rattle.receiver_core.proofs.Settles.{standing_there, Knows, Kept, known_is, all_standings}

-- what holds of a value holds of the answer that is this value
pub if_ok_is : {T E : Type 0} (P : T → Type 0) (r : Result T E) (y : T) → P y → IfOk r (λ x. x ≡ y) → IfOk r P
if_ok_is P (Ok x) y p is = subst P (sym is) p
if_ok_is P (Err e) y p is = tt

-- and of an error
pub on_err_any : {T E : Type 0} {P : Type 0} (r : Result T E) → P → OnErr r P
on_err_any (Ok x) p = tt
on_err_any (Err e) p = p

some_mapped : {A B : Type 0} (f : A → B) (o : Option A) (b : B) → option_map f o ≡ Some b → is_some o ≡ true
some_mapped f None b e = absurd (let both : None ≡ Some b = e in cc)
some_mapped f (Some a) b e = refl

-- what is known is known of what is whole
known_whole : (objects : Objects) (ready : List ℕ) (known : Standings) → ((t : ℕ) → is_some (objects t) ≡ is_in t ready) → AreStandings objects ready known
    → (t : ℕ) (r : Standing) → get nat_cmp known t ≡ Some r → is_some (objects t) ≡ true
known_whole objects ready known listed are t r e = elim (is_in t ready) as (λ b. is_in t ready ≡ b → is_some (objects t) ≡ true) [
  | true ↦ λ h. listed t ∙ h
  | false ↦ λ h. absurd (let both : None ≡ Some r = sym (are.others t h) ∙ e in cc)
] refl

-- the first of a list that stands behind another is in both
first_in : (front rest : List ℕ) (t : ℕ) → first_of rest ≡ Some t → is_in t (front ++ rest) ≡ true
first_in [] [] t e = absurd (let both : None ≡ Some t = e in cc)
first_in [] (u ∷ us) t e = let same : u ≡ t = cc in ap (λ v. (v == t) || is_in t us) same ∙ ap (λ b. b || is_in t us) (itself t) where
  itself : (x : ℕ) → (x == x) ≡ true
  itself x = grind (arith, nat_tests)
first_in (v ∷ front) rest t e = ap (λ b. (v == t) || b) (first_in front rest t e) ∙ either (v == t) where
  either : (b : Bool) → (b || true) ≡ true
  either true = refl
  either false = refl

-- one of a list has what each has
each_in : (P : ℕ → Type 0) (ts : List ℕ) (t : ℕ) → Each P ts → is_in t ts ≡ true → P t
each_in P [] t all among = absurd (let both : false ≡ true = among in cc)
each_in P (u ∷ ts) t all among = elim (u == t) as (λ b. (u == t) ≡ b → (b || is_in t ts) ≡ true → P t) [
  | true ↦ λ same h. subst P (eqb-true u t same) all.0
  | false ↦ λ other h. each_in P ts t all.1 h
] refl among

-- the fresh objects are whole
pub fresh_are_whole : (s : Store) (n t : ℕ) → IsListed s.held s.ready → is_in t (drop n s.ready) ≡ true → is_some (whole s.held t) ≡ true
fresh_are_whole s n t listed fresh = listed.listed t ∙ in_parts n s.ready t ∙ ap (λ b. is_in t (take n s.ready) || b) fresh ∙ either (is_in t (take n s.ready)) where
  either : (b : Bool) → (b || true) ≡ true
  either true = refl
  either false = refl

-- ---- what is known when the fresh objects are read and the candidates have gone on

pub record Facts (objects : Objects) (ready : List ℕ) (installed : Option Shown) (known : Standings) (waiting : Waiting) (ended : List Candidate) : Type 0 where
  pub standings : AreStandings objects ready known
  pub waits : AreWaiting objects known waiting
  pub covered : AreCovered objects installed waiting ended ready
  pub knows : Knows objects installed ended

-- ---- those that were woken

none_waits : (objects : Objects) (before after : Standings) (first second : Waiting) (fresh : List ℕ) → AreWaiting objects before first
    → ((t : ℕ) → waiting_for second t ≡ cond (is_in t fresh) [] (waiting_for first t))
    → ((t : ℕ) → is_in t fresh ≡ false → get nat_cmp after t ≡ get nat_cmp before t) → AreWaiting objects after second
none_waits objects before after first second fresh are woken same t = elim (is_in t fresh)
    as (λ b. is_in t fresh ≡ b → Each (WaitsFor objects after t) (waiting_for second t)) [
      | true ↦ λ e. subst (Each (WaitsFor objects after t)) (sym (woken t ∙ ap (λ b. cond b [] (waiting_for first t)) e)) tt
      | false ↦ λ e. subst (Each (WaitsFor objects after t)) (sym (woken t ∙ ap (λ b. cond b [] (waiting_for first t)) e))
          (each_weaker (WaitsFor objects before t) (WaitsFor objects after t)
          (λ c is. record { candidate = is.candidate; first = is.first; unknown = same t e ∙ is.unknown }) (waiting_for first t) (are t))
    ] refl

woken_are : (objects : Objects) (known : Standings) (waiting : Waiting) (ts : List ℕ) → AreWaiting objects known waiting
    → Each (IsCandidate objects) (flat_map (waiting_for waiting) ts)
woken_are objects known waiting [] are = tt
woken_are objects known waiting (t ∷ ts) are = each_append (IsCandidate objects) (waiting_for waiting t) (flat_map (waiting_for waiting) ts)
    (each_weaker (WaitsFor objects known t) (IsCandidate objects) (λ c is. is.candidate) (waiting_for waiting t) (are t)) (woken_are objects known waiting ts are)

woken_in : (waiting : Waiting) (ts : List ℕ) (t u : ℕ) → is_in u ts ≡ true → is_in t (map toi_of (waiting_for waiting u)) ≡ true
    → is_in t (map toi_of (flat_map (waiting_for waiting) ts)) ≡ true
woken_in waiting [] t u among waits = absurd (let both : false ≡ true = among in cc)
woken_in waiting (v ∷ ts) t u among waits = elim (v == u) as (λ b. (v == u) ≡ b → (b || is_in u ts) ≡ true
    → is_in t (map toi_of (waiting_for waiting v ++ flat_map (waiting_for waiting) ts)) ≡ true) [
      | true ↦ λ same h. in_first toi_of (waiting_for waiting v) (flat_map (waiting_for waiting) ts) t
          (subst (λ w. is_in t (map toi_of (waiting_for waiting w)) ≡ true) (sym (eqb-true v u same)) waits)
      | false ↦ λ other h. in_second toi_of (waiting_for waiting v) (flat_map (waiting_for waiting) ts) t (woken_in waiting ts t u h waits)
    ] refl among

-- what was covered before is, with those that were woken
woken_covered : (objects : Objects) (installed : Option Shown) (first second : Waiting) (n : ℕ) (ready : List ℕ)
    → ((t : ℕ) → waiting_for second t ≡ cond (is_in t (drop n ready)) [] (waiting_for first t))
    → AreCovered objects installed first [] (take n ready)
    → AreCovered objects installed second (candidates_in objects (drop n ready) ++ flat_map (waiting_for first) (drop n ready)) ready
woken_covered objects installed first second n ready woken covered t number listed among kind =
    let fresh = drop n ready in
    let new = candidates_in objects fresh in
    let old = flat_map (waiting_for first) fresh in
    standing_there (is_in t (take n ready)) (is_in t fresh) (IsCovered objects installed second (new ++ old) t number listed) (sym (in_parts n ready t) ∙ among)
    (λ is_fresh. inr (inl (in_first toi_of new old t (in_candidates objects fresh t number listed is_fresh kind))))
    (λ stale front. elim (covered t number listed front kind) as (λ w. IsCovered objects installed second (new ++ old) t number listed) [
      | inl waits ↦ elim (is_in waits.0 fresh) as (λ b. is_in waits.0 fresh ≡ b → IsCovered objects installed second (new ++ old) t number listed) [
        | true ↦ λ e. inr (inl (in_second toi_of new old t (woken_in first fresh t waits.0 e waits.1)))
        | false ↦ λ e. inl (waits.0, ap (λ cs. is_in t (map toi_of cs)) (woken waits.0 ∙ ap (λ b. cond b [] (waiting_for first waits.0)) e) ∙ waits.1)
      ] refl
      | inr rest ↦ elim rest as (λ w. IsCovered objects installed second (new ++ old) t number listed) [
        | inl there ↦ absurd (let both : false ≡ true = there in cc)
        | inr others ↦ inr (inr others)
      ]
    ])

-- ---- those that went on

went_covered : (objects : Objects) (known : Standings) (installed : Option Shown) (second third : Waiting) (cs ended : List Candidate) (ready : List ℕ)
    → IsKnown objects known → Each (IsCandidate objects) cs
    → ended ≡ flat_map (λ c. ended_of installed (advanced (is_file_at objects) c)) (reverse cs)
    → ((t : ℕ) → waiting_for third t ≡ waiting_for second t ++ flat_map (λ c. waits_of known installed t (advanced (is_file_at objects) c)) (reverse cs))
    → AreCovered objects installed second cs ready → AreCovered objects installed third ended ready
went_covered objects known installed second third cs ended ready knows are ends waits covered t number listed among kind =
    let moved = λ (u : ℕ). flat_map (λ c. waits_of known installed u (advanced (is_file_at objects) c)) (reverse cs) in
    elim (covered t number listed among kind) as (λ w. IsCovered objects installed third ended t number listed) [
      | inl waiting ↦ inl (waiting.0, ap (λ ds. is_in t (map toi_of ds)) (waits waiting.0) ∙ in_first toi_of (waiting_for second waiting.0) (moved waiting.0) t waiting.1)
      | inr rest ↦ elim rest as (λ w. IsCovered objects installed third ended t number listed) [
        | inl there ↦ elim (all_went objects known installed (reverse cs) t number listed knows (each_reverse (IsCandidate objects) cs are) kind (in_reverse toi_of cs t there))
            as (λ w. IsCovered objects installed third ended t number listed) [
              | inl e ↦ inr (inl (ap (λ ds. is_in t (map toi_of ds)) ends ∙ e))
              | inr more ↦ elim more as (λ w. IsCovered objects installed third ended t number listed) [
                | inl e ↦ inl (e.0, ap (λ ds. is_in t (map toi_of ds)) (waits e.0) ∙ in_second toi_of (waiting_for second e.0) (moved e.0) t e.1)
                | inr others ↦ inr (inr others)
              ]
            ]
        | inr others ↦ inr (inr others)
      ]
    ]

-- ---- what is complete

-- a listed object of what is complete is a file
listed_file : (objects : Objects) (t : ℕ) (j : Shown) (u : ℕ) → complete objects t ≡ Some j → is_in u j.listed ≡ true → is_file_at objects u ≡ true
listed_file objects t j u e among =
    let kind = descriptor_of objects t j e in
    let mapped = sym (complete_descriptor objects t j.number j.listed kind) ∙ e in
    each_in (λ v. is_file_at objects v ≡ true) j.listed u (tests_of_files objects j.listed (some_mapped _ (files_of objects j.listed) j mapped)) among

-- what isn't whole is no file
unready_file : (objects : Objects) (t : ℕ) → is_some (objects t) ≡ false → is_file_at objects t ≡ false
unready_file objects t e = elim (objects t) as (λ o. objects t ≡ o → is_file_at objects t ≡ false) [
  | None ↦ λ none. ap (λ o. is_some (option_and_then (λ bytes. file_of_kind t (kind_of_object bytes)) o)) none
  | Some bytes ↦ λ some. absurd (let both : true ≡ false = sym (ap is_some some) ∙ e in cc)
] refl

-- an object of which nothing is known isn't ready
unknown_unready : (objects : Objects) (ready : List ℕ) (known : Standings) → ((t : ℕ) → is_some (objects t) ≡ is_in t ready) → AreStandings objects ready known
    → (t : ℕ) → get nat_cmp known t ≡ None → is_some (objects t) ≡ false
unknown_unready objects ready known listed are t none = elim (is_some (objects t)) as (λ b. is_some (objects t) ≡ b → b ≡ false) [
  | false ↦ λ e. refl
  | true ↦ λ e. absurd (let bytes = is_there_some (objects t) e in
      let both : None ≡ Some (standing_of_bytes bytes.0) = sym none ∙ are.there t (sym (listed t) ∙ e) ∙ ap (option_map standing_of_bytes) bytes.1 in cc)
] refl

-- what is complete doesn't wait
waits_incomplete : (objects : Objects) (ready : List ℕ) (known : Standings) (waiting : Waiting) (t : ℕ) (j : Shown)
    → ((u : ℕ) → is_some (objects u) ≡ is_in u ready) → AreStandings objects ready known → AreWaiting objects known waiting → complete objects t ≡ Some j → Waits waiting t → ⊥
waits_incomplete objects ready known waiting t j listed are waits e at =
    let one = one_in (WaitsFor objects known at.0) toi_of (waiting_for waiting at.0) t (waits at.0) at.1 in
    let is = one.1.0 in
    let kind : Some (Descriptor one.0.number (is.candidate.front ++ one.0.rest)) ≡ Some (Descriptor j.number j.listed) =
    sym is.candidate.kind ∙ ap (kind_at objects) one.1.1 ∙ descriptor_of objects t j e in
    let named : is_in at.0 j.listed ≡ true = subst (λ ts. is_in at.0 ts ≡ true) (same_list kind) (first_in is.candidate.front one.0.rest at.0 is.first) in
    let both : true ≡ false = sym (listed_file objects t j at.0 e named) ∙ unready_file objects at.0 (unknown_unready objects ready known listed are at.0 is.unknown) in
    cc
  where
    same_list : {n m : ℕ} {ts us : List ℕ} → Some (Descriptor n ts) ≡ Some (Descriptor m us) → ts ≡ us
    same_list h = cc

-- what is complete ended, or what is installed is as good
complete_known : (objects : Objects) (ready : List ℕ) (installed : Option Shown) (known : Standings) (waiting : Waiting) (ended : List Candidate)
    → ((t : ℕ) → is_some (objects t) ≡ is_in t ready) → AreStandings objects ready known → AreWaiting objects known waiting → AreCovered objects installed waiting ended ready
    → (t : ℕ) (j : Shown) → complete objects t ≡ Some j → (is_in t (map toi_of ended) ≡ true) ⊎ (beats_installed installed j.number t ≡ false)
complete_known objects ready installed known waiting ended listed are waits covered t j e =
    let kind = descriptor_of objects t j e in
    elim (covered t j.number j.listed (sym (listed t) ∙ some_mapped kind_of_object (objects t) (Descriptor j.number j.listed) kind) kind)
    as (λ w. (is_in t (map toi_of ended) ≡ true) ⊎ (beats_installed installed j.number t ≡ false)) [
      | inl waiting_there ↦ absurd (waits_incomplete objects ready known waiting t j listed are waits e waiting_there)
      | inr rest ↦ elim rest as (λ w. (is_in t (map toi_of ended) ≡ true) ⊎ (beats_installed installed j.number t ≡ false)) [
        | inl there ↦ inl there
        | inr others ↦ elim others as (λ w. (is_in t (map toi_of ended) ≡ true) ⊎ (beats_installed installed j.number t ≡ false)) [
          | inl worse ↦ inr worse
          | inr none ↦ absurd (let both : true ≡ false = sym (listed_file objects t j none.0 e none.1.0) ∙ none.1.1.1 in cc)
        ]
      ]
    ]

pub facts : (s : Store) (old known : Standings) (first second third : Waiting) (read woken ended : List Candidate) (n : ℕ) (installed : Option Shown) (fresh : List ℕ)
    → IsListed s.held s.ready → IsRead s old first n installed → fresh ≡ drop n s.ready
    → ((t : ℕ) → get nat_cmp known t ≡ cond (is_in t fresh) (option_map standing_of_bytes (whole s.held t)) (get nat_cmp old t))
    → read ≡ candidates_in (whole s.held) fresh → woken ≡ read ++ flat_map (waiting_for first) fresh
    → ((t : ℕ) → waiting_for second t ≡ cond (is_in t fresh) [] (waiting_for first t))
    → ended ≡ flat_map (λ c. ended_of installed (advanced (is_known known) c)) (reverse woken)
    → ((t : ℕ) → waiting_for third t ≡ waiting_for second t ++ flat_map (λ c. waits_of known installed t (advanced (is_known known) c)) (reverse woken))
    → Facts (whole s.held) s.ready installed known third ended
facts s old known first second third read woken ended n installed fresh listed is fresh_is classified read_is woken_is gone ended_is went =
    let objects = whole s.held in
    let behind_n = drop n s.ready in
    let classified_n : (t : ℕ) → get nat_cmp known t ≡ cond (is_in t behind_n) (option_map standing_of_bytes (objects t)) (get nat_cmp old t) =
    λ t. classified t ∙ ap (λ ts. cond (is_in t ts) (option_map standing_of_bytes (objects t)) (get nat_cmp old t)) fresh_is in
    let gone_n : (t : ℕ) → waiting_for second t ≡ cond (is_in t behind_n) [] (waiting_for first t) =
    λ t. gone t ∙ ap (λ ts. cond (is_in t ts) [] (waiting_for first t)) fresh_is in
    let standings = all_standings objects n s.ready old known is.standings classified_n in
    let files : is_known known ≡ is_file_at objects = known_is objects s.ready known (record { listed = listed.listed; standings = standings }) in
    let knows : IsKnown objects known = λ t r e. known_whole objects s.ready known listed.listed standings t r e in
    let woken_n : woken ≡ candidates_in objects behind_n ++ flat_map (waiting_for first) behind_n =
    woken_is ∙ ap (λ cs. cs ++ flat_map (waiting_for first) fresh) read_is
    ∙ ap (λ ts. candidates_in objects ts ++ flat_map (waiting_for first) ts) fresh_is in
    let woken_all = subst (Each (IsCandidate objects)) (sym woken_n) (each_append (IsCandidate objects) (candidates_in objects behind_n)
    (flat_map (waiting_for first) behind_n) (new_candidates objects behind_n) (woken_are objects old first behind_n is.waits)) in
    let ended_n : ended ≡ flat_map (λ c. ended_of installed (advanced (is_file_at objects) c)) (reverse woken) =
    ended_is ∙ ap (λ f. flat_map (λ c. ended_of installed (advanced f c)) (reverse woken)) files in
    let went_n : (t : ℕ) → waiting_for third t ≡ waiting_for second t ++ flat_map (λ c. waits_of known installed t (advanced (is_file_at objects) c)) (reverse woken) =
    λ t. went t ∙ ap (λ f. waiting_for second t ++ flat_map (λ c. waits_of known installed t (advanced f c)) (reverse woken)) files in
    let asleep : AreWaiting objects known second = none_waits objects old known first second behind_n is.waits gone_n
    (λ t stale. classified_n t ∙ ap (λ b. cond b (option_map standing_of_bytes (objects t)) (get nat_cmp old t)) stale) in
    let waiting : AreWaiting objects known third = λ t. subst (Each (WaitsFor objects known t)) (sym (went_n t)) (each_append (WaitsFor objects known t) (waiting_for second t)
    (flat_map (λ c. waits_of known installed t (advanced (is_file_at objects) c)) (reverse woken)) (asleep t)
    (each_flat_map (IsCandidate objects) (WaitsFor objects known t) (λ c. waits_of known installed t (advanced (is_file_at objects) c))
    (each_awaiting objects known installed t) (reverse woken) (each_reverse (IsCandidate objects) woken woken_all))) in
    let ended_all : Each (IsEnded objects installed) ended = subst (Each (IsEnded objects installed)) (sym ended_n)
    (each_flat_map (IsCandidate objects) (IsEnded objects installed) (λ c. ended_of installed (advanced (is_file_at objects) c))
    (each_ended objects installed) (reverse woken) (each_reverse (IsCandidate objects) woken woken_all)) in
    let covered : AreCovered objects installed third ended s.ready = went_covered objects known installed second third woken ended s.ready knows woken_all ended_n went_n
    (subst (λ cs. AreCovered objects installed second cs s.ready) (sym woken_n) (woken_covered objects installed first second n s.ready gone_n is.covered)) in
    record {
      standings = standings;
      waits = waiting;
      covered = covered;
      knows = record {
        ended = ended_all;
        every = complete_known objects s.ready installed known third ended listed.listed standings waiting covered;
      };
    }

-- what is read once what was found is installed
pub read_all : (s : Store) (installed found : Option Shown) (known : Standings) (waiting : Waiting) (ended : List Candidate)
    → Facts (whole s.held) s.ready installed known waiting ended → Kept (whole s.held) waiting s.ready installed found
    → IsRead s known waiting (length s.ready) (option_or found installed)
read_all s installed found known waiting ended are kept =
    let all : take (length s.ready) s.ready ≡ s.ready = take_all (length s.ready) s.ready (omega arith) in
    record {
      within = omega arith;
      standings = subst (λ ts. AreStandings (whole s.held) ts known) (sym all) are.standings;
      waits = are.waits;
      covered = subst (AreCovered (whole s.held) (option_or found installed) waiting []) (sym all) kept.covered;
      announced = kept.announced;
    }

-- ---- the instance of a candidate

pub not_complete : (objects : Objects) (t number : ℕ) (listed : List ℕ)
    → kind_at objects t ≡ Some (Descriptor number listed) → files_of objects listed ≡ None → None ≡ complete objects t
not_complete objects t number listed kind none =
    sym (complete_descriptor objects t number listed kind ∙ ap (option_map (λ fs. record { number = number; descriptor_toi = t; listed = listed; files = fs })) none)

pub made : (objects : Objects) (t number : ℕ) (listed : List ℕ) (files : List FileOf)
    → kind_at objects t ≡ Some (Descriptor number listed) → files_of objects listed ≡ Some files
    → Some (record { number = number; descriptor_toi = t; listed = listed; files = files }) ≡ complete objects t
made objects t number listed files kind are =
    sym (complete_descriptor objects t number listed kind ∙ ap (option_map (λ fs. record { number = number; descriptor_toi = t; listed = listed; files = fs })) are)

pub listed_files : (objects : Objects) (t number : ℕ) (listed : List ℕ) (files : List FileOf)
    → kind_at objects t ≡ Some (Descriptor number listed) → files_of objects listed ≡ Some files → IsListedFiles listed files
listed_files objects t number listed files kind are = record { different = listed_differ objects t number listed kind; in_order = files_named objects listed files are }
