-- What a settling finds.
use Rattle.std.proofs.Common.{◌≡◌, ◌≢◌, ℕ, Bool, true, false, cond, ◌||◌, List, [], ◌++◌, ◌∙◌, refl, sym, ap, subst, arith, map, take, drop, Option, Some, None}
use Rattle.std.proofs.Common.{inl, inr, ◌⊎◌, append-nil}
use Rattle.std.specs.Prelude.{is_some, option_map, if◌then◌else◌}
use Rattle.std.specs.Option.{option_or, option_and_then}
use Rattle.std.specs.BTreeMap.{get}
use Rattle.std.specs.Ordering.{nat_cmp}
use Rattle.std.proofs.lemmas.Option.{same_Some}
use Rattle.std.proofs.lemmas.Bool.Decides.{nat_tests}
use Rattle.carousel_cid.specs.Instances.{Shown}
use Rattle.carousel_cid.specs.Kinds.{kind_of_object}
use Rattle.carousel_cid.specs.declared.file_of.FileOf.{FileOf}
use Rattle.carousel_cid.specs.declared.kind.Kind.{Kind}
use Rattle.carousel_cid.specs.declared.kind.Kind.TheVariants.{File, Descriptor, Unusable}
use Rattle.object_store.specs.Store.{is_in}
use Rattle.receiver_core.specs.declared.candidate.Candidate.{Candidate}
use Rattle.receiver_core.specs.Best.{Objects, complete, files_of, file_of_kind, is_better, IsBestOf, Extends}
use Rattle.receiver_core.specs.Receiver.{Announces, standing_of_kind}
use Rattle.receiver_core.specs.Inner.Lists.{Each}
use Rattle.receiver_core.specs.Inner.Candidates.{toi_of, is_file_at, kind_at}
use Rattle.receiver_core.specs.Inner.Choice.{is_above, beats_installed, beats, chosen}
use Rattle.receiver_core.specs.Inner.Standings.{Standings, AreStandings, standing_of_bytes, is_file, is_known}
use Rattle.receiver_core.specs.Inner.Waiting.{Waiting, IsCovered, AreCovered}
use Rattle.receiver_core.specs.Inner.Settling.{only, Finds, IsAnnounced}
use Rattle.receiver_core.proofs.Lists.{each_both, one_in, in_parts}
use Rattle.receiver_core.proofs.Completing.{complete_descriptor, descriptor_of, complete_named, complete_kept, is_there_some, files_of_tests}
use Rattle.receiver_core.proofs.Going.{IsEnded}
use Rattle.receiver_core.proofs.Chosen.{chosen_has, topped_all}

-- ---- what is known as a file is one

file_by_kind : (t : ℕ) (k : Kind) → is_file (Some (standing_of_kind k)) ≡ is_some (file_of_kind t k)
file_by_kind t (File location kind body) = refl
file_by_kind t (Descriptor number listed) = refl
file_by_kind t (Unusable cause) = refl

-- the map has what is whole of these objects
pub record KnowsAll (objects : Objects) (ready : List ℕ) (known : Standings) : Type 0 where
  pub listed : (t : ℕ) → is_some (objects t) ≡ is_in t ready
  pub standings : AreStandings objects ready known

known_at : (objects : Objects) (ready : List ℕ) (known : Standings) → KnowsAll objects ready known → (t : ℕ) → is_known known t ≡ is_file_at objects t
known_at objects ready known knows t = elim (objects t) as (λ o. objects t ≡ o → is_known known t ≡ is_file_at objects t) [
  | None ↦ λ e. ap is_file (knows.standings.others t (sym (knows.listed t) ∙ ap is_some e))
      ∙ sym (ap (λ o. is_some (option_and_then (λ bytes. file_of_kind t (kind_of_object bytes)) o)) e)
  | Some bytes ↦ λ e.
      ap is_file (knows.standings.there t (sym (knows.listed t) ∙ ap is_some e) ∙ ap (option_map standing_of_bytes) e)
      ∙ file_by_kind t (kind_of_object bytes)
      ∙ sym (ap (λ o. is_some (option_and_then (λ b. file_of_kind t (kind_of_object b)) o)) e)
] refl

pub known_is : (objects : Objects) (ready : List ℕ) (known : Standings) → KnowsAll objects ready known → is_known known ≡ is_file_at objects
known_is objects ready known knows = λ i t. known_at objects ready known knows t i

-- ---- the standings with those of the fresh objects

pub standing_there : (a b : Bool) (P : Type 0) → (a || b) ≡ true → (b ≡ true → P) → (b ≡ false → a ≡ true → P) → P
standing_there a true P e fresh front = fresh refl
standing_there true false P e fresh front = front refl refl
standing_there false false P e fresh front = absurd (let both : false ≡ true = e in cc)

neither : (a b : Bool) → (a || b) ≡ false → (a ≡ false) × (b ≡ false)
neither false false e = (refl, refl)
neither false true e = absurd (let both : true ≡ false = e in cc)
neither true b e = absurd (let both : true ≡ false = e in cc)

pub all_standings : (objects : Objects) (n : ℕ) (ready : List ℕ) (old new : Standings) → AreStandings objects (take n ready) old
    → ((t : ℕ) → get nat_cmp new t ≡ cond (is_in t (drop n ready)) (option_map standing_of_bytes (objects t)) (get nat_cmp old t)) → AreStandings objects ready new
all_standings objects n ready old new are step = record {
  there = λ t among. standing_there (is_in t (take n ready)) (is_in t (drop n ready))
      (get nat_cmp new t ≡ option_map standing_of_bytes (objects t)) (sym (in_parts n ready t) ∙ among)
      (λ fresh. step t ∙ ap (λ b. cond b (option_map standing_of_bytes (objects t)) (get nat_cmp old t)) fresh)
      (λ stale front. step t ∙ ap (λ b. cond b (option_map standing_of_bytes (objects t)) (get nat_cmp old t)) stale ∙ are.there t front);
  others = λ t none. let parts = neither (is_in t (take n ready)) (is_in t (drop n ready)) (sym (in_parts n ready t) ∙ none) in
      step t ∙ ap (λ b. cond b (option_map standing_of_bytes (objects t)) (get nat_cmp old t)) parts.1 ∙ are.others t parts.0;
}

-- ---- the best of those that ended

-- what is known before the choice: all that is complete is among these candidates, or what is installed is as good
pub record Knows (objects : Objects) (installed : Option Shown) (cs : List Candidate) : Type 0 where
  pub ended : Each (IsEnded objects installed) cs
  pub every : (t : ℕ) (j : Shown) → complete objects t ≡ Some j → (is_in t (map toi_of cs) ≡ true) ⊎ (beats_installed installed j.number t ≡ false)

same_number : (n m : ℕ) (ts us : List ℕ) → Descriptor n ts ≡ Descriptor m us → n ≡ m
same_number n m ts us e = cc

-- a candidate among these, which isn't better than what is chosen
record Topped (objects : Objects) (cs : List Candidate) (t number : ℕ) : Type 0 where
  c : Candidate
  toi : c.toi ≡ t
  number_is : c.number ≡ number
  topped : beats (chosen cs) c ≡ false

find_topped : (objects : Objects) (installed : Option Shown) (cs : List Candidate) (t number : ℕ) (listed : List ℕ) → Each (IsEnded objects installed) cs
    → kind_at objects t ≡ Some (Descriptor number listed) → is_in t (map toi_of cs) ≡ true → Topped objects cs t number
find_topped objects installed cs t number listed are kind among =
    let all = each_both (IsEnded objects installed) (λ d. beats (chosen cs) d ≡ false) cs are (topped_all cs) in
    let one = one_in (λ c. IsEnded objects installed c × (beats (chosen cs) c ≡ false)) toi_of cs t all among in
    let c = one.0 in
    let is = one.1.0.0.candidate in
    let kinds : Descriptor c.number (is.front ++ c.rest) ≡ Descriptor number listed =
    same_Some (Descriptor c.number (is.front ++ c.rest)) (Descriptor number listed) (sym is.kind ∙ ap (kind_at objects) one.1.1 ∙ kind) in
    record { c = c; toi = one.1.1; number_is = same_number c.number number (is.front ++ c.rest) listed kinds; topped = one.1.0.1 }

-- where none is chosen, none is there
none_there : (objects : Objects) (cs : List Candidate) (t number : ℕ) → Topped objects cs t number → chosen cs ≡ None → ⊥
none_there objects cs t number top none = let both : true ≡ false = sym (ap (λ b. beats b top.c) none) ∙ top.topped in cc

-- one that isn't better than what is chosen
below_chosen : (objects : Objects) (cs : List Candidate) (c : Candidate) (t number : ℕ) → Topped objects cs t number → chosen cs ≡ Some c → is_above number t c.number c.toi ≡ false
below_chosen objects cs c t number top is =
    subst (λ u. is_above number u c.number c.toi ≡ false) top.toi
    (subst (λ n. is_above n top.c.toi c.number c.toi ≡ false) top.number_is (sym (ap (λ b. beats b top.c) is) ∙ top.topped))

named_better : (objects : Objects) (t : ℕ) (i j : Shown) → complete objects t ≡ Some j → is_above j.number t i.number i.descriptor_toi ≡ false → is_better j i ≡ false
named_better objects t i j e below = subst (λ u. is_above j.number u i.number i.descriptor_toi ≡ false) (sym (complete_named objects t j e)) below

-- where none is chosen, what is installed stays the best
pub finds_none : (objects : Objects) (installed : Option Shown) (cs : List Candidate) → Knows objects installed cs
    → IsAnnounced objects installed → chosen cs ≡ None → IsBestOf objects installed
finds_none objects None cs knows announced none = λ t. elim (complete objects t) as (λ o. complete objects t ≡ o → o ≡ None) [
  | None ↦ λ e. refl
  | Some j ↦ λ e. absurd (elim (knows.every t j e) as (λ w. ⊥) [
    | inl among ↦ none_there objects cs t j.number (find_topped objects None cs t j.number j.listed knows.ended (descriptor_of objects t j e) among) none
    | inr worse ↦ let both : true ≡ false = worse in cc
  ])
] refl
finds_none objects (Some i) cs knows announced none = record {
  announced = announced;
  greatest = λ t j e. named_better objects t i j e (elim (knows.every t j e) as (λ w. is_above j.number t i.number i.descriptor_toi ≡ false) [
    | inl among ↦ absurd (none_there objects cs t j.number (find_topped objects (Some i) cs t j.number j.listed knows.ended (descriptor_of objects t j e) among) none)
    | inr worse ↦ worse
  ]);
}

-- what is no better than the installed one isn't better than what is
not_twice : (n t m u : ℕ) (i : Shown) → is_above m u i.number i.descriptor_toi ≡ false
    → is_above n t i.number i.descriptor_toi ≡ true → is_above m u n t ≡ false
not_twice n t m u i first second = grind (arith, nat_tests)

not_beaten : (installed : Option Shown) (n t m u : ℕ) → beats_installed installed n t ≡ true → beats_installed installed m u ≡ false → is_above m u n t ≡ false
not_beaten None n t m u e f = absurd (let both : true ≡ false = f in cc)
not_beaten (Some i) n t m u e f = not_twice n t m u i f e

-- an instance that beats the installed one is another
another : (installed : Option Shown) (c : Candidate) (listed : List ℕ) (files : List FileOf) → beats_installed installed c.number c.toi ≡ true
    → Some (record { number = c.number; descriptor_toi = c.toi; listed = listed; files = files }) ≢ installed
another None c listed files e = λ same. cc
another (Some i) c listed files e = λ same.
    let one : record { number = c.number; descriptor_toi = c.toi; listed = listed; files = files } ≡ i = cc in
    absurd (let both : true ≡ false = sym e ∙ ap (λ (x : Shown). is_above c.number c.toi x.number x.descriptor_toi) (sym one) ∙ itself c.number c.toi in cc) where
      itself : (n t : ℕ) → is_above n t n t ≡ false
      itself n t = grind (arith, nat_tests)

-- what a candidate announces whose files are all there
pub record Shows (objects : Objects) (c : Candidate) : Type 0 where
  pub listed : List ℕ
  pub files : List FileOf
  pub announced : complete objects c.toi ≡ Some (record { number = c.number; descriptor_toi = c.toi; listed = listed; files = files })

pub shows : (objects : Objects) (installed : Option Shown) (c : Candidate) → IsEnded objects installed c → Shows objects c
shows objects installed c is =
    let front = is.candidate.front in
    let kind : kind_at objects c.toi ≡ Some (Descriptor c.number front) =
    is.candidate.kind ∙ ap (λ ts. Some (Descriptor c.number (front ++ ts))) is.all ∙ ap (λ ts. Some (Descriptor c.number ts)) (append-nil front) in
    let files = is_there_some (files_of objects front) (files_of_tests objects front is.candidate.files) in
    record {
      listed = front;
      files = files.0;
      announced = complete_descriptor objects c.toi c.number front kind
          ∙ ap (option_map (λ fs. record { number = c.number; descriptor_toi = c.toi; listed = front; files = fs })) files.1;
    }

-- where one is chosen, what it announces is the best, and another one
pub finds_some : (objects : Objects) (installed : Option Shown) (cs : List Candidate) (c : Candidate)
    → Knows objects installed cs → chosen cs ≡ Some c → Finds objects installed (complete objects c.toi)
finds_some objects installed cs c knows is =
    let picked = chosen_has (IsEnded objects installed) cs c knows.ended is in
    let shown = shows objects installed c picked in
    let j : Shown = record { number = c.number; descriptor_toi = c.toi; listed = shown.listed; files = shown.files } in
    subst (Finds objects installed) (sym shown.announced) (
      record {
        announced = shown.announced;
        greatest = λ t k e. named_better objects t j k e (elim (knows.every t k e) as (λ w. is_above k.number t c.number c.toi ≡ false) [
          | inl among ↦ below_chosen objects cs c t k.number (find_topped objects installed cs t k.number k.listed knows.ended (descriptor_of objects t k e) among) is
          | inr worse ↦ not_beaten installed c.number c.toi k.number t picked.beats worse
        ]);
      },
      another installed c shown.listed shown.files picked.beats,
    )

-- ---- what is covered once the best is installed

covered_none : (objects : Objects) (installed : Option Shown) (waiting : Waiting) (cs : List Candidate) (ts : List ℕ) → Each (IsEnded objects installed) cs
    → chosen cs ≡ None → AreCovered objects installed waiting cs ts → AreCovered objects installed waiting [] ts
covered_none objects installed waiting cs ts are none covered t number listed among kind =
    elim (covered t number listed among kind) as (λ w. IsCovered objects installed waiting [] t number listed) [
      | inl waits ↦ inl waits
      | inr rest ↦ elim rest as (λ w. IsCovered objects installed waiting [] t number listed) [
        | inl there ↦ absurd (none_there objects cs t number (find_topped objects installed cs t number listed are kind there) none)
        | inr others ↦ inr (inr others)
      ]
    ]

covered_some : (objects : Objects) (installed : Option Shown) (waiting : Waiting) (cs : List Candidate) (c : Candidate) (j : Shown) (ts : List ℕ)
    → Each (IsEnded objects installed) cs → chosen cs ≡ Some c → beats_installed installed c.number c.toi ≡ true → j.number ≡ c.number → j.descriptor_toi ≡ c.toi
    → AreCovered objects installed waiting cs ts → AreCovered objects (Some j) waiting [] ts
covered_some objects installed waiting cs c j ts are is better same_n same_t covered t number listed among kind =
    let as_new : is_above number t c.number c.toi ≡ false → beats_installed (Some j) number t ≡ false =
    λ below. subst (λ n. is_above number t n j.descriptor_toi ≡ false) (sym same_n) (subst (λ u. is_above number t c.number u ≡ false) (sym same_t) below) in
    elim (covered t number listed among kind) as (λ w. IsCovered objects (Some j) waiting [] t number listed) [
      | inl waits ↦ inl waits
      | inr rest ↦ elim rest as (λ w. IsCovered objects (Some j) waiting [] t number listed) [
        | inl there ↦ inr (inr (inl (as_new (below_chosen objects cs c t number (find_topped objects installed cs t number listed are kind there) is))))
        | inr others ↦ elim others as (λ w. IsCovered objects (Some j) waiting [] t number listed) [
          | inl worse ↦ inr (inr (inl (as_new (not_beaten installed c.number c.toi number t better worse))))
          | inr none ↦ inr (inr (inr none))
        ]
      ]
    ]

-- what is covered once what was found is installed
pub record Kept (objects : Objects) (waiting : Waiting) (ts : List ℕ) (installed found : Option Shown) : Type 0 where
  pub covered : AreCovered objects (option_or found installed) waiting [] ts
  pub announced : IsAnnounced objects (option_or found installed)

pub kept_none : (objects : Objects) (installed : Option Shown) (waiting : Waiting) (cs : List Candidate) (ts : List ℕ) → Each (IsEnded objects installed) cs
    → IsAnnounced objects installed → AreCovered objects installed waiting cs ts → chosen cs ≡ None → Kept objects waiting ts installed None
kept_none objects installed waiting cs ts are announced covered none =
    record { covered = covered_none objects installed waiting cs ts are none covered; announced = announced }

pub kept_some : (objects : Objects) (installed : Option Shown) (waiting : Waiting) (cs : List Candidate) (c : Candidate) (ts : List ℕ) → Each (IsEnded objects installed) cs
    → IsAnnounced objects installed → AreCovered objects installed waiting cs ts → chosen cs ≡ Some c → Kept objects waiting ts installed (complete objects c.toi)
kept_some objects installed waiting cs c ts are announced covered is =
    let picked = chosen_has (IsEnded objects installed) cs c are is in
    let shown = shows objects installed c picked in
    subst (Kept objects waiting ts installed) (sym shown.announced) (record {
      covered = covered_some objects installed waiting cs c (record { number = c.number; descriptor_toi = c.toi; listed = shown.listed; files = shown.files }) ts
          are is picked.beats refl refl covered;
      announced = shown.announced;
    })

-- ---- what was installed

pub only_extends : (objects : Objects) (ts : List ℕ) → Extends (only objects ts) objects
only_extends objects ts = record {
  keeps = λ t bytes e. elim (is_in t ts) as (λ b. (if b then objects t else None) ≡ Some bytes → objects t ≡ Some bytes) [
    | true ↦ λ h. h
    | false ↦ λ h. absurd (let both : None ≡ Some bytes = h in cc)
  ] e;
}

-- what was the best of some objects is announced by all
pub known_before : (objects : Objects) (ts : List ℕ) (installed : Option Shown) → IsBestOf (only objects ts) installed → IsAnnounced objects installed
known_before objects ts None best = tt
known_before objects ts (Some i) best = complete_kept (only objects ts) objects (only_extends objects ts) i.descriptor_toi i best.announced

-- where a list has all that is whole, these are all objects
pub only_all : (objects : Objects) (ts : List ℕ) → ((t : ℕ) → is_some (objects t) ≡ is_in t ts) → only objects ts ≡ objects
only_all objects ts listed = λ i t. at t i where
  none : (o : Option (List ℕ)) → is_some o ≡ false → None ≡ o
  none None e = refl
  none (Some bytes) e = absurd (let both : true ≡ false = e in cc)

  at : (t : ℕ) → (if is_in t ts then objects t else None) ≡ objects t
  at t = elim (is_in t ts) as (λ b. is_in t ts ≡ b → (if b then objects t else None) ≡ objects t) [
    | true ↦ λ e. refl
    | false ↦ λ e. none (objects t) (listed t ∙ e)
  ] refl

-- what was found is installed, and its number is told
pub found_best : (objects : Objects) (old found : Option Shown) → Finds objects old found → IsBestOf objects (option_or found old)
found_best objects old None finds = finds
found_best objects old (Some i) finds = finds.0

pub found_told : (objects : Objects) (old found : Option Shown) → Finds objects old found → Announces (option_map (λ i. i.number) found) old (option_or found old)
found_told objects old None finds = refl
found_told objects old (Some i) finds = (finds.1, refl)
