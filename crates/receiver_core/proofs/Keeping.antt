-- What a receiver keeps between two calls.
use Rattle.std.proofs.Common.{inl, inr, Bool}
use Rattle.std.proofs.Common.{◌≡◌, ◌≤◌, ℕ, true, false, cond, ◌||◌, List, [], ◌∷◌, ◌++◌, ◌∙◌, refl, sym, ap, subst, arith}
use Rattle.std.proofs.Common.{take, drop, length, ◌<◌, suc, get_or, Option, Some, None, take_all, length-append}
use Rattle.std.specs.Prelude.{is_some, option_map, if◌then◌else◌, ◌==◌}
use Rattle.std.proofs.Math.Seq.{drop-cons}
use Rattle.std.proofs.lemmas.Bool.Decides.{nat_tests}
use Rattle.std.specs.BTreeMap.{get}
use Rattle.std.specs.Option.{option_and_then}
use Rattle.std.specs.FinMap as maps
use Rattle.std.specs.Ordering.{nat_cmp}
use Rattle.std.proofs.lemmas.List.{take-append-le}
use Rattle.oti_blocks.specs.Partition.{ObjectInformation}
use Rattle.alc_packet.specs.Packet.{SymbolPacket, IsPacket}
use Rattle.carousel_cid.specs.Kinds.{kind_of_object}
use Rattle.carousel_cid.specs.Instances.{Shown}
use Rattle.held_packets.specs.Held.{Held}
use Rattle.held_packets.specs.HeldPair.{IsHeldPair}
use Rattle.held_packets.specs.declared.kept.Kept.{Kept}
use Rattle.object_store.specs.Store.{Store, is_in, IsListed, ready_with}
use Rattle.held_packets.specs.Verdict.{step, completes_object}
use Rattle.held_packets.specs.Whole.{whole}
use Rattle.held_packets.proofs.Public.{whole_after}
use Rattle.receiver_core.specs.declared.standing.Standing.{Standing}
use Rattle.receiver_core.specs.declared.standing.Standing.TheVariants.{Whole}
use Rattle.receiver_core.specs.Best.{Objects, IsBestOf, Extends, file_of_kind}
use Rattle.receiver_core.specs.Receiver.{standing_of, standing_by}
use Rattle.receiver_core.specs.Inner.Waiting.{Waiting, waiting_for, WaitsFor, AreWaiting, NamesNoFile, IsCovered, AreCovered}
use Rattle.receiver_core.specs.Inner.Standings.{Standings, AreStandings, standing_of_bytes}
use Rattle.receiver_core.specs.Inner.Settling.{only, IsAnnounced, IsRead, IsSettling}
use Rattle.receiver_core.proofs.Lists.{each_weaker, apart, in_parts}
use Rattle.receiver_core.proofs.Completing.{complete_none, is_there_some}
use Rattle.receiver_core.proofs.Candidacies.{candidate_kept}
use Rattle.receiver_core.proofs.Settles.{only_all, known_before}
use Rattle.receiver_core.proofs.Bests.{whole_unopened}
use Rattle.receiver_core.proofs.Finding.{fresh_are_whole}

-- ---- at the start

no_standings : (objects : Objects) (known : Standings) → known.entries ≡ [] → AreStandings objects [] known
no_standings objects known empty = record {
  there = λ t e. absurd (let both : false ≡ true = e in cc);
  others = λ t e. rw empty refl;
}

-- where the map is empty, none waits
pub none_waiting : (objects : Objects) (known : Standings) (waiting : Waiting) → waiting.entries ≡ [] → AreWaiting objects known waiting
none_waiting objects known waiting empty t = rw empty tt

pub settling_at_start : (store : Store) (known : Standings) (waiting : Waiting) → known.entries ≡ [] → waiting.entries ≡ [] → IsSettling store known waiting 0 false None
settling_at_start store known waiting no_entries none = record {
  within = omega arith;
  standings = no_standings (whole store.held) known no_entries;
  waits = none_waiting (whole store.held) known waiting none;
  covered = λ kept t number listed e f. absurd (let both : false ≡ true = e in cc);
  best = λ t. complete_none (only (whole store.held) []) t refl;
}

-- what is settled is read, where no candidate is lost
pub settling_read : (store : Store) (known : Standings) (waiting : Waiting) (n : ℕ) (installed : Option Shown)
    → IsSettling store known waiting n false installed → IsRead store known waiting n installed
settling_read store known waiting n installed is = record {
  within = is.within;
  standings = is.standings;
  waits = is.waits;
  covered = is.covered refl;
  announced = known_before (whole store.held) (take n store.ready) installed is.best;
}

pub settling_announced : (store : Store) (known : Standings) (waiting : Waiting) (n : ℕ) (lost : Bool) (installed : Option Shown)
    → IsSettling store known waiting n lost installed → IsAnnounced (whole store.held) installed
settling_announced store known waiting n lost installed is = known_before (whole store.held) (take n store.ready) installed is.best

-- ---- with a packet

-- the first objects that were ready are the first of those that are now
same_front : (n : ℕ) (ready : List ℕ) (p : SymbolPacket) (kept : Kept) → n ≤ length ready → take n (ready_with ready p kept) ≡ take n ready
same_front n ready p kept within = elim (completes_object kept) as (λ b. take n (if b then ready ++ p.toi ∷ [] else ready) ≡ take n ready) [
  | true ↦ rw take-append-le refl
  | false ↦ refl
]

no_fewer : (ready : List ℕ) (p : SymbolPacket) (kept : Kept) → length ready ≤ length (ready_with ready p kept)
no_fewer ready p kept = elim (completes_object kept) as (λ b. length ready ≤ length (if b then ready ++ p.toi ∷ [] else ready)) [
  | true ↦ omega (arith, length-append ready (p.toi ∷ []))
  | false ↦ omega arith
]

-- an object that was settled is whole as before
same_settled : (first second : Objects) (ready : List ℕ) (n t : ℕ) → Extends first second
    → ((u : ℕ) → is_some (first u) ≡ is_in u ready) → is_in t (take n ready) ≡ true → second t ≡ first t
same_settled first second ready n t more listed among =
    let bytes = is_there_some (first t) (listed t ∙ in_parts n ready t ∙ ap (λ b. b || is_in t (drop n ready)) among) in
    more.keeps t bytes.0 bytes.1 ∙ sym bytes.1

only_same : (first second : Objects) (ts : List ℕ) → ((t : ℕ) → is_in t ts ≡ true → second t ≡ first t) → only second ts ≡ only first ts
only_same first second ts same = λ i t. at t i where
  at : (t : ℕ) → (if is_in t ts then second t else None) ≡ (if is_in t ts then first t else None)
  at t = elim (is_in t ts) as (λ b. is_in t ts ≡ b → (if b then second t else None) ≡ (if b then first t else None)) [
    | true ↦ λ e. same t e
    | false ↦ λ e. refl
  ] refl

waiting_kept : (first second : Objects) (known : Standings) (waiting : Waiting) → Extends first second → AreWaiting first known waiting → AreWaiting second known waiting
waiting_kept first second known waiting more are t = each_weaker (WaitsFor first known t) (WaitsFor second known t)
    (λ c is. record { candidate = candidate_kept first second more c is.candidate; first = is.first; unknown = is.unknown }) (waiting_for waiting t) (are t)

-- what is no file stays none
names_kept : (first second : Objects) (listed : List ℕ) → Extends first second → NamesNoFile first listed → NamesNoFile second listed
names_kept first second listed more is =
    let t = is.0 in
    let bytes = is_there_some (first t) is.1.1.0 in
    let same : second t ≡ first t = more.keeps t bytes.0 bytes.1 ∙ sym bytes.1 in
    (t, (is.1.0, (ap is_some same ∙ is.1.1.0, ap (λ o. is_some (option_and_then (λ b. file_of_kind t (kind_of_object b)) o)) same ∙ is.1.1.1)))

covered_kept : (first second : Objects) (installed : Option Shown) (waiting : Waiting) (ts : List ℕ) → Extends first second
    → ((t : ℕ) → is_in t ts ≡ true → second t ≡ first t) → AreCovered first installed waiting [] ts → AreCovered second installed waiting [] ts
covered_kept first second installed waiting ts more same covered t number listed among kind =
    elim (covered t number listed among (ap (option_map kind_of_object) (sym (same t among)) ∙ kind)) as (λ w. IsCovered second installed waiting [] t number listed) [
      | inl waits ↦ inl waits
      | inr rest ↦ elim rest as (λ w. IsCovered second installed waiting [] t number listed) [
        | inl there ↦ inr (inl there)
        | inr others ↦ elim others as (λ w. IsCovered second installed waiting [] t number listed) [
          | inl worse ↦ inr (inr (inl worse))
          | inr none ↦ inr (inr (inr (names_kept first second listed more none)))
        ]
      ]
    ]

-- with more objects, of which those that were settled are as before
grown : (s r : Store) (known : Standings) (waiting : Waiting) (n : ℕ) (lost : Bool) (installed : Option Shown) → IsListed s.held s.ready → Extends (whole s.held) (whole r.held)
    → take n r.ready ≡ take n s.ready → length s.ready ≤ length r.ready → IsSettling s known waiting n lost installed → IsSettling r known waiting n lost installed
grown s r known waiting n lost installed listed more front longer settling =
    let same = same_settled (whole s.held) (whole r.held) s.ready n in
    let again : (t : ℕ) → is_in t (take n s.ready) ≡ true → whole r.held t ≡ whole s.held t = λ t e. same t more listed.listed e in
    record {
      within = omega (arith, settling.within, longer);
      standings = subst (λ ts. AreStandings (whole r.held) ts known) (sym front) (record {
        there = λ t e. settling.standings.there t e ∙ ap (option_map standing_of_bytes) (sym (again t e));
        others = settling.standings.others;
      });
      waits = waiting_kept (whole s.held) (whole r.held) known waiting more settling.waits;
      covered = λ kept. subst (AreCovered (whole r.held) installed waiting []) (sym front)
          (covered_kept (whole s.held) (whole r.held) installed waiting (take n s.ready) more again (settling.covered kept));
      best = subst (λ ts. IsBestOf (only (whole r.held) ts) installed) (sym front)
          (subst (λ objects. IsBestOf objects installed) (sym (only_same (whole s.held) (whole r.held) (take n s.ready) again)) settling.best);
    }

pub settling_kept : (s r : Store) (p : SymbolPacket) (kept : Kept) (known : Standings) (waiting : Waiting) (n : ℕ) (lost : Bool) (installed : Option Shown)
    → IsListed s.held s.ready → IsHeldPair s.held → IsPacket p → r.held ≡ step s.budget s.held p → r.ready ≡ ready_with s.ready p kept
    → IsSettling s known waiting n lost installed → IsSettling r known waiting n lost installed
settling_kept s r p kept known waiting n lost installed listed pair packet held ready settling =
    let more : Extends (whole s.held) (whole r.held) = record { keeps = λ t bytes e. ap (λ h. whole h t) held ∙ whole_after s.budget s.held p pair packet t bytes e } in
    grown s r known waiting n lost installed listed more (ap (take n) ready ∙ same_front n s.ready p kept settling.within)
    (let longer = no_fewer s.ready p kept in let same = ap (length {A = ℕ}) ready in omega arith) settling

-- ---- after a settling

pub settled_now : (s : Store) (known : Standings) (waiting : Waiting) (installed : Option Shown) → IsListed s.held s.ready
    → IsRead s known waiting (length s.ready) installed → IsBestOf (whole s.held) installed → IsSettling s known waiting (length s.ready) false installed
settled_now s known waiting installed listed is best =
    let all : take (length s.ready) s.ready ≡ s.ready = take_all (length s.ready) s.ready (omega arith) in
    record {
      within = is.within;
      standings = is.standings;
      waits = is.waits;
      covered = λ kept. is.covered;
      best = subst (λ ts. IsBestOf (only (whole s.held) ts) installed) (sym all)
          (subst (λ objects. IsBestOf objects installed) (sym (only_all (whole s.held) s.ready listed.listed)) best);
    }

-- where all were settled before, what is installed is the best
pub settled_best : (s : Store) (known : Standings) (waiting : Waiting) (n : ℕ) (lost : Bool) (installed : Option Shown)
    → IsListed s.held s.ready → IsSettling s known waiting n lost installed → n ≡ length s.ready
    → IsBestOf (whole s.held) installed
settled_best s known waiting n lost installed listed settling all =
    subst (λ objects. IsBestOf objects installed) (ap (only (whole s.held)) (take_all n s.ready (omega (arith, all)))
    ∙ only_all (whole s.held) s.ready listed.listed) settling.best

-- where a ready object wasn't settled, not all that is whole was
pub not_all_settled : (s : Store) (n : ℕ) → IsListed s.held s.ready → n < length s.ready
    → ((t : ℕ) → is_some (whole s.held t) ≡ true → is_in t (take n s.ready) ≡ true) → ⊥
not_all_settled s n listed less all =
    let t = get_or s.ready n 0 in
    let behind : is_in t (drop n s.ready) ≡ true = ap (is_in t) (drop-cons s.ready n 0 less) ∙ ap (λ b. b || is_in t (drop (suc n) s.ready)) (itself t) in
    let front = all t (fresh_are_whole s n t listed behind) in
    let both : true ≡ false = sym behind ∙ apart n s.ready t listed.different front in cc
  where
    itself : (x : ℕ) → (x == x) ≡ true
    itself x = grind (arith, nat_tests)

-- where there was no memory, all is as before once the fresh standings are forgotten, but that candidates are lost
pub forgotten : (s : Store) (old found known : Standings) (before after : Waiting) (n : ℕ) (installed : Option Shown) → IsListed s.held s.ready
    → IsSettling s old before n false installed
    → ((t : ℕ) → is_in t (drop n s.ready) ≡ false → get nat_cmp found t ≡ get nat_cmp old t)
    → ((t : ℕ) → get nat_cmp known t ≡ cond (is_in t (drop n s.ready)) None (get nat_cmp found t))
    → after.entries ≡ [] → IsSettling s known after n true installed
forgotten s old found known before after n installed listed settling others gone empty = record {
  within = settling.within;
  standings = record {
    there = λ t e. let stale = apart n s.ready t listed.different e in
        gone t ∙ ap (λ b. cond b None (get nat_cmp found t)) stale ∙ others t stale ∙ settling.standings.there t e;
    others = λ t e. gone t ∙ elim (is_in t (drop n s.ready)) as (λ b. is_in t (drop n s.ready) ≡ b → cond b None (get nat_cmp found t) ≡ None) [
      | true ↦ λ fresh. refl
      | false ↦ λ stale. others t stale ∙ settling.standings.others t e
    ] refl;
  };
  waits = none_waiting (whole s.held) known after empty;
  covered = λ kept. absurd (let both : true ≡ false = kept in cc);
  best = settling.best;
}

-- ---- standings

pub known_standing : (held : Held) (settled : List ℕ) (known : Standings) (t : ℕ) (s : Standing)
    → AreStandings (whole held) settled known → get nat_cmp known t ≡ Some s → s ≡ standing_of held settled t
known_standing held settled known t s are e = elim (is_in t settled) as (λ b. is_in t settled ≡ b → s ≡ standing_by b (maps.get held.objects t) (whole held t)) [
  | false ↦ λ h. absurd (let both : None ≡ Some s = sym (are.others t h) ∙ e in cc)
  | true ↦ λ h. by_bytes (whole held t) (maps.get held.objects t) (sym e ∙ are.there t h) (λ closed. whole_unopened held t closed)
] refl where
  by_bytes : (bytes : Option (List ℕ)) (o : Option ObjectInformation)
      → Some s ≡ option_map standing_of_bytes bytes → (o ≡ None → bytes ≡ None) → s ≡ standing_by true o bytes
  by_bytes None o f closed = absurd (let both : Some s ≡ None = f in cc)
  by_bytes (Some bytes) None f closed = absurd (let both : Some bytes ≡ None = closed refl in cc)
  by_bytes (Some bytes) (Some o) f closed = cc

pub whole_standing : (held : Held) (settled : List ℕ) (known : Standings) (t : ℕ) → AreStandings (whole held) settled known
    → get nat_cmp known t ≡ None → is_some (whole held t) ≡ true → Whole ≡ standing_of held settled t
whole_standing held settled known t are none ready =
    elim (is_in t settled) as (λ b. is_in t settled ≡ b → Whole ≡ standing_by b (maps.get held.objects t) (whole held t)) [
      | true ↦ λ h. absurd (let bytes = is_there_some (whole held t) ready in
          let both : None ≡ Some (standing_of_bytes bytes.0) = sym none ∙ are.there t h ∙ ap (option_map standing_of_bytes) bytes.1 in cc)
      | false ↦ λ h. fresh (whole held t) (maps.get held.objects t) ready (λ closed. whole_unopened held t closed)
    ] refl where
      fresh : (bytes : Option (List ℕ)) (o : Option ObjectInformation) → is_some bytes ≡ true → (o ≡ None → bytes ≡ None) → Whole ≡ standing_by false o bytes
      fresh None o f closed = absurd (let both : false ≡ true = f in cc)
      fresh (Some bytes) None f closed = absurd (let both : Some bytes ≡ None = closed refl in cc)
      fresh (Some bytes) (Some o) f closed = refl
