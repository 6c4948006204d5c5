-- Candidates that wait and are beaten may go.
use Rattle.std.proofs.Common.{◌≡◌, ℕ, Bool, true, false, cond, ◌||◌, List, [], ◌∷◌, ◌++◌, ◌∙◌, refl, sym, ap, subst, map, take, Option, Some, None, inl, inr, ◌⊎◌, eqb-true, arith, append-nil, length, ◌<◌}
use Rattle.std.specs.Prelude.{◌==◌, filter, is_some, Vec}
use Rattle.std.specs.declared.alloc.Global.{Global}
use Rattle.std.proofs.Math.Bool.{or-true}
use Rattle.std.proofs.lemmas.Bool.Decides.{nat_tests}
use Rattle.std.specs.BTreeMap.{get, Updates}
use Rattle.std.specs.Ordering.{nat_cmp}
use Rattle.carousel_cid.specs.Instances.{Shown}
use Rattle.carousel_cid.specs.declared.kind.Kind.TheVariants.{Descriptor}
use Rattle.held_packets.specs.Whole.{whole}
use Rattle.held_packets.proofs.Public.{tied_numbers}
use Rattle.object_store.specs.Store.{Store, is_in}
use Rattle.receiver_core.specs.declared.candidate.Candidate.{Candidate}
use Rattle.receiver_core.specs.Best.{Objects}
use Rattle.receiver_core.specs.Inner.Lists.{Each}
use Rattle.receiver_core.specs.Inner.Candidates.{kind_at, toi_of}
use Rattle.receiver_core.specs.Inner.Choice.{beats_installed}
use Rattle.receiver_core.specs.Inner.Standings.{Standings}
use Rattle.receiver_core.specs.Inner.Waiting.{Waiting, waiting_for, those_of, WaitsFor, AreWaiting, IsCovered, AreCovered}
use Rattle.receiver_core.specs.Inner.Settling.{IsSettling}
use Rattle.receiver_core.proofs.Keeping.{none_waiting}

-- the candidate is better than what is installed
abbrev wins : Option Shown → Candidate → Bool
wins installed c = beats_installed installed c.number c.toi

-- of those that wait the better ones are left
abbrev pub IsSwept : Option Shown → Waiting → Waiting → Type 0
IsSwept installed old new = (t : ℕ) → waiting_for new t ≡ filter (λ c. beats_installed installed c.number c.toi) (waiting_for old t)

-- ---- one list more

-- those that went so far and those that are to go are all
pub record Going (installed : Option Shown) (old left new : Waiting) : Type 0 where
  pub all : (t : ℕ) → filter (wins installed) (waiting_for old t) ≡ waiting_for new t ++ filter (wins installed) (waiting_for left t)
  pub apart : (t : ℕ) → is_some (get nat_cmp left t) ≡ true → waiting_for new t ≡ []

-- ---- those that are left

each_left : {A : Type 0} (P : A → Type 0) (f : A → Bool) (xs : List A) → Each P xs → Each P (filter f xs)
each_left P f [] all = tt
each_left P f (x ∷ xs) all = elim (f x) as (λ b. Each P (cond b (x ∷ filter f xs) (filter f xs))) [
  | true ↦ (all.0, each_left P f xs all.1)
  | false ↦ each_left P f xs all.1
]

-- a candidate of this object that is beaten
record Loses (P : Candidate → Type 0) (f : Candidate → Bool) (t : ℕ) : Type 0 where
  candidate : Candidate
  is : P candidate
  same : candidate.toi ≡ t
  loses : f candidate ≡ false

-- one of a list is left, or it is beaten
one_left : (P : Candidate → Type 0) (f : Candidate → Bool) (cs : List Candidate) (t : ℕ) → Each P cs → is_in t (map toi_of cs) ≡ true
    → (is_in t (map toi_of (filter f cs)) ≡ true) ⊎ Loses P f t
one_left P f [] t all among = absurd (let both : false ≡ true = among in cc)
one_left P f (c ∷ cs) t all among = elim (c.toi == t) as (λ b. (c.toi == t) ≡ b → (b || is_in t (map toi_of cs)) ≡ true
    → (is_in t (map toi_of (filter f (c ∷ cs))) ≡ true) ⊎ Loses P f t) [
      | true ↦ λ same h. elim (f c) as (λ b. f c ≡ b → (is_in t (map toi_of (cond b (c ∷ filter f cs) (filter f cs))) ≡ true) ⊎ Loses P f t) [
        | true ↦ λ better. inl (ap (λ b. b || is_in t (map toi_of (filter f cs))) same)
        | false ↦ λ worse. inr (record { candidate = c; is = all.0; same = eqb-true c.toi t same; loses = worse })
      ] refl
      | false ↦ λ other h. elim (one_left P f cs t all.1 h) as (λ w. (is_in t (map toi_of (filter f (c ∷ cs))) ≡ true) ⊎ Loses P f t) [
        | inl left ↦ inl (elim (f c) as (λ b. is_in t (map toi_of (cond b (c ∷ filter f cs) (filter f cs))) ≡ true) [
          | true ↦ ap (λ b. (c.toi == t) || b) left ∙ or-true (c.toi == t)
          | false ↦ left
        ])
        | inr loses ↦ inr loses
      ]
    ] refl among

same_number : (n m : ℕ) (ts us : List ℕ) → Some (Descriptor n ts) ≡ Some (Descriptor m us) → n ≡ m
same_number n m ts us e = cc

covered_swept : (objects : Objects) (known : Standings) (installed : Option Shown) (old new : Waiting) (ts : List ℕ) → AreWaiting objects known old
    → IsSwept installed old new → AreCovered objects installed old [] ts → AreCovered objects installed new [] ts
covered_swept objects known installed old new ts are swept covered t number listed among kind =
    elim (covered t number listed among kind) as (λ w. IsCovered objects installed new [] t number listed) [
      | inl waits ↦ elim (one_left (WaitsFor objects known waits.0) (wins installed) (waiting_for old waits.0) t (are waits.0) waits.1)
          as (λ w. IsCovered objects installed new [] t number listed) [
            | inl left ↦ inl (waits.0, ap (λ (cs : List Candidate). is_in t (map toi_of cs)) (swept waits.0) ∙ left)
            | inr l ↦
                let c = l.candidate in
                let number_is = same_number c.number number (l.is.candidate.front ++ c.rest) listed
                (sym l.is.candidate.kind ∙ ap (kind_at objects) l.same ∙ kind) in
                inr (inr (inl ((λ i. beats_installed installed (sym number_is i) (sym l.same i)) ∙ l.loses)))
          ]
      | inr rest ↦ inr rest
    ]

-- what was settled stays settled
pub settling_swept : (s : Store) (known : Standings) (old new : Waiting) (n : ℕ) (lost : Bool) (installed : Option Shown)
    → IsSwept installed old new → IsSettling s known old n lost installed → IsSettling s known new n lost installed
settling_swept s known old new n lost installed swept is = record {
  within = is.within;
  standings = is.standings;
  waits = λ t. subst (Each (WaitsFor (whole s.held) known t)) (sym (swept t)) (each_left (WaitsFor (whole s.held) known t) (wins installed) (waiting_for old t) (is.waits t));
  covered = λ kept. covered_swept (whole s.held) known installed old new (take n s.ready) is.waits swept (is.covered kept);
  best = is.best;
}

pub settling_lost : (s : Store) (known : Standings) (old new : Waiting) (n : ℕ) (lost : Bool) (installed : Option Shown)
    → new.entries ≡ [] → IsSettling s known old n lost installed → IsSettling s known new n true installed
settling_lost s known old new n lost installed empty is = record {
  within = is.within;
  standings = is.standings;
  waits = none_waiting (whole s.held) known new empty;
  covered = λ kept. absurd (let both : true ≡ false = kept in cc);
  best = is.best;
}

-- ---- one list more

-- at the begin
pub going_first : (installed : Option Shown) (old new : Waiting) → new.entries ≡ [] → Going installed old old new
going_first installed old new empty = record {
  all = λ t. ap (λ (cs : List Candidate). cs ++ filter (wins installed) (waiting_for old t)) (sym (none t));
  apart = λ t there. none t;
} where
  none : (t : ℕ) → waiting_for new t ≡ []
  none t = rw empty refl

-- one list has gone
pub going_on : (installed : Option Shown) (old left rest new more : Waiting) (toi : ℕ) (cs : Vec Candidate Global) (those : List Candidate) → Going installed old left new
    → get nat_cmp left toi ≡ Some cs → Updates nat_cmp left rest toi None → those ≡ filter (λ c. beats_installed installed c.number c.toi) cs.items
    → ((t : ℕ) → waiting_for more t ≡ cond (toi == t) those (waiting_for new t)) → Going installed old rest more
going_on installed old left rest new more toi cs those g here gone are put =
    record { all = all; apart = apart }
  where
    rest_at : (t : ℕ) → get nat_cmp rest t ≡ cond (toi == t) None (get nat_cmp left t)
    rest_at t = gone.0 t ∙ ap (λ b. cond b None (get nat_cmp left t)) (tied_numbers toi t ∙ swap toi t)
      where
        swap : (x y : ℕ) → (y == x) ≡ (x == y)
        swap x y = grind (arith, nat_tests)

    all : (t : ℕ) → filter (wins installed) (waiting_for old t) ≡ waiting_for more t ++ filter (wins installed) (waiting_for rest t)
    all t = g.all t ∙ elim (toi == t) as (λ b. (toi == t) ≡ b
        → (waiting_for new t ++ filter (wins installed) (waiting_for left t)) ≡ (waiting_for more t ++ filter (wins installed) (waiting_for rest t))) [
          | true ↦ λ same.
              let is = eqb-true toi t same in
              let none : waiting_for new t ≡ [] = g.apart t (ap (λ u. is_some (get nat_cmp left u)) (sym is) ∙ ap is_some here) in
              let was : waiting_for left t ≡ cs.items = ap (waiting_for left) (sym is) ∙ ap those_of here in
              let empty : waiting_for rest t ≡ [] = ap those_of (rest_at t ∙ ap (λ b. cond b None (get nat_cmp left t)) same) in
              let now : waiting_for more t ≡ those = put t ∙ ap (λ b. cond b those (waiting_for new t)) same in
              ap (λ (ds : List Candidate). ds ++ filter (wins installed) (waiting_for left t)) none
              ∙ ap (filter (wins installed)) was ∙ sym are ∙ sym (append-nil those)
              ∙ (λ i. sym now i ++ filter (wins installed) (sym empty i))
          | false ↦ λ other.
              let same : waiting_for more t ≡ waiting_for new t = put t ∙ ap (λ b. cond b those (waiting_for new t)) other in
              let left_same : waiting_for rest t ≡ waiting_for left t = ap those_of (rest_at t ∙ ap (λ b. cond b None (get nat_cmp left t)) other) in
              (λ i. sym same i ++ filter (wins installed) (sym left_same i))
        ] refl

    apart : (t : ℕ) → is_some (get nat_cmp rest t) ≡ true → waiting_for more t ≡ []
    apart t there = elim (toi == t) as (λ b. (toi == t) ≡ b → waiting_for more t ≡ []) [
      | true ↦ λ same. absurd (
          let none : get nat_cmp rest t ≡ None = rest_at t ∙ ap (λ b. cond b None (get nat_cmp left t)) same in
          let both : true ≡ false = sym there ∙ ap is_some none in cc)
      | false ↦ λ other. put t ∙ ap (λ b. cond b those (waiting_for new t)) other
          ∙ g.apart t (ap is_some (sym (rest_at t ∙ ap (λ b. cond b None (get nat_cmp left t)) other)) ∙ there)
    ] refl

empty_of : {A : Type 0} (xs : List A) → (0 < length xs → ⊥) → xs ≡ []
empty_of [] none = refl
empty_of (x ∷ xs) none = absurd (none (omega arith))

-- all have gone
pub all_gone : (installed : Option Shown) (old left new : Waiting) → Going installed old left new → (0 < length left.entries → ⊥) → IsSwept installed old new
all_gone installed old left new g none t =
    let empty : left.entries ≡ [] = empty_of left.entries none in
    let gone : waiting_for left t ≡ [] = rw empty refl in
    sym (g.all t ∙ ap (λ (cs : List Candidate). waiting_for new t ++ filter (wins installed) cs) gone ∙ append-nil (waiting_for new t))
