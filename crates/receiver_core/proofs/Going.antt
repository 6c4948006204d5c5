-- Where candidates go when objects have become ready.
use Rattle.std.proofs.Common.{◌≡◌, ℕ, Bool, true, false, ◌||◌, not, List, [], ◌∷◌, ◌++◌, ◌∙◌, refl, sym, ap, subst, arith, map, Option, Some, None, inl, inr, ◌⊎◌, eqb-true}
use Rattle.std.specs.Prelude.{◌==◌, ◌&&◌, is_some, if◌then◌else◌}
use Rattle.std.specs.BTreeMap.{get}
use Rattle.std.specs.Ordering.{nat_cmp}
use Rattle.std.specs.List.{flat_map}
use Rattle.std.proofs.lemmas.Bool.{and_parts}
use Rattle.std.proofs.Math.Bool.{or-true}
use Rattle.std.proofs.lemmas.Bool.Decides.{nat_tests}
use Rattle.carousel_cid.specs.Instances.{Shown}
use Rattle.carousel_cid.specs.declared.kind.Kind.TheVariants.{Descriptor}
use Rattle.object_store.specs.Store.{is_in}
use Rattle.receiver_core.specs.declared.candidate.Candidate.{Candidate}
use Rattle.receiver_core.specs.declared.standing.Standing.{Standing}
use Rattle.receiver_core.specs.Best.{Objects}
use Rattle.receiver_core.specs.Inner.Lists.{first_of, behind, Each}
use Rattle.receiver_core.specs.Inner.Candidates.{kind_at, toi_of, advanced, is_file_at, IsCandidate}
use Rattle.receiver_core.specs.Inner.Choice.{beats_installed}
use Rattle.receiver_core.specs.Inner.Standings.{Standings}
use Rattle.receiver_core.specs.Inner.Waiting.{is_nothing, ended_of, awaits, waits_of, WaitsFor, NamesNoFile}
use Rattle.receiver_core.proofs.Lists.{in_first, in_second, split, behind_stops}
use Rattle.receiver_core.proofs.Candidacies.{advanced_candidate}

-- a candidate that is better than what is installed, and has all its files
pub record IsEnded (objects : Objects) (installed : Option Shown) (c : Candidate) : Type 0 where
  pub candidate : IsCandidate objects c
  pub all : c.rest ≡ []
  pub beats : beats_installed installed c.number c.toi ≡ true

nothing_left : (ts : List ℕ) → is_nothing ts ≡ true → ts ≡ []
nothing_left [] e = refl
nothing_left (t ∷ ts) e = absurd (let both : false ≡ true = e in cc)

-- one that ends
pub each_ended : (objects : Objects) (installed : Option Shown) (c : Candidate) → IsCandidate objects c
    → Each (IsEnded objects installed) (ended_of installed (advanced (is_file_at objects) c))
each_ended objects installed c is =
    let a = advanced (is_file_at objects) c in
    elim (beats_installed installed a.number a.toi && is_nothing a.rest)
    as (λ b. (beats_installed installed a.number a.toi && is_nothing a.rest) ≡ b → Each (IsEnded objects installed) (if b then a ∷ [] else [])) [
      | false ↦ λ e. tt
      | true ↦ λ e. let parts = and_parts (beats_installed installed a.number a.toi) (is_nothing a.rest) e in
          (record { candidate = advanced_candidate objects c is; all = nothing_left a.rest parts.1; beats = parts.0 }, tt)
    ] refl

unknown_one : (o : Option Standing) → not (is_some o) ≡ true → o ≡ None
unknown_one None e = refl
unknown_one (Some s) e = absurd (let both : false ≡ true = e in cc)

awaited_first : (known : Standings) (ts : List ℕ) (t : ℕ) → awaits known ts t ≡ true → (first_of ts ≡ Some t) × (get nat_cmp known t ≡ None)
awaited_first known [] t e = absurd (let both : false ≡ true = e in cc)
awaited_first known (u ∷ us) t e =
    let parts = and_parts (u == t) (not (is_some (get nat_cmp known u))) e in
    let same : u ≡ t = eqb-true u t parts.0 in
    (ap (λ v. Some v) same, ap (get nat_cmp known) (sym same) ∙ unknown_one (get nat_cmp known u) parts.1)

-- one that waits
pub each_awaiting : (objects : Objects) (known : Standings) (installed : Option Shown) (t : ℕ) (c : Candidate) → IsCandidate objects c
    → Each (WaitsFor objects known t) (waits_of known installed t (advanced (is_file_at objects) c))
each_awaiting objects known installed t c is =
    let a = advanced (is_file_at objects) c in
    elim (beats_installed installed a.number a.toi && awaits known a.rest t)
    as (λ b. (beats_installed installed a.number a.toi && awaits known a.rest t) ≡ b → Each (WaitsFor objects known t) (if b then a ∷ [] else [])) [
      | false ↦ λ e. tt
      | true ↦ λ e.
          let first = awaited_first known a.rest t (and_parts (beats_installed installed a.number a.toi) (awaits known a.rest t) e).1 in
          (record { candidate = advanced_candidate objects c is; first = first.0; unknown = first.1 }, tt)
    ] refl

-- ---- each goes somewhere

-- Where a descriptor is that was among candidates: they end, they wait, what is installed is as good, or it lists what
-- is no file.
abbrev pub Went : Objects → Option Shown → List Candidate → (ℕ → List Candidate) → ℕ → ℕ → List ℕ → Type 0
Went objects installed those waits t number listed =
    (is_in t (map toi_of those) ≡ true) ⊎ (((u : ℕ) × (is_in t (map toi_of (waits u)) ≡ true)) ⊎ ((beats_installed installed number t ≡ false) ⊎ NamesNoFile objects listed))

-- what is known is known of what is whole
abbrev pub IsKnown : Objects → Standings → Type 0
IsKnown objects known = (t : ℕ) (s : Standing) → get nat_cmp known t ≡ Some s → is_some (objects t) ≡ true

itself : (t : ℕ) → (t == t) ≡ true
itself t = grind (arith, nat_tests)

ends : (installed : Option Shown) (c : Candidate) → beats_installed installed c.number c.toi ≡ true → c.rest ≡ []
    → is_in c.toi (map toi_of (ended_of installed c)) ≡ true
ends installed c better none =
    ap (λ b. is_in c.toi (map toi_of (if b then c ∷ [] else []))) (ap (λ b. b && is_nothing c.rest) better ∙ ap is_nothing none) ∙ ap (λ b. b || false) (itself c.toi)

waits : (known : Standings) (installed : Option Shown) (c : Candidate) (u : ℕ) (us : List ℕ) → beats_installed installed c.number c.toi ≡ true → c.rest ≡ u ∷ us
    → get nat_cmp known u ≡ None → is_in c.toi (map toi_of (waits_of known installed u c)) ≡ true
waits known installed c u us better rest none =
    ap (λ b. is_in c.toi (map toi_of (if b then c ∷ [] else [])))
    (ap (λ b. b && awaits known c.rest u) better ∙ ap (λ ts. awaits known ts u) rest
    ∙ ap (λ b. b && not (is_some (get nat_cmp known u))) (itself u) ∙ ap (λ o. not (is_some o)) none)
    ∙ ap (λ b. b || false) (itself c.toi)

-- an identifier behind others is in the list
in_middle : (front gone : List ℕ) (u : ℕ) (us : List ℕ) → is_in u (front ++ (gone ++ (u ∷ us))) ≡ true
in_middle [] [] u us = ap (λ b. b || is_in u us) (itself u)
in_middle [] (t ∷ gone) u us = ap (λ b. (t == u) || b) (in_middle [] gone u us) ∙ or-true (t == u)
in_middle (t ∷ front) gone u us = ap (λ b. (t == u) || b) (in_middle front gone u us) ∙ or-true (t == u)

same_parts : (n m : ℕ) (ts us : List ℕ) → Some (Descriptor n ts) ≡ Some (Descriptor m us) → (n ≡ m) × (ts ≡ us)
same_parts n m ts us e = (cc, cc)

-- one candidate goes somewhere
one_went : (objects : Objects) (known : Standings) (installed : Option Shown) (c : Candidate) (number : ℕ) (listed : List ℕ) → IsKnown objects known
    → IsCandidate objects c → kind_at objects c.toi ≡ Some (Descriptor number listed)
    → Went objects installed (ended_of installed (advanced (is_file_at objects) c)) (λ u. waits_of known installed u (advanced (is_file_at objects) c)) c.toi number listed
one_went objects known installed c number listed knows is kind =
    let f = is_file_at objects in
    let a = advanced f c in
    let same = same_parts c.number number (is.front ++ c.rest) listed (sym is.kind ∙ kind) in
    elim (beats_installed installed c.number c.toi) as (λ b. beats_installed installed c.number c.toi ≡ b
    → Went objects installed (ended_of installed a) (λ u. waits_of known installed u a) c.toi number listed) [
      | false ↦ λ worse. inr (inr (inl (ap (λ n. beats_installed installed n c.toi) (sym same.0) ∙ worse)))
      | true ↦ λ better. elim (behind f c.rest) as (λ r. behind f c.rest ≡ r
          → Went objects installed (ended_of installed a) (λ u. waits_of known installed u a) c.toi number listed) [
            | [] ↦ λ none. inl (ends installed a better none)
            | u ∷ us ↦ λ rest. elim (get nat_cmp known u) as (λ o. get nat_cmp known u ≡ o
                → Went objects installed (ended_of installed a) (λ v. waits_of known installed v a) c.toi number listed) [
                  | None ↦ λ unknown. inr (inl (u, waits known installed a u us better rest unknown))
                  | Some s ↦ λ found. let parts = split f c.rest in
                      inr (inr (inr (
                        u,
                        (
                          subst (λ ts. is_in u ts ≡ true) (ap (λ ts. is.front ++ ts) (sym (parts.joined ∙ ap (λ ts. parts.gone ++ ts) rest)) ∙ same.1) (in_middle is.front parts.gone u us),
                          (knows u s found, behind_stops f c.rest u us rest),
                        ),
                      )))
                ] refl
          ] refl
    ] refl

went_on : (objects : Objects) (installed : Option Shown) (those more : List Candidate) (waits others : ℕ → List Candidate) (t number : ℕ) (listed : List ℕ)
    → Went objects installed those waits t number listed → Went objects installed (those ++ more) (λ u. waits u ++ others u) t number listed
went_on objects installed those more waits others t number listed (inl e) = inl (in_first toi_of those more t e)
went_on objects installed those more waits others t number listed (inr (inl e)) = inr (inl (e.0, in_first toi_of (waits e.0) (others e.0) t e.1))
went_on objects installed those more waits others t number listed (inr (inr e)) = inr (inr e)

went_behind : (objects : Objects) (installed : Option Shown) (those more : List Candidate) (waits others : ℕ → List Candidate) (t number : ℕ) (listed : List ℕ)
    → Went objects installed more others t number listed → Went objects installed (those ++ more) (λ u. waits u ++ others u) t number listed
went_behind objects installed those more waits others t number listed (inl e) = inl (in_second toi_of those more t e)
went_behind objects installed those more waits others t number listed (inr (inl e)) = inr (inl (e.0, in_second toi_of (waits e.0) (others e.0) t e.1))
went_behind objects installed those more waits others t number listed (inr (inr e)) = inr (inr e)

-- each of these does
pub all_went : (objects : Objects) (known : Standings) (installed : Option Shown) (cs : List Candidate) (t number : ℕ) (listed : List ℕ) → IsKnown objects known
    → Each (IsCandidate objects) cs → kind_at objects t ≡ Some (Descriptor number listed) → is_in t (map toi_of cs) ≡ true
    → Went objects installed (flat_map (λ c. ended_of installed (advanced (is_file_at objects) c)) cs)
    (λ u. flat_map (λ c. waits_of known installed u (advanced (is_file_at objects) c)) cs) t number listed
all_went objects known installed [] t number listed knows are kind among = absurd (let both : false ≡ true = among in cc)
all_went objects known installed (c ∷ cs) t number listed knows are kind among =
    let E = λ (d : Candidate). ended_of installed (advanced (is_file_at objects) d) in
    let A = λ (u : ℕ) (d : Candidate). waits_of known installed u (advanced (is_file_at objects) d) in
    elim (c.toi == t) as (λ b. (c.toi == t) ≡ b → (b || is_in t (map toi_of cs)) ≡ true
    → Went objects installed (E c ++ flat_map E cs) (λ u. A u c ++ flat_map (A u) cs) t number listed) [
      | true ↦ λ same h. went_on objects installed (E c) (flat_map E cs) (λ u. A u c) (λ u. flat_map (A u) cs) t number listed
          (subst (λ u. Went objects installed (E c) (λ v. A v c) u number listed) (eqb-true c.toi t same)
          (one_went objects known installed c number listed knows are.0 (ap (kind_at objects) (eqb-true c.toi t same) ∙ kind)))
      | false ↦ λ other h. went_behind objects installed (E c) (flat_map E cs) (λ u. A u c) (λ u. flat_map (A u) cs) t number listed
          (all_went objects known installed cs t number listed knows are.1 kind h)
    ] refl among
