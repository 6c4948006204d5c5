-- The candidates that wait.
use Rattle.std.specs.Prelude.{◌≡◌, ℕ, ◌==◌, ◌&&◌, Bool, true, false, not, if◌then◌else◌, List, [], ◌∷◌, Option, Some, None, is_some, map, ◌⊎◌, Vec}
use Rattle.std.specs.BTreeMap.{BTreeMap, get}
use Rattle.std.specs.Ordering.{nat_cmp}
use Rattle.std.specs.declared.alloc.Global.{Global}
use Rattle.carousel_cid.specs.Instances.{Shown}
use Rattle.carousel_cid.specs.declared.kind.Kind.TheVariants.{Descriptor}
use Rattle.object_store.specs.Store.{is_in}
use Rattle.receiver_core.specs.declared.candidate.Candidate.{Candidate}
use Rattle.receiver_core.specs.Best.{Objects}
use Rattle.receiver_core.specs.Inner.Lists.{Each, first_of}
use Rattle.receiver_core.specs.Inner.Candidates.{IsCandidate, kind_at, is_file_at, toi_of}
use Rattle.receiver_core.specs.Inner.Choice.{beats_installed}
use Rattle.receiver_core.specs.Inner.Standings.{Standings}

-- the candidates, by the identifier that each of them waits for
abbrev pub Waiting : Type 0
Waiting = BTreeMap ℕ (Vec Candidate Global)

abbrev pub those_of : Option (Vec Candidate Global) → List Candidate
those_of None = []
those_of (Some cs) = cs.items

abbrev pub waiting_for : Waiting → ℕ → List Candidate
waiting_for waiting t = those_of (get nat_cmp waiting t)

-- ---- where a candidate goes whose first file that isn't there stands first

abbrev pub is_nothing : List ℕ → Bool
is_nothing [] = true
is_nothing (t ∷ ts) = false

-- all its files are there, and it is better than what is installed
abbrev pub ended_of : Option Shown → Candidate → List Candidate
ended_of installed c = if beats_installed installed c.number c.toi && is_nothing c.rest then c ∷ [] else []

-- this identifier stands first, and nothing is known of it
abbrev pub awaits : Standings → List ℕ → ℕ → Bool
awaits known [] t = false
awaits known (u ∷ us) t = (u == t) && not (is_some (get nat_cmp known u))

-- it waits for this identifier, and is better than what is installed
abbrev pub waits_of : Standings → Option Shown → ℕ → Candidate → List Candidate
waits_of known installed t c = if beats_installed installed c.number c.toi && awaits known c.rest t then c ∷ [] else []

-- ---- what holds of those that wait

-- a candidate whose first file that isn't there is this one, of which nothing is known
pub record WaitsFor (objects : Objects) (known : Standings) (t : ℕ) (c : Candidate) : Type 0 where
  pub candidate : IsCandidate objects c
  pub first : first_of c.rest ≡ Some t
  pub unknown : get nat_cmp known t ≡ None

abbrev pub AreWaiting : Objects → Standings → Waiting → Type 0
AreWaiting objects known waiting = (t : ℕ) → Each (WaitsFor objects known t) (waiting_for waiting t)

-- a descriptor waits
abbrev pub Waits : Waiting → ℕ → Type 0
Waits waiting t = (u : ℕ) × (is_in t (map toi_of (waiting_for waiting u)) ≡ true)

-- a list names an object that is whole and no file
abbrev pub NamesNoFile : Objects → List ℕ → Type 0
NamesNoFile objects listed = (t : ℕ) × ((is_in t listed ≡ true) × ((is_some (objects t) ≡ true) × (is_file_at objects t ≡ false)))

-- A descriptor waits, or it is one of these candidates, or what is installed is as good, or it lists what is no file.
abbrev pub IsCovered : Objects → Option Shown → Waiting → List Candidate → ℕ → ℕ → List ℕ → Type 0
IsCovered objects installed waiting cs t number listed =
    Waits waiting t ⊎ ((is_in t (map toi_of cs) ≡ true) ⊎ ((beats_installed installed number t ≡ false) ⊎ NamesNoFile objects listed))

-- each descriptor among these objects is covered
abbrev pub AreCovered : Objects → Option Shown → Waiting → List Candidate → List ℕ → Type 0
AreCovered objects installed waiting cs ts = (t number : ℕ) (listed : List ℕ) → is_in t ts ≡ true
    → kind_at objects t ≡ Some (Descriptor number listed) → IsCovered objects installed waiting cs t number listed
