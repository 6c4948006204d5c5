-- The snapshot machine: one history that is published, what each reader has seen of it, and what is told.
use Rattle.std.specs.Prelude.{◌≡◌, ◌⊎◌, ℕ, ◌≤◌, List, [], ◌∷◌, ◌++◌, length, replicate, Some, All, Contains, slice_get, slice_set}
use mathlib.Core.List.{IsPrefix}
use Rattle.carousel_cid.specs.Instances.{Shown}
use Rattle.snapshot_hub.specs.Histories.{IsRising, MayFollow, longer}

-- what is published, what each reader has seen, and what was told
pub record Machine : Type 0 where
  pub history : List Shown
  pub seen : List (List Shown)
  pub told : List (List Shown)

-- Publish adds an instance, Tell tells the history, a reader learns a told history,
-- and a reader looks, sees a beginning of the history, and is shown the last instance of that
pub data Step : Type 0 where
  Publish : (instance : Shown) → Step
  Tell : Step
  Learn : (reader : ℕ) (told : List Shown) → Step
  Look : (reader : ℕ) (seen : List Shown) → Step

-- nothing is published, and each reader has seen nothing
abbrev pub opened : ℕ → Machine
opened readers = record { history = []; seen = replicate readers []; told = [] }

abbrev pub HasSeen : Machine → ℕ → List Shown → Type 0
HasSeen m r h = slice_get m.seen r ≡ Some h

abbrev pub with_instance : Machine → Shown → Machine
with_instance m i = record m { history = m.history ++ i ∷ [] }

abbrev pub with_told : Machine → List Shown → Machine
with_told m h = record m { told = m.told ++ h ∷ [] }

abbrev pub with_seen : Machine → ℕ → List Shown → Machine
with_seen m r h = record m { seen = slice_set m.seen r h }

-- the step leads from m to n
abbrev pub Leads : Step → Machine → Machine → Type 0
Leads (Publish i) m n = MayFollow m.history i × (n ≡ with_instance m i)
Leads Tell m n = n ≡ with_told m m.history
Leads (Learn r t) m n = Contains m.told t × ((h : List Shown) × HasSeen m r h × (n ≡ with_seen m r (longer h t)))
Leads (Look r s) m n = IsPrefix s m.history × ((h : List Shown) × HasSeen m r h × (length h ≤ length s) × (n ≡ with_seen m r s))

-- the steps, one after another, lead from m to n
abbrev pub Runs : List Step → Machine → Machine → Type 0
Runs [] m n = n ≡ m
Runs (s ∷ ss) m n = (k : Machine) × Leads s m k × Runs ss k n

-- all that was seen or told begins the history, and numbers never fall in it
pub record IsSound (m : Machine) : Type 0 where
  pub seen : All (λ s. IsPrefix s m.history) m.seen
  pub told : All (λ t. IsPrefix t m.history) m.told
  pub rising : IsRising m.history

-- in these steps the reader saw the history h, or was told of it
abbrev pub Knows : List Step → ℕ → List Shown → Type 0
Knows steps r h = Contains steps (Look r h) ⊎ Contains steps (Learn r h)

-- with so many readers, after these steps, the reader may look and see s
abbrev pub MaySee : ℕ → List Step → ℕ → List Shown → Type 0
MaySee readers steps r s = (n : Machine) × Runs (steps ++ Look r s ∷ []) (opened readers) n
