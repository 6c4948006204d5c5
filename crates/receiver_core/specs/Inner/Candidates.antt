-- The descriptors that may become the best, and what they wait for.
use Rattle.std.specs.Prelude.{◌≡◌, ℕ, Bool, true, List, [], ◌∷◌, ◌++◌, Option, Some, None, option_map, is_some}
use Rattle.std.specs.List.{flat_map}
use Rattle.carousel_cid.specs.Kinds.{kind_of_object}
use Rattle.carousel_cid.specs.declared.kind.Kind.{Kind}
use Rattle.carousel_cid.specs.declared.kind.Kind.TheVariants.{File, Descriptor, Unusable}
use Rattle.receiver_core.specs.Best.{Objects, file_of}
use Rattle.receiver_core.specs.declared.candidate.Candidate.{Candidate}
use Rattle.receiver_core.specs.Inner.Lists.{Each, behind}

-- the candidate of an object of this kind, before any of its files was looked for
abbrev pub candidates_of : ℕ → Kind → List Candidate
candidates_of t (File location kind body) = []
candidates_of t (Descriptor number listed) = record { toi = t; number = number; rest = listed } ∷ []
candidates_of t (Unusable cause) = []

abbrev pub candidates_by : ℕ → Option Kind → List Candidate
candidates_by t None = []
candidates_by t (Some kind) = candidates_of t kind

abbrev pub kind_at : Objects → ℕ → Option Kind
kind_at objects t = option_map kind_of_object (objects t)

abbrev pub candidates_at : Objects → ℕ → List Candidate
candidates_at objects t = candidates_by t (kind_at objects t)

-- the candidates among these objects, in order
abbrev pub candidates_in : Objects → List ℕ → List Candidate
candidates_in objects ts = flat_map (candidates_at objects) ts

abbrev pub toi_of : Candidate → ℕ
toi_of c = c.toi

-- without the files in front that are there by now
abbrev pub advanced : (ℕ → Bool) → Candidate → Candidate
advanced f c = record { toi = c.toi; number = c.number; rest = behind f c.rest }

abbrev pub is_file_at : Objects → ℕ → Bool
is_file_at objects t = is_some (file_of objects t)

-- the object is a descriptor with this number, which lists files and behind them the rest
pub record IsCandidate (objects : Objects) (c : Candidate) : Type 0 where
  pub front : List ℕ
  pub kind : kind_at objects c.toi ≡ Some (Descriptor c.number (front ++ c.rest))
  pub files : Each (λ t. is_file_at objects t ≡ true) front
