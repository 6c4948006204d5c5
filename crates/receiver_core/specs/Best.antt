-- The best instance of the objects that are whole (RFC 6968, sections 3.2 and 4).
use Rattle.std.specs.Prelude.{ℕ, ◌≡◌, ◌≤◌, ◌&&◌, ◌||◌, ◌==◌, Bool, false, nat_lt, List, [], ◌∷◌, Option, Some, None, option_map}
use Rattle.std.specs.Option.{option_and_then}
use Rattle.carousel_cid.specs.Instances.{Shown}
use Rattle.carousel_cid.specs.Kinds.{kind_of_object}
use Rattle.carousel_cid.specs.declared.file_of.FileOf.{FileOf}
use Rattle.carousel_cid.specs.declared.kind.Kind.{Kind}
use Rattle.carousel_cid.specs.declared.kind.Kind.TheVariants.{File, Descriptor, Unusable}

-- the whole objects, by their identifiers
abbrev pub Objects : Type 0
Objects = ℕ → Option (List ℕ)

abbrev pub file_of_kind : ℕ → Kind → Option FileOf
file_of_kind t (File location kind body) = Some (record { toi = t; location = location; kind = kind; body = body })
file_of_kind t (Descriptor number listed) = None
file_of_kind t (Unusable cause) = None

-- the object as a file
abbrev pub file_of : Objects → ℕ → Option FileOf
file_of objects t = option_and_then (λ bytes. file_of_kind t (kind_of_object bytes)) (objects t)

-- all of these objects as files, in order
abbrev pub files_of : Objects → List ℕ → Option (List FileOf)
files_of objects [] = Some []
files_of objects (t ∷ ts) = option_and_then (λ f. option_map (λ fs. f ∷ fs) (files_of objects ts)) (file_of objects t)

abbrev pub instance_of_kind : Objects → ℕ → Kind → Option Shown
instance_of_kind objects t (File location kind body) = None
instance_of_kind objects t (Descriptor number listed) =
    option_map (λ fs. record { number = number; descriptor_toi = t; listed = listed; files = fs }) (files_of objects listed)
instance_of_kind objects t (Unusable cause) = None

-- The instance that a complete descriptor announces: the object is whole and reads as a descriptor, and
-- each object that it lists is whole and reads as a file.
unfoldable pub complete : Objects → ℕ → Option Shown
complete objects t = option_and_then (λ bytes. instance_of_kind objects t (kind_of_object bytes)) (objects t)

-- a greater number, or the same number and a lesser identifier
abbrev pub is_better : Shown → Shown → Bool
is_better i j = nat_lt j.number i.number || ((i.number == j.number) && nat_lt i.descriptor_toi j.descriptor_toi)

-- the instance is announced, and no other that is announced is better
pub record IsGreatest (objects : Objects) (i : Shown) : Type 0 where
  pub announced : complete objects i.descriptor_toi ≡ Some i
  pub greatest : (t : ℕ) (j : Shown) → complete objects t ≡ Some j → is_better j i ≡ false

-- the best instance of these objects: the greatest one, and none where none is announced
abbrev pub IsBestOf : Objects → Option Shown → Type 0
IsBestOf objects None = (t : ℕ) → complete objects t ≡ None
IsBestOf objects (Some i) = IsGreatest objects i

-- the second has all that the first has
pub record Extends (first second : Objects) : Type 0 where
  pub keeps : (t : ℕ) (bytes : List ℕ) → first t ≡ Some bytes → second t ≡ Some bytes

-- the number isn't lower, and at the same number the identifier isn't greater
abbrev pub NotOlder : Option Shown → Option Shown → Type 0
NotOlder None new = Unit {0}
NotOlder (Some i) None = ⊥
NotOlder (Some i) (Some j) = (i.number ≤ j.number) × (i.number ≡ j.number → j.descriptor_toi ≤ i.descriptor_toi)
