-- What is known of the objects that were settled.
use Rattle.std.specs.Prelude.{◌≡◌, ℕ, Bool, true, false, List, Option, Some, None, option_map}
use Rattle.std.specs.BTreeMap.{BTreeMap, get}
use Rattle.std.specs.Ordering.{nat_cmp}
use Rattle.carousel_cid.specs.Kinds.{kind_of_object}
use Rattle.object_store.specs.Store.{is_in}
use Rattle.receiver_core.specs.Best.{Objects}
use Rattle.receiver_core.specs.Receiver.{standing_of_kind}
use Rattle.receiver_core.specs.declared.standing.Standing.{Standing}
use Rattle.receiver_core.specs.declared.standing.Standing.TheVariants.{Unknown, Partial, Whole, File, Descriptor, Unusable}

abbrev pub Standings : Type 0
Standings = BTreeMap ℕ Standing

-- of an object with these bytes that was settled
abbrev pub standing_of_bytes : List ℕ → Standing
standing_of_bytes bytes = standing_of_kind (kind_of_object bytes)

-- the map has the standing of each settled object, and no other
pub record AreStandings (objects : Objects) (settled : List ℕ) (standings : Standings) : Type 0 where
  pub there : (t : ℕ) → is_in t settled ≡ true → get nat_cmp standings t ≡ option_map standing_of_bytes (objects t)
  pub others : (t : ℕ) → is_in t settled ≡ false → get nat_cmp standings t ≡ None

abbrev pub is_file : Option Standing → Bool
is_file None = false
is_file (Some Unknown) = false
is_file (Some Partial) = false
is_file (Some Whole) = false
is_file (Some File) = true
is_file (Some (Descriptor number)) = false
is_file (Some (Unusable cause)) = false

-- the object is known as a file
abbrev pub is_known : Standings → ℕ → Bool
is_known standings t = is_file (get nat_cmp standings t)
