-- The instances of some objects, in the words of the grammar (RFC 6968, sections 3.2 and 4).
use Rattle.std.specs.Prelude.{◌≡◌, ℕ, false, List, map, Option, Some, None}
use Rattle.std.specs.List.{All}
use Rattle.wire_bytes.specs.Bytes.{AreBytes}
use Rattle.carousel_cid.specs.Instances.{Shown, toi_of}
use Rattle.carousel_cid.specs.File.{ReadsFile}
use Rattle.carousel_cid.specs.Descriptor.{ReadsDescriptor}
use Rattle.carousel_cid.specs.declared.file_of.FileOf.{FileOf}
use Rattle.receiver_core.specs.Best.{Objects, is_better}

-- each of the objects is bytes
abbrev pub AreOfBytes : Objects → Type 0
AreOfBytes objects = (t : ℕ) (bytes : List ℕ) → objects t ≡ Some bytes → AreBytes bytes

-- the object of this identifier is there, and reads as this file
pub record IsFileOf (objects : Objects) (f : FileOf) : Type 0 where
  pub bytes : List ℕ
  pub there : objects f.toi ≡ Some bytes
  pub reads : ReadsFile bytes f.location f.kind f.body

-- The object of the instance's descriptor is there, and reads as the descriptor with its number and its list; and each
-- object of the list, in order, is there and reads as a file.
pub record IsInstanceOf (objects : Objects) (i : Shown) : Type 0 where
  pub bytes : List ℕ
  pub there : objects i.descriptor_toi ≡ Some bytes
  pub reads : ReadsDescriptor bytes i.number i.listed
  pub in_order : map toi_of i.files ≡ i.listed
  pub files : All (IsFileOf objects) i.files

-- it is an instance of the objects, and no other is better
pub record IsGreatestOf (objects : Objects) (i : Shown) : Type 0 where
  pub is : IsInstanceOf objects i
  pub greatest : (j : Shown) → IsInstanceOf objects j → is_better j i ≡ false

-- the best instance of the objects, and none where they have none
abbrev pub IsBestInstance : Objects → Option Shown → Type 0
IsBestInstance objects None = (i : Shown) → IsInstanceOf objects i → ⊥
IsBestInstance objects (Some i) = IsGreatestOf objects i
