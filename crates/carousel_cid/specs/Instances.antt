-- What contracts see of an installed instance (RFC 6968, section 3.2).
use Rattle.std.specs.Prelude.{◌≡◌, ℕ, true, List, map}
use Rattle.carousel_cid.specs.declared.file_of.FileOf.{FileOf}
pub use Rattle.carousel_cid.specs.Repeats.{are_different}

-- its number, the object of its descriptor, the identifiers that this lists, and their files
pub record Shown : Type 0 where
  pub number : ℕ
  pub descriptor_toi : ℕ
  pub listed : List ℕ
  pub files : List FileOf

abbrev pub toi_of : FileOf → ℕ
toi_of f = f.toi

-- the listed identifiers differ, and the files carry them in order
pub record IsListed (listed : List ℕ) (files : List FileOf) : Type 0 where
  pub different : are_different listed ≡ true
  pub in_order : map toi_of files ≡ listed
