-- A datagram by its pieces: the header, the EXT_FTIs among its extensions, and what follows the header.
use Rattle.std.specs.Prelude.{◌≡◌, ℕ, ◌==◌, if◌then◌else◌, List, [], ◌∷◌}
use Rattle.lct_header.specs.Extension.{Extension}
use Rattle.lct_header.specs.Extensions.{AreExtensions}
use Rattle.lct_header.specs.Header.{Header}
use Rattle.lct_header.specs.HeaderView.{HeaderView, BeginsWithHeader}
use Rattle.oti_blocks.specs.Wire.{fti_type}

-- The header, the contents of the extensions that are EXT_FTI, and the payload.
pub record Pieces : Type 0 where
  pub header : Header
  pub ftis : List (List ℕ)
  pub payload : List ℕ

-- the contents of the extensions of this type, in order
abbrev pub fti_contents : List Extension → List (List ℕ)
fti_contents [] = []
fti_contents (e ∷ es) = if e.het == fti_type then e.content ∷ fti_contents es else fti_contents es

-- The datagram is these pieces, joined: a header with a list of extensions, and the payload behind it.
pub record ArePieces (d : List ℕ) (x : Pieces) : Type 0 where
  pub view : HeaderView
  pub extensions : List Extension
  pub begins : BeginsWithHeader d view x.payload
  pub listed : AreExtensions view.area extensions
  pub header : x.header ≡ view.header
  pub ftis : x.ftis ≡ fti_contents extensions
