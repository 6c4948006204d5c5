-- The area of a header's extensions: none, one or several, joined in order.
use Rattle.std.specs.Prelude.{◌≡◌, List, ℕ, [], ◌∷◌, ◌++◌}
use Rattle.lct_header.specs.Extension.{Extension, IsExtension}

-- the area is these extensions, joined in order
abbrev pub AreExtensions : List ℕ → List Extension → Type 0
AreExtensions area [] = area ≡ []
AreExtensions area (e ∷ es) = (first : List ℕ) × (others : List ℕ) × IsExtension first e × (area ≡ first ++ others) × AreExtensions others es

-- the area is a list of extensions, none with a fault
abbrev pub IsArea : List ℕ → Type 0
IsArea area = (es : List Extension) × AreExtensions area es
