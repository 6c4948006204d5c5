-- Why bytes begin with no header: the first of these faults that holds.
use Rattle.std.specs.Prelude.{◌≡◌, ◌≢◌, ℕ, ◌+◌, ◌*◌, ◌<◌, ◌≤◌, ◌⊎◌, List, [], ◌∷◌, ◌++◌, length}
use Rattle.lct_header.specs.declared.fault.HeaderFault.{HeaderFault}
use Rattle.lct_header.specs.declared.fault.HeaderFault.TheVariants.{Short, Version, LengthField, ExtensionZero, ExtensionLong}
use Rattle.lct_header.specs.Extension.{Extension}
use Rattle.lct_header.specs.Extensions.{AreExtensions}
use Rattle.lct_header.specs.Word.{FirstWord, SpellsWord, version, fixed_length}
use Rattle.lct_header.specs.HeaderView.{IsLaidOut}

-- the stated length is below that of the fixed fields, or above that of all the bytes
pub record HasWrongLength (bytes : List ℕ) : Type 0 where
  pub word : FirstWord
  pub front : List ℕ
  pub rest : List ℕ
  pub joined : bytes ≡ front ++ rest
  pub spells : SpellsWord front word
  pub wrong : (4 * word.words < fixed_length word) ⊎ (length bytes < 4 * word.words)

-- a type below 128 with a length of 0
abbrev pub HasNoLength : List ℕ → Type 0
HasNoLength (het ∷ hel ∷ bytes) = (het < 128) × (hel ≡ 0)
HasNoLength (het ∷ []) = ⊥
HasNoLength [] = ⊥

-- a type below 128 with a length that goes past the end
abbrev pub PassesEnd : List ℕ → Type 0
PassesEnd (het ∷ hel ∷ bytes) = (het < 128) × (length (het ∷ hel ∷ bytes) < 4 * hel)
PassesEnd (het ∷ []) = ⊥
PassesEnd [] = ⊥

-- Some extensions without a fault begin the area, which begins at the place `start`; then, at the place `at`, comes
-- what IsFaulty says.
pub record StopsAt (area : List ℕ) (start at : ℕ) (IsFaulty : List ℕ → Type 0) : Type 0 where
  pub before : List Extension
  pub front : List ℕ
  pub faulty : List ℕ
  pub extensions : AreExtensions front before
  pub joined : area ≡ front ++ faulty
  pub place : at ≡ start + length front
  pub fault : IsFaulty faulty

-- the extensions stop at the place `at`, with what IsFaulty says, up to the header's end
pub record HasFaultyExtension (bytes : List ℕ) (at : ℕ) (IsFaulty : List ℕ → Type 0) : Type 0 where
  pub word : FirstWord
  pub tsi : List ℕ
  pub toi : List ℕ
  pub area : List ℕ
  pub rest : List ℕ
  pub layout : IsLaidOut bytes word tsi toi area rest
  pub stops : StopsAt area (fixed_length word) at IsFaulty

-- the first fault of the bytes
abbrev pub IsFirstFault : List ℕ → HeaderFault → Type 0
IsFirstFault bytes Short = length bytes < 4
IsFirstFault bytes Version = (4 ≤ length bytes) × (version bytes ≢ 1)
IsFirstFault bytes LengthField = HasWrongLength bytes
IsFirstFault bytes (ExtensionZero at) = HasFaultyExtension bytes at HasNoLength
IsFirstFault bytes (ExtensionLong at) = HasFaultyExtension bytes at PassesEnd
