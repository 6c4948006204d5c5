-- The first fault of the extensions alone.
use Rattle.std.specs.Prelude.{ℕ, List}
use Rattle.lct_header.specs.declared.fault.HeaderFault.{HeaderFault}
use Rattle.lct_header.specs.declared.fault.HeaderFault.TheVariants.{ExtensionZero, ExtensionLong}
use Rattle.lct_header.specs.Faults.{HasNoLength, PassesEnd, StopsAt}

-- the first fault of an area of extensions that begins at the place `start`
abbrev pub IsAreaFault : List ℕ → ℕ → HeaderFault → Type 0
IsAreaFault area start (ExtensionZero at) = StopsAt area start at HasNoLength
IsAreaFault area start (ExtensionLong at) = StopsAt area start at PassesEnd
IsAreaFault area start _ = ⊥
