-- What is wrong with stated transmission information: the first of the faults that hold.
use Rattle.std.specs.Prelude.{ℕ, ◌^◌, List, [], ◌∷◌, length, Option, Result, not, ◌==◌, nat_lt}
use Rattle.wire_bytes.specs.FirstFault.{fault_when, first_fault, unless_fault}
use Rattle.oti_blocks.specs.Scheme.{ObjectInformation}
use Rattle.oti_blocks.specs.Information.{block_count}
use Rattle.oti_blocks.specs.Wire.{stated}
use Rattle.oti_blocks.specs.declared.fault.OtiFault.{OtiFault}
use Rattle.oti_blocks.specs.declared.fault.OtiFault.TheVariants.{FtiLength, ZeroSymbol, ZeroBlock, MaxN, ShortObject, TooManyBlocks}

-- the faults that stated values can have, in order
abbrev pub information_faults : ObjectInformation → List (Option OtiFault)
information_faults o =
    fault_when (o.symbol == 0) ZeroSymbol
    ∷ fault_when (o.max_block == 0) ZeroBlock
    ∷ fault_when (nat_lt o.max_n o.max_block) MaxN
    ∷ fault_when (nat_lt o.length 8) ShortObject
    ∷ fault_when (nat_lt (2 ^ 24) (block_count o.length o.symbol o.max_block)) TooManyBlocks
    ∷ []

-- the fault of stated values
abbrev pub information_fault : ObjectInformation → Option OtiFault
information_fault o = first_fault (information_faults o)

-- the fault of the content of an EXT_FTI
abbrev pub fti_fault : List ℕ → Option OtiFault
fti_fault content = first_fault (fault_when (not (length content == 10)) (FtiLength (length content)) ∷ information_faults (stated content))

-- the values, or their first fault
abbrev pub checked : ObjectInformation → Result ObjectInformation OtiFault
checked o = unless_fault (information_fault o) o
