-- A refusal's number in the table, and its detail.
use Rattle.std.specs.Prelude.{ℕ}
use Rattle.alc_packet.specs.declared.refusal.Refusal.{Refusal}
use Rattle.alc_packet.specs.declared.refusal.Refusal.TheVariants.{Short, Version, LengthField, ExtensionZero, ExtensionLong}
use Rattle.alc_packet.specs.declared.refusal.Refusal.TheVariants.{OtherScheme, NoToi, NoFti, FtiTwice, FtiLength, ZeroSymbol}
use Rattle.alc_packet.specs.declared.refusal.Refusal.TheVariants.{ZeroBlock, MaxN, ShortObject, TooManyBlocks, NoPayloadId}
use Rattle.alc_packet.specs.declared.refusal.Refusal.TheVariants.{BlockOut, SymbolOut, SymbolLength, FillNotZero}

abbrev pub code_of : Refusal → ℕ
code_of Short = 1
code_of Version = 2
code_of LengthField = 3
code_of (ExtensionZero at) = 4
code_of (ExtensionLong at) = 5
code_of (OtherScheme cp) = 6
code_of NoToi = 7
code_of NoFti = 8
code_of FtiTwice = 9
code_of (FtiLength n) = 10
code_of ZeroSymbol = 11
code_of ZeroBlock = 12
code_of MaxN = 13
code_of ShortObject = 14
code_of TooManyBlocks = 15
code_of NoPayloadId = 16
code_of (BlockOut sbn) = 17
code_of (SymbolOut esi) = 18
code_of (SymbolLength n) = 19
code_of (FillNotZero at) = 20

-- 0 where the line has none
abbrev pub detail_of : Refusal → ℕ
detail_of Short = 0
detail_of Version = 0
detail_of LengthField = 0
detail_of (ExtensionZero at) = at
detail_of (ExtensionLong at) = at
detail_of (OtherScheme cp) = cp
detail_of NoToi = 0
detail_of NoFti = 0
detail_of FtiTwice = 0
detail_of (FtiLength n) = n
detail_of ZeroSymbol = 0
detail_of ZeroBlock = 0
detail_of MaxN = 0
detail_of ShortObject = 0
detail_of TooManyBlocks = 0
detail_of NoPayloadId = 0
detail_of (BlockOut sbn) = sbn
detail_of (SymbolOut esi) = esi
detail_of (SymbolLength n) = n
detail_of (FillNotZero at) = at
