-- The one answer for each list of bytes, by computing: laws say that it is the header that begins the bytes, or their
-- first fault.
use Rattle.std.specs.Prelude.{ℕ, ◌+◌, ◌-◌, ◌*◌, ◌==◌, ◌||◌, nat_lt, if◌then◌else◌, List, [], ◌∷◌, length, take, drop, Result, Ok, Err}
use Rattle.lct_header.specs.declared.fault.HeaderFault.{HeaderFault}
use Rattle.lct_header.specs.declared.fault.HeaderFault.TheVariants.{Short, Version, LengthField, ExtensionZero, ExtensionLong}
use Rattle.lct_header.specs.Word.{FirstWord, cci_length, tsi_length, fixed_length, version}
use Rattle.lct_header.specs.Header.{header_of}
use Rattle.lct_header.specs.HeaderView.{HeaderView}
use Rattle.lct_header.specs.Inner.Extensions.{split}
use Rattle.lct_header.specs.Inner.Word.{word_in}

-- the bytes of the TSI, at their place
abbrev pub tsi_at : FirstWord → List ℕ → List ℕ
tsi_at w bytes = take (4 + cci_length w + tsi_length w - (4 + cci_length w)) (drop (4 + cci_length w) bytes)

-- and of the TOI
abbrev pub toi_at : FirstWord → List ℕ → List ℕ
toi_at w bytes = take (fixed_length w - (4 + cci_length w + tsi_length w)) (drop (4 + cci_length w + tsi_length w) bytes)

-- what is left of the header
abbrev pub area_at : FirstWord → List ℕ → List ℕ
area_at w bytes = take (4 * w.words - fixed_length w) (drop (fixed_length w) bytes)

-- all of it
abbrev pub view_at : FirstWord → List ℕ → HeaderView
view_at w bytes = record { header = header_of w (tsi_at w bytes) (toi_at w bytes); length = 4 * w.words; area = area_at w bytes }

-- where extensions stop, before the header's end
abbrev pub stop_at : ℕ → HeaderView → List ℕ → Result HeaderView HeaderFault
stop_at end v [] = Ok v
stop_at end v (het ∷ []) = Err Short
stop_at end v (het ∷ hel ∷ bytes) =
    if hel == 0 then Err (ExtensionZero (end - length (het ∷ hel ∷ bytes))) else Err (ExtensionLong (end - length (het ∷ hel ∷ bytes)))

-- the answer for bytes of version 1, whose first word this is
abbrev pub answer_of : List ℕ → FirstWord → Result HeaderView HeaderFault
answer_of bytes w =
    if nat_lt (4 * w.words) (fixed_length w) || nat_lt (length bytes) (4 * w.words) then Err LengthField
    else stop_at (fixed_length w + length (area_at w bytes)) (view_at w bytes) (split (length (area_at w bytes)) (area_at w bytes)).1

-- the answer for all bytes
unfoldable pub answer : List ℕ → Result HeaderView HeaderFault
answer bytes = if nat_lt (length bytes) 4 then Err Short else if version bytes == 1 then answer_of bytes (word_in bytes) else Err Version
