-- The extensions of an area by computing.
use Rattle.std.specs.Prelude.{ℕ, zero, suc, ◌+◌, ◌-◌, ◌*◌, ◌==◌, ◌||◌, nat_lt, if◌then◌else◌, List, [], ◌∷◌, length, take, drop, Option, Some, None}
use Rattle.lct_header.specs.Extension.{Extension}

-- the extension of a length, and what follows it
abbrev pub measured : ℕ → List ℕ → Option (Extension × List ℕ)
measured het [] = None
measured het (hel ∷ bytes) =
    if hel == 0 || nat_lt (length bytes + 2) (4 * hel)
    then None
    else Some (record { het = het; content = take (4 * hel - 2) bytes }, drop (4 * hel - 2) bytes)

-- the first extension, and what follows it
abbrev pub first_of : List ℕ → Option (Extension × List ℕ)
first_of [] = None
first_of (het ∷ bytes) =
    if nat_lt het 128
    then measured het bytes
    else (if nat_lt (length bytes) 3 then None else Some (record { het = het; content = take 3 bytes }, drop 3 bytes))

-- the extension before others, or none
abbrev pub before_others : Option (Extension × List ℕ) → (List ℕ → List Extension × List ℕ) → List ℕ → List Extension × List ℕ
before_others None others bytes = ([], bytes)
before_others (Some first) others bytes = (first.0 ∷ (others first.1).0, (others first.1).1)

-- at most n extensions from the first on, and what follows them
abbrev pub split : ℕ → List ℕ → List Extension × List ℕ
split zero bytes = ([], bytes)
split (suc n) bytes = before_others (first_of bytes) (λ rest. split n rest) bytes

-- the extensions of an area, in order
unfoldable pub extensions_in : List ℕ → List Extension
extensions_in area = (split (length area) area).0
