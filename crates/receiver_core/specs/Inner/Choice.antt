-- The choice among the candidates.
use Rattle.std.specs.Prelude.{ℕ, ◌&&◌, ◌||◌, ◌==◌, Bool, true, nat_lt, if◌then◌else◌, List, Option, Some, None}
use Rattle.std.specs.List.{fold}
use Rattle.carousel_cid.specs.Instances.{Shown}
use Rattle.receiver_core.specs.declared.candidate.Candidate.{Candidate}

-- a greater number, or the same number and a lesser identifier
abbrev pub is_above : ℕ → ℕ → ℕ → ℕ → Bool
is_above number toi other_number other_toi = nat_lt other_number number || ((number == other_number) && nat_lt toi other_toi)

-- of a descriptor with this number
abbrev pub beats_installed : Option Shown → ℕ → ℕ → Bool
beats_installed None number toi = true
beats_installed (Some i) number toi = is_above number toi i.number i.descriptor_toi

abbrev pub beats : Option Candidate → Candidate → Bool
beats None c = true
beats (Some best) c = is_above c.number c.toi best.number best.toi

-- one candidate more
abbrev pub pick : Option Candidate → Candidate → Option Candidate
pick best c = if beats best c then Some c else best

-- the best of the candidates
abbrev pub chosen : List Candidate → Option Candidate
chosen cs = fold pick None cs
