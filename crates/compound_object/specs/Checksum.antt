-- The checksum of a compound object (RFC 6968, section 3, in outline): the 16-bit one's complement of the one's
-- complement sum of the 16-bit words, as in RFC 1071. Here it is said by arithmetic alone.
use Rattle.std.specs.Prelude.{◌≡◌, ℕ, ◌+◌, ◌-◌, ◌*◌, ◌%◌, ◌<◌, ◌≤◌, ◌==◌, if◌then◌else◌, List, [], ◌∷◌}

-- the plain sum of the words, the high byte of each first; an odd end is filled with a zero byte
abbrev pub word_sum : List ℕ → ℕ
word_sum [] = 0
word_sum (high ∷ []) = 256 * high
word_sum (high ∷ low ∷ bytes) = 256 * high + low + word_sum bytes

-- the one's complement sum of words with this plain sum: 0 where all words are 0, else the number from 1
-- to 65,535 that differs from the plain sum by a multiple of 65,535
pub record IsOnesSum (plain ones : ℕ) : Type 0 where
  pub none : plain ≡ 0 → ones ≡ 0
  pub some : 0 < plain → (1 ≤ ones) × (ones ≤ 65535)
  pub differs : (k : ℕ) × (plain ≡ ones + k * 65535)

-- the same as a function; a law says that it gives the one number that the definition allows
abbrev pub ones_sum : ℕ → ℕ
ones_sum plain = if plain == 0 then 0 else (plain - 1) % 65535 + 1

abbrev pub checksum : List ℕ → ℕ
checksum bytes = 65535 - ones_sum (word_sum bytes)
