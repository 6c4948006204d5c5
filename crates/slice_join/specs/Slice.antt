-- The body of a slice:
--
--     0                   1                   2                   3
--     0 1 2 3 4 5 6 7 8 9 0 1 2 3 4 5 6 7 8 9 0 1 2 3 4 5 6 7 8 9 0 1
--    +---------------------------------------------------------------+
--    |                       place, from 1 on                        |
--    +---------------------------------------------------------------+
--    |                   how many slices there are                   |
--    +---------------------------------------------------------------+
--    |                                                               |
--    +                   length of the whole body                    +
--    |                                                               |
--    +---------------------------------------------------------------+
--    |                             part                              |
--    +---------------------------------------------------------------+
use Rattle.std.specs.Prelude.{◌≡◌, ℕ, ◌+◌, ◌^◌, ◌<◌, nat_lt, if◌then◌else◌, List, [], ◌∷◌, ◌++◌, length, drop, Option, Some, None}
use Rattle.std.specs.List.{flat_map}
use Rattle.byteorder.specs.Endian.{big_bytes, big_number}

-- what the body of a slice says
pub record Slice : Type 0 where
  pub place : ℕ
  pub count : ℕ
  pub total : ℕ
  pub part : List ℕ

-- how many bytes stand in front of the part
abbrev pub head_length : ℕ
head_length = 16

-- the body that says it
abbrev pub slice_bytes : Slice → List ℕ
slice_bytes s = big_bytes 4 s.place ++ (big_bytes 4 s.count ++ (big_bytes 8 s.total ++ s.part))

-- the body says this slice
pub record SpellsSlice (body : List ℕ) (s : Slice) : Type 0 where
  pub place : s.place < 2 ^ 32
  pub count : s.count < 2 ^ 32
  pub total : s.total < 2 ^ 64
  pub joined : body ≡ slice_bytes s

-- what a body of at least 16 bytes says
abbrev pub slice_of : List ℕ → Slice
slice_of body = record {
  place = big_number 4 body;
  count = big_number 4 (drop 4 body);
  total = big_number 8 (drop 8 body);
  part = drop head_length body;
}

-- what a body says, where it is long enough
unfoldable pub slice_in : List ℕ → Option Slice
slice_in body = if nat_lt (length body) head_length then None else Some (slice_of body)

-- the parts one behind the other
abbrev pub whole : List (List ℕ) → List ℕ
whole parts = flat_map (λ part. part) parts

-- the slices of parts from a place on
abbrev pub slices_from : ℕ → ℕ → ℕ → List (List ℕ) → List Slice
slices_from place count total [] = []
slices_from place count total (part ∷ parts) = record { place = place; count = count; total = total; part = part } ∷ slices_from (place + 1) count total parts

-- the slices of the body that the parts make
abbrev pub slices_of : List (List ℕ) → List Slice
slices_of parts = slices_from 1 (length parts) (length (whole parts)) parts
