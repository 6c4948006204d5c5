-- The packet log: a magic and joined items, each a length of two bytes and so many bytes.
use Rattle.std.specs.Prelude.{◌≡◌, ℕ, zero, suc, ◌+◌, ◌*◌, ◌/◌, ◌%◌, ◌^◌, ◌<◌, ◌≤◌, ◌≢◌, ◌⊎◌, ◌&&◌, Bool, List, [], ◌∷◌, ◌++◌}
use Rattle.std.specs.Prelude.{codes, flat_map, length, take, drop, slice_index, nat_eq, nat_lt, nat_le, Option, Some, None}
use Rattle.std.specs.Prelude.{if◌then◌else◌}
use Rattle.std.specs.List.{AllByRecursion, starts_with}

-- the eight bytes at the front of a log
abbrev pub magic : List ℕ
magic = codes "FCASTLG1"

-- an item: the datagram's length, big-endian in two bytes, and the datagram
abbrev pub item : List ℕ → List ℕ
item d = length d / 256 ∷ length d % 256 ∷ d

-- the log of these datagrams
abbrev pub log : List (List ℕ) → List ℕ
log ds = magic ++ flat_map item ds

-- each datagram's length fits two bytes
abbrev pub AreShort : List (List ℕ) → Type 0
AreShort = AllByRecursion (λ d. length d < 2 ^ 16)

-- the text is the log of these datagrams
pub record IsLog (text : List ℕ) (ds : List (List ℕ)) : Type 0 where
  pub short : AreShort ds
  pub is : text ≡ log ds

-- no whole item stands at the front of the text
abbrev pub StartsNoItem : List ℕ → Type 0
StartsNoItem text = (d more : List ℕ) → length d < 2 ^ 16 → text ≡ item d ++ more → ⊥

-- the magic doesn't stand at the front of the text
abbrev pub StartsNoMagic : List ℕ → Type 0
StartsNoMagic text = (more : List ℕ) → text ≡ magic ++ more → ⊥

-- the text is the log of these datagrams and a rest that starts with no whole item
pub record IsCut (text : List ℕ) (ds : List (List ℕ)) (rest : List ℕ) : Type 0 where
  pub short : AreShort ds
  pub is : text ≡ log ds ++ rest
  pub no_item : StartsNoItem rest

-- the log of ds is the longest prefix of the text that is a log
pub record IsLongestLog (text : List ℕ) (ds : List (List ℕ)) : Type 0 where
  pub short : AreShort ds
  pub rest : List ℕ
  pub prefix : text ≡ log ds ++ rest
  pub longest : (es : List (List ℕ)) (more : List ℕ) → AreShort es → text ≡ log es ++ more → length (log es) ≤ length (log ds)

-- no prefix of the text is a log
abbrev pub HasNoLog : List ℕ → Type 0
HasNoLog text = (es : List (List ℕ)) (more : List ℕ) → AreShort es → text ≡ log es ++ more → ⊥

-- the datagrams of a text are those of its longest prefix that is a log, and none where no prefix is a log
abbrev pub HasDatagrams : List ℕ → List (List ℕ) → Type 0
HasDatagrams text ds = IsLongestLog text ds ⊎ (HasNoLog text × (ds ≡ []))

-- a text that is no log is torn: at 0 where it doesn't start with the magic, else at the place where the first item starts that isn't whole
pub record IsTornBehind (text : List ℕ) (place : ℕ) : Type 0 where
  pub datagrams : List (List ℕ)
  pub rest : List ℕ
  pub cut : IsCut text datagrams rest
  pub some : rest ≢ []
  pub there : place ≡ length (log datagrams)

abbrev pub HasTornPlace : List ℕ → Option ℕ → Type 0
HasTornPlace text None = (ds : List (List ℕ)) × IsLog text ds
HasTornPlace text (Some place) = (StartsNoMagic text × (place ≡ 0)) ⊎ IsTornBehind text place

-- the length that the first two bytes state
abbrev pub stated : List ℕ → ℕ
stated bytes = 256 * slice_index bytes 0 + slice_index bytes 1

-- whether a whole item stands at the front: two bytes of length, and so many bytes
abbrev pub has_item : List ℕ → Bool
has_item bytes = nat_le 2 (length bytes) && (nat_lt (slice_index bytes 0) 256 && (nat_lt (slice_index bytes 1) 256 && nat_le (2 + stated bytes) (length bytes)))

-- the datagram of the item at the front
abbrev pub first_datagram : List ℕ → List ℕ
first_datagram bytes = take (stated bytes) (drop 2 bytes)

-- what follows the item at the front
abbrev pub after_item : List ℕ → List ℕ
after_item bytes = drop (2 + stated bytes) bytes

-- the datagrams of the first n whole items
unfoldable pub items_within : ℕ → List ℕ → List (List ℕ)
items_within zero bytes = []
items_within (suc n) bytes = if has_item bytes then first_datagram bytes ∷ items_within n (after_item bytes) else []

-- what follows them
unfoldable pub rest_within : ℕ → List ℕ → List ℕ
rest_within zero bytes = bytes
rest_within (suc n) bytes = if has_item bytes then rest_within n (after_item bytes) else bytes

-- the datagrams of the whole items at the front, and the rest: an item has two bytes at least, so there are no more items than bytes
unfoldable pub items_of : List ℕ → List (List ℕ)
items_of bytes = items_within (length bytes) bytes

unfoldable pub rest_of : List ℕ → List ℕ
rest_of bytes = rest_within (length bytes) bytes

-- where items that begin at this place are torn: where the rest begins, if there is one
unfoldable pub torn_from : ℕ → List ℕ → Option ℕ
torn_from place bytes = if nat_eq (length (rest_of bytes)) 0 then None else Some (place + length (flat_map item (items_of bytes)))

-- the datagrams of a text
unfoldable pub datagrams_of : List ℕ → List (List ℕ)
datagrams_of text = if starts_with nat_eq text magic then items_of (drop 8 text) else []

-- the place at which a text is torn, where it is no log
unfoldable pub torn_at : List ℕ → Option ℕ
torn_at text = if starts_with nat_eq text magic then torn_from 8 (drop 8 text) else Some 0
