-- How far a log has been read.
use Rattle.std.specs.Prelude.{◌≡◌, ℕ, ◌+◌, ◌^◌, ◌<◌, ◌≤◌, ◌≢◌, false, true, List, [], length, take, Option, Some, None}
use Rattle.edge_io.specs.Log.{datagrams_of, torn_at, items_of, torn_from, has_item, first_datagram, after_item}
use Rattle.edge_io.specs.declared.log_reader.Stage.{Stage}
use Rattle.edge_io.specs.declared.log_reader.Stage.TheVariants.{Start, AtItem, TornAt, LostAt}
use Rattle.edge_io.specs.declared.log_reader.Found.{Found}
use Rattle.edge_io.specs.declared.log_reader.Found.TheVariants.{Whole, End, Cut}

-- the datagrams that are left, by the bytes that are left
abbrev pub datagrams_left : Stage → List ℕ → List (List ℕ)
datagrams_left Start bytes = datagrams_of bytes
datagrams_left (AtItem place) bytes = items_of bytes
datagrams_left (TornAt place) bytes = []
datagrams_left (LostAt place) bytes = []

-- the torn place, by the bytes that are left
abbrev pub torn_place : Stage → List ℕ → Option ℕ
torn_place Start bytes = torn_at bytes
torn_place (AtItem place) bytes = torn_from place bytes
torn_place (TornAt place) bytes = Some place
torn_place (LostAt place) bytes = None

-- nothing is known any more once the source failed; until then places fit a u64
abbrev pub IsKnown : Stage → List ℕ → Type 0
IsKnown Start bytes = Unit {0}
IsKnown (AtItem place) bytes = place + length bytes < 2 ^ 64
IsKnown (TornAt place) bytes = Unit {0}
IsKnown (LostAt place) bytes = ⊥

-- the item at the front is whole, and its datagram of n bytes stands at the front of the buffer
pub record FindsItem (n : ℕ) (buffer left left' : List ℕ) : Type 0 where
  pub whole : has_item left ≡ true
  pub datagram : first_datagram left ≡ take n buffer
  pub rest : left' ≡ after_item left

-- what was found where an item should begin
abbrev pub Finds : Found → List ℕ → List ℕ → List ℕ → Type 0
Finds (Whole n) buffer left left' = FindsItem n buffer left left'
Finds End buffer left left' = (left ≡ []) × (left' ≡ [])
Finds Cut buffer left left' = (left ≢ []) × (has_item left ≡ false)

-- a datagram has at most 65,535 bytes
abbrev pub IsShort : Found → Type 0
IsShort (Whole n) = n ≤ 65535
IsShort End = Unit {0}
IsShort Cut = Unit {0}
