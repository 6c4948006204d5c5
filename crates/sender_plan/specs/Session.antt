-- A session as its sender plans it: objects, and the instances that list them (RFC 6968, section 3).
use Rattle.std.specs.Prelude.{◌≡◌, ℕ, ◌+◌, ◌-◌, ◌≤◌, ◌<◌, ◌^◌, true, List, ◌∷◌, Option, Some, length, slice_get, All}
use Rattle.wire_bytes.specs.Bytes.{AreBytes}
use Rattle.oti_blocks.specs.Partition.{ObjectInformation, IsSound, length_of, symbol_of}
use Rattle.carousel_cid.specs.Repeats.{are_different}

-- an object to be sent: its identifier (TOI), its transmission information and its bytes
pub record SentObject : Type 0 where
  pub toi : ℕ
  pub oti : ObjectInformation
  pub bytes : List ℕ

-- an instance to be sent: its number, the object of its descriptor, and the objects that this lists
pub record SentInstance : Type 0 where
  pub number : ℕ
  pub descriptor_toi : ℕ
  pub listed : List ℕ

-- the session's identifier (TSI), its objects, its instances in order, and how many times each of them is sent
pub record Session : Type 0 where
  pub tsi : ℕ
  pub objects : List SentObject
  pub instances : List SentInstance
  pub cycles : ℕ

-- the objects of a cycle of an instance, in the order in which they are sent
abbrev pub objects_of : SentInstance → List ℕ
objects_of i = i.descriptor_toi ∷ i.listed

-- the object with this identifier: they are numbered from 1
abbrev pub object_of : Session → ℕ → Option SentObject
object_of s toi = slice_get s.objects (toi - 1)

-- the identifier is one of an object
pub record HasObject (s : Session) (toi : ℕ) : Type 0 where
  pub some : 1 ≤ toi
  pub within : toi ≤ length s.objects

-- the object in this position has the next number, as many bytes as it says, and a symbol that fits a datagram
pub record IsObject (position : ℕ) (o : SentObject) : Type 0 where
  pub toi : o.toi ≡ position + 1
  pub sound : IsSound o.oti
  pub bytes : AreBytes o.bytes
  pub long : length o.bytes ≡ length_of o.oti
  pub symbol : symbol_of o.oti ≤ 65475

-- the objects of an instance are the session's, and differ
pub record IsInstance (s : Session) (i : SentInstance) : Type 0 where
  pub known : All (HasObject s) (objects_of i)
  pub different : are_different (objects_of i) ≡ true

pub record IsSession (s : Session) : Type 0 where
  pub tsi : s.tsi < 2 ^ 32
  pub few : length s.objects < 2 ^ 32
  pub objects : (position : ℕ) (o : SentObject) → slice_get s.objects position ≡ Some o → IsObject position o
  pub instances : All (IsInstance s) s.instances
  pub cycles : 1 ≤ s.cycles
