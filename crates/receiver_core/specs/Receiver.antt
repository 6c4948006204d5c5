-- What contracts see of a receiver.
use Rattle.std.specs.Prelude.{◌≡◌, ◌≢◌, ℕ, Bool, if◌then◌else◌, List, Option, Some, None, IsSomeAnd}
use Rattle.std.specs.FinMap.{get}
use Rattle.oti_blocks.specs.Partition.{ObjectInformation}
use Rattle.carousel_cid.specs.Instances.{Shown}
use Rattle.carousel_cid.specs.Kinds.{kind_of_object}
use Rattle.carousel_cid.specs.declared.kind.Kind.{Kind}
use Rattle.carousel_cid.specs.declared.kind.Kind.TheVariants as kinds
use Rattle.held_packets.specs.Held.{Held}
use Rattle.held_packets.specs.Whole.{whole}
use Rattle.object_store.specs.Store.{is_in}
use Rattle.receiver_core.specs.declared.standing.Standing.{Standing}
use Rattle.receiver_core.specs.declared.standing.Standing.TheVariants.{Unknown, Partial, Whole, File, Descriptor, Unusable}

-- A receiver of one session: its session and budget, what it holds, the instance that is installed, the objects that
-- were ready when it settled last, and how many packets were over the budget.
pub record Receiver : Type 0 where
  pub tsi : ℕ
  pub budget : ℕ
  pub held : Held
  pub installed : Option Shown
  pub settled : List ℕ
  pub drops : ℕ

-- the answer of a settling: the number of another instance, where there is another
abbrev pub Announces : Option ℕ → Option Shown → Option Shown → Type 0
Announces None old new = new ≡ old
Announces (Some number) old new = (new ≢ old) × IsSomeAnd new (λ i. i.number ≡ number)

abbrev pub standing_of_kind : Kind → Standing
standing_of_kind (kinds.File location kind body) = File
standing_of_kind (kinds.Descriptor number listed) = Descriptor number
standing_of_kind (kinds.Unusable cause) = Unusable cause

-- of an object, by whether it was settled, its transmission information and its bytes
abbrev pub standing_by : Bool → Option ObjectInformation → Option (List ℕ) → Standing
standing_by settled None bytes = Unknown
standing_by settled (Some o) None = Partial
standing_by settled (Some o) (Some bytes) = if settled then standing_of_kind (kind_of_object bytes) else Whole

abbrev pub standing_of : Held → List ℕ → ℕ → Standing
standing_of held settled t = standing_by (is_in t settled) (get held.objects t) (whole held t)
