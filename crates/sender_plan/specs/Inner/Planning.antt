-- The stages of a plan.
use Rattle.std.specs.Prelude.{◌≡◌, ℕ, ◌+◌, ◌<◌, ◌≤◌, ◌==◌, ◌&&◌, Bool, true, if◌then◌else◌, List, [], Option, Some, None, length, map}
use Rattle.std.specs.Prelude.{slice_index_or, option_copied, unwrap_or}
use Rattle.std.specs.List.{list_any, position_or_len, IsDistinct, AllByRecursion}
use Rattle.std.specs.Option.{option_eq}
use Rattle.std.specs.Borrow.{Bor}
use Rattle.std.specs.Str.{bytes_eq}
use Rattle.indexmap.specs.IndexMap.{get}
use Rattle.wire_bytes.specs.Bytes.{AreBytes}
use Rattle.oti_blocks.specs.Partition.{IsSound, length_of, symbol_of}
use Rattle.carousel_cid.specs.Repeats.{are_different}
use Rattle.sender_plan.specs.declared.key.FileKey.{FileKey}
use Rattle.sender_plan.specs.declared.planner.Planner.{Planner}
use Rattle.sender_plan.specs.CatalogInstance.{CatalogItem, CatalogInstance}
use Rattle.sender_plan.specs.Content.{Content, File, same}
use Rattle.sender_plan.specs.Plan.{content_bytes, objects_from}
use Rattle.sender_plan.specs.Session.{SentObject, SentInstance, objects_of}

abbrev pub shown_kind : Option (Bor (List ℕ)) → Option (List ℕ)
shown_kind kind = option_copied kind

abbrev pub key_same : FileKey → FileKey → Bool
key_same a b = bytes_eq a.location.now b.location.now && (option_eq (λ x y. bytes_eq x.now y.now) a.kind b.kind && (a.body == b.body))

-- the file of a key, with the bodies that keys count
abbrev pub file_at : List (List ℕ) → FileKey → Content
file_at bodies key = File key.location.now (shown_kind key.kind) (slice_index_or bodies key.body [])

-- the identifier of a content that is among these
abbrev pub place_in : List Content → Content → ℕ
place_in kept content = position_or_len (same content) kept + 1

-- the identifier of a content among those so far
abbrev pub found_in : List Content → Content → Option ℕ
found_in kept content = if list_any (same content) kept then Some (place_in kept content) else None

-- A planner has the objects of these contents, and finds its files among them. This says what an instance lists.
pub record Keeps (listed : CatalogInstance → List ℕ) (kept : List Content) (planner : Planner) : Type 0 where
  pub objects : planner.objects.items ≡ objects_from planner.params 1 (map (content_bytes listed) kept)
  pub files : (key : FileKey) → key.body < length planner.bodies.now → get key_same planner.files key ≡ found_in kept (file_at (map (λ b. b.now) planner.bodies.now) key)

-- an object may be one of a session
pub record IsSendable (o : SentObject) : Type 0 where
  pub sound : IsSound o.oti
  pub bytes : AreBytes o.bytes
  pub long : length o.bytes ≡ length_of o.oti
  pub symbol : symbol_of o.oti ≤ 65475

-- bodies are told apart, parameters are those of a session, and so are the objects
pub record IsReady (planner : Planner) : Type 0 where
  pub distinct : IsDistinct bytes_eq (map (λ b. b.now) planner.bodies.now)
  pub symbol_from : 8 ≤ planner.params.symbol
  pub symbol_to : planner.params.symbol ≤ 65475
  pub some_block : 1 ≤ planner.params.max_block
  pub block_within : planner.params.max_block ≤ planner.params.max_n
  pub sendable : AllByRecursion IsSendable planner.objects.items

-- The body under a name, where these names have their bodies in these places among the distinct ones.
abbrev pub body_at : List (Bor (List ℕ)) → List ℕ → List (Bor (List ℕ)) → List ℕ → List ℕ
body_at names places bodies name =
    slice_index_or (map (λ b. b.now) bodies) (slice_index_or places (position_or_len (bytes_eq name) (map (λ k. k.now) names)) (length bodies)) []

-- an item has a body, and it and its texts aren't too long
pub record IsFilable (names : List (Bor (List ℕ))) (places : List ℕ) (bodies : List (Bor (List ℕ))) (item : CatalogItem) : Type 0 where
  pub known : list_any (bytes_eq item.name) (map (λ k. k.now) names) ≡ true
  pub short : length (body_at names places bodies item.name) ≤ 16777216
  pub texts : length item.location + length (unwrap_or item.kind []) ≤ 16777216

-- the objects of an instance are among so many, which are numbered from 1, and differ
pub record HasPlaces (count : ℕ) (i : SentInstance) : Type 0 where
  pub known : AllByRecursion (λ toi. (1 ≤ toi) × (toi ≤ count)) (objects_of i)
  pub different : are_different (objects_of i) ≡ true
