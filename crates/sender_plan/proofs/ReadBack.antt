-- The objects of a plan read back as the files and the descriptors that they are made of, and one of them alone is the
-- descriptor of the last instance.
use Rattle.std.proofs.Common.{◌≡◌, ℕ, zero, suc, ◌+◌, ◌<◌, ◌≤◌, ◌^◌, true, not, ◌==◌, List, [], ◌∷◌, ◌++◌, Option, Some, None}
use Rattle.std.proofs.Common.{length, refl, sym, ap, subst, ◌∙◌, arith, inl, inr}
use Rattle.std.specs.Prelude.{All, map, slice_get, ◌⊎◌}
use Rattle.std.specs.List.{list_any}
use Rattle.std.proofs.lemmas.Bool.{and_parts, eqb-true}
use Rattle.std.proofs.lemmas.List.{length-map}
use Rattle.std.proofs.lemmas.List.Concat.{flat_map-cons}
use Rattle.std.proofs.lemmas.List.Elements.{All-nil, All-cons, All-head, All-tail, All-map, All-append, All-weaker, recursion_from_All}
use Rattle.carousel_cid.specs.Kinds.{kind_of_object}
use Rattle.carousel_cid.specs.declared.kind.Kind.TheVariants as kinds
use Rattle.carousel_cid.specs.Repeats.{are_different}
use Rattle.carousel_cid.specs.File.{file_bytes}
use Rattle.carousel_cid.specs.Descriptor.{descriptor_bytes}
use Rattle.carousel_cid.proofs.Public.{file_read, descriptor_read, reads_written_file, reads_written_descriptor}
use Rattle.sender_plan.specs.declared.params.Params.{Params}
use Rattle.sender_plan.specs.CatalogInstance.{CatalogItem, CatalogInstance}
use Rattle.sender_plan.specs.Check.{is_within, not_rising}
use Rattle.sender_plan.specs.Content.{Content, File, Descriptor, same, identifier}
use Rattle.sender_plan.specs.Plan.{file_of, files_of, contents_of, contents, listed_of, content_bytes, information, objects_from, sent_of}
use Rattle.sender_plan.specs.PlanOf.{IsFitItem}
use Rattle.sender_plan.specs.Session.{SentObject, Session, IsInstance, HasObject}
use Rattle.sender_plan.proofs.Keys.{equal_files}
use Rattle.sender_plan.proofs.Identifiers.{first_places_length}
use Rattle.sender_plan.proofs.Planned.{same_some}
use Rattle.sender_plan.proofs.Sessions.{not_first, rises}

-- ---- what a content reads as

-- it reads back; and a descriptor is the last instance's, or that of a lower number
abbrev pub ReadsBack : (CatalogInstance → List ℕ) → CatalogInstance → Content → Type 0
ReadsBack lists last (File location kind body) = kind_of_object (file_bytes location kind body) ≡ kinds.File location kind body
ReadsBack lists last (Descriptor i) =
    (kind_of_object (descriptor_bytes i.number (lists i)) ≡ kinds.Descriptor i.number (lists i)) × ((i.number < last.number) ⊎ (i ≡ last))

pub file_reads : (body : List ℕ → List ℕ) (item : CatalogItem) → IsFitItem item → length (body item.name) ≤ 268435456
    → kind_of_object (file_bytes item.location item.kind (body item.name)) ≡ kinds.File item.location item.kind (body item.name)
file_reads body item fit short =
    file_read (file_bytes item.location item.kind (body item.name)) item.location item.kind (body item.name)
    (reads_written_file item.location item.kind (body item.name) fit.texts.somewhere fit.texts.location fit.texts.kind (omega (arith, short)) fit.short)

pub descriptor_reads : (s : Session) (all : List Content) (body : List ℕ → List ℕ) (i : CatalogInstance) → length s.objects < 2 ^ 32
    → IsInstance s (sent_of all body i) → i.number < 2 ^ 32 → length i.items ≤ 4096
    → kind_of_object (descriptor_bytes i.number (listed_of all body i)) ≡ kinds.Descriptor i.number (listed_of all body i)
descriptor_reads s all body i few is small short =
    let listed = listed_of all body i in
    let toi = identifier all (Descriptor i) in
    let known = All-weaker (HasObject s) (λ t. t < 2 ^ 112) (λ t has. omega (arith, has.within, few)) listed (All-tail (HasObject s) toi listed is.known) in
    let count : length listed ≤ 4096 = omega (
      arith,
      short,
      first_places_length (map (identifier all) (files_of body i)),
      length-map (files_of body i) (identifier all),
      length-map i.items (file_of body),
    ) in
    descriptor_read (descriptor_bytes i.number listed) i.number listed
    (reads_written_descriptor i.number listed small count (and_parts (not (list_any (λ u. u == toi) listed)) (are_different listed) is.different).1
    (recursion_from_All (λ t. t < 2 ^ 112) listed known))

pub contents_all : (P : Content → Type 0) (body : List ℕ → List ℕ) (instances : List CatalogInstance)
    → All (λ i. All (λ item. P (file_of body item)) i.items) instances → All (λ i. P (Descriptor i)) instances → All P (contents body instances)
contents_all P body [] files descriptors = All-nil P
contents_all P body (i ∷ instances) files descriptors =
    let file = All-head (λ i. All (λ item. P (file_of body item)) i.items) i instances files in
    let descriptor = All-head (λ i. P (Descriptor i)) i instances descriptors in
    subst (All P) (sym (flat_map-cons (contents_of body) i instances))
    (All-append P (contents_of body i) (contents body instances)
    (All-append P (files_of body i) (Descriptor i ∷ []) (All-map P (file_of body) i.items file) (All-cons P (Descriptor i) [] descriptor (All-nil P)))
    (contents_all P body instances (All-tail (λ i. All (λ item. P (file_of body item)) i.items) i instances files)
    (All-tail (λ i. P (Descriptor i)) i instances descriptors)))

-- ---- numbers rise up to the last

pub below_last : (at : ℕ) (before : Option ℕ) (front : List CatalogInstance) (last : CatalogInstance)
    → not_rising at before (front ++ last ∷ []) ≡ None → All (λ i. (i.number < last.number) ⊎ (i ≡ last)) (front ++ last ∷ [])
below_last at before [] last rising = All-cons (λ i. (i.number < last.number) ⊎ (i ≡ last)) last [] (inr refl) (All-nil (λ i. (i.number < last.number) ⊎ (i ≡ last)))
below_last at before (y ∷ front) last rising =
    let parts = not_first (is_within y.number before) at (not_rising (at + 1) (Some y.number) (front ++ last ∷ [])) rising in
    All-cons (λ i. (i.number < last.number) ⊎ (i ≡ last)) y (front ++ last ∷ []) (inl (rises (at + 1) y.number last front [] parts.1))
    (below_last (at + 1) (Some y.number) front last parts.1)

-- ---- the objects of a plan

pub content_at : (params : Params) (toi : ℕ) (bytes : Content → List ℕ) (kept : List Content) (at : ℕ) (o : SentObject)
    → slice_get (objects_from params toi (map bytes kept)) at ≡ Some o → (c : Content) × (slice_get kept at ≡ Some c) × (o.bytes ≡ bytes c)
content_at params toi bytes [] at o is = absurd cc
content_at params toi bytes (c ∷ kept) zero o is = (c, refl, ap (λ (x : SentObject). x.bytes) (sym (same_some _ o is)))
content_at params toi bytes (c ∷ kept) (suc at) o is = content_at params (toi + 1) bytes kept at o is

pub object_at : (params : Params) (toi : ℕ) (bytes : Content → List ℕ) (kept : List Content) (at : ℕ) (c : Content) → slice_get kept at ≡ Some c
    → (o : SentObject) × (slice_get (objects_from params toi (map bytes kept)) at ≡ Some o) × (o.bytes ≡ bytes c)
object_at params toi bytes [] at c is = absurd cc
object_at params toi bytes (k ∷ kept) zero c is = (record { toi = toi; oti = information params (bytes k); bytes = bytes k }, refl, ap bytes (same_some k c is))
object_at params toi bytes (k ∷ kept) (suc at) c is = object_at params (toi + 1) bytes kept at c is

-- what is the same as a file reads as that file
pub file_alike : (lists : CatalogInstance → List ℕ) (last : CatalogInstance) (location : List ℕ) (kind : Option (List ℕ)) (body : List ℕ) (c : Content)
    → same (File location kind body) c ≡ true → ReadsBack lists last c → kind_of_object (content_bytes lists c) ≡ kinds.File location kind body
file_alike lists last location kind body (File place sort bytes) is reads =
    let back = sym (equal_files location place kind sort body bytes is) in
    ap (λ c. kind_of_object (content_bytes lists c)) back ∙ subst (ReadsBack lists last) back reads
file_alike lists last location kind body (Descriptor i) is reads = absurd cc

-- what is the same as the last instance's descriptor reads as it
pub descriptor_alike : (lists : CatalogInstance → List ℕ) (last : CatalogInstance) (c : Content)
    → same (Descriptor last) c ≡ true → ReadsBack lists last c → kind_of_object (content_bytes lists c) ≡ kinds.Descriptor last.number (lists last)
descriptor_alike lists last (File location kind body) is reads = absurd cc
descriptor_alike lists last (Descriptor i) is reads = elim reads.1 [
  | inl less ↦ absurd (omega (arith, less, eqb-true last.number i.number is))
  | inr the_last ↦ reads.0 ∙ ap (λ (j : CatalogInstance). kinds.Descriptor j.number (lists j)) the_last
]

-- a content that reads as a descriptor is one of a lower number, or the last instance's
pub descriptor_from : (lists : CatalogInstance → List ℕ) (last : CatalogInstance) (c : Content) (number : ℕ) (listed : List ℕ)
    → kind_of_object (content_bytes lists c) ≡ kinds.Descriptor number listed → ReadsBack lists last c
    → (number < last.number) ⊎ ((number ≡ last.number) × (c ≡ Descriptor last))
descriptor_from lists last (File location kind body) number listed is reads = absurd (let both = sym reads ∙ is in cc)
descriptor_from lists last (Descriptor i) number listed is reads =
    let one : i.number ≡ number = let both = sym reads.0 ∙ is in cc in
    elim reads.1 [
      | inl less ↦ inl (omega (arith, less, one))
      | inr the_last ↦ inr (sym one ∙ ap (λ (j : CatalogInstance). j.number) the_last, ap (λ (j : CatalogInstance). Descriptor j) the_last)
    ]
