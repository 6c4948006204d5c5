-- The last instance of a catalog in the session that is planned of it.
use Rattle.std.proofs.Common.{◌≡◌, ℕ, ◌+◌, ◌-◌, ◌<◌, ◌≤◌, Bool, true, false, ◌==◌, List, [], ◌∷◌, ◌++◌, Some, None, length}
use Rattle.std.proofs.Common.{refl, sym, ap, subst, ◌∙◌, append_assoc, get_or, arith, inl, inr}
use Rattle.std.specs.Prelude.{All, map, slice_get, ◌⊎◌}
use Rattle.std.specs.List.{list_any, position_or_len}
use Rattle.std.specs.Str.{bytes_eq}
use Rattle.std.proofs.lemmas.Bool.{eqb-true, eq-eqb, false_from_ne_true}
use Rattle.std.proofs.lemmas.List.Elements.{All-nil, All-cons, All-map, All-from_recursion}
use Rattle.std.proofs.lemmas.List.Folds.{list_any-append}
use Rattle.std.proofs.lemmas.Simd.{map-map}
use Rattle.carousel_cid.specs.Instances.{toi_of}
use Rattle.carousel_cid.specs.Kinds.{kind_of_object}
use Rattle.carousel_cid.specs.Repeats.{first_places}
use Rattle.carousel_cid.specs.declared.kind.Kind.TheVariants as kinds
use Rattle.sender_plan.specs.declared.params.Params.{Params}
use Rattle.sender_plan.specs.CatalogInstance.{CatalogItem, CatalogInstance}
use Rattle.sender_plan.specs.Names.{names_of}
use Rattle.sender_plan.specs.Distinct.{distinct}
use Rattle.sender_plan.specs.Content.{Content, Descriptor, same, identifier}
use Rattle.sender_plan.specs.Plan.{body_of, file_of, files_of, contents, listed_of, content_bytes, objects_from, sent_of, planned}
use Rattle.sender_plan.specs.PlanOf.{IsPlanOf}
use Rattle.sender_plan.specs.Installed.{is_one_file, shown_file, shown_files, Carries}
use Rattle.sender_plan.specs.Session.{SentObject, Session, IsInstance, object_of}
use Rattle.sender_plan.proofs.Sets.{or_second}
use Rattle.sender_plan.proofs.Identifiers.{content_itself}
use Rattle.sender_plan.proofs.Sessions.{contents_more}
use Rattle.sender_plan.proofs.Planned.{none_refuses, few_files, short_bodies}
use Rattle.sender_plan.proofs.Apart.{one_identifier, other_identifiers, in_distinct}
use Rattle.sender_plan.proofs.Distincts.{at_place, of_mapped, all_distinct, own_place, first_at, first_numbered}
use Rattle.sender_plan.proofs.ReadBack.{ReadsBack, file_reads, descriptor_reads, contents_all, below_last, content_at, object_at}
use Rattle.sender_plan.proofs.ReadBack.{file_alike, descriptor_alike, descriptor_from}

each_there : (front cs back : List Content) → All (λ c. list_any (same c) (front ++ (cs ++ back)) ≡ true) cs
each_there front [] back = All-nil (λ c. list_any (same c) (front ++ back) ≡ true)
each_there front (c ∷ cs) back =
    All-cons (λ d. list_any (same d) (front ++ c ∷ (cs ++ back)) ≡ true) c cs
    (list_any-append (same c) front (c ∷ (cs ++ back))
    ∙ or_second (list_any (same c) front) (list_any (same c) (c ∷ (cs ++ back))) (rw (content_itself c) refl))
    (subst (λ (all : List Content). All (λ d. list_any (same d) all ≡ true) cs) (append_assoc front (c ∷ []) (cs ++ back)) (each_there (front ++ c ∷ []) cs back))

module _ (bodies : List (List ℕ)) (front : List CatalogInstance) (last : CatalogInstance) where
  abbrev pub catalog : List CatalogInstance
  catalog = front ++ last ∷ []

  -- the body of a name, all contents, and what an instance lists
  abbrev pub body : List ℕ → List ℕ
  body = body_of catalog bodies

  abbrev pub all : List Content
  all = contents body catalog

  abbrev pub lists : CatalogInstance → List ℕ
  lists = listed_of all body

  -- ---- what the last instance has is among all

  whole : all ≡ contents body front ++ (files_of body last ++ Descriptor last ∷ [])
  whole = contents_more body front last []

  descriptor_there : list_any (same (Descriptor last)) all ≡ true
  descriptor_there =
      let p = same (Descriptor last) in
      let files = files_of body last in
      ap (list_any p) whole ∙ list_any-append p (contents body front) (files ++ Descriptor last ∷ [])
      ∙ or_second (list_any p (contents body front)) (list_any p (files ++ Descriptor last ∷ []))
      (list_any-append p files (Descriptor last ∷ [])
      ∙ or_second (list_any p files) (list_any p (Descriptor last ∷ [])) (rw (content_itself (Descriptor last)) refl))

  -- the item's file is among all
  abbrev IsThere : CatalogItem → Type 0
  IsThere item = list_any (same (file_of body item)) all ≡ true

  items_there : All IsThere last.items
  items_there =
      of_mapped (λ c. list_any (same c) all ≡ true) (file_of body) last.items
      (subst (λ (ks : List Content). All (λ c. list_any (same c) ks ≡ true) (files_of body last)) (sym whole)
      (each_there (contents body front) (files_of body last) (Descriptor last ∷ [])))

  -- ---- what it lists

  agree : (x y : CatalogItem) → IsThere x → IsThere y → (identifier all (file_of body y) == identifier all (file_of body x)) ≡ is_one_file body y x
  agree x y here there = by (is_one_file body y x) refl
    where
      by : (t : Bool) → is_one_file body y x ≡ t → (identifier all (file_of body y) == identifier all (file_of body x)) ≡ t
      by true is = eq-eqb (identifier all (file_of body y)) (identifier all (file_of body x)) (one_identifier all (file_of body y) (file_of body x) is)
      by false is =
          false_from_ne_true (identifier all (file_of body y) == identifier all (file_of body x)) (λ one. absurd (
          let number = eqb-true (identifier all (file_of body y)) (identifier all (file_of body x)) one in
          let both = sym is ∙ other_identifiers all (file_of body y) (file_of body x) there here number in cc))

  files_listed : lists last ≡ map toi_of (shown_files all body last)
  files_listed =
      ap first_places (map-map (identifier all) (file_of body) last.items)
      ∙ first_numbered (λ item. identifier all (file_of body item)) (is_one_file body) IsThere agree last.items items_there
      ∙ sym (map-map toi_of (shown_file all body) (distinct (is_one_file body) last.items))

  -- ---- its objects, and the other descriptors

  module _ (params : Params) (s : Session) (plan : IsPlanOf catalog bodies params s) where
    objects_made : s.objects ≡ objects_from params 1 (map (content_bytes lists) (distinct same all))
    unfolding planned
    objects_made = ap (λ (t : Session). t.objects) plan.made

    instances_made : s.instances ≡ map (sent_of all body) catalog
    unfolding planned
    instances_made = ap (λ (t : Session). t.instances) plan.made

    contents_read : All (ReadsBack lists last) all
    contents_read =
        let none = none_refuses catalog bodies params plan.none in
        let few = All-from_recursion (λ i. length i.items ≤ 4096) catalog (few_files 1 catalog none.few) in
        let are = of_mapped (IsInstance s) (sent_of all body) catalog (subst (All (IsInstance s)) instances_made plan.sound.instances) in
        contents_all (ReadsBack lists last) body catalog
        (λ at d within at' d' within'.
        let item = get_or (get_or catalog at d).items at' d' in
        file_reads body item ((plan.fit at d within).files at' d' within')
        (short_bodies catalog bodies params plan.none (position_or_len (bytes_eq item.name) (names_of catalog))))
        (λ at d within. (
          descriptor_reads s all body (get_or catalog at d) plan.sound.few (are at d within) (plan.fit at d within).small (few at d within),
          below_last 1 None front last none.rising at d within,
        ))

    reads_at : (at : ℕ) (c : Content) → slice_get (distinct same all) at ≡ Some c → ReadsBack lists last c
    reads_at at c is = at_place (ReadsBack lists last) (distinct same all) at c (all_distinct (ReadsBack lists last) same all contents_read) is

    -- the object of a content is that of one that is the same
    object_found : (c : Content) → list_any (same c) all ≡ true
        → (o : SentObject) × (d : Content) × (object_of s (identifier all c) ≡ Some o) × (o.bytes ≡ content_bytes lists d) × (same c d ≡ true) × ReadsBack lists last d
    object_found c there =
        let kept = distinct same all in
        let place = position_or_len (same c) kept in
        let first = first_at (same c) kept (in_distinct all c there) in
        let o = object_at params 1 (content_bytes lists) kept place first.0 first.1 in
        let before : place + 1 - 1 ≡ place = omega arith in (
          o.0,
          first.0,
          ap (slice_get s.objects) before ∙ ap (λ (os : List SentObject). slice_get os place) objects_made ∙ o.1,
          o.2,
          first.2,
          reads_at place first.0 first.1,
        )

    -- the object of an item's file reads as that file
    file_object : (item : CatalogItem) → IsThere item
        → Carries s (identifier all (file_of body item)) (kinds.File item.location item.kind (body item.name))
    file_object item there =
        let found = object_found (file_of body item) there in
        record {
          some = omega arith;
          object = found.0;
          there = found.2;
          reads = ap kind_of_object found.3 ∙ file_alike lists last item.location item.kind (body item.name) found.1 found.4 found.5;
        }

    pub file_objects : All (λ f. Carries s f.toi (kinds.File f.location f.kind f.body)) (shown_files all body last)
    file_objects =
        let items = distinct (is_one_file body) last.items in
        All-map (λ f. Carries s f.toi (kinds.File f.location f.kind f.body)) (shown_file all body) items
        (λ at d within. file_object (get_or items at d) (all_distinct IsThere (is_one_file body) last.items items_there at d within))

    -- and that of its descriptor reads as the descriptor
    pub descriptor_object : Carries s (identifier all (Descriptor last)) (kinds.Descriptor last.number (map toi_of (shown_files all body last)))
    descriptor_object =
        let found = object_found (Descriptor last) descriptor_there in
        record {
          some = omega arith;
          object = found.0;
          there = found.2;
          reads = ap kind_of_object found.3 ∙ descriptor_alike lists last found.1 found.4 found.5 ∙ ap (λ ts. kinds.Descriptor last.number ts) files_listed;
        }

    -- an object that reads as a descriptor has a lower number, or is the last instance's
    pub any_descriptor : (toi number : ℕ) (listed : List ℕ) → Carries s toi (kinds.Descriptor number listed)
        → (number < last.number) ⊎ ((number ≡ last.number) × (toi ≡ identifier all (Descriptor last)))
    any_descriptor toi number listed has =
        let kept = distinct same all in
        let there = ap (λ (os : List SentObject). slice_get os (toi - 1)) (sym objects_made) ∙ has.there in
        let c = content_at params 1 (content_bytes lists) kept (toi - 1) has.object there in
        let own : position_or_len (same c.0) kept ≡ toi - 1 = own_place same content_itself all (toi - 1) c.0 c.1 in
        elim (descriptor_from lists last c.0 number listed (ap kind_of_object (sym c.2) ∙ has.reads) (reads_at (toi - 1) c.0 c.1)) [
          | inl less ↦ inl less
          | inr the_last ↦ let place : toi ≡ identifier all c.0 = omega (arith, own, has.some) in inr (the_last.0, place ∙ ap (identifier all) the_last.1)
        ]
