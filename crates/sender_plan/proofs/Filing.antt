-- Items of a catalog have their bodies.
use Rattle.std.proofs.Common.{◌≡◌, ℕ, zero, suc, ◌+◌, ◌<◌, ◌≤◌, true, List, [], ◌∷◌, ◌++◌, Some, Bor, length, get_or, refl, sym, ap, subst, ◌∙◌, arith}
use Rattle.std.specs.Prelude.{All, map, slice_get, unwrap_or}
use Rattle.std.specs.List.{list_any, position_or_len, flat_map, AllByRecursion}
use Rattle.std.specs.Str.{bytes_eq}
use Rattle.std.proofs.lemmas.List.{length-map}
use Rattle.std.proofs.lemmas.List.Concat.{flat_map-cons}
use Rattle.sender_plan.specs.CatalogInstance.{CatalogItem, CatalogInstance}
use Rattle.sender_plan.specs.Names.{item_names, names_of}
use Rattle.sender_plan.specs.Plan.{body_of}
use Rattle.sender_plan.specs.Inner.Planning.{IsFilable, body_at}
use Rattle.sender_plan.proofs.Sets.{added_all-distinct, bytes_transitive}
use Rattle.sender_plan.proofs.Keys.{same_bytes}
use Rattle.sender_plan.proofs.Identifiers.{all_added}
use Rattle.std.proofs.lemmas.List.Elements.{All-from_recursion, recursion_from_All}

-- ---- the body under a name

past_end : (xs : List (List ℕ)) → get_or xs (length xs) [] ≡ []
past_end [] = refl
past_end (x ∷ xs) = past_end xs

stands_or : (xs : List (List ℕ)) (i : ℕ) (x : List ℕ) → slice_get xs i ≡ Some x → get_or xs i [] ≡ x
stands_or [] i x is = absurd cc
stands_or (y ∷ xs) zero x is = cc
stands_or (y ∷ xs) (suc i) x is = stands_or xs i x is

through : (held : List (List ℕ)) (places : List ℕ) (bodies : List (List ℕ)) → map (slice_get held) places ≡ map (λ b. Some b) bodies
    → (i : ℕ) → get_or held (get_or places i (length held)) [] ≡ get_or bodies i []
through held [] [] is i = past_end held
through held [] (b ∷ bodies) is i = absurd cc
through held (place ∷ places) [] is i = absurd cc
through held (place ∷ places) (b ∷ bodies) is zero = stands_or held place b (cc)
through held (place ∷ places) (b ∷ bodies) is (suc i) = through held places bodies (cc) i

pub same_body : (instances : List CatalogInstance) (bodies : List (List ℕ)) (names : List (Bor (List ℕ))) (places : List ℕ) (held : List (Bor (List ℕ)))
    → map (λ k. k.now) names ≡ names_of instances → map (slice_get (map (λ k. k.now) held)) places ≡ map (λ b. Some b) bodies
    → body_at names places held ≡ body_of instances bodies
same_body instances bodies names places held named is = λ i name. pointwise name i
  where
    pointwise : (name : List ℕ) → body_at names places held name ≡ body_of instances bodies name
    pointwise name =
        let count : length held ≡ length (map (λ (k : Bor (List ℕ)). k.now) held) = sym (length-map held (λ (k : Bor (List ℕ)). k.now)) in
        (λ i. get_or (map (λ (k : Bor (List ℕ)). k.now) held) (get_or places (position_or_len (bytes_eq name) (named i)) (count i)) [])
        ∙ through (map (λ (k : Bor (List ℕ)). k.now) held) places bodies is (position_or_len (bytes_eq name) (names_of instances))

pub places_length : (held : List (List ℕ)) (places : List ℕ) (bodies : List (List ℕ)) → map (slice_get held) places ≡ map (λ b. Some b) bodies
    → length places ≡ length bodies
places_length held places bodies is =
    sym (length-map places (slice_get held)) ∙ ap length is ∙ length-map bodies (λ (b : List ℕ). Some b)

inside : (xs : List (List ℕ)) (i : ℕ) (x : List ℕ) → slice_get xs i ≡ Some x → i < length xs
inside [] i x is = absurd cc
inside (y ∷ xs) zero x is = omega arith
inside (y ∷ xs) (suc i) x is = omega (arith, inside xs i x is)

pub places_within : (held : List (List ℕ)) (places : List ℕ) (bodies : List (List ℕ)) → map (slice_get held) places ≡ map (λ b. Some b) bodies
    → AllByRecursion (λ place. place < length held) places
places_within held [] bodies is = tt
places_within held (place ∷ places) [] is = absurd cc
places_within held (place ∷ places) (b ∷ bodies) is = (inside held place b (cc), places_within held places bodies (cc))

short_or : (bodies : List (List ℕ)) (i : ℕ) → AllByRecursion (λ b. length b ≤ 16777216) bodies → length (get_or bodies i []) ≤ 16777216
short_or [] i short = omega arith
short_or (b ∷ bodies) zero short = short.0
short_or (b ∷ bodies) (suc i) short = short_or bodies i short.1

-- ---- names are known

split_all : {X : Type 0} (P : X → Type 0) (xs ys : List X) → AllByRecursion P (xs ++ ys) → AllByRecursion P xs × AllByRecursion P ys
split_all P [] ys all = (tt, all)
split_all P (x ∷ xs) ys all = let rest = split_all P xs ys all.1 in ((all.0, rest.0), rest.1)

of_items : (P : List ℕ → Type 0) (items : List CatalogItem) → AllByRecursion P (item_names items) → AllByRecursion (λ item. P item.name) items
of_items P [] all = tt
of_items P (item ∷ items) all = (all.0, of_items P items all.1)

of_instances : (P : List ℕ → Type 0) (instances : List CatalogInstance) → AllByRecursion P (flat_map (λ i. item_names i.items) instances)
    → AllByRecursion (λ i. AllByRecursion (λ item. P item.name) i.items) instances
of_instances P [] all = tt
of_instances P (i ∷ instances) all =
    let parts = split_all P (item_names i.items) (flat_map (λ (j : CatalogInstance). item_names j.items) instances)
    (subst (AllByRecursion P) (flat_map-cons (λ (j : CatalogInstance). item_names j.items) i instances) all) in
    (of_items P i.items parts.0, of_instances P instances parts.1)

names_known : (instances : List CatalogInstance)
    → AllByRecursion (λ i. AllByRecursion (λ item. list_any (bytes_eq item.name) (names_of instances) ≡ true) i.items) instances
names_known instances =
    let names = flat_map (λ (i : CatalogInstance). item_names i.items) instances in
    of_instances (λ name. list_any (bytes_eq name) (names_of instances) ≡ true) instances
    (subst (λ (ks : List (List ℕ)). AllByRecursion (λ name. list_any (bytes_eq name) ks ≡ true) names) (added_all-distinct bytes_eq bytes_transitive names)
    (all_added bytes_eq (λ x. same_bytes x x refl) [] names))

pub are_filable : (instances : List CatalogInstance) (bodies : List (List ℕ)) (names : List (Bor (List ℕ))) (places : List ℕ) (held : List (Bor (List ℕ)))
    → map (λ k. k.now) names ≡ names_of instances → map (slice_get (map (λ k. k.now) held)) places ≡ map (λ b. Some b) bodies
    → All (λ body. length body ≤ 16777216) bodies
    → All (λ i. All (λ item. length item.location + length (unwrap_or item.kind []) ≤ 16777216) i.items) instances
    → All (λ i. All (IsFilable names places held) i.items) instances
are_filable instances bodies names places held named is short texts = λ at d within at' d' within'.
    let item = get_or (get_or instances at d).items at' d' in
    let nested = All-from_recursion (λ i. AllByRecursion (λ item. list_any (bytes_eq item.name) (names_of instances) ≡ true) i.items)
    instances (names_known instances) at d within in
    let known = All-from_recursion (λ item. list_any (bytes_eq item.name) (names_of instances) ≡ true) (get_or instances at d).items nested at' d' within' in
    record {
      known = ap (list_any (bytes_eq item.name)) named ∙ known;
      short = subst (λ (b : List ℕ → List ℕ). length (b item.name) ≤ 16777216) (sym (same_body instances bodies names places held named is))
          (short_or bodies (position_or_len (bytes_eq item.name) (names_of instances)) (recursion_from_All (λ b. length b ≤ 16777216) bodies short));
      texts = texts at d within at' d' within';
    }
