-- A planner that gets one object more.
use Rattle.std.proofs.Common.{◌≡◌, ℕ, zero, suc, ◌+◌, ◌<◌, Bool, true, false, not, ◌||◌, cond, List, [], ◌∷◌, ◌++◌, Option, Some, None, Result}
use Rattle.std.proofs.Common.{Ok, Err, Bor, length, get_or, refl, sym, ap, subst, ◌∙◌, arith}
use Rattle.std.specs.Prelude.{map, OnOk}
use Rattle.std.specs.Option.{option_copied}
use Rattle.std.specs.List.{list_any, position_or_len, IsDistinct}
use Rattle.std.specs.Str.{bytes_eq}
use Rattle.std.specs.declared.alloc.AllocError.{AllocError}
use Rattle.std.specs.HashMap.{get}
use Rattle.std.proofs.lemmas.List.{map-append, length-map}
use Rattle.std.proofs.lemmas.List.Folds.{list_any-append}
use Rattle.sender_plan.specs.declared.params.Params.{Params}
use Rattle.sender_plan.specs.declared.planner.Planner.{Planner}
use Rattle.sender_plan.specs.declared.key.FileKey.{FileKey}
use Rattle.sender_plan.specs.CatalogInstance.{CatalogInstance}
use Rattle.sender_plan.specs.Content.{Content, Descriptor, same}
use Rattle.carousel_cid.specs.Descriptor.{descriptor_bytes}
use Rattle.sender_plan.specs.Plan.{content_bytes, information, objects_from}
use Rattle.sender_plan.specs.Session.{SentObject}
use Rattle.sender_plan.specs.Inner.Sets.{added}
use Rattle.sender_plan.specs.Inner.Planning.{Keeps, key_same, file_at, found_in}
use Rattle.sender_plan.proofs.Keys.{equal_keys, other_keys, files_itself}

-- ---- objects in order

pub length-objects : (params : Params) (toi : ℕ) (texts : List (List ℕ)) → length (objects_from params toi texts) ≡ length texts
length-objects params toi [] = refl
length-objects params toi (bytes ∷ more) = ap suc (length-objects params (toi + 1) more)

objects_more : (params : Params) (toi : ℕ) (texts : List (List ℕ)) (bytes : List ℕ) → objects_from params toi (texts ++ bytes ∷ [])
    ≡ objects_from params toi texts ++ record { toi = toi + length texts; oti = information params bytes; bytes = bytes } ∷ []
objects_more params toi [] bytes = let same : toi ≡ toi + 0 = omega arith in ap (λ n. record { toi = n; oti = information params bytes; bytes = bytes } ∷ []) same
objects_more params toi (first ∷ more) bytes =
    let place : toi + 1 + length more ≡ toi + suc (length more) = omega arith in
    ap (λ os. record { toi = toi; oti = information params first; bytes = first } ∷ os) (objects_more params (toi + 1) more bytes
    ∙ ap (λ n. objects_from params (toi + 1) more ++ record { toi = n; oti = information params bytes; bytes = bytes } ∷ []) place)

pub objects_pushed : (params : Params) (listed : CatalogInstance → List ℕ) (kept : List Content) (content : Content) (old new : List SentObject) (bytes : List ℕ)
    → old ≡ objects_from params 1 (map (content_bytes listed) kept) → bytes ≡ content_bytes listed content
    → new ≡ old ++ record { toi = length old + 1; oti = information params bytes; bytes = bytes } ∷ []
    → new ≡ objects_from params 1 (map (content_bytes listed) (kept ++ content ∷ []))
objects_pushed params listed kept content old new bytes before is pushed =
    let texts = map (content_bytes listed) kept in
    let place : length old + 1 ≡ 1 + length texts = omega (arith, ap length before, length-objects params 1 texts) in
    pushed
    ∙ (λ i. before i ++ record { toi = place i; oti = information params (is i); bytes = is i } ∷ [])
    ∙ sym (objects_more params 1 texts (content_bytes listed content))
    ∙ ap (objects_from params 1) (sym (map-append (content_bytes listed) kept (content ∷ [])))

-- ---- what is found

pub found_some : (kept : List Content) (content : Content) (toi : ℕ) → found_in kept content ≡ Some toi
    → (list_any (same content) kept ≡ true) × (toi ≡ position_or_len (same content) kept + 1)
found_some kept content toi is = by (list_any (same content) kept) refl is
  where
    by : (t : Bool) → list_any (same content) kept ≡ t → cond t (Some (position_or_len (same content) kept + 1)) None ≡ Some toi
        → (list_any (same content) kept ≡ true) × (toi ≡ position_or_len (same content) kept + 1)
    by true there is = (there, cc)
    by false there is = absurd cc

pub found_none : (kept : List Content) (content : Content) → found_in kept content ≡ None → list_any (same content) kept ≡ false
found_none kept content is = by (list_any (same content) kept) refl is
  where
    by : (t : Bool) → list_any (same content) kept ≡ t → cond t (Some (position_or_len (same content) kept + 1)) None ≡ None → list_any (same content) kept ≡ false
    by true there is = absurd cc
    by false there is = there

module _ {X : Type 0} (p : X → Bool) where
  pub place_in_front : (xs ys : List X) → list_any p xs ≡ true → position_or_len p (xs ++ ys) ≡ position_or_len p xs
  place_in_front [] ys there = absurd cc
  place_in_front (x ∷ xs) ys there = by (p x) there (place_in_front xs ys)
    where
      by : (t : Bool) → (t || list_any p xs) ≡ true → (list_any p xs ≡ true → position_or_len p (xs ++ ys) ≡ position_or_len p xs)
          → cond (not t) (1 + position_or_len p (xs ++ ys)) 0 ≡ cond (not t) (1 + position_or_len p xs) 0
      by true there later = refl
      by false there later = ap (λ n. 1 + n) (later there)

  pub place_at_end : (xs : List X) (y : X) → list_any p xs ≡ false → p y ≡ true → position_or_len p (xs ++ y ∷ []) ≡ length xs
  place_at_end [] y none is = rw is refl
  place_at_end (x ∷ xs) y none is = by (p x) none (λ later. place_at_end xs y later is)
    where
      by : (t : Bool) → (t || list_any p xs) ≡ false → (list_any p xs ≡ false → position_or_len p (xs ++ y ∷ []) ≡ length xs)
          → cond (not t) (1 + position_or_len p (xs ++ y ∷ [])) 0 ≡ suc (length xs)
      by true none later = absurd cc
      by false none later = omega (arith, later none)

-- what isn't the same as the content more is found as before
found_other : (kept : List Content) (content other : Content) → same other content ≡ false → found_in (kept ++ content ∷ []) other ≡ found_in kept other
found_other kept content other differ = rw (list_any-append (same other) kept (content ∷ []), differ) (by (list_any (same other) kept) refl)
  where
    by : (t : Bool) → list_any (same other) kept ≡ t
        → cond (t || false) (Some (position_or_len (same other) (kept ++ content ∷ []) + 1)) None ≡ cond t (Some (position_or_len (same other) kept + 1)) None
    by true there = ap (λ n. Some (n + 1)) (place_in_front (same other) kept (content ∷ []) there)
    by false there = refl

found_new : (kept : List Content) (content : Content) → list_any (same content) kept ≡ false → same content content ≡ true
    → found_in (kept ++ content ∷ []) content ≡ Some (length kept + 1)
found_new kept content none itself =
    rw (list_any-append (same content) kept (content ∷ []), none, itself) (ap (λ n. Some (n + 1)) (place_at_end (same content) kept content none itself))

-- ---- one file more

pub file_itself : (bodies : List (List ℕ)) (key : FileKey) → same (file_at bodies key) (file_at bodies key) ≡ true
file_itself bodies key = files_itself key.location.now (option_copied key.kind) (get_or bodies key.body [])

pub files_more : (bodies : List (List ℕ)) (kept : List Content) (key : FileKey) (toi n : ℕ) (before after : FileKey → Option ℕ) → IsDistinct bytes_eq bodies
    → n ≡ length bodies
    → key.body < n → list_any (same (file_at bodies key)) kept ≡ false → toi ≡ length kept + 1
    → ((q : FileKey) → q.body < n → before q ≡ found_in kept (file_at bodies q))
    → ((q : FileKey) → after q ≡ cond (key_same key q) (Some toi) (before q))
    → (q : FileKey) → q.body < n → after q ≡ found_in (kept ++ file_at bodies key ∷ []) (file_at bodies q)
files_more bodies kept key toi n before after distinct count within none is was updates q inside = updates q ∙ by (key_same key q) refl
  where
    by : (t : Bool) → key_same key q ≡ t → cond t (Some toi) (before q) ≡ found_in (kept ++ file_at bodies key ∷ []) (file_at bodies q)
    by true alike =
        ap (λ k. Some k) is ∙ sym (found_new kept (file_at bodies key) none (file_itself bodies key))
        ∙ ap (found_in (kept ++ file_at bodies key ∷ [])) (equal_keys bodies key q alike)
    by false differ =
        was q inside ∙ sym (found_other kept (file_at bodies key) (file_at bodies q) (other_keys bodies key q distinct (omega arith) (omega arith) differ))

pub added_there : (kept : List Content) (content : Content) → list_any (same content) kept ≡ true → added same kept content ≡ kept
added_there kept content there = rw there refl

pub added_new : (kept : List Content) (content : Content) → list_any (same content) kept ≡ false → added same kept content ≡ kept ++ content ∷ []
added_new kept content none = rw none refl

pub body_shown : (bodies : List (Bor (List ℕ))) (i : ℕ) (d : Bor (List ℕ)) → i < length bodies → (get_or bodies i d).now ≡ get_or (map (λ b. b.now) bodies) i []
body_shown [] i d within = absurd (omega arith)
body_shown (b ∷ bodies) zero d within = refl
body_shown (b ∷ bodies) (suc i) d within = body_shown bodies i d (omega arith)

-- a planner with one object more, under its key
pub keeps_file : (listed : CatalogInstance → List ℕ) (kept : List Content) (key : FileKey) (old new : Planner) (toi : ℕ) (bytes : List ℕ)
    → Keeps listed kept old → IsDistinct bytes_eq (map (λ b. b.now) old.bodies.now) → key.body < length old.bodies.now
    → list_any (same (file_at (map (λ b. b.now) old.bodies.now) key)) kept ≡ false → toi ≡ length old.objects.items + 1
    → bytes ≡ content_bytes listed (file_at (map (λ b. b.now) old.bodies.now) key)
    → new.params ≡ old.params → new.bodies.now ≡ old.bodies.now
    → new.objects.items ≡ old.objects.items ++ record { toi = length old.objects.items + 1; oti = information old.params bytes; bytes = bytes } ∷ []
    → ((q : FileKey) → get key_same new.files q ≡ cond (key_same key q) (Some toi) (get key_same old.files q))
    → Keeps listed (added same kept (file_at (map (λ b. b.now) old.bodies.now) key)) new
keeps_file listed kept key old new toi bytes keeps distinct within none is made params bodies pushed updates =
    let content = file_at (map (λ b. b.now) old.bodies.now) key in
    let count : length old.bodies.now ≡ length (map (λ b. b.now) old.bodies.now) = sym (length-map old.bodies.now (λ (b : Bor (List ℕ)). b.now)) in
    let next : toi ≡ length kept + 1 = omega (
      arith,
      ap length keeps.objects,
      length-objects old.params 1 (map (content_bytes listed) kept),
      length-map kept (content_bytes listed),
    ) in
    let objects = objects_pushed old.params listed kept content old.objects.items new.objects.items bytes keeps.objects made pushed in
    let files = files_more (map (λ b. b.now) old.bodies.now) kept key toi (length old.bodies.now)
    (get key_same old.files) (get key_same new.files) distinct count within none next keeps.files updates in
    subst (λ ks. Keeps listed ks new) (sym (added_new kept content none)) (record {
      objects = objects ∙ ap (λ p. objects_from p 1 (map (content_bytes listed) (kept ++ content ∷ []))) (sym params);
      files = subst (λ (bs : List (Bor (List ℕ))). (q : FileKey) → q.body < length bs
          → get key_same new.files q ≡ found_in (kept ++ content ∷ []) (file_at (map (λ b. b.now) bs) q)) (sym bodies) files;
    })

-- a descriptor more
pub keeps_descriptor : (lists : CatalogInstance → List ℕ) (kept : List Content) (instance : CatalogInstance) (old new : Planner) (number : ℕ) (listed bytes : List ℕ)
    → Keeps lists kept old → instance.number ≡ number → lists instance ≡ listed → bytes ≡ descriptor_bytes number listed
    → new.params ≡ old.params → new.bodies.now ≡ old.bodies.now → new.files ≡ old.files
    → new.objects.items ≡ old.objects.items ++ record { toi = length old.objects.items + 1; oti = information old.params bytes; bytes = bytes } ∷ []
    → Keeps lists (kept ++ Descriptor instance ∷ []) new
keeps_descriptor lists kept instance old new number listed bytes keeps numbered is made params bodies files pushed =
    let content = made ∙ (λ i. descriptor_bytes (sym numbered i) (sym is i)) in
    record {
      objects = objects_pushed old.params lists kept (Descriptor instance) old.objects.items new.objects.items bytes keeps.objects content pushed
          ∙ ap (λ p. objects_from p 1 (map (content_bytes lists) (kept ++ Descriptor instance ∷ []))) (sym params);
      files = λ q within.
          ap (λ fs. get key_same fs q) files ∙ keeps.files q (subst (λ (bs : List (Bor (List ℕ))). q.body < length bs) bodies within)
          ∙ ap (λ (bs : List (Bor (List ℕ))). found_in kept (file_at (map (λ b. b.now) bs) q)) (sym bodies)
          ∙ sym (found_other kept (Descriptor instance) (file_at (map (λ b. b.now) new.bodies.now) q) refl);
    }

pub descriptor_kept : {V : Type 0} (r : Result V AllocError) (old new : Planner) (number : ℕ) (listed bytes : List ℕ) → bytes ≡ descriptor_bytes number listed
    → new.params ≡ old.params → new.bodies.now ≡ old.bodies.now → new.files ≡ old.files
    → OnOk r (new.objects.items ≡ old.objects.items ++ record { toi = length old.objects.items + 1; oti = information old.params bytes; bytes = bytes } ∷ [])
    → OnOk r ((lists : CatalogInstance → List ℕ) (kept : List Content) (instance : CatalogInstance)
    → Keeps lists kept old → instance.number ≡ number → lists instance ≡ listed
    → Keeps lists (kept ++ Descriptor instance ∷ []) new)
descriptor_kept (Ok v) old new number listed bytes made params bodies files pushed = λ lists kept instance keeps numbered is.
    keeps_descriptor lists kept instance old new number listed bytes keeps numbered is made params bodies files pushed
descriptor_kept (Err e) old new number listed bytes made params bodies files pushed = tt

pub length_kept : (lists : CatalogInstance → List ℕ) (kept : List Content) (planner : Planner) → Keeps lists kept planner → length planner.objects.items ≡ length kept
length_kept lists kept planner keeps =
    ap length keeps.objects ∙ length-objects planner.params 1 (map (content_bytes lists) kept) ∙ length-map kept (content_bytes lists)
