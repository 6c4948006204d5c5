-- The places of bodies among the distinct ones.
use Rattle.std.proofs.Common.{◌≡◌, ℕ, zero, suc, ◌+◌, ◌<◌, Bool, true, false, not, cond, List, [], ◌∷◌, ◌++◌, Some, Bor, length, get_or}
use Rattle.std.proofs.Common.{refl, sym, ap, ◌∙◌, arith}
use Rattle.std.specs.Prelude.{map, slice_get}
use Rattle.std.specs.List.{IsDistinct, AllByRecursion, list_any, position_or_len}
use Rattle.std.specs.Str.{bytes_eq}
use Rattle.std.proofs.lemmas.List.{map-append}
use Rattle.sender_plan.specs.declared.key.FileKey.{FileKey}
use Rattle.sender_plan.specs.CatalogInstance.{CatalogItem}
use Rattle.sender_plan.specs.Content.{File}
use Rattle.sender_plan.specs.Plan.{file_of}
use Rattle.sender_plan.specs.Inner.Sets.{added}
use Rattle.sender_plan.specs.Inner.Planning.{shown_kind, file_at, body_at}

all_shown : (x : List ℕ) (keys : List (Bor (List ℕ))) → AllByRecursion (λ k. bytes_eq x k.now ≡ false) keys
    → AllByRecursion (λ y. bytes_eq x y ≡ false) (map (λ k. k.now) keys)
all_shown x [] all = tt
all_shown x (k ∷ keys) all = (all.0, all_shown x keys all.1)

pub distinct_shown : (keys : List (Bor (List ℕ))) → IsDistinct (λ a b. bytes_eq a.now b.now) keys → IsDistinct bytes_eq (map (λ k. k.now) keys)
unfolding IsDistinct
distinct_shown [] all = tt
distinct_shown (k ∷ keys) all = (all_shown k.now keys all.0, distinct_shown keys all.1)

slice_front : (xs ys : List (List ℕ)) (i : ℕ) (x : List ℕ) → slice_get xs i ≡ Some x → slice_get (xs ++ ys) i ≡ Some x
slice_front [] ys i x is = absurd cc
slice_front (y ∷ xs) ys zero x is = is
slice_front (y ∷ xs) ys (suc i) x is = slice_front xs ys i x is

grows : (keys more : List (List ℕ)) (places : List ℕ) (done : List (List ℕ)) → map (slice_get keys) places ≡ map (λ body. Some body) done
    → map (slice_get (keys ++ more)) places ≡ map (λ body. Some body) done
grows keys more [] [] is = refl
grows keys more [] (body ∷ done) is = absurd cc
grows keys more (place ∷ places) [] is = absurd cc
grows keys more (place ∷ places) (body ∷ done) is =
    let here : slice_get keys place ≡ Some body = cc in
    let later : map (slice_get keys) places ≡ map (λ b. Some b) done = cc in
    rw (slice_front keys more place body here, grows keys more places done later) refl

grows_added : (keys : List (List ℕ)) (body : List ℕ) (places : List ℕ) (done : List (List ℕ)) → map (slice_get keys) places ≡ map (λ b. Some b) done
    → map (slice_get (added bytes_eq keys body)) places ≡ map (λ b. Some b) done
grows_added keys body places done is = by (list_any (bytes_eq body) keys) is (grows keys (body ∷ []) places done is)
  where
    by : (t : Bool) → map (slice_get keys) places ≡ map (λ b. Some b) done → map (slice_get (keys ++ body ∷ [])) places ≡ map (λ b. Some b) done
        → map (slice_get (cond t keys (keys ++ body ∷ []))) places ≡ map (λ b. Some b) done
    by true here more = here
    by false here more = more

-- the place of one body more
pub places_more : (keys new : List (List ℕ)) (body : List ℕ) (place : ℕ) (places : List ℕ) (done : List (List ℕ))
    → map (slice_get keys) places ≡ map (λ b. Some b) done → new ≡ added bytes_eq keys body → slice_get new place ≡ Some body
    → map (slice_get new) (places ++ place ∷ []) ≡ map (λ b. Some b) (done ++ body ∷ [])
places_more keys new body place places done is made stands =
    let before : map (slice_get new) places ≡ map (λ b. Some b) done = rw made (grows_added keys body places done is) in
    map-append (slice_get new) places (place ∷ []) ∙ (λ i. before i ++ stands i ∷ []) ∙ sym (map-append (λ (b : List ℕ). Some b) done (body ∷ []))

-- ---- a name among references to names

pub place_shown : (p : List ℕ → Bool) (keys : List (Bor (List ℕ))) → position_or_len p (map (λ k. k.now) keys) ≡ position_or_len (λ k. p k.now) keys
place_shown p [] = refl
place_shown p (k ∷ keys) = ap (λ n. cond (not (p k.now)) (1 + n) 0) (place_shown p keys)

pub stands_at : (xs : List ℕ) (i : ℕ) → i < length xs → slice_get xs i ≡ Some (get_or xs i 0)
stands_at [] i within = absurd (omega arith)
stands_at (x ∷ xs) zero within = refl
stands_at (x ∷ xs) (suc i) within = stands_at xs i (omega arith)

pub at_place_or : (xs : List ℕ) (i v d : ℕ) → slice_get xs i ≡ Some v → get_or xs i d ≡ v
at_place_or [] i v d is = absurd cc
at_place_or (x ∷ xs) zero v d is = cc
at_place_or (x ∷ xs) (suc i) v d is = at_place_or xs i v d is

-- the file of an item, by its key
pub file_keyed : (names : List (Bor (List ℕ))) (places : List ℕ) (bodies : List (Bor (List ℕ))) (item : CatalogItem) (key : FileKey) (place : ℕ)
    → key.location.now ≡ item.location → shown_kind key.kind ≡ item.kind → key.body ≡ place
    → slice_get places (position_or_len (bytes_eq item.name) (map (λ k. k.now) names)) ≡ Some place
    → file_at (map (λ b. b.now) bodies) key ≡ file_of (body_at names places bodies) item
file_keyed names places bodies item key place location kind body stands =
    let at = at_place_or places (position_or_len (bytes_eq item.name) (map (λ (k : Bor (List ℕ)). k.now) names)) place (length bodies) stands in
    λ i. File (location i) (kind i) (get_or (map (λ (b : Bor (List ℕ)). b.now) bodies) ((body ∙ sym at) i) [])
