-- Keys tell files apart, where they count distinct bodies.
use Rattle.std.proofs.Common.{◌≡◌, ℕ, zero, suc, ◌<◌, true, false, ◌&&◌, ◌==◌, List, [], ◌∷◌, Option, Some, None, Bor, length, get_or, refl, sym, ap, arith}
use Rattle.std.specs.List.{IsDistinct, AllByRecursion}
use Rattle.std.specs.Option.{option_eq}
use Rattle.std.specs.Str.{bytes_eq}
use Rattle.std.proofs.lemmas.Bool.{and_parts, eqb-true, eq-eqb, false_from_ne_true}
use Rattle.std.proofs.lemmas.Slice.Eq.{bytes_eq-Decides}
use Rattle.sender_plan.specs.declared.key.FileKey.{FileKey}
use Rattle.sender_plan.specs.Content.{File, same, same_kind}
use Rattle.sender_plan.specs.Inner.Planning.{shown_kind, key_same, file_at}

pub equal_bytes : (a b : List ℕ) → bytes_eq a b ≡ true → a ≡ b
equal_bytes a b = (bytes_eq-Decides a b).0

pub same_bytes : (a b : List ℕ) → a ≡ b → bytes_eq a b ≡ true
same_bytes a b = (bytes_eq-Decides a b).1

equal_kind : (a b : Option (List ℕ)) → same_kind a b ≡ true → a ≡ b
equal_kind None None is = refl
equal_kind None (Some b) is = absurd cc
equal_kind (Some a) None is = absurd cc
equal_kind (Some a) (Some b) is = ap (λ x. Some x) (equal_bytes a b is)

kind_itself : (a : Option (List ℕ)) → same_kind a a ≡ true
kind_itself None = refl
kind_itself (Some a) = same_bytes a a refl

-- kinds behind references, as keys have them
equal_shown : (a b : Option (Bor (List ℕ))) → option_eq (λ x y. bytes_eq x.now y.now) a b ≡ true → shown_kind a ≡ shown_kind b
equal_shown None None is = refl
equal_shown None (Some b) is = absurd cc
equal_shown (Some a) None is = absurd cc
equal_shown (Some a) (Some b) is = ap (λ x. Some x) (equal_bytes a.now b.now is)

same_shown : (a b : Option (Bor (List ℕ))) → shown_kind a ≡ shown_kind b → option_eq (λ x y. bytes_eq x.now y.now) a b ≡ true
same_shown None None is = refl
same_shown None (Some b) is = absurd cc
same_shown (Some a) None is = absurd cc
same_shown (Some a) (Some b) is = same_bytes a.now b.now (let same : a.now ≡ b.now = cc in same)

-- ---- files are the same where they are equal

pub equal_files : (location place : List ℕ) (kind sort : Option (List ℕ)) (body bytes : List ℕ) → same (File location kind body) (File place sort bytes) ≡ true
    → File location kind body ≡ File place sort bytes
equal_files location place kind sort body bytes is =
    let first = and_parts (bytes_eq location place) (same_kind kind sort && bytes_eq body bytes) is in
    let rest = and_parts (same_kind kind sort) (bytes_eq body bytes) first.1 in
    let l = equal_bytes location place first.0 in
    let k = equal_kind kind sort rest.0 in
    let b = equal_bytes body bytes rest.1 in
    cc

pub files_itself : (location : List ℕ) (kind : Option (List ℕ)) (body : List ℕ) → same (File location kind body) (File location kind body) ≡ true
files_itself location kind body = rw (same_bytes location location refl, kind_itself kind, same_bytes body body refl) refl

-- ---- distinct bodies differ from place to place

at_place : (x : List ℕ) (xs : List (List ℕ)) (i : ℕ) → AllByRecursion (λ y. bytes_eq x y ≡ false) xs → i < length xs → bytes_eq x (get_or xs i []) ≡ false
at_place x [] i others within = absurd (omega arith)
at_place x (y ∷ xs) zero others within = others.0
at_place x (y ∷ xs) (suc i) others within = at_place x xs i others.1 (omega arith)

pub one_place : (bodies : List (List ℕ)) (i j : ℕ) → IsDistinct bytes_eq bodies → i < length bodies → j < length bodies
    → get_or bodies i [] ≡ get_or bodies j [] → i ≡ j
unfolding IsDistinct
one_place [] i j distinct first second is = absurd (omega arith)
one_place (x ∷ xs) zero zero distinct first second is = refl
one_place (x ∷ xs) zero (suc j) distinct first second is =
    let other = at_place x xs j distinct.0 (omega arith) in
    let here = same_bytes x (get_or xs j []) is in
    absurd cc
one_place (x ∷ xs) (suc i) zero distinct first second is =
    let other = at_place x xs i distinct.0 (omega arith) in
    let here = same_bytes x (get_or xs i []) (sym is) in
    absurd cc
one_place (x ∷ xs) (suc i) (suc j) distinct first second is = ap suc (one_place xs i j distinct.1 (omega arith) (omega arith) is)

-- ---- keys

pub equal_keys : (bodies : List (List ℕ)) (a b : FileKey) → key_same a b ≡ true → file_at bodies a ≡ file_at bodies b
equal_keys bodies a b is =
    let first = and_parts (bytes_eq a.location.now b.location.now) (option_eq (λ x y. bytes_eq x.now y.now) a.kind b.kind && (a.body == b.body)) is in
    let rest = and_parts (option_eq (λ x y. bytes_eq x.now y.now) a.kind b.kind) (a.body == b.body) first.1 in
    let l = equal_bytes a.location.now b.location.now first.0 in
    let k = equal_shown a.kind b.kind rest.0 in
    let n = eqb-true a.body b.body rest.1 in
    let body : get_or bodies a.body [] ≡ get_or bodies b.body [] = ap (λ i. get_or bodies i []) n in
    cc

file_parts : (location place : List ℕ) (kind sort : Option (List ℕ)) (body bytes : List ℕ) → File location kind body ≡ File place sort bytes
    → (location ≡ place) × (kind ≡ sort) × (body ≡ bytes)
file_parts location place kind sort body bytes is = (cc, cc, cc)

pub other_keys : (bodies : List (List ℕ)) (a b : FileKey) → IsDistinct bytes_eq bodies → a.body < length bodies → b.body < length bodies
    → key_same a b ≡ false → same (file_at bodies b) (file_at bodies a) ≡ false
other_keys bodies a b distinct first second differ = false_from_ne_true (same (file_at bodies b) (file_at bodies a)) (λ is.
    let files = equal_files b.location.now a.location.now (shown_kind b.kind) (shown_kind a.kind) (get_or bodies b.body []) (get_or bodies a.body []) is in
    let parts = file_parts b.location.now a.location.now (shown_kind b.kind) (shown_kind a.kind) (get_or bodies b.body []) (get_or bodies a.body []) files in
    let l = same_bytes a.location.now b.location.now (sym parts.0) in
    let k = same_shown a.kind b.kind (sym parts.1) in
    let n = eq-eqb a.body b.body (one_place bodies a.body b.body distinct first second (sym parts.2)) in
    let all : key_same a b ≡ true = rw (l, k, n) refl in
    cc)
