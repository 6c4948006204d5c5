-- Steps through the slices of a group.
use Rattle.std.proofs.Common.{◌≡◌, ℕ, zero, suc, ◌+◌, ◌<◌, ◌==◌, Bool, true, false, cond, ◌||◌, List, [], ◌∷◌, ◌++◌, Option, Some, None, length, get_or, map, take, drop, refl, sym, ap, ◌∙◌, arith, Bor}
use Rattle.std.specs.List.{flat_map, range_with_len}
use Rattle.std.specs.Option.{is_some, option_copied}
use Rattle.std.proofs.lemmas.Bool.{eqb-true, eq-eqb}
use Rattle.std.proofs.lemmas.List.{at_drop_more, map-append, take_more}
use Rattle.carousel_cid.specs.declared.file_of.FileOf.{FileOf}
use Rattle.slice_join.specs.Slice.{Slice, slice_in}
use Rattle.slice_join.specs.Faults.{first_where, has_bad_head, is_among, is_placed, missing, place_of, places_of, repeated, said}
use Rattle.slice_join.specs.Joins.{part_at}
use Rattle.slice_join.proofs.Bodies.{head_long, head_said}

-- ---- the first file that passes a test

pub first_passes : (test : FileOf → Bool) (fs : List FileOf) (i : ℕ) (d : FileOf) → i < length fs → test (get_or fs i d) ≡ true → first_where test (drop i fs) ≡ Some (get_or fs i d).toi
first_passes test fs i d less e = at_drop_more (first_where test) fs i d less ∙ rw e refl

pub first_behind : (test : FileOf → Bool) (fs : List FileOf) (i : ℕ) (d : FileOf) → i < length fs → test (get_or fs i d) ≡ false → first_where test (drop i fs) ≡ first_where test (drop (i + 1) fs)
first_behind test fs i d less e = at_drop_more (first_where test) fs i d less ∙ rw e refl

-- the same of references
pub told_behind : (test : FileOf → Bool) (fs : List (Bor FileOf)) (i : ℕ) (x : Bor FileOf) → i < length fs → x ≡ get_or fs i x → test x.now ≡ false
    → first_where test (map (λ f. f.now) (drop i fs)) ≡ first_where test (map (λ f. f.now) (drop (i + 1) fs))
told_behind test fs i x less is e =
    at_drop_more (λ ys. first_where test (map (λ f. f.now) ys)) fs i x less
    ∙ ap (λ y. first_where test (map (λ f. f.now) (y ∷ drop (i + 1) fs))) (sym is)
    ∙ rw e refl

pub told_more : (fs : List (Bor FileOf)) (i : ℕ) (x : Bor FileOf) → i < length fs → x ≡ get_or fs i x
    → map (λ f. f.now) (take (i + 1) fs) ≡ map (λ f. f.now) (take i fs) ++ x.now ∷ []
told_more fs i x less is =
    ap (map (λ f. f.now)) (take_more fs i x less ∙ ap (λ y. take i fs ++ y ∷ []) (sym is)) ∙ map-append (λ f. f.now) (take i fs) (x ∷ [])

pub good_head : (f : FileOf) (s : Slice) → slice_in f.body ≡ Some s → is_placed s ≡ true → has_bad_head f ≡ false
good_head f s is placed =
    let own : is_placed (said f) ≡ true = ap is_placed (sym (head_said f.body s is)) ∙ placed in
    rw (head_long f.body s is, own) refl

-- ---- parts and their places

either_first : (t s : Slice) (p : ℕ) (rest : Option (List ℕ)) → (t.place == s.place) ≡ false
    → cond (t.place == p) (Some t.part) (cond (s.place == p) (Some s.part) rest) ≡ cond (s.place == p) (Some s.part) (cond (t.place == p) (Some t.part) rest)
either_first t s p rest apart = by (t.place == p) (s.place == p) refl refl where
  by : (x y : Bool) → (t.place == p) ≡ x → (s.place == p) ≡ y → cond x (Some t.part) (cond y (Some s.part) rest) ≡ cond y (Some s.part) (cond x (Some t.part) rest)
  by true true j k = let same : (t.place == s.place) ≡ true = eq-eqb t.place s.place (eqb-true t.place p j ∙ sym (eqb-true s.place p k)) in absurd cc
  by true false j k = refl
  by false y j k = refl

-- a part of a slice more
pub part_behind : (ss : List Slice) (s : Slice) (p : ℕ) → is_among (places_of ss) s.place ≡ false → part_at (ss ++ s ∷ []) p ≡ cond (s.place == p) (Some s.part) (part_at ss p)
part_behind [] s p none = refl
part_behind (t ∷ ss) s p none = elim (t.place == s.place) as (λ b. (t.place == s.place) ≡ b → (b || is_among (places_of ss) s.place) ≡ false → cond (t.place == p) (Some t.part) (part_at (ss ++ s ∷ []) p) ≡ cond (s.place == p) (Some s.part) (cond (t.place == p) (Some t.part) (part_at ss p))) [
  | true ↦ λ e h. absurd cc
  | false ↦ λ e h. ap (λ o. cond (t.place == p) (Some t.part) o) (part_behind ss s p h) ∙ either_first t s p (part_at ss p) e
] refl none

pub has_part : (ss : List Slice) (p : ℕ) → is_some (part_at ss p) ≡ is_among (places_of ss) p
has_part [] p = refl
has_part (s ∷ ss) p = elim (s.place == p) as (λ b. is_some (cond b (Some s.part) (part_at ss p)) ≡ (b || is_among (places_of ss) p)) [
  | true ↦ refl
  | false ↦ has_part ss p
]

pub held_is_among : (held : Option (Bor (List ℕ))) (ss : List Slice) (p : ℕ) → option_copied held ≡ part_at ss p → is_some held ≡ is_among (places_of ss) p
held_is_among None ss p e = ap is_some e ∙ has_part ss p
held_is_among (Some x) ss p e = ap is_some e ∙ has_part ss p

pub twice_here : (before places : List ℕ) (p : ℕ) → is_among before p ≡ true → repeated before (p ∷ places) ≡ Some p
twice_here before places p e = rw e refl

pub once_here : (before places : List ℕ) (p : ℕ) → is_among before p ≡ false → repeated before (p ∷ places) ≡ repeated (before ++ p ∷ []) places
once_here before places p e = rw e refl

-- ---- the files so far, and those left

abbrev places_in : List FileOf → List ℕ
places_in fs = places_of (map said fs)

said_more : (fs : List FileOf) (i : ℕ) (x : FileOf) → i < length fs → x ≡ get_or fs i x → map said (take (i + 1) fs) ≡ map said (take i fs) ++ said x ∷ []
said_more fs i x less is = ap (map said) (take_more fs i x less ∙ ap (λ y. take i fs ++ y ∷ []) (sym is)) ∙ map-append said (take i fs) (x ∷ [])

places_more : (fs : List FileOf) (i : ℕ) (x : FileOf) → i < length fs → x ≡ get_or fs i x → places_in (take (i + 1) fs) ≡ places_in (take i fs) ++ (said x).place ∷ []
places_more fs i x less is = ap places_of (said_more fs i x less is) ∙ map-append place_of (map said (take i fs)) (said x ∷ [])

left_with : (before : List ℕ) (fs : List FileOf) (i : ℕ) (x : FileOf) → i < length fs → x ≡ get_or fs i x
    → repeated before (places_in (drop i fs)) ≡ repeated before ((said x).place ∷ places_in (drop (i + 1) fs))
left_with before fs i x less is =
    at_drop_more (λ ys. repeated before (places_in ys)) fs i x less ∙ ap (λ y. repeated before (places_in (y ∷ drop (i + 1) fs))) (sym is)

pub twice_at : (fs : List FileOf) (i : ℕ) (x : FileOf) → i < length fs → x ≡ get_or fs i x → is_among (places_in (take i fs)) (said x).place ≡ true
    → repeated (places_in (take i fs)) (places_in (drop i fs)) ≡ Some (said x).place
twice_at fs i x less is e = left_with (places_in (take i fs)) fs i x less is ∙ twice_here (places_in (take i fs)) (places_in (drop (i + 1) fs)) (said x).place e

pub once_at : (fs : List FileOf) (i : ℕ) (x : FileOf) → i < length fs → x ≡ get_or fs i x → is_among (places_in (take i fs)) (said x).place ≡ false
    → repeated (places_in (take i fs)) (places_in (drop i fs)) ≡ repeated (places_in (take (i + 1) fs)) (places_in (drop (i + 1) fs))
once_at fs i x less is e =
    left_with (places_in (take i fs)) fs i x less is
    ∙ once_here (places_in (take i fs)) (places_in (drop (i + 1) fs)) (said x).place e
    ∙ ap (λ before. repeated before (places_in (drop (i + 1) fs))) (sym (places_more fs i x less is))

pub part_more : (fs : List FileOf) (i : ℕ) (x : FileOf) → i < length fs → x ≡ get_or fs i x → is_among (places_in (take i fs)) (said x).place ≡ false → (p : ℕ)
    → part_at (map said (take (i + 1) fs)) p ≡ cond ((said x).place == p) (Some (said x).part) (part_at (map said (take i fs)) p)
part_more fs i x less is e p = ap (λ ss. part_at ss p) (said_more fs i x less is) ∙ part_behind (map said (take i fs)) (said x) p e

-- ---- the places up to a count

pub missing_here : (places : List ℕ) (p n : ℕ) → 0 < n → is_among places p ≡ false → missing places (range_with_len p n) ≡ Some p
missing_here places p zero some e = absurd (omega arith)
missing_here places p (suc n) some e = rw e refl

pub there_here : (places : List ℕ) (p n m : ℕ) → n ≡ suc m → is_among places p ≡ true → missing places (range_with_len p n) ≡ missing places (range_with_len (p + 1) m)
there_here places p n m more e = rw more (rw e refl)

pub parts_next : (f : ℕ → List ℕ) (p n m : ℕ) → n ≡ suc m → flat_map f (range_with_len p n) ≡ f p ++ flat_map f (range_with_len (p + 1) m)
parts_next f p n m more = rw more refl

pub parts_same : (f g : ℕ → List ℕ) → ((p : ℕ) → f p ≡ g p) → (ps : List ℕ) → flat_map f ps ≡ flat_map g ps
parts_same f g same [] = refl
parts_same f g same (p ∷ ps) = ap (λ xs. xs ++ flat_map f ps) (same p) ∙ ap (λ xs. g p ++ xs) (parts_same f g same ps)
