-- How a file more changes the entries.
use Rattle.std.proofs.Common.{◌≡◌, ℕ, suc, ◌+◌, ◌<◌, Bool, true, false, cond, ◌&&◌, List, [], ◌∷◌, ◌++◌, Some, None, length, get_or, set, refl, sym, ap, ◌∙◌, arith, append-nil}
use Rattle.std.specs.List.{filter}
use Rattle.std.specs.Str.{bytes_eq}
use Rattle.std.proofs.lemmas.List.Elements.{filter-append}
use Rattle.std.proofs.lemmas.Slice.Eq.{bytes_eq-Decides}
use Rattle.carousel_cid.specs.declared.file_of.FileOf.{FileOf}
use Rattle.slice_join.specs.Groups.{Entry, belong, is_apart, is_slice, entries_of}
use Rattle.slice_join.specs.Inner.Places.{begun, with_slice, with_file, is_under, place_from}

-- ---- what belongs together

pub record Together (f g : FileOf) : Type 0 where
  pub one : is_slice f ≡ true
  pub other : is_slice g ≡ true
  pub place : f.location ≡ g.location

both : (a b : Bool) → (a && b) ≡ true → (a ≡ true) × (b ≡ true)
both true b e = (refl, e)
both false b e = absurd cc

pub same_text : (xs ys : List ℕ) → bytes_eq xs ys ≡ true → xs ≡ ys
same_text xs ys e = (bytes_eq-Decides xs ys).0 e

pub text_same : (xs ys : List ℕ) → xs ≡ ys → bytes_eq xs ys ≡ true
text_same xs ys e = (bytes_eq-Decides xs ys).1 e

says : (f g : FileOf) → belong f g ≡ true → Together f g
unfolding belong
says f g e =
    let first = both (is_slice f) (is_slice g && bytes_eq f.location g.location) e in
    let second = both (is_slice g) (bytes_eq f.location g.location) first.1 in
    record { one = first.0; other = second.0; place = same_text f.location g.location second.1 }

pub made : (f g : FileOf) → Together f g → belong f g ≡ true
unfolding belong
made f g t = rw (t.one, t.other, text_same f.location g.location t.place) refl

turned : (f g : FileOf) → belong f g ≡ true → belong g f ≡ true
turned f g e = let t = says f g e in made g f (record { one = t.other; other = t.one; place = sym t.place })

joined : (f g h : FileOf) → belong f g ≡ true → belong g h ≡ true → belong f h ≡ true
joined f g h e k =
    let t = says f g e in
    let u = says g h k in
    made f h (record { one = t.one; other = u.other; place = t.place ∙ u.place })

-- where two don't belong together, none belongs to both
neither : (f g h : FileOf) → belong g f ≡ false → belong g h ≡ true → belong f h ≡ false
neither f g h apart e = elim (belong f h) as (λ b. belong f h ≡ b → b ≡ false) [
  | true ↦ λ k. let against : true ≡ false = sym (joined g h f e (turned f h k)) ∙ apart in absurd cc
  | false ↦ λ k. refl
] refl

not_turned : (f g : FileOf) → belong g f ≡ false → belong f g ≡ false
not_turned f g apart = elim (belong f g) as (λ b. belong f g ≡ b → b ≡ false) [
  | true ↦ λ e. let against : true ≡ false = sym (turned f g e) ∙ apart in absurd cc
  | false ↦ λ e. refl
] refl

-- ---- one file more

-- what belongs to a file is no entry apart from it
left_out : (f g : FileOf) (es : List Entry) → belong g f ≡ true → filter (is_apart f) (with_file es g) ≡ filter (is_apart f) es
left_out f g [] e = rw (turned g f e) refl
left_out f g (h ∷ es) e = elim (belong g h.first) as (λ b. belong g h.first ≡ b → filter (is_apart f) (cond b (with_slice h g ∷ es) (h ∷ with_file es g)) ≡ filter (is_apart f) (h ∷ es)) [
  | true ↦ λ k. let near : belong f h.first ≡ true = joined f g h.first (turned g f e) k in rw near refl
  | false ↦ λ k. ap (λ rest. cond (is_apart f h) (h ∷ rest) rest) (left_out f g es e)
] refl

-- what doesn't belong to a file changes the entries apart from it as all
stays_in : (f g : FileOf) (es : List Entry) → belong g f ≡ false → filter (is_apart f) (with_file es g) ≡ with_file (filter (is_apart f) es) g
stays_in f g [] apart = rw (not_turned f g apart) refl
stays_in f g (h ∷ es) apart = elim (belong g h.first) as (λ b. belong g h.first ≡ b → filter (is_apart f) (cond b (with_slice h g ∷ es) (h ∷ with_file es g)) ≡ with_file (filter (is_apart f) (h ∷ es)) g) [
  | true ↦ λ k. let far : belong f h.first ≡ false = neither f g h.first apart k in rw (far, k) refl
  | false ↦ λ k.
      ap (λ rest. cond (is_apart f h) (h ∷ rest) rest) (stays_in f g es apart)
      ∙ elim (is_apart f h) as (λ b. cond b (h ∷ with_file (filter (is_apart f) es) g) (with_file (filter (is_apart f) es) g) ≡ with_file (cond b (h ∷ filter (is_apart f) es) (filter (is_apart f) es)) g) [
        | true ↦ rw k refl
        | false ↦ refl
      ]
] refl

pub entries_more : (fs : List FileOf) (g : FileOf) → entries_of (fs ++ g ∷ []) ≡ with_file (entries_of fs) g
entries_more [] g = refl
entries_more (f ∷ fs) g =
    ap (λ es. record { first = f; more = filter (belong f) (fs ++ g ∷ []) } ∷ filter (is_apart f) es) (entries_more fs g)
    ∙ ap (λ gs. record { first = f; more = gs } ∷ filter (is_apart f) (with_file (entries_of fs) g)) (filter-append (belong f) fs (g ∷ []))
    ∙ elim (belong g f) as (λ b. belong g f ≡ b → record { first = f; more = filter (belong f) fs ++ filter (belong f) (g ∷ []) } ∷ filter (is_apart f) (with_file (entries_of fs) g)
    ≡ cond b (record { first = f; more = filter (belong f) fs ++ g ∷ [] } ∷ filter (is_apart f) (entries_of fs)) (record { first = f; more = filter (belong f) fs } ∷ with_file (filter (is_apart f) (entries_of fs)) g)) [
      | true ↦ λ e. rw (turned g f e) (ap (λ es. record { first = f; more = filter (belong f) fs ++ g ∷ [] } ∷ es) (left_out f g (entries_of fs) e))
      | false ↦ λ e. rw (not_turned f g e)
          (ap (λ gs. record { first = f; more = gs } ∷ filter (is_apart f) (with_file (entries_of fs) g)) (append-nil (filter (belong f) fs))
          ∙ ap (λ es. record { first = f; more = filter (belong f) fs } ∷ es) (stays_in f g (entries_of fs) e))
    ] refl

-- ---- where the entry stands that takes it

-- a slice belongs to the entries under its location
under : (g : FileOf) (e : Entry) → is_slice g ≡ true → belong g e.first ≡ is_under g.location e
unfolding belong
under g e slice = rw slice refl

no_slice : (g h : FileOf) → is_slice g ≡ false → belong g h ≡ false
unfolding belong
no_slice g h other = rw other refl

pub plain_behind : (es : List Entry) (g : FileOf) → is_slice g ≡ false → with_file es g ≡ es ++ begun g ∷ []
plain_behind [] g other = refl
plain_behind (e ∷ es) g other = rw (no_slice g e.first other) (ap (λ rest. e ∷ rest) (plain_behind es g other))

pub new_behind : (n : ℕ) (es : List Entry) (g : FileOf) → is_slice g ≡ true → place_from n g.location es ≡ None → with_file es g ≡ es ++ begun g ∷ []
new_behind n [] g slice none = refl
new_behind n (e ∷ es) g slice none = elim (is_under g.location e) as (λ b. belong g e.first ≡ b → cond b (Some n) (place_from (n + 1) g.location es) ≡ None → with_file (e ∷ es) g ≡ e ∷ (es ++ begun g ∷ [])) [
  | true ↦ λ k h. absurd cc
  | false ↦ λ k h. rw k (ap (λ rest. e ∷ rest) (new_behind (n + 1) es g slice h))
] (under g e slice) none

-- the entry that takes a slice
pub record Takes (n p : ℕ) (es : List Entry) (g : FileOf) : Type 0 where
  pub at : ℕ
  pub is : p ≡ n + at
  pub within : at < length es
  pub becomes : (d : Entry) → with_file es g ≡ set es at (with_slice (get_or es at d) g)

takes_first : (n p : ℕ) (e : Entry) (es : List Entry) (g : FileOf) → belong g e.first ≡ true → n ≡ p → Takes n p (e ∷ es) g
takes_first n p e es g k same = record { at = 0; is = omega (arith, same); within = omega arith; becomes = λ d. rw k refl }

takes_later : (n p : ℕ) (e : Entry) (es : List Entry) (g : FileOf) → belong g e.first ≡ false → Takes (n + 1) p es g → Takes n p (e ∷ es) g
takes_later n p e es g k t = record { at = suc t.at; is = omega (arith, t.is); within = omega (arith, t.within); becomes = λ d. rw k (ap (λ rest. e ∷ rest) (t.becomes d)) }

some_only : (n p : ℕ) → Some n ≡ Some p → n ≡ p
some_only n p e = cc

pub taken_at : (n p : ℕ) (es : List Entry) (g : FileOf) → is_slice g ≡ true → place_from n g.location es ≡ Some p → Takes n p es g
taken_at n p [] g slice e = absurd cc
taken_at n p (h ∷ es) g slice e = elim (is_under g.location h) as (λ b. belong g h.first ≡ b → cond b (Some n) (place_from (n + 1) g.location es) ≡ Some p → Takes n p (h ∷ es) g) [
  | true ↦ λ k found. takes_first n p h es g k (some_only n p found)
  | false ↦ λ k found. takes_later n p h es g k (taken_at (n + 1) p es g slice found)
] (under g h slice) e

-- ---- the places with a file more

pub places_same : (n : ℕ) (q : List ℕ) (es : List Entry) (g : FileOf) (p : ℕ) → is_slice g ≡ true → place_from n g.location es ≡ Some p → place_from n q (with_file es g) ≡ place_from n q es
places_same n q [] g p slice e = absurd cc
places_same n q (h ∷ es) g p slice e = elim (is_under g.location h) as (λ b. belong g h.first ≡ b → cond b (Some n) (place_from (n + 1) g.location es) ≡ Some p → place_from n q (with_file (h ∷ es) g) ≡ place_from n q (h ∷ es)) [
  | true ↦ λ k found. rw k refl
  | false ↦ λ k found. rw k (ap (λ rest. cond (is_under q h) (Some n) rest) (places_same (n + 1) q es g p slice found))
] (under g h slice) e

pub places_other : (n : ℕ) (q : List ℕ) (es : List Entry) (e : Entry) → is_under q e ≡ false → place_from n q (es ++ e ∷ []) ≡ place_from n q es
places_other n q [] e other = rw other refl
places_other n q (h ∷ es) e other = ap (λ rest. cond (is_under q h) (Some n) rest) (places_other (n + 1) q es e other)

pub places_new : (n p : ℕ) (q : List ℕ) (es : List Entry) (e : Entry) → is_under q e ≡ true → place_from n q es ≡ None → p ≡ n + length es → place_from n q (es ++ e ∷ []) ≡ Some p
places_new n p q [] e own none last = let same : n ≡ p = omega (arith, last) in rw own (ap Some same)
places_new n p q (h ∷ es) e own none last = elim (is_under q h) as (λ b. cond b (Some n) (place_from (n + 1) q es) ≡ None → cond b (Some n) (place_from (n + 1) q (es ++ e ∷ [])) ≡ Some p) [
  | true ↦ λ found. absurd cc
  | false ↦ λ rest. places_new (n + 1) p q es e own rest (omega (arith, last))
] none
