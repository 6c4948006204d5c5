-- What the trees hold after a change.
use Rattle.std.proofs.Common.{◌≡◌, ℕ, ◌<◌, Bool, true, false, cond, List, [], ◌∷◌, ◌++◌, Some, None, Bor, length, get_or, set, nat_cmp, refl, sym, ap, ◌∙◌, arith}
use Rattle.std.specs.BTreeMap.{BTreeMap, UpdatesBy, get_by}
use Rattle.std.specs.Cmp.Lexicographic.{slice_cmp}
use Rattle.std.specs.Str.{bytes_eq}
use Rattle.std.proofs.lemmas.Map.Text.{btree_map_updates_str}
use Rattle.carousel_cid.specs.declared.file_of.FileOf.{FileOf}
use Rattle.slice_join.specs.Groups.{Entry, is_slice}
use Rattle.slice_join.specs.Inner.Places.{ArePlaces, begun, with_slice, with_file, is_under, place_from}
use Rattle.slice_join.proofs.Grouping.{same_text, text_same, taken_at, places_new, places_other}

pub within : (p : ℕ) (es : List Entry) (g : FileOf) → is_slice g ≡ true → place_from 0 g.location es ≡ Some p → p < length es
within p es g slice e = let t = taken_at 0 p es g slice e in omega (arith, t.is, t.within)

pub takes : (p : ℕ) (es : List Entry) (g : FileOf) → is_slice g ≡ true → place_from 0 g.location es ≡ Some p → with_file es g ≡ set es p (with_slice (get_or es p (begun g)) g)
takes p es g slice e =
    let t = taken_at 0 p es g slice e in
    let same : t.at ≡ p = omega (arith, t.is) in
    t.becomes (begun g) ∙ ap (λ at. set es at (with_slice (get_or es at (begun g)) g)) same

-- a file that is no slice has no place
pub plain_places : (tree : BTreeMap (Bor (List ℕ)) ℕ) (es : List Entry) (g : FileOf) → is_slice g ≡ false → ArePlaces tree es → ArePlaces tree (es ++ begun g ∷ [])
plain_places tree es g other are q =
    let no : is_under q (begun g) ≡ false = rw other refl in
    are q ∙ sym (places_other 0 q es (begun g) no)

-- the first slice under a location is behind the others
pub new_places : (old new : BTreeMap (Bor (List ℕ)) ℕ) (es : List Entry) (g : FileOf) (location : List ℕ) (last : ℕ)
    → last ≡ length es → is_slice g ≡ true → place_from 0 g.location es ≡ None → location ≡ g.location → ArePlaces old es
    → UpdatesBy (λ x y. slice_cmp nat_cmp x.now y.now) (λ k. slice_cmp nat_cmp location k.now) old new (Some last) → ArePlaces new (es ++ begun g ∷ [])
new_places old new es g location last behind slice none is are updates q = btree_map_updates_str location old new (Some last) updates q ∙ by (bytes_eq location q) refl where
  by : (b : Bool) → bytes_eq location q ≡ b → cond b (Some last) (get_by (λ k. slice_cmp nat_cmp q k.now) old) ≡ place_from 0 q (es ++ begun g ∷ [])
  by true e =
      let same : g.location ≡ q = sym is ∙ same_text location q e in
      let own : is_under q (begun g) ≡ true = rw (slice, text_same q g.location (sym same)) refl in
      sym (places_new 0 last q es (begun g) own (ap (λ l. place_from 0 l es) (sym same) ∙ none) (omega (arith, behind)))
  by false e =
      let apart : bytes_eq q g.location ≡ false = elim (bytes_eq q g.location) as (λ b. bytes_eq q g.location ≡ b → b ≡ false) [
        | true ↦ λ k. let against : true ≡ false = sym (text_same location q (is ∙ sym (same_text q g.location k))) ∙ e in absurd cc
        | false ↦ λ k. refl
      ] refl in
      let no : is_under q (begun g) ≡ false = rw (slice, apart) refl in
      are q ∙ sym (places_other 0 q es (begun g) no)
