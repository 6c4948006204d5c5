-- The values under a name, one pair after another.
use Rattle.std.proofs.Common.{◌≡◌, ℕ, ◌+◌, ◌<◌, Bool, true, false, cond, List, [], ◌∷◌, ◌++◌, length, get_or, map, take, refl, ap, ◌∙◌}
use Rattle.std.specs.Str.{str_eq_ignore_ascii_case}
use Rattle.std.proofs.lemmas.List.{map_more}
use Rattle.meta_text.specs.Fields.{Pair}
use Rattle.meta_text.specs.Lookup.{values_of}

values_of-append : (name : List ℕ) (ps qs : List Pair) → values_of name (ps ++ qs) ≡ values_of name ps ++ values_of name qs
values_of-append name [] qs = refl
values_of-append name (p ∷ ps) qs = by (str_eq_ignore_ascii_case p.0 name) (values_of-append name ps qs)
  where
    by : (t : Bool) → values_of name (ps ++ qs) ≡ values_of name ps ++ values_of name qs
        → cond t (p.1 ∷ values_of name (ps ++ qs)) (values_of name (ps ++ qs)) ≡ cond t (p.1 ∷ values_of name ps) (values_of name ps) ++ values_of name qs
    by true e = ap (λ vs. p.1 ∷ vs) e
    by false e = e

-- one pair more
pub values_of-more : {X : Type 0} (name : List ℕ) (pair_of : X → Pair) (xs : List X) (i : ℕ) (d : X) → i < length xs
    → values_of name (map pair_of (take (i + 1) xs)) ≡ values_of name (map pair_of (take i xs)) ++ values_of name (pair_of (get_or xs i d) ∷ [])
values_of-more name pair_of xs i d less =
    ap (values_of name) (map_more pair_of xs i d less) ∙ values_of-append name (map pair_of (take i xs)) (pair_of (get_or xs i d) ∷ [])
