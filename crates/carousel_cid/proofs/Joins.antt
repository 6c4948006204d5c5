-- Texts joined by commas.
use Rattle.std.proofs.Common.{◌≡◌, ℕ, zero, suc, ◌+◌, ◌<◌, ◌^◌, false, List, [], ◌∷◌, ◌++◌, refl, sym, ap, ◌∙◌, append_assoc}
use Rattle.std.proofs.Common.{length, length-append, get_or, take, map, arith}
use Rattle.std.specs.List.{join_with_byte}
use Rattle.std.specs.Fmt.{decimal}
use Rattle.std.proofs.lemmas.Fmt.{decimal_is_IsNumeral_wide}
use Rattle.std.proofs.lemmas.List.{map_more}
use Rattle.meta_text.specs.Text.{is_empty}
use Rattle.carousel_cid.specs.IdentifierList.{comma}
use Rattle.carousel_cid.specs.Descriptor.{list_text}
use Rattle.carousel_cid.specs.Inner.Walks.{with_text}

-- a text behind at least one other comes after a comma
join_more : (x : List ℕ) (xs : List (List ℕ)) (y : List ℕ) → join_with_byte comma ((x ∷ xs) ++ y ∷ []) ≡ join_with_byte comma (x ∷ xs) ++ comma ∷ y
join_more x [] y = refl
join_more x (z ∷ zs) y = ap (λ (bs : List ℕ). x ++ (comma ∷ bs)) (join_more z zs y) ∙ sym (append_assoc x (comma ∷ join_with_byte comma (z ∷ zs)) (comma ∷ y))

-- a list of at least one text that isn't empty isn't empty
pub join_some : (x : List ℕ) (xs : List (List ℕ)) → 0 < length x → 0 < length (join_with_byte comma (x ∷ xs))
join_some x [] some = some
join_some x (z ∷ zs) some = omega (arith, length-append x (comma ∷ join_with_byte comma (z ∷ zs)))

pub not_empty : (bs : List ℕ) → 0 < length bs → is_empty bs ≡ false
not_empty [] some = absurd (omega arith)
not_empty (b ∷ bs) some = refl

-- the first text isn't empty
abbrev FirstSome : List (List ℕ) → Type 0
FirstSome [] = Unit {0}
FirstSome (x ∷ xs) = 0 < length x

with_text_more : (xs : List (List ℕ)) (y : List ℕ) → FirstSome xs → join_with_byte comma (xs ++ y ∷ []) ≡ with_text (join_with_byte comma xs) y
with_text_more [] y some = refl
with_text_more (x ∷ xs) y some = rw (not_empty (join_with_byte comma (x ∷ xs)) (join_some x xs some)) (join_more x xs y)

decimals_some : (ts : List ℕ) (i : ℕ) → get_or ts 0 0 < 2 ^ 128 → FirstSome (map decimal (take i ts))
decimals_some [] zero small = tt
decimals_some [] (suc i) small = tt
decimals_some (t ∷ ts) zero small = tt
decimals_some (t ∷ ts) (suc i) small = (decimal_is_IsNumeral_wide t (omega arith)).0.0

-- one identifier more
pub list_text_more : (ts : List ℕ) (i : ℕ) → i < length ts → get_or ts 0 0 < 2 ^ 128
    → list_text (take (i + 1) ts) ≡ with_text (list_text (take i ts)) (decimal (get_or ts i 0))
list_text_more ts i less small =
    ap (join_with_byte comma) (map_more decimal ts i 0 less) ∙ with_text_more (map decimal (take i ts)) (decimal (get_or ts i 0)) (decimals_some ts i small)
