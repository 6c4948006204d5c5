-- A line that is cut at its first tab.
use Rattle.std.proofs.Common.{◌≡◌, ℕ, ◌<◌, false, List, [], ◌∷◌, length, Option, Some, None, Bor, arith}
use Rattle.std.specs.Prelude.{IfSome, IfNone, MatchOption}
use Rattle.std.specs.List.{position_or_len, before_first, after_first}
use Rattle.std.proofs.lemmas.List.Elements.{All-from_get_or}
use Rattle.std.proofs.lemmas.List.Sums.{fails_before_first}
use Rattle.std.proofs.lemmas.List.Splits.{slice_split_first, slice_split_none}
use Rattle.sender_plan.specs.CatalogLine.{is_tab, fields_of}

pub cut_some : (text : List ℕ) (r : Option (Bor (List ℕ) × Bor (List ℕ))) → MatchOption r (position_or_len is_tab text ≡ length text)
    (λ x. (position_or_len is_tab text < length text) × (x.0.now ≡ before_first is_tab text) × (x.1.now ≡ after_first is_tab text))
    → IfSome r (λ x. fields_of text ≡ x.0.now ∷ fields_of x.1.now)
cut_some text None is = tt
cut_some text (Some x) is = rw (is.1, is.2) (slice_split_first is_tab text 0 is.0)

pub cut_none : (text : List ℕ) (r : Option (Bor (List ℕ) × Bor (List ℕ))) → MatchOption r (position_or_len is_tab text ≡ length text)
    (λ x. (position_or_len is_tab text < length text) × (x.0.now ≡ before_first is_tab text) × (x.1.now ≡ after_first is_tab text))
    → IfNone r (fields_of text ≡ text ∷ [])
cut_none text None is = slice_split_none is_tab text (All-from_get_or (λ b. is_tab b ≡ false) text 0 (λ i less. fails_before_first is_tab text i 0 (omega arith)))
cut_none text (Some x) is = tt
