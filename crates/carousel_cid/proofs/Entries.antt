-- Which entry a text spells, by the place of its first dash.
use Rattle.std.proofs.Common.{◌≡◌, ℕ, ◌+◌, ◌<◌, List, Some, None, refl, ap, take, drop, length}
use Rattle.std.specs.Prelude.{position}
use Rattle.std.specs.List.{position_or_len}
use Rattle.meta_text.proofs.Public.{found_at, none_at, any_from_place, any_without_place}
use Rattle.carousel_cid.specs.Listing.{is_dash, identifier_in, one_entry, range_entry, entry_in}

pub entry_one : (text : List ℕ) → position is_dash text ≡ None → entry_in text ≡ one_entry (identifier_in text)
unfolding entry_in
entry_one text none = rw (any_without_place is_dash text (none_at is_dash text none)) refl

pub entry_range : (text : List ℕ) (at : ℕ) → position is_dash text ≡ Some at
    → entry_in text ≡ range_entry (identifier_in (take at text)) (identifier_in (drop (at + 1) text))
unfolding entry_in
entry_range text at found =
    let place = found_at is_dash text at found in
    let least : position_or_len is_dash text < length text = rw place.0 place.1 in
    rw (any_from_place is_dash text least) (ap (λ k. range_entry (identifier_in (take k text)) (identifier_in (drop (k + 1) text))) place.0)
