-- Slices of a body, listed in any order, join to that body.
use Rattle.std.proofs.Common.{◌≡◌, ℕ, ◌+◌, ◌<◌, ◌≤◌, ◌^◌, ◌==◌, true, false, not, List, [], ◌∷◌, Option, Some, None, length, map, unwrap_or, if◌then◌else◌, refl, sym, ap, subst, ◌∙◌, arith}
use Rattle.std.specs.List.{AllByRecursion, flat_map, range_with_len}
use Rattle.std.specs.List.Sorted.{IsPermutation}
use Rattle.std.specs.Option.{option_and_then, option_map}
use Rattle.std.proofs.lemmas.Bool.{eq-eqb}
use Rattle.std.proofs.lemmas.Simd.{map-map}
use Rattle.std.proofs.lemmas.List.Sorted.{IsPermutation-map, list_any-IsPermutation, sum_by-IsPermutation}
use Rattle.carousel_cid.specs.declared.file_of.FileOf.{FileOf}
use Rattle.slice_join.specs.declared.fault.JoinFault.TheVariants.{Header, Disagree, Twice, Missing}
use Rattle.slice_join.specs.declared.joined.Joined.{Joined}
use Rattle.slice_join.specs.declared.joined.Outcome.TheVariants.{Whole}
use Rattle.slice_join.specs.SliceKind.{slice_kind, whole_kind}
use Rattle.slice_join.specs.Slice.{Slice, slice_of, slices_of, whole}
use Rattle.slice_join.specs.Cut.{parts_of, piece_count, piece_of, pieces_of}
use Rattle.slice_join.specs.Carried.{Carries, content_of, piece_content}
use Rattle.slice_join.specs.Groups.{Entry, belong, is_slice, is_slice_type}
use Rattle.slice_join.specs.Faults.{disagrees, found_in, has_bad_head, is_among, join_fault, missing, place_of, places_of, places_to, said}
use Rattle.slice_join.specs.Joins.{alone, joined, joined_body, joins, part_at, unless_broken}
use Rattle.slice_join.proofs.SliceTypes.{kind_again, kind_is_slice}
use Rattle.slice_join.proofs.Cuts.{parts_counted, parts_make_it, pieces_are_slices}
use Rattle.slice_join.proofs.Grouping.{made}
use Rattle.slice_join.proofs.FirstFaults.{is_none, header_in, disagree_in, twice_in, missing_in, differs}
use Rattle.slice_join.proofs.Orders.{permuted, unmapped, each_both, part_from, follows, follows_whole, Fits, all_fit, read_back, IsCarrier, all_carry, places_are, bytes_are}
use Rattle.slice_join.proofs.Orders.{one_entry, no_first, agree_there, no_repeat, once_in_range, in_range, none_missing, part_is, same_within}

-- files that carry slices of parts
pub record Given (kind : Option (List ℕ)) (parts : List (List ℕ)) (location : List ℕ) (f : FileOf) (fs : List FileOf) : Type 0 where
  pub few : length parts ≤ 4096
  pub small : length (whole parts) < 2 ^ 64
  pub carries : Carries (map (piece_of kind) (slices_of parts)) location (f ∷ fs)

-- what each file says and is
record Known (kind : Option (List ℕ)) (parts : List (List ℕ)) (g : FileOf) : Type 0 where
  fits : Fits (part_from 1 parts) (length parts) (length (whole parts)) (said g)
  carrier : IsCarrier kind (content_of g)

slice_if : (kind : Option (List ℕ)) (g : FileOf) → g.kind ≡ Some (slice_kind kind) → is_slice g ≡ true
slice_if kind g is = ap is_slice_type is ∙ kind_is_slice kind

each_so : (P Q : FileOf → Type 0) → ((g : FileOf) → P g → Q g) → (gs : List FileOf) → AllByRecursion P gs → AllByRecursion Q gs
each_so P Q step gs each = each_both P P Q (λ g h k. step g h) gs each each

module _ (kind : Option (List ℕ)) (parts : List (List ℕ)) (location : List ℕ) (f : FileOf) (fs : List FileOf) (given : Given kind parts location f fs) where
  group : Entry
  group = record { first = f; more = fs }

  told : List Slice
  told = map said (f ∷ fs)

  -- what the files say is what was cut, in another order
  turned : IsPermutation (slices_of parts) told
  unfolding told
  turned =
      let by : Option (List ℕ) × List ℕ → Slice = λ x. slice_of x.1 in
      let cut = map piece_content (map (piece_of kind) (slices_of parts)) in
      let order = IsPermutation-map by cut (map content_of (f ∷ fs)) given.carries.in_some_order in
      subst (λ ss. IsPermutation ss (map said (f ∷ fs))) (read_back kind 1 (length parts) (length (whole parts)) parts (omega arith) given.few given.small)
      (subst (λ ss. IsPermutation (map by cut) ss) (map-map by content_of (f ∷ fs)) order)

  all_told_fit : AllByRecursion (Fits (part_from 1 parts) (length parts) (length (whole parts))) told
  all_told_fit = permuted (Fits (part_from 1 parts) (length parts) (length (whole parts))) (slices_of parts) told turned
      (all_fit (part_from 1 parts) 1 (length parts) (length (whole parts)) parts (omega arith) (omega arith) given.few (follows 1 parts))

  each_known : AllByRecursion (Known kind parts) (f ∷ fs)
  unfolding told
  each_known = each_both (λ g. Fits (part_from 1 parts) (length parts) (length (whole parts)) (said g)) (λ g. IsCarrier kind (content_of g)) (Known kind parts)
      (λ g fits carrier. record { fits = fits; carrier = carrier }) (f ∷ fs)
      (unmapped (Fits (part_from 1 parts) (length parts) (length (whole parts))) said (f ∷ fs) all_told_fit)
      (unmapped (IsCarrier kind) content_of (f ∷ fs) (permuted (IsCarrier kind) (map piece_content (map (piece_of kind) (slices_of parts))) (map content_of (f ∷ fs)) given.carries.in_some_order (all_carry kind (slices_of parts))))

  own : Known kind parts f
  own = each_known.0

  all_belong : AllByRecursion (λ g. belong f g ≡ true) fs
  all_belong = each_both (Known kind parts) (λ g. g.location ≡ location) (λ g. belong f g ≡ true)
      (λ g known there. made f g (record {
        one = slice_if kind f own.carrier.is;
        other = slice_if kind g known.carrier.is;
        place = given.carries.under.0 ∙ sym there;
      })) fs each_known.1 given.carries.under.1

  good : header_in group ≡ None
  unfolding group
  good = ap (option_map Header) (no_first has_bad_head (f ∷ fs) (each_so (Known kind parts) (λ g. has_bad_head g ≡ false)
      (λ g known. rw (known.carrier.long, known.fits.placed) refl) (f ∷ fs) each_known))

  alike : disagree_in group ≡ None
  unfolding group
  alike = ap (option_map Disagree) (no_first (disagrees f) (f ∷ fs) (each_so (Known kind parts) (λ g. disagrees f g ≡ false)
      (λ g known. agree_there (said g).count (said f).count (said g).total (said f).total g.kind f.kind (slice_kind kind)
      (known.fits.count ∙ sym own.fits.count) (known.fits.total ∙ sym own.fits.total) known.carrier.is own.carrier.is) (f ∷ fs) each_known))

  -- the places are those from 1 on, in another order
  places_turned : IsPermutation (range_with_len 1 (length parts)) (places_of told)
  places_turned = subst (λ ps. IsPermutation ps (places_of told)) (places_are 1 (length parts) (length (whole parts)) parts) (IsPermutation-map place_of (slices_of parts) told turned)

  once : twice_in group ≡ None
  unfolding group told
  once = ap (option_map Twice) (no_repeat [] (places_of told) (λ p.
      subst (λ n. n ≤ 1) (sym (sum_by-IsPermutation (λ q. if q == p then 1 else 0) (range_with_len 1 (length parts)) (places_of told) places_turned)) (once_in_range p 1 (length parts))))

  among : (x : ℕ) → 1 ≤ x → x < 1 + length parts → is_among (places_of told) x ≡ true
  among x from to = sym (list_any-IsPermutation (λ q. q == x) (range_with_len 1 (length parts)) (places_of told) places_turned) ∙ in_range x 1 (length parts) from to

  there : missing_in group ≡ None
  unfolding group told
  there = ap (λ n. option_map Missing (missing (places_of told) (places_to n))) own.fits.count
      ∙ ap (option_map Missing) (none_missing (places_of told) 1 (length parts) among)

  all_found : differs group ≡ false
  unfolding group told
  all_found =
      let found : found_in told ≡ length (whole parts) = sum_by-IsPermutation (λ s. length s.part) (slices_of parts) told turned ∙ bytes_are 1 (length parts) (length (whole parts)) parts in
      ap not (eq-eqb (found_in told) (said f).total (found ∙ sym own.fits.total))

  no_fault : join_fault group ≡ None
  no_fault = is_none group good alike once there all_found

  body_is : joined_body group ≡ whole parts
  unfolding joined_body group told
  body_is =
      ap (λ n. flat_map (λ p. unwrap_or (part_at told p) []) (range_with_len 1 n)) own.fits.count
      ∙ same_within (λ p. unwrap_or (part_at told p) []) (part_from 1 parts) 1 (length parts)
      (λ x from to. part_is (part_from 1 parts) (length parts) (length (whole parts)) told x all_told_fit (among x from to))
      ∙ follows_whole (part_from 1 parts) 1 parts (follows 1 parts)

  file : List ℕ → Option (List ℕ) → List ℕ → Joined
  file l k body = record { toi = f.toi; location = l; kind = k; outcome = Whole body }

  joined_is : joined group ≡ file location kind (whole parts)
  unfolding joined group file
  joined_is =
      ap (λ b. if b then unless_broken (join_fault group) group else alone f) (slice_if kind f own.carrier.is)
      ∙ ap (λ fault. unless_broken fault group) no_fault
      ∙ ap (λ l. file l (option_and_then whole_kind f.kind) (joined_body group)) given.carries.under.0
      ∙ ap (λ k. file location (option_and_then whole_kind k) (joined_body group)) own.carrier.is
      ∙ ap (λ k. file location k (joined_body group)) (kind_again kind)
      ∙ ap (file location kind) body_is

  pub any_order : joins (f ∷ fs) ≡ record { toi = f.toi; location = location; kind = kind; outcome = Whole (whole parts) } ∷ []
  unfolding joins group file
  any_order = ap (map joined) (one_entry f fs all_belong) ∙ ap (λ j. j ∷ []) joined_is

-- pieces of a body
pub pieces_join : (kind : Option (List ℕ)) (size : ℕ) (body location : List ℕ) (f : FileOf) (fs : List FileOf)
    → 1 ≤ size → piece_count size (length body) ≤ 4096 → length body < 2 ^ 64 → Carries (pieces_of kind size body) location (f ∷ fs)
    → joins (f ∷ fs) ≡ record { toi = f.toi; location = location; kind = kind; outcome = Whole body } ∷ []
pieces_join kind size body location f fs some few small carries =
    let parts = parts_of size body in
    let made_of : whole parts ≡ body = parts_make_it size body some in
    let counted : length parts ≡ piece_count size (length body) = parts_counted size body in
    let given : Given kind parts location f fs = record {
      few = omega (arith, counted, few);
      small = subst (λ xs. length xs < 2 ^ 64) (sym made_of) small;
      carries = subst (λ ps. Carries ps location (f ∷ fs)) (pieces_are_slices kind size body some) carries;
    } in
    any_order kind parts location f fs given
    ∙ ap (λ xs. record { toi = f.toi; location = location; kind = kind; outcome = Whole xs } ∷ []) made_of
