-- Bodies cut into pieces of one size.
use Rattle.std.proofs.Common.{◌≡◌, ℕ, zero, suc, ◌+◌, ◌*◌, ◌<◌, List, ◌∷◌, ◌++◌, Option, length, map, take, drop, min, refl, sym, ap, ◌∙◌, arith, inl, inr}
use Rattle.std.proofs.lemmas.Bool.{cases_lt}
use Rattle.std.proofs.lemmas.Grind.{div_ceil_times}
use Rattle.std.proofs.lemmas.List.{drop_all, take_all}
use Rattle.std.proofs.Math.Seq.{take-add}
use Rattle.wire_bytes.specs.Rows.{cut}
use Rattle.slice_join.specs.Slice.{slices_from, slices_of, whole}
use Rattle.slice_join.specs.Cut.{parts_of, piece_count, piece_of, pieces_of}

pub drop_min : (n : ℕ) (xs : List ℕ) → drop (min n (length xs)) xs ≡ drop n xs
drop_min n xs = elim (cases_lt n (length xs)) [
  | inl less ↦ ap (λ k. drop k xs) (omega (arith, less))
  | inr most ↦ drop_all (min n (length xs)) xs (omega (arith, most)) ∙ sym (drop_all n xs most)
]

-- one piece more
pub cut_next : (kind : Option (List ℕ)) (place count total n m size : ℕ) (rest : List ℕ) → n ≡ suc m
    → map (piece_of kind) (slices_from place count total (cut n size rest))
    ≡ piece_of kind (record { place = place; count = count; total = total; part = take size rest }) ∷ map (piece_of kind) (slices_from (place + 1) count total (cut m size (drop size rest)))
cut_next kind place count total n m size rest e = rw e refl

-- ---- the parts make the body

length_cut : (n size : ℕ) (bytes : List ℕ) → length (cut n size bytes) ≡ n
length_cut zero size bytes = refl
length_cut (suc n) size bytes = let rest = length_cut n size (drop size bytes) in omega arith

whole_cut : (n size : ℕ) (bytes : List ℕ) → whole (cut n size bytes) ≡ take (n * size) bytes
whole_cut zero size bytes = let none : 0 ≡ zero * size = omega arith in ap (λ k. take k bytes) none
whole_cut (suc n) size bytes =
    let more : size + n * size ≡ suc n * size = omega arith in
    ap (λ xs. take size bytes ++ xs) (whole_cut n size (drop size bytes))
    ∙ sym (take-add size (n * size) bytes)
    ∙ ap (λ k. take k bytes) more

pub parts_make_it : (size : ℕ) (body : List ℕ) → 0 < size → whole (parts_of size body) ≡ body
parts_make_it size body some =
    let enough = (div_ceil_times (length body) size some).0 in
    whole_cut (piece_count size (length body)) size body ∙ take_all (piece_count size (length body) * size) body enough

pub parts_counted : (size : ℕ) (body : List ℕ) → length (parts_of size body) ≡ piece_count size (length body)
parts_counted size body = length_cut (piece_count size (length body)) size body

-- the pieces of a body are the slices of its parts
pub pieces_are_slices : (kind : Option (List ℕ)) (size : ℕ) (body : List ℕ) → 0 < size → pieces_of kind size body ≡ map (piece_of kind) (slices_of (parts_of size body))
pieces_are_slices kind size body some =
    ap (λ n. map (piece_of kind) (slices_from 1 n (length body) (parts_of size body))) (sym (parts_counted size body))
    ∙ ap (λ xs. map (piece_of kind) (slices_from 1 (length (parts_of size body)) (length xs) (parts_of size body))) (sym (parts_make_it size body some))
