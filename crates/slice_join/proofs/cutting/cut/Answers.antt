use Rattle.std.proofs.Common.{◌≡◌, ℕ, suc, ◌+◌, ◌-◌, List, [], ◌∷◌, ◌++◌, length, map, take, drop, sym, ap, ◌∙◌, append_assoc, arith, rules}
use Rattle.std.specs.Option.{option_copied}
use Rattle.std.proofs.lemmas.List.{take_min}
use Rattle.wire_bytes.specs.Rows.{cut}
use Rattle.slice_join.specs.declared.cutting.Piece.{Piece}
use Rattle.slice_join.specs.Slice.{slices_from}
use Rattle.slice_join.specs.Cut.{piece_count, piece_of}
use Rattle.slice_join.proofs.Cuts.{cut_next, drop_min}
use Rattle.slice_join.proofs.cutting.cut.Goals as goal

pub loop-place-preserved : goal.loop-place-preserved
loop-place-preserved c =
    let kind = option_copied c.args.kind in
    let size = c.args.size in
    let total = length c.args.body.now in
    let count = piece_count size total in
    let at = c.loop-place.place in
    let rest = c.loop-place.rest.now in
    let before = c.loop-place.pieces.items in
    let more : ℕ → List ℕ → List Piece = λ n bytes. map (piece_of kind) (slices_from (at + 1 + 1) count total (cut n size bytes)) in
    let one : ℕ → List ℕ → Piece = λ n part. piece_of kind (record { place = at + 1; count = n; total = total; part = part }) in
    let counted : c.div_ceil-count.result ≡ count = search rules in
    let left : count - at ≡ suc (count - (at + 1)) = omega (arith, counted, c.loop-place-test.true) in
    let behind : c.split_at.result.1.now ≡ drop size rest = c.split_at.ensures.back ∙ ap (λ k. drop k rest) c.min.ensures ∙ drop_min size rest in
    let part : c.split_at.result.0.now ≡ take size rest = c.split_at.ensures.front ∙ ap (λ k. take k rest) c.min.ensures ∙ take_min size rest in
    let own : c.in_ok-carrier.field-0 ≡ one count (take size rest) = c.in_ok-carrier.ensures ∙ ap (λ n. one n c.split_at.result.0.now) counted ∙ ap (one count) part in
    let pushed : c.push.new.self.items ≡ before ++ one count (take size rest) ∷ [] = c.in_ok-push.ensures.items ∙ ap (λ p. before ++ p ∷ []) own in
    ap (λ ps. ps ++ more (count - (at + 1)) c.split_at.result.1.now) pushed
    ∙ ap (λ bytes. (before ++ one count (take size rest) ∷ []) ++ more (count - (at + 1)) bytes) behind
    ∙ append_assoc before (one count (take size rest) ∷ []) (more (count - (at + 1)) (drop size rest))
    ∙ ap (λ ps. before ++ ps) (sym (cut_next kind (at + 1) count total (count - at) (count - (at + 1)) size rest left))
    ∙ c.loop-place.invariant
