-- One weight more, and at the end the list of all.
use Rattle.std.proofs.Common.{◌≡◌, ℕ, List, length, get_or, bit_xor, sym, ap, ◌∙◌, subst, arith, rules}
use Rattle.gf256.specs.Field.{product}
use Rattle.rs_code.specs.Interpolation.{weight, others}
use Rattle.rs_code.specs.Weights.{ArePlaces, AreWeights, point_of}
use Rattle.rs_code.specs.Inner.Shares.{AreShares}
use Rattle.rs_code.proofs.Weighing.{places_are_points, weight_is, are_weights, pushed}
use Rattle.rs_code.proofs.places.Places.weights.Goals as goal

pub loop-i-preserved : goal.loop-i-preserved
loop-i-preserved c =
    let b = c.loop-i in
    let places : List ℕ = c.as_slice-places.result.now in
    let p = point_of c.as_slice-places.result.now in
    let k = length c.as_slice-places.result.now in
    let same : c.self.inside.places.items ≡ c.as_slice-places.result.now = sym c.as_slice-places.ensures.value in
    let are : ArePlaces places = subst (λ (t : List ℕ). ArePlaces t) same c.self.invariant.0 in
    let shares : AreShares places c.self.inside.shares.items = subst (λ (t : List ℕ). AreShares t c.self.inside.shares.items) same c.self.invariant.1 in
    let share : get_or c.deref.result.now b.i 0 ≡ get_or c.self.inside.shares.items b.i 0 = ap (λ xs. get_or xs b.i 0) c.deref.ensures.0 in
    let here : c.weight.result.0 ≡ weight p k b.i c.point-x.result.0 =
    weight_is p k b.i c.point-x.result.0 c.over_others-all.result.0 c.add.result.0 (get_or c.deref.result.now b.i 0) c.weight.result.0
    (places_are_points places are) c.loop-i-test.true (omega arith) (search rules) c.over_others-all.ensures
    (c.add.ensures ∙ ap (bit_xor c.point-x.result.0) c.point.ensures)
    (ap (product (others p k b.i (p b.i))) share ∙ shares.inverses b.i c.loop-i-test.true) c.weight.ensures.own c.weight.ensures.other
    in
    record {
      many = omega arith;
      weights = λ j less.
          ap (λ xs. get_or xs j 0) c.push.ensures.items
          ∙ pushed (λ j w. w ≡ weight p k j c.point-x.result.0) b.out.items c.weight.result.0 b.i b.invariant.many b.invariant.weights here j less;
    }

pub returns : goal.returns
returns c =
    let places : List ℕ = c.as_slice-places.result.now in
    let same : c.self.inside.places.items ≡ c.as_slice-places.result.now = sym c.as_slice-places.ensures.value in
    let are : ArePlaces places = subst (λ (t : List ℕ). ArePlaces t) same c.self.invariant.0 in
    subst (λ (t : List ℕ). AreWeights t c.args.at c.loop-i.out.items) (c.as_slice-places.ensures.value ∙ c.self.view_is)
    (are_weights places c.loop-i.out.items c.args.at are (omega arith)
    (λ i less. c.loop-i.invariant.weights i (omega arith) ∙ ap (weight (point_of places) (length places) i) c.point-x.ensures))
