-- A copy where the place is among them, else the weighed rows.
use Rattle.std.proofs.Common.{◌+◌, ◌-◌, ◌^◌, List, ℕ, eqb, length, min, sym, ap, ◌∙◌, subst}
use Rattle.std.specs.List.{list_any}
use Rattle.std.proofs.lemmas.Bool.{cond-false}
use Rattle.rs_code.specs.Weights.{AreWeights}
use Rattle.rs_solve.specs.Inner.Values.{IsRowAt}
use Rattle.rs_solve.proofs.SourceRow.{copied_row, weighed_row, not_among}
use Rattle.rs_solve.proofs.source.source_row.Goals as goal

pub returns-in-Some-clause-row : goal.returns-in-Some-clause-row
returns-in-Some-clause-row g c =
    subst (λ (r : List ℕ). IsRowAt c.args.size c.args.places.now c.args.rows.now c.args.m r) (sym (c.copy_from_slice.ensures.after ∙ c.row_of.ensures))
    (copied_row c.args.size c.args.m c.in-Some.i c.args.places.now c.args.rows.now c.requires.rows c.in-Some.ensures.some.0 c.in-Some.ensures.some.1)

pub returns-in-None-clause-row : goal.returns-in-None-clause-row
returns-in-None-clause-row g c =
    weighed_row c.args.size c.args.m c.args.places.now c.args.rows.now c.as_slice.result.now c.weigh_rows.new.out
    (subst (λ (w : List ℕ). AreWeights c.args.places.now c.args.m w) (sym c.as_slice.ensures.value) c.weights.ensures) c.weigh_rows.ensures.long c.weigh_rows.ensures.sums

pub returns-in-None-clause-count : goal.returns-in-None-clause-count
returns-in-None-clause-count g c =
    c.weigh_rows.ensures.count ∙ ap (λ n. min (c.args.steps.now.count + n) (2 ^ 64 - 1)) (ap length c.as_slice.ensures.value ∙ c.weights.ensures.count)
    ∙ sym (cond-false (list_any (λ p. eqb p c.args.m) c.args.places.now) _ _ (not_among c.args.places.now c.args.m c.in-None.ensures.none))
