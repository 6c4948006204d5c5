-- The rows that were left are the block's.
use Rattle.std.proofs.Common.{◌≡◌, ◌<◌, ℕ, List, length, get_or, drop, sym, ◌∙◌, subst, arith}
use Rattle.std.proofs.lemmas.List.{take_at, get_or_default}
use Rattle.gf256.specs.Polynomial.{AreBytes}
use Rattle.rs_solve.specs.Solution.{IsSolution, row_at}
use Rattle.rs_solve.specs.Inner.Values.{IsRowAt}
use Rattle.rs_solve.proofs.Through.{solved}
use Rattle.rs_solve.proofs.solver.solve.Goals as goal

pub returns-clause-block : goal.returns-clause-block
returns-clause-block g c =
    let rows : List ℕ = c.args.rows.now in
    let bytes : AreBytes rows = λ i d less. let is : get_or rows i d ≡ get_or rows i 0 = get_or_default rows i d 0 less in omega (arith, (c.type_inv.rows i).fits) in
    let block : List ℕ = c.solve_rows.new.block in
    let long : length c.solve_rows.new.block ≡ c.in_ok-block.block.len = c.solve_rows.ensures.whole ∙ c.as_mut_slice.ensures.len in
    let same : length c.solve_rows.new.block ≡ length c.args.rows.now = long ∙ c.in_ok-block.ensures.len in
    let values : (m : ℕ) → m < length c.args.places.now → IsRowAt c.args.size c.args.places.now rows m (row_at c.args.size block m) =
    subst (λ (p : List ℕ). (m : ℕ) → m < length p → IsRowAt c.args.size p rows m (row_at c.args.size block m)) c.new.ensures c.solve_rows.ensures.rows
    in
    subst (λ (b : List ℕ). IsSolution c.args.size c.args.places.now rows b)
    (sym (take_at block (drop (length block) c.in_ok-block.block.items) c.in_ok-block.block.len long))
    (solved c.args.size c.args.places.now rows block c.requires.places bytes c.requires.rows same values)
