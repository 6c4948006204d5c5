-- The tested entries of the factor.
use Rattle.std.proofs.Common.{◌*◌, ℕ, get_or, drop, sym, ap, ◌∙◌, arith, get_or-drop}
use Rattle.std.proofs.lemmas.Simd.{get_or-chunk}
use Rattle.gf256.specs.declared.halves.TheConstants.{PRODUCTS}
use Rattle.gf256.proofs.HalfTables.{entries}
use Rattle.gf256.proofs.lanes.low_products.Goals as goal

pub returns : goal.returns
returns c j less =
    let a : ℕ = c.args.by.0 in
    let n : ℕ = 32 * c.from.result in
    ap (λ xs. get_or xs j 0) c.sixteen.ensures
    ∙ get_or-chunk n 16 PRODUCTS j 0 less
    ∙ sym (get_or-drop n PRODUCTS j 0)
    ∙ ap (λ m. get_or (drop (32 * m) PRODUCTS) j 0) c.from.ensures
    ∙ (entries a j (omega arith) less).0
