-- A column has one symbol at a place: one polynomial goes through it.
use Rattle.std.proofs.Common.{◌≡◌, ℕ, ◌≤◌, List, length, sym, ap, ◌∙◌}
use Rattle.gf256.specs.Polynomial.{power, value}
use Rattle.rs_code.specs.Symbol.{IsSymbol}
use Rattle.rs_code.proofs.Interpolate.{powers_are_points, one_polynomial}

-- the symbol at a place is one
pub symbol_unique : (s : List ℕ) (j v w : ℕ) → length s ≤ 255 → IsSymbol s j v → IsSymbol s j w → v ≡ w
symbol_unique s j v w lk p q =
    let same : p.coefs ≡ q.coefs =
    one_polynomial (length s) power p.coefs q.coefs (powers_are_points (length s) lk) p.bytes q.bytes p.count q.count
    (λ i less. p.source i less ∙ sym (q.source i less))
    in
    p.symbol ∙ ap (λ cs. value cs (power j)) same ∙ sym q.symbol
