-- The source rows that have given symbols at given places are the only ones.
use Rattle.std.proofs.Common.{◌≡◌, ℕ, ◌<◌, List, length, get_or, sym, subst, ◌∙◌, arith}
use Rattle.std.proofs.lemmas.List.{get_or_default}
use Rattle.gf256.specs.Polynomial.{AreBytes, power, value}
use Rattle.gf256.proofs.Public.{power_lt, value_lt}
use Rattle.rs_code.specs.Symbol.{IsSymbol}
use Rattle.rs_code.specs.Interpolation.{weighed}
use Rattle.rs_code.specs.Weights.{ArePlaces, point_of}
use Rattle.rs_code.proofs.Public.{powers_are_points, places_are_points, polynomial_weighed, weighed_after, weighed_is_value, interpolates, symbol_unique}
use Rattle.held_packets.specs.Solved.{interpolated, source_byte}

-- the column has these bytes as its symbols at these places
abbrev pub HaveSymbols : List ℕ → List ℕ → List ℕ → Type 0
HaveSymbols column places values = (i : ℕ) → i < length places → IsSymbol column (get_or places i 0) (get_or values i 0)

-- a column that has a symbol is of bytes
pub bytes_of_column : (column : List ℕ) (j v : ℕ) → IsSymbol column j v → AreBytes column
bytes_of_column column j v is i d lt = subst (λ (x : ℕ). x < 256) (is.source i lt ∙ get_or_default column i 0 d lt) (value_lt is.coefs (power i) is.bytes (power_lt i))

-- a symbol is a byte
pub byte_of_symbol : (column : List ℕ) (j v : ℕ) → IsSymbol column j v → v < 256
byte_of_symbol column j v is = subst (λ (x : ℕ). x < 256) (sym is.symbol) (value_lt is.coefs (power j) is.bytes (power_lt j))

-- byte m of the column, from as many of its symbols as it has bytes
pub byte_from_symbols : (column places values : List ℕ) (m : ℕ) → ArePlaces places → length column ≡ length places → length values ≡ length places
    → HaveSymbols column places values → m < length places → source_byte places values m ≡ get_or column m 0
unfolding interpolated
byte_from_symbols column places values m are long count have less =
    let k = length places in
    let first = have 0 (omega (arith, are.some)) in
    let column_bytes = bytes_of_column column (get_or places 0 0) (get_or values 0 0) first in
    let value_bytes : AreBytes values = symbols_are_bytes column places values count have in
    let points = powers_are_points k are.most in
    let g = polynomial_weighed power k column k points long column_bytes (omega arith) in
    let at_places : (i : ℕ) → i < k → value g.coefs (point_of places i) ≡ get_or values i 0 = λ i lt.
    g.values (point_of places i) (power_lt (get_or places i 0))
    ∙ symbol_unique column (get_or places i 0) (weighed power k column k (power (get_or places i 0))) (get_or values i 0)
    (omega (arith, long, are.most)) (interpolates k column (get_or places i 0) long column_bytes are.most) (have i lt) in
    weighed_is_value k (point_of places) g.coefs values (power m) (places_are_points places are) g.count g.bytes count value_bytes at_places (power_lt m)
    ∙ g.values (power m) (power_lt m)
    ∙ weighed_after power k column k m points long column_bytes (omega arith) less
  where
    symbols_are_bytes : (c ps vs : List ℕ) → length vs ≡ length ps → HaveSymbols c ps vs → AreBytes vs
    symbols_are_bytes c ps vs same has i d lt = subst (λ (x : ℕ). x < 256) (get_or_default vs i 0 d lt)
        (byte_of_symbol c (get_or ps i 0) (get_or vs i 0) (has i (omega (arith, same))))
