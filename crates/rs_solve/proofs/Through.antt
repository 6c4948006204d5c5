-- The polynomial through given bytes at places: it exists, is one, and its values are the block.
use Rattle.std.proofs.Common.{◌≡◌, ℕ, ◌+◌, ◌*◌, ◌/◌, ◌%◌, ◌<◌, ◌≤◌, ⊎_elim, List, length, get_or, map, refl, sym, ap, ◌∙◌, subst, arith}
use Rattle.std.specs.List.{range_with_len}
use Rattle.std.proofs.lemmas.Bool.{cases_eq}
use Rattle.std.proofs.lemmas.Nat.{div-add-mod', div_below, mod_below}
use Rattle.std.proofs.lemmas.List.{ext_get_or}
use Rattle.std.proofs.lemmas.List.FromFn.{length-map-range_with_len, get_or-map-range_with_len}
use Rattle.gf256.specs.Polynomial.{AreBytes, power, value}
use Rattle.gf256.proofs.Public.{power_lt, value_lt}
use Rattle.rs_code.specs.Interpolation.{weighed}
use Rattle.rs_code.specs.SourceRows.{column, cut}
use Rattle.rs_code.specs.Symbol.{IsSymbol}
use Rattle.rs_code.specs.Weights.{ArePlaces, point_of}
use Rattle.rs_code.proofs.Public.{IsPolynomial, ArePoints, places_are_points, one_polynomial, polynomial_weighed, weighed_after}
use Rattle.rs_code.proofs.Public.{interpolates, symbol_unique, length-column, get_or-column, column_bytes}
use Rattle.rs_solve.specs.Solution.{HasSymbols, IsSolution, row_at}
use Rattle.rs_solve.specs.Inner.Values.{IsRowAt}
use Rattle.rs_solve.proofs.RowBytes.{length-row_at, byte_of_row}

-- as many coefficients as there are places, with the bytes' values at the places
pub record IsThrough (places bytes : List ℕ) : Type 0 where
  pub coefs : List ℕ
  pub count : length coefs ≡ length places
  pub elements : AreBytes coefs
  pub values : (i : ℕ) → i < length places → value coefs (point_of places i) ≡ get_or bytes i 0

-- there is such a polynomial
pub through : (places bytes : List ℕ) → ArePlaces places → AreBytes bytes → length bytes ≡ length places → IsThrough places bytes
through places bytes are all len =
    let k : ℕ = length places in
    let points : ArePoints (length places) (point_of places) = places_are_points places are in
    let f : IsPolynomial (length places) (weighed (point_of places) (length places) bytes (length places)) =
    polynomial_weighed (point_of places) k bytes k points len all (omega arith)
    in
    record {
      coefs = f.coefs;
      count = f.count;
      elements = f.bytes;
      values = λ i less.
          f.values (point_of places i) (points.elements i) ∙ weighed_after (point_of places) k bytes k i points len all (omega arith) less;
    }

-- the polynomial of a column that has the bytes as its symbols at the places is through them
of_column : (places bytes column : List ℕ) → ArePlaces places → AreBytes column → length column ≡ length places → HasSymbols column places bytes
    → (f : IsThrough places bytes) × ((m : ℕ) → m < length places → value f.coefs (power m) ≡ get_or column m 0)
of_column places bytes column are all len symbols =
    let k : ℕ = length column in
    let few : length column ≤ 255 = omega (arith, are.most) in
    let f : IsSymbol column 0 (weighed power (length column) column (length column) (power 0)) = interpolates k column 0 refl all few in (
      record {
        coefs = f.coefs;
        count = f.count ∙ len;
        elements = f.bytes;
        values = λ i less.
            symbol_unique column (get_or places i 0) (value f.coefs (point_of places i)) (get_or bytes i 0) few
            (record { coefs = f.coefs; count = f.count; bytes = f.bytes; source = f.source; symbol = refl }) (symbols i less);
      },
      λ m less. f.source m (omega arith),
    )

-- a column with these symbols at the places is the only one
pub one_column_only : (places bytes c d : List ℕ) → ArePlaces places → AreBytes c → AreBytes d → length c ≡ length places → length d ≡ length places
    → HasSymbols c places bytes → HasSymbols d places bytes → c ≡ d
one_column_only places bytes c d are bc bd lc ld sc sd =
    let f = of_column places bytes c are bc lc sc in
    let g = of_column places bytes d are bd ld sd in
    let same : f.0.coefs ≡ g.0.coefs =
    one_polynomial (length places) (point_of places) f.0.coefs g.0.coefs (places_are_points places are) f.0.elements g.0.elements f.0.count g.0.count
    (λ i less. f.0.values i less ∙ sym (g.0.values i less))
    in
    ext_get_or 0 c d (lc ∙ sym ld)
    (λ m less.
    let within : m < length places = omega arith in
    sym (f.1 m within) ∙ ap (λ cs. value cs (power m)) same ∙ g.1 m within)

-- a column whose bytes are a polynomial's values has the polynomial's values at the places as its symbols
has_symbols : (places bytes column : List ℕ) (f : IsThrough places bytes) → length column ≡ length places
    → ((m : ℕ) → m < length places → value f.coefs (power m) ≡ get_or column m 0) → HasSymbols column places bytes
has_symbols places bytes column f len source i less = record {
  coefs = f.coefs;
  count = f.count ∙ sym len;
  bytes = f.elements;
  source = λ m lm. source m (omega arith);
  symbol = sym (f.values i less);
}

-- there is a column with these symbols at the places
pub one_column_some : (places bytes : List ℕ) → ArePlaces places → AreBytes bytes → length bytes ≡ length places
    → (column : List ℕ) × AreBytes column × (length column ≡ length places) × HasSymbols column places bytes
one_column_some places bytes are all len =
    let f : IsThrough places bytes = through places bytes are all len in
    let k : ℕ = length places in
    let g = λ (m : ℕ). value f.coefs (power m) in
    let c : List ℕ = map g (range_with_len 0 k) in
    let long : length c ≡ length places = length-map-range_with_len g 0 k in
    let at : (m d : ℕ) → m < length places → get_or c m d ≡ g m = λ m d less. get_or-map-range_with_len g 0 k m m d less (omega arith) in (
      c,
      λ m d less. subst (λ (t : ℕ). t < 256) (sym (at m d (omega arith))) (value_lt f.coefs (power m) f.elements (power_lt m)),
      long,
      has_symbols places bytes c f long (λ m less. sym (at m 0 less)),
    )

-- rows that are the values at 0 .. k - 1 are the solution
pub solved : (size : ℕ) (places rows block : List ℕ) → ArePlaces places → AreBytes rows → length rows ≡ length places * size → length block ≡ length rows
    → ((m : ℕ) → m < length places → IsRowAt size places rows m (row_at size block m)) → IsSolution size places rows block
solved size places rows block are all whole same values =
    let k : ℕ = length places in
    record {
      whole = same ∙ whole;
      symbols = λ i less. record {
        full = length-row_at k size i rows whole less;
        symbols = λ at within.
            let bytes : List ℕ = column (cut k size rows) at in
            let f : IsThrough places (column (cut (length places) size rows) at) =
            through places bytes are (column_bytes k size at rows all whole within) (length-column k size at rows)
            in
            subst (λ (v : ℕ). IsSymbol (column (cut k size block) at) (get_or places i 0) v) (sym (byte_of_row k size i at rows less within))
            (has_symbols places bytes (column (cut k size block) at) f (length-column k size at block)
            (λ m lm. sym ((values m lm).values at within f.coefs f.elements f.count f.values) ∙ byte_of_row k size m at block lm within)
            i less);
      };
    }

-- the columns of a solution have the columns of the rows as their symbols at the places
columns_solved : (size : ℕ) (places rows block : List ℕ) → IsSolution size places rows block → (at : ℕ) → at < size
    → HasSymbols (column (cut (length places) size block) at) places (column (cut (length places) size rows) at)
columns_solved size places rows block solution at within i less =
    subst (λ (v : ℕ). IsSymbol (column (cut (length places) size block) at) (get_or places i 0) v) (byte_of_row (length places) size i at rows less within)
    ((solution.symbols i less).symbols at within)

-- two solutions have equal bytes
same_byte : (size : ℕ) (places rows b c : List ℕ) → ArePlaces places → AreBytes b → AreBytes c → IsSolution size places rows b → IsSolution size places rows c
    → (i at : ℕ) → i < length places → at < size → get_or b (i * size + at) 0 ≡ get_or c (i * size + at) 0
same_byte size places rows b c are bb bc sb sc i at less within =
    let k : ℕ = length places in
    sym (get_or-column k size at i b less within)
    ∙ ap (λ xs. get_or xs i 0)
    (one_column_only places (column (cut k size rows) at) (column (cut k size b) at) (column (cut k size c) at) are
    (column_bytes k size at b bb sb.whole within) (column_bytes k size at c bc sc.whole within) (length-column k size at b) (length-column k size at c)
    (columns_solved size places rows b sb at within) (columns_solved size places rows c sc at within))
    ∙ get_or-column k size at i c less within

-- places and rows have one solution
pub one_solution_only : (size : ℕ) (places rows b c : List ℕ) → ArePlaces places → AreBytes b
    → AreBytes c → IsSolution size places rows b → IsSolution size places rows c → b ≡ c
one_solution_only size places rows b c are bb bc sb sc =
    ext_get_or 0 b c (sb.whole ∙ sym sc.whole)
    (λ n less.
    let whole : length b ≡ length places * size = sb.whole in
    let some : 0 < size = ⊎_elim (λ null. let zero : length places * 0 ≡ 0 = omega arith in let none : length b ≡ 0 =
    whole ∙ ap (λ s. length places * s) null ∙ zero in absurd (omega arith)) (λ ne. omega arith) (cases_eq size 0) in
    let place : n / size * size + n % size ≡ n = div-add-mod' n size in
    let row : n / size < length places = div_below n size (length places) some (omega arith) in
    let within : n % size < size = mod_below n size some in
    ap (λ m. get_or b m 0) (sym place) ∙ same_byte size places rows b c are bb bc sb sc (n / size) (n % size) row within ∙ ap (λ m. get_or c m 0) place)
