-- The powers of alpha and the values of polynomials over the field (RFC 5510, sections 8.1 and 8.2). A polynomial
-- is the list of its coefficients, that of x^0 first.
use Rattle.std.specs.Prelude.{ℕ, zero, suc, ◌≡◌, ◌≢◌, List, [], ◌∷◌, bit_xor, All, AllPairs}
pub use Rattle.wire_bytes.specs.Bytes.{AreBytes}
use Rattle.gf256.specs.Field.{double, product}

-- alpha^j, where alpha is 2
unfoldable pub power : ℕ → ℕ
power zero = 1
power (suc j) = double (power j)

-- the sum of c_i times p times x^i
abbrev pub value_from : ℕ → List ℕ → ℕ → ℕ
value_from p [] x = 0
value_from p (c ∷ cs) x = bit_xor (product c p) (value_from (product p x) cs x)

-- the value at x: the sum of c_i times x^i, and 0 for no coefficients
abbrev pub value : List ℕ → ℕ → ℕ
value cs x = value_from 1 cs x

-- no two are equal
abbrev pub AreDifferent : List ℕ → Type 0
AreDifferent xs = AllPairs (λ x y. x ≢ y) xs

-- each coefficient is zero
abbrev pub AreNull : List ℕ → Type 0
AreNull cs = All (λ c. c ≡ 0) cs

-- the polynomial is zero at each of these
abbrev pub AreRoots : List ℕ → List ℕ → Type 0
AreRoots cs xs = All (λ x. value cs x ≡ 0) xs

-- the two polynomials have one value at each of these
abbrev pub Agree : List ℕ → List ℕ → List ℕ → Type 0
Agree cs ds xs = All (λ x. value cs x ≡ value ds x) xs
