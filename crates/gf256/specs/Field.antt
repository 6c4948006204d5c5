-- The field of 256 elements (RFC 5510, section 8.1). An element is a number below 256, and its bit i is the
-- coefficient of x^i of a polynomial over two values. The sum of two elements is `bit_xor`. The product is that
-- of the polynomials, reduced by x^8 + x^4 + x^3 + x^2 + 1, whose bits are 285, hexadecimal 11D.
use Rattle.std.specs.Prelude.{ℕ, zero, suc, ◌*◌, ◌/◌, ◌%◌, ◌==◌, nat_lt, if◌then◌else◌, bit_xor}
-- an element is a byte
pub use Rattle.wire_bytes.specs.Bytes.{IsByte}

-- x times the element
unfoldable pub double : ℕ → ℕ
double a = if nat_lt (2 * a) 256 then 2 * a else bit_xor (2 * a) 285

-- the sum, over the places i below n at which b has a one bit, of a doubled i times
unfoldable pub product_of : ℕ → ℕ → ℕ → ℕ
product_of zero a b = 0
product_of (suc n) a b = bit_xor (if b % 2 == 1 then a else 0) (product_of n (double a) (b / 2))

-- the product of two elements, which have eight bits
unfoldable pub product : ℕ → ℕ → ℕ
product a b = product_of 8 a b

-- the element squared n times over
unfoldable pub squared : ℕ → ℕ → ℕ
squared zero a = a
squared (suc n) a = product (squared n a) (squared n a)

-- the product of the first n squares of the element: of a^2, a^4, a^8 and so on
unfoldable pub squares : ℕ → ℕ → ℕ
squares zero a = 1
squares (suc n) a = product (squares n a) (squared (suc n) a)

-- the inverse of an element other than zero: its power 254, which is 2 + 4 + .. + 128, since its power 255 is 1
unfoldable pub inverse : ℕ → ℕ
inverse a = squares 7 a
