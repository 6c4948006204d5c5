-- Encoding symbols of a column of source bytes (RFC 5510, section 8.2).
use Rattle.std.specs.Prelude.{ℕ, ◌≡◌, ◌<◌, List, length, slice_index}
use Rattle.gf256.specs.Polynomial.{AreBytes, power, value}

-- v is symbol j of the column of k bytes: there are k coefficients of a polynomial whose value at alpha^i is the
-- column's byte i for each i below k, and whose value at alpha^j is v. This is the systematic generator matrix of
-- RFC 5510, the inverse of V(k,k) times V(k,n), where V[i][j] is alpha^(i*j): the coefficients are the column times
-- the inverse of V(k,k), and their values are those times V(k,n).
pub record IsSymbol (column : List ℕ) (j v : ℕ) : Type 0 where
  pub coefs : List ℕ
  pub count : length coefs ≡ length column
  pub bytes : AreBytes coefs
  pub source : (i : ℕ) → i < length column → value coefs (power i) ≡ slice_index column i
  pub symbol : v ≡ value coefs (power j)
