-- Numbers and their bytes, the highest first.
use Rattle.std.proofs.Common.{◌≡◌, ℕ, zero, suc, ◌+◌, ◌-◌, ◌*◌, ◌/◌, ◌%◌, ◌^◌, ◌<◌, ◌≤◌, List, [], ◌∷◌, ◌++◌, length, get_or, take, drop, refl, sym, ap, ◌∙◌, arith}
use Rattle.std.specs.Int.{byte_at, bytes_high_first}
use Rattle.std.proofs.Math.Nat.{div-one, mul-add-div_right, mul-add-mod_self_right, div-eq_of_lt, mod-eq_of_lt, one-le-pow, pow-suc}
use Rattle.std.proofs.lemmas.Nat.{pow-add}
use Rattle.std.proofs.lemmas.List.{append-nil, take-append-drop, drop-drop, length-drop}
use Rattle.byteorder.specs.Endian.{big_from, big_number, big_bytes}
use Rattle.byteorder.specs.Numbers.{big_from-cons, big_from-lt, big_number-reads_back, length-bytes_high_first}
use Rattle.wire_bytes.specs.Bytes.{AreBytes}
use Rattle.wire_bytes.proofs.Bytes.{byte_at_place, bytes_drop}

-- a byte of a number, by its place
byte_is : (k x : ℕ) → byte_at k x ≡ x / 256 ^ k % 256
byte_is zero x = ap (λ (y : ℕ). y % 256) (sym (div-one x))
byte_is (suc k) x = refl

pow_pos : (n : ℕ) → zero < 256 ^ n
pow_pos n = let h = one-le-pow n 256 (omega arith) in omega arith

-- what stands above the place n changes no byte below it
lower_byte : (k m a r : ℕ) → byte_at k (a * 256 ^ (k + suc m) + r) ≡ byte_at k r
lower_byte k m a r =
    let cut : a * 256 ^ (k + suc m) ≡ (a * 256 ^ suc m) * 256 ^ k = rw (pow-add 256 k (suc m)) (omega arith) in
    let quotient : ((a * 256 ^ suc m) * 256 ^ k + r) / 256 ^ k ≡ a * 256 ^ suc m + r / 256 ^ k = mul-add-div_right (pow_pos k) (a * 256 ^ suc m) r in
    let times : a * 256 ^ suc m ≡ (a * 256 ^ m) * 256 = rw (pow-suc 256 m) (omega arith) in
    byte_is k (a * 256 ^ (k + suc m) + r)
    ∙ ap (λ (x : ℕ). (x + r) / 256 ^ k % 256) cut
    ∙ ap (λ (x : ℕ). x % 256) quotient
    ∙ ap (λ (x : ℕ). (x + r / 256 ^ k) % 256) times
    ∙ mul-add-mod_self_right (a * 256 ^ m) 256 (r / 256 ^ k)
    ∙ sym (byte_is k r)

lower_bytes : (j n a r : ℕ) → j ≤ n → bytes_high_first j (a * 256 ^ n + r) ≡ bytes_high_first j r
lower_bytes zero n a r le = refl
lower_bytes (suc j) n a r le =
    let at : n ≡ j + suc (n - suc j) = omega arith in
    let here : byte_at j (a * 256 ^ n + r) ≡ byte_at j r = ap (λ (p : ℕ). byte_at j (a * 256 ^ p + r)) at ∙ lower_byte j (n - suc j) a r in
    let rest = lower_bytes j n a r (omega arith) in
    rw (here, rest) refl

-- the byte at the top
top_byte : (n x r : ℕ) → x < 256 → r < 256 ^ n → byte_at n (x * 256 ^ n + r) ≡ x
top_byte n x r lt below =
    byte_is n (x * 256 ^ n + r)
    ∙ ap (λ (y : ℕ). y % 256) (mul-add-div_right (pow_pos n) x r)
    ∙ ap (λ (y : ℕ). (x + y) % 256) (div-eq_of_lt below)
    ∙ ap (λ (y : ℕ). y % 256) (omega arith)
    ∙ mod-eq_of_lt lt

bytes_again : (n : ℕ) (bytes : List ℕ) → n ≤ length bytes → ((i : ℕ) → get_or bytes i 0 < 256) → big_bytes n (big_number n bytes) ≡ take n bytes
bytes_again zero bytes le fits = refl
bytes_again (suc n) [] le fits = absurd (omega arith)
bytes_again (suc n) (x ∷ bytes) le fits =
    let rest_fits : (i : ℕ) → get_or bytes i 0 < 256 = λ i. fits (suc i) in
    let moved : big_from 1 n (x ∷ bytes) ≡ big_from 0 n bytes = big_from-cons 0 n x bytes in
    let below : big_from 0 n bytes < 256 ^ n = big_from-lt 0 n bytes rest_fits in
    let top = top_byte n x (big_from 0 n bytes) (fits 0) below in
    let lower = lower_bytes n n x (big_from 0 n bytes) (omega arith) in
    rw (moved, top, lower, bytes_again n bytes (omega arith) rest_fits) refl

-- the bytes of the number of the first n bytes are these bytes
pub big_bytes-big_number : (n : ℕ) (bytes : List ℕ) → n ≤ length bytes → AreBytes bytes → big_bytes n (big_number n bytes) ≡ take n bytes
big_bytes-big_number n bytes le are = bytes_again n bytes le (byte_at_place bytes are)

-- the number of the bytes of a number is this number
pub big_number-big_bytes : (n x : ℕ) → x < 256 ^ n → big_number n (big_bytes n x) ≡ x
big_number-big_bytes n x lt = ap (big_number n) (sym (append-nil (big_bytes n x))) ∙ big_number-reads_back n x [] lt

-- a number is read from all of its bytes
pub number_again : (n x : ℕ) → x < 256 ^ n → big_number (length (big_bytes n x)) (big_bytes n x) ≡ x
number_again n x lt = ap (λ (k : ℕ). big_number k (big_bytes n x)) (length-bytes_high_first n x) ∙ big_number-big_bytes n x lt

-- the bytes of a number are bytes
byte_fits : (k x : ℕ) → byte_at k x < 256
byte_fits k x = rw (byte_is k x) (omega arith)

pub bytes_of_number : (n x : ℕ) → AreBytes (big_bytes n x)
bytes_of_number zero x i d lt = absurd (omega arith)
bytes_of_number (suc n) x zero d lt = byte_fits n x
bytes_of_number (suc n) x (suc i) d lt = bytes_of_number n x i d (omega arith)

-- the bytes from a place on are those of the number there, and the rest
pub number_piece : (at n : ℕ) (bytes : List ℕ) → at + n ≤ length bytes → AreBytes bytes
    → drop at bytes ≡ big_bytes n (big_number n (drop at bytes)) ++ drop (at + n) bytes
number_piece at n bytes le are =
    let front = big_bytes-big_number n (drop at bytes) (omega (arith, length-drop at bytes)) (bytes_drop at bytes are) in
    sym (ap (λ (xs : List ℕ). xs ++ drop (at + n) bytes) front
    ∙ ap (λ (xs : List ℕ). take n (drop at bytes) ++ xs) (sym (drop-drop n at bytes)) ∙ take-append-drop n (drop at bytes))

-- the byte of a number of one byte
pub one_byte : (x : ℕ) → x < 256 → big_bytes 1 x ≡ x ∷ []
one_byte x lt = ap (λ (y : ℕ). y ∷ []) (mod-eq_of_lt lt)

-- ---- bytes and bits

pub bytes_bits : (n : ℕ) → 256 ^ n ≡ 2 ^ (8 * n)
bytes_bits zero = refl
bytes_bits (suc n) =
    let more : 8 * suc n ≡ 8 + 8 * n = omega arith in
    rw (pow-suc 256 n, more, pow-add 2 8 (8 * n), bytes_bits n) (omega arith)

-- the number in bytes fits their bits
pub number_fits : (bytes : List ℕ) → AreBytes bytes → big_number (length bytes) bytes < 2 ^ (8 * length bytes)
number_fits bytes are = rw (← bytes_bits (length bytes)) (big_from-lt 0 (length bytes) bytes (byte_at_place bytes are))
