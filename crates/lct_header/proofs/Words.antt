-- The first word as bytes.
use Rattle.std.proofs.Common.{◌≡◌, ℕ, zero, suc, ◌+◌, ◌*◌, ◌/◌, ◌%◌, ◌<◌, Bool, true, false, List, [], ◌∷◌, ◌++◌, refl, sym, ap, subst, ◌∙◌, arith}
use Rattle.std.specs.Prelude.{◌==◌}
use Rattle.lct_header.specs.Word.{FirstWord, SpellsWord, bit, byte_0, byte_1, version}
use Rattle.lct_header.specs.Inner.Word.{word_in}

-- a bit is 0 or 1
bit_fits : (flag : Bool) → bit flag < 2
bit_fits true = omega arith
bit_fits false = omega arith

-- a bit that is read is the flag
flag_again : (flag : Bool) (n : ℕ) → n ≡ bit flag → (n == 1) ≡ flag
flag_again true n is = rw is refl
flag_again false n is = rw is refl

-- the bit of a flag that is read
bit_of : (n : ℕ) → n < 2 → bit (n == 1) ≡ n
bit_of zero lt = refl
bit_of (suc zero) lt = refl
bit_of (suc (suc n)) lt = absurd (omega arith)

-- a word by its parts
made : (w : FirstWord) (c s o h : ℕ) (close_session close_object : Bool) (words codepoint : ℕ)
    → c ≡ w.c → s ≡ w.s → o ≡ w.o → h ≡ w.h → close_session ≡ w.close_session → close_object ≡ w.close_object → words ≡ w.words → codepoint ≡ w.codepoint
    → ◌≡◌ {A = FirstWord} (record { c = c; s = s; o = o; h = h; close_session = close_session; close_object = close_object; words = words; codepoint = codepoint }) w
made w c s o h a b words codepoint e0 e1 e2 e3 e4 e5 e6 e7 = rw (e0, e1, e2, e3, e4, e5, e6, e7) refl

-- the fields of the first byte
first_byte : (c psi : ℕ) → c < 4 → psi < 4 → ((16 + 4 * c + psi) / 4 % 4 ≡ c) × ((16 + 4 * c + psi) / 16 ≡ 1)
first_byte c psi c_fits psi_fits = (omega arith, omega arith)

-- the fields of the second byte
second_byte : (s o h r a b : ℕ) → s < 2 → o < 4 → h < 2 → r < 4 → a < 2 → b < 2
    → let x = 128 * s + 32 * o + 16 * h + 4 * r + 2 * a + b in (x / 128 ≡ s) × (x / 32 % 4 ≡ o) × (x / 16 % 2 ≡ h) × (x / 2 % 2 ≡ a) × (x % 2 ≡ b)
second_byte s o h r a b ls lo lh lr la lb = (omega arith, omega arith, omega arith, omega arith, omega arith)

-- what is spelled is read
pub word_again : (bytes : List ℕ) (w : FirstWord) (rest : List ℕ) → SpellsWord bytes w → (word_in (bytes ++ rest) ≡ w) × (version (bytes ++ rest) ≡ 1)
word_again bytes w rest spells =
    let one = first_byte w.c spells.psi spells.fits.c spells.psi_fits in
    let two = second_byte w.s w.o w.h spells.reserved (bit w.close_session) (bit w.close_object) spells.fits.s
    spells.fits.o spells.fits.h spells.reserved_fits (bit_fits w.close_session) (bit_fits w.close_object) in
    subst (λ (xs : List ℕ). (word_in (xs ++ rest) ≡ w) × (version (xs ++ rest) ≡ 1)) (sym spells.spelling)
    (made w _ _ _ _ _ _ _ _ one.0 two.0 two.1 two.2 (flag_again w.close_session _ two.3) (flag_again w.close_object _ two.4) refl refl, one.1)

-- bytes of version 1 spell what is read
pub word_spelled : (b0 b1 b2 b3 : ℕ) (rest : List ℕ) → b0 / 16 ≡ 1 → b1 < 256 → b2 < 256
    → b3 < 256 → SpellsWord (b0 ∷ b1 ∷ b2 ∷ b3 ∷ []) (word_in (b0 ∷ b1 ∷ b2 ∷ b3 ∷ rest))
word_spelled b0 b1 b2 b3 rest v f1 f2 f3 =
    let w = word_in (b0 ∷ b1 ∷ b2 ∷ b3 ∷ rest) in
    let a : bit w.close_session ≡ b1 / 2 % 2 = bit_of (b1 / 2 % 2) (omega arith) in
    let b : bit w.close_object ≡ b1 % 2 = bit_of (b1 % 2) (omega arith) in
    let e0 : b0 ≡ byte_0 w (b0 % 4) = omega arith in
    let e1 : b1 ≡ byte_1 w (b1 / 4 % 4) = omega (arith, a, b) in
    record {
      psi = b0 % 4;
      reserved = b1 / 4 % 4;
      psi_fits = omega arith;
      reserved_fits = omega arith;
      fits = record { c = omega arith; s = omega arith; o = omega arith; h = omega arith; words = f2; codepoint = f3 };
      spelling = ap (λ (x : ℕ). x ∷ b1 ∷ b2 ∷ b3 ∷ []) e0 ∙ ap (λ (x : ℕ). byte_0 w (b0 % 4) ∷ x ∷ b2 ∷ b3 ∷ []) e1;
    }
