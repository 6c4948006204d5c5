-- The body of a slice.
use Rattle.std.proofs.Common.{◌≡◌, ℕ, ◌+◌, ◌^◌, ◌<◌, ◌≤◌, true, false, cond, List, ◌++◌, Some, None, length, drop, refl, sym, ap, subst, ◌∙◌, arith, nat_lt}
use Rattle.std.proofs.lemmas.Bool.Decides.{nat_tests}
use Rattle.byteorder.specs.Endian.{big_bytes, big_number}
use Rattle.byteorder.specs.Numbers.{big_from-lt, big_number-reads_back}
use Rattle.wire_bytes.specs.Bytes.{AreBytes}
use Rattle.wire_bytes.proofs.Public.{byte_at_place, bytes_drop, number_piece}
use Rattle.slice_join.specs.Slice.{Slice, SpellsSlice, head_length, slice_bytes, slice_of, slice_in}

pub length_body : (s : Slice) → length (slice_bytes s) ≡ 16 + length s.part
length_body s = omega arith

-- what is written is what is read
pub said_again : (s : Slice) → s.place < 2 ^ 32 → s.count < 2 ^ 32 → s.total < 2 ^ 64 → slice_of (slice_bytes s) ≡ s
said_again s place count total =
    let p : big_number 4 (slice_bytes s) ≡ s.place = big_number-reads_back 4 s.place (drop 4 (slice_bytes s)) place in
    let c : big_number 4 (drop 4 (slice_bytes s)) ≡ s.count = big_number-reads_back 4 s.count (drop 8 (slice_bytes s)) count in
    let t : big_number 8 (drop 8 (slice_bytes s)) ≡ s.total = big_number-reads_back 8 s.total s.part total in
    ap (λ x. record { place = x; count = big_number 4 (drop 4 (slice_bytes s)); total = big_number 8 (drop 8 (slice_bytes s)); part = s.part }) p
    ∙ ap (λ x. record { place = s.place; count = x; total = big_number 8 (drop 8 (slice_bytes s)); part = s.part }) c
    ∙ ap (λ x. record { place = s.place; count = s.count; total = x; part = s.part }) t

pub long_enough : (s : Slice) → nat_lt (length (slice_bytes s)) head_length ≡ false
long_enough s = let size = length_body s in grind (arith, nat_tests)

read_again : (s : Slice) → s.place < 2 ^ 32 → s.count < 2 ^ 32 → s.total < 2 ^ 64 → slice_in (slice_bytes s) ≡ Some s
unfolding slice_in
read_again s place count total =
    ap (λ b. cond b None (Some (slice_of (slice_bytes s)))) (long_enough s) ∙ ap Some (said_again s place count total)

pub spelled_read : (body : List ℕ) (s : Slice) → SpellsSlice body s → slice_in body ≡ Some s
spelled_read body s h = ap slice_in h.joined ∙ read_again s h.place h.count h.total

-- what is read is said
says_that : (body : List ℕ) → AreBytes body → 16 ≤ length body → SpellsSlice body (slice_of body)
says_that body are long =
    let fits : (n : ℕ) (bytes : List ℕ) → AreBytes bytes → big_number n bytes < 256 ^ n = λ n bytes b. big_from-lt 0 n bytes (byte_at_place bytes b) in
    record {
      place = fits 4 body are;
      count = fits 4 (drop 4 body) (bytes_drop 4 body are);
      total = fits 8 (drop 8 body) (bytes_drop 8 body are);
      joined = number_piece 0 4 body (omega arith) are
          ∙ ap (λ (xs : List ℕ). big_bytes 4 (big_number 4 body) ++ xs) (number_piece 4 4 body (omega arith) are
          ∙ ap (λ (xs : List ℕ). big_bytes 4 (big_number 4 (drop 4 body)) ++ xs) (number_piece 8 8 body (omega arith) are));
    }

some_only : {A : Type 0} (a b : A) → Some a ≡ Some b → a ≡ b
some_only a b e = cc

pub read_says : (body : List ℕ) (s : Slice) → AreBytes body → slice_in body ≡ Some s → SpellsSlice body s
unfolding slice_in
read_says body s are is = elim (nat_lt (length body) head_length) as (λ b. nat_lt (length body) head_length ≡ b → cond b None (Some (slice_of body)) ≡ Some s → SpellsSlice body s) [
  | true ↦ λ e none. absurd cc
  | false ↦ λ e some. subst (SpellsSlice body) (some_only (slice_of body) s some) (says_that body are (grind (arith, nat_tests)))
] refl is

-- ---- whether a body is long enough

pub head_said : (body : List ℕ) (s : Slice) → slice_in body ≡ Some s → s ≡ slice_of body
unfolding slice_in
head_said body s is = elim (nat_lt (length body) head_length) as (λ b. cond b None (Some (slice_of body)) ≡ Some s → s ≡ slice_of body) [
  | true ↦ λ none. absurd cc
  | false ↦ λ some. sym (some_only (slice_of body) s some)
] is

pub head_long : (body : List ℕ) (s : Slice) → slice_in body ≡ Some s → nat_lt (length body) head_length ≡ false
unfolding slice_in
head_long body s is = elim (nat_lt (length body) head_length) as (λ b. cond b None (Some (slice_of body)) ≡ Some s → b ≡ false) [
  | true ↦ λ none. absurd cc
  | false ↦ λ some. refl
] is

pub head_short : (body : List ℕ) → slice_in body ≡ None → nat_lt (length body) head_length ≡ true
unfolding slice_in
head_short body is = elim (nat_lt (length body) head_length) as (λ b. cond b None (Some (slice_of body)) ≡ None → b ≡ true) [
  | true ↦ λ none. refl
  | false ↦ λ some. absurd cc
] is
