-- The pieces of a header at their places.
use Rattle.std.proofs.Common.{◌≡◌, ℕ, ◌+◌, ◌-◌, ◌*◌, ◌≤◌, List, [], ◌∷◌, ◌++◌, length, take, drop, refl, sym, ap, subst, ◌∙◌, arith}
use Rattle.std.proofs.lemmas.List.{length-append, take-append-drop, take_at, drop_at, drop-drop}
use Rattle.wire_bytes.specs.Bytes.{AreBytes}
use Rattle.wire_bytes.proofs.Public.{cut_at, length_piece}
use Rattle.lct_header.specs.Word.{FirstWord, SpellsWord, cci_length, tsi_length, fixed_length, version}
use Rattle.lct_header.specs.HeaderView.{IsLaidOut}
use Rattle.lct_header.specs.Answer.{tsi_at, toi_at, area_at}
use Rattle.lct_header.specs.Inner.Word.{word_in}
use Rattle.lct_header.proofs.Words.{word_again, word_spelled}

-- version 1, and a stated length from that of the fixed fields up to that of the bytes
pub record HasLayout (bytes : List ℕ) : Type 0 where
  pub long : 4 ≤ length bytes
  pub first : version bytes ≡ 1
  pub above : fixed_length (word_in bytes) ≤ 4 * (word_in bytes).words
  pub within : 4 * (word_in bytes).words ≤ length bytes

-- the first four bytes spell the word in them
pub front_spells : (bytes : List ℕ) → 4 ≤ length bytes → AreBytes bytes → version bytes ≡ 1 → SpellsWord (take 4 bytes) (word_in bytes)
front_spells (b0 ∷ b1 ∷ b2 ∷ b3 ∷ rest) le fits v = word_spelled b0 b1 b2 b3 rest v (fits 1 0 (omega arith)) (fits 2 0 (omega arith)) (fits 3 0 (omega arith))
front_spells (b0 ∷ b1 ∷ b2 ∷ []) le fits v = absurd (omega arith)
front_spells (b0 ∷ b1 ∷ []) le fits v = absurd (omega arith)
front_spells (b0 ∷ []) le fits v = absurd (omega arith)
front_spells [] le fits v = absurd (omega arith)

-- bytes with a layout are laid out so
pub laid_out : (bytes : List ℕ) → AreBytes bytes → HasLayout bytes
    → let w = word_in bytes in IsLaidOut bytes w (tsi_at w bytes) (toi_at w bytes) (area_at w bytes) (drop (4 * w.words) bytes)
laid_out bytes fits has =
    let w = word_in bytes in
    let p1 = 4 + cci_length w in
    let p2 = 4 + cci_length w + tsi_length w in
    let p3 = fixed_length w in
    let p4 = 4 * w.words in
    let above : p3 ≤ p4 = has.above in
    let within : p4 ≤ length bytes = has.within in
    let l1 = length_piece 4 p1 bytes (omega arith) (omega arith) in
    let l2 = length_piece p1 p2 bytes (omega arith) (omega arith) in
    let l3 = length_piece p2 p3 bytes (omega arith) (omega arith) in
    let l4 = length_piece p3 p4 bytes above within in
    record {
      word = take 4 bytes;
      cci = take (p1 - 4) (drop 4 bytes);
      spells = front_spells bytes has.long fits has.first;
      cci_bytes = omega (arith, l1);
      tsi_bytes = omega (arith, l2);
      toi_bytes = omega (arith, l3);
      stated = omega (arith, l4, above);
      joined =
          sym (take-append-drop 4 bytes)
          ∙ ap (λ (r : List ℕ). take 4 bytes ++ r) (cut_at 4 p1 bytes (omega arith)
          ∙ ap (λ (r : List ℕ). take (p1 - 4) (drop 4 bytes) ++ r) (cut_at p1 p2 bytes (omega arith)
          ∙ ap (λ (r : List ℕ). tsi_at w bytes ++ r) (cut_at p2 p3 bytes (omega arith)
          ∙ ap (λ (r : List ℕ). toi_at w bytes ++ r) (cut_at p3 p4 bytes above))));
    }

-- what is laid out stands at its places
pub record IsFound (bytes : List ℕ) (w : FirstWord) (tsi toi area rest : List ℕ) : Type 0 where
  pub layout : HasLayout bytes
  pub word_is : word_in bytes ≡ w
  pub tsi_is : tsi_at w bytes ≡ tsi
  pub toi_is : toi_at w bytes ≡ toi
  pub area_is : area_at w bytes ≡ area

-- a front that is dropped, at a place further on
dropped : (at next : ℕ) (bytes front rest : List ℕ) → drop at bytes ≡ front ++ rest → at + length front ≡ next → drop next bytes ≡ rest
dropped at next bytes front rest e len =
    ap (λ (n : ℕ). drop n bytes) (sym len) ∙ sym (drop-drop (length front) at bytes) ∙ ap (drop (length front)) e ∙ drop_at front rest (length front) refl

-- and what is taken there
taken : (at next : ℕ) (bytes front rest : List ℕ) → drop at bytes ≡ front ++ rest → at + length front ≡ next → take (next - at) (drop at bytes) ≡ front
taken at next bytes front rest e len = ap (take (next - at)) e ∙ take_at front rest (next - at) (omega arith)

-- so it is found by them
pub found : (bytes : List ℕ) (w : FirstWord) (tsi toi area rest : List ℕ) → IsLaidOut bytes w tsi toi area rest → IsFound bytes w tsi toi area rest
found bytes w tsi toi area rest laid =
    let r4 = area ++ rest in
    let r3 = toi ++ r4 in
    let r2 = tsi ++ r3 in
    let r1 = laid.cci ++ r2 in
    let len : length laid.word ≡ 4 = ap length laid.spells.spelling in
    let whole : length bytes ≡ length laid.word + (length laid.cci + (length tsi + (length toi + (length area + length rest)))) =
    ap length laid.joined ∙ (let n1 = length-append laid.word r1 in let n2 = length-append laid.cci r2 in
    let n3 = length-append tsi r3 in let n4 = length-append toi r4 in let n5 = length-append area rest in omega arith) in
    let again = word_again laid.word w r1 laid.spells in
    let word : word_in bytes ≡ w = ap word_in laid.joined ∙ again.0 in
    let first : version bytes ≡ 1 = ap version laid.joined ∙ again.1 in
    let d0 : drop 0 bytes ≡ laid.word ++ r1 = laid.joined in
    let d1 = dropped 0 4 bytes laid.word r1 d0 (omega arith) in
    let d2 = dropped 4 (4 + cci_length w) bytes laid.cci r2 d1 (omega (arith, laid.cci_bytes)) in
    let d3 = dropped (4 + cci_length w) (4 + cci_length w + tsi_length w) bytes tsi r3 d2 (omega (arith, laid.tsi_bytes)) in
    let d4 = dropped (4 + cci_length w + tsi_length w) (fixed_length w) bytes toi r4 d3 (omega (arith, laid.toi_bytes)) in
    let above : fixed_length w ≤ 4 * w.words = omega (arith, laid.stated) in
    let within : 4 * w.words ≤ length bytes = omega (arith, laid.stated, laid.cci_bytes, laid.tsi_bytes, laid.toi_bytes) in
    record {
      layout = record {
        long = omega arith;
        first = first;
        above = subst (λ (x : FirstWord). fixed_length x ≤ 4 * x.words) (sym word) above;
        within = subst (λ (x : FirstWord). 4 * x.words ≤ length bytes) (sym word) within;
      };
      word_is = word;
      tsi_is = taken (4 + cci_length w) (4 + cci_length w + tsi_length w) bytes tsi r3 d2 (omega (arith, laid.tsi_bytes));
      toi_is = taken (4 + cci_length w + tsi_length w) (fixed_length w) bytes toi r4 d3 (omega (arith, laid.toi_bytes));
      area_is = taken (fixed_length w) (4 * w.words) bytes area rest d4 (omega (arith, laid.stated));
    }
