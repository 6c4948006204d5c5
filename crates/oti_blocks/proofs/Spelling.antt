-- The ten bytes of transmission information and the values in them.
use Rattle.std.proofs.Common.{◌≡◌, ℕ, ◌%◌, List, [], ◌∷◌, ◌++◌, length, get_or, take, drop, drop-cons, Option, Some, None, Ok, refl, sym, ap, ◌∙◌, arith}
use Rattle.std.specs.Prelude.{IfOk}
use Rattle.std.proofs.Math.Nat.{mod-eq_of_lt}
use Rattle.std.proofs.lemmas.List.{append_assoc, take-append-drop, drop-drop, drop_all, get_or-take, drop-take, length-drop}
use Rattle.byteorder.specs.Endian.{big_number, big_bytes}
use Rattle.byteorder.specs.Numbers.{big_from-lt, big_from-take, big_number-reads_back}
use Rattle.wire_bytes.specs.Bytes.{AreBytes}
use Rattle.wire_bytes.specs.FirstFault.{unless_fault}
use Rattle.wire_bytes.proofs.Public.{big_bytes-big_number, bytes_drop, byte_at_place, one_byte}
use Rattle.oti_blocks.specs.Partition.{ObjectInformation, IsSound}
use Rattle.oti_blocks.specs.Wire.{fti_content, stated}
use Rattle.oti_blocks.specs.Faults.{information_fault, fti_fault}
use Rattle.oti_blocks.specs.declared.fault.OtiFault.{OtiFault}
use Rattle.oti_blocks.proofs.Soundness.{HasWidths, no_fault_from_sound}

-- information by its parts
made : (o : ObjectInformation) (length symbol max_block max_n : ℕ) → length ≡ o.length → symbol ≡ o.symbol → max_block ≡ o.max_block → max_n ≡ o.max_n
    → ◌≡◌ {A = ObjectInformation} (record { length = length; symbol = symbol; max_block = max_block; max_n = max_n }) o
made o length symbol max_block max_n a b c d = rw (a, b, c, d) refl

-- the values are read back, whatever stands behind
pub stated-fti_content : (o : ObjectInformation) (rest : List ℕ) → IsSound o → stated (fti_content o ++ rest) ≡ o
stated-fti_content o rest sound =
    let length_is = big_number-reads_back 6 o.length (big_bytes 2 o.symbol ++ big_bytes 1 o.max_block ++ big_bytes 1 o.max_n ++ rest) sound.length_fits in
    let symbol_is = big_number-reads_back 2 o.symbol (big_bytes 1 o.max_block ++ big_bytes 1 o.max_n ++ rest) sound.symbol_fits in
    let block_is : o.max_block % 256 ≡ o.max_block = mod-eq_of_lt (omega (arith, sound.block_within, sound.max_n_fits)) in
    let max_n_is : o.max_n % 256 ≡ o.max_n = mod-eq_of_lt (omega (arith, sound.max_n_fits)) in
    made o _ _ _ _ length_is symbol_is block_is max_n_is

-- the values stand in the first ten bytes
pub stated-take : (content : List ℕ) → stated (take 10 content) ≡ stated content
stated-take content =
    let symbol_is : big_number 2 (drop 6 (take 10 content)) ≡ big_number 2 (drop 6 content) =
    ap (big_number 2) (drop-take 6 4 content) ∙ big_from-take 0 2 4 (drop 6 content) (omega arith) in
    made (stated content) _ _ _ _ (big_from-take 0 6 10 content (omega arith))
    symbol_is (get_or-take 10 content 8 0 (omega arith)) (get_or-take 10 content 9 0 (omega arith))

-- four pieces
joined : (a b c d a' b' c' d' : List ℕ) → a ≡ a' → b ≡ b' → c ≡ c' → d ≡ d' → a ++ b ++ c ++ d ≡ a' ++ b' ++ c' ++ d'
joined a b c d a' b' c' d' p q r s = rw (p, q, r, s) refl

-- ten bytes in pieces
ten : (content : List ℕ) → length content ≡ 10 → take 6 content ++ take 2 (drop 6 content) ++ (get_or content 8 0 ∷ []) ++ (get_or content 9 0 ∷ []) ≡ content
ten content len =
    let last : drop 9 content ≡ get_or content 9 0 ∷ drop 10 content = drop-cons content 9 0 (omega arith) in
    let none : drop 10 content ≡ [] = drop_all 10 content (omega arith) in
    let before : drop 8 content ≡ get_or content 8 0 ∷ drop 9 content = drop-cons content 8 0 (omega arith) in
    let pair : drop 2 (drop 6 content) ≡ get_or content 8 0 ∷ get_or content 9 0 ∷ [] = drop-drop 2 6 content ∙ before
    ∙ ap (λ (r : List ℕ). get_or content 8 0 ∷ r) (last ∙ ap (λ (r : List ℕ). get_or content 9 0 ∷ r) none) in
    let back : take 2 (drop 6 content) ++ (get_or content 8 0 ∷ get_or content 9 0 ∷ []) ≡ drop 6 content =
    ap (λ (r : List ℕ). take 2 (drop 6 content) ++ r) (sym pair) ∙ take-append-drop 2 (drop 6 content) in
    append_assoc (take 6 content ++ take 2 (drop 6 content)) (get_or content 8 0 ∷ []) (get_or content 9 0 ∷ [])
    ∙ append_assoc (take 6 content) (take 2 (drop 6 content)) (get_or content 8 0 ∷ get_or content 9 0 ∷ [])
    ∙ ap (λ (r : List ℕ). take 6 content ++ r) back
    ∙ take-append-drop 6 content

-- the bytes are spelled again
pub fti_content-stated : (content : List ℕ) → length content ≡ 10 → AreBytes content → fti_content (stated content) ≡ content
fti_content-stated content len fits =
    joined _ _ _ _ _ _ _ _
    (big_bytes-big_number 6 content (omega arith) fits)
    (big_bytes-big_number 2 (drop 6 content) (omega (arith, length-drop 6 content)) (bytes_drop 6 content fits))
    (one_byte (get_or content 8 0) (byte_at_place content fits 8))
    (one_byte (get_or content 9 0) (byte_at_place content fits 9))
    ∙ ten content len

-- the values in bytes fit their fields
pub stated-widths : (content : List ℕ) → AreBytes content → HasWidths (stated content)
stated-widths content fits = record {
  length = big_from-lt 0 6 content (byte_at_place content fits);
  symbol = big_from-lt 0 2 (drop 6 content) (byte_at_place (drop 6 content) (bytes_drop 6 content fits));
  max_n = byte_at_place content fits 9;
}

-- what is read is spelled so
pub spelled : (content : List ℕ) → length content ≡ 10 → AreBytes content → (fault : Option OtiFault)
    → IfOk (unless_fault fault (stated content)) (λ o. content ≡ fti_content o)
spelled content len fits None = sym (fti_content-stated content len fits)
spelled content len fits (Some fault) = tt

-- what is spelled so has no fault
pub no_fti_fault : (o : ObjectInformation) → IsSound o → fti_fault (fti_content o) ≡ None
no_fti_fault o sound = ap information_fault (stated-fti_content o [] sound) ∙ no_fault_from_sound o sound

-- and is read
pub read_again : (o : ObjectInformation) → IsSound o → unless_fault (fti_fault (fti_content o)) (stated (fti_content o)) ≡ Ok o
read_again o sound =
    ap (λ (fault : Option OtiFault). unless_fault fault (stated (fti_content o))) (no_fti_fault o sound)
    ∙ ap (λ (p : ObjectInformation). Ok p) (stated-fti_content o [] sound)
