-- An object that is read is spelled so, each byte of it.
use Rattle.std.proofs.Common.{◌≡◌, ℕ, zero, suc, ◌+◌, ◌-◌, ◌*◌, ◌^◌, ◌<◌, ◌≤◌, true, List, [], ◌∷◌, ◌++◌, length, get_or, take}
use Rattle.std.proofs.Common.{drop, replicate, Option, Some, None, Result, Ok, Err, refl, sym, ap, subst, ◌∙◌, append_assoc, arith}
use Rattle.std.specs.Prelude.{IfOk, ◌↔◌}
use Rattle.wire_bytes.specs.Bytes.{AreBytes, are_zero}
use Rattle.wire_bytes.proofs.Public.{zeros_are, byte_at_place}
use Rattle.std.proofs.lemmas.List.{take-append-drop, drop-drop, length-take, length-drop}
use Rattle.std.proofs.lemmas.Nat.{be_bytes_2, be_bytes_4}
use Rattle.byteorder.specs.Endian.{big_bytes}
use Rattle.meta_text.specs.declared.fault.FieldFault.{FieldFault}
use Rattle.meta_text.proofs.Public.{read_where_spelled}
use Rattle.meta_text.specs.Fields.{Pair}
use Rattle.meta_text.specs.Reading as fields
use Rattle.compound_object.specs.declared.fault.CompoundFault.{CompoundFault}
use Rattle.compound_object.specs.declared.compound.Compound.{Compound}
use Rattle.compound_object.specs.Object.{rounded, header_length_of, layout, SpellsObject}
use Rattle.compound_object.specs.Reading.{header_length, metadata_in, filling_in, body_in, is_descriptor, stated_sum, found_sum}
use Rattle.compound_object.specs.Reading.{refusal, Parts, parts_of, with_fields, unless, reading, Gives}
use Rattle.compound_object.proofs.Refusals.{Passes, passes_from_none}
use Rattle.compound_object.proofs.Layouts.{reading-spelled, tail, past_eight, found_sum-layout}

two_bytes : (a b : ℕ) → a < 256 → b < 256 → big_bytes 2 (a * 256 + b) ≡ a ∷ b ∷ []
two_bytes a b la lb = be_bytes_2 (a ∷ b ∷ []) (a * 256 + b) refl small (omega arith)
  where
    small : (i : ℕ) → get_or (a ∷ b ∷ []) i 0 < 256
    small zero = la
    small (suc zero) = lb
    small (suc (suc i)) = omega arith

four_bytes : (a b c d : ℕ) → a < 256 → b < 256 → c < 256 → d < 256 → big_bytes 4 (a * 16777216 + b * 65536 + c * 256 + d) ≡ a ∷ b ∷ c ∷ d ∷ []
four_bytes a b c d la lb lc ld = be_bytes_4 (a ∷ b ∷ c ∷ d ∷ []) (a * 16777216 + b * 65536 + c * 256 + d) refl small (omega arith)
  where
    small : (i : ℕ) → get_or (a ∷ b ∷ c ∷ d ∷ []) i 0 < 256
    small zero = la
    small (suc zero) = lb
    small (suc (suc zero)) = lc
    small (suc (suc (suc zero))) = ld
    small (suc (suc (suc (suc i)))) = omega arith

-- what follows the first eight bytes, cut at the header's length and at the body's start
rest_is : (rest : List ℕ) (h : ℕ) → 8 ≤ h → rounded h ≤ 8 + length rest → are_zero (take (rounded h - h) (drop (h - 8) rest)) ≡ true
    → (8 + length (take (h - 8) rest) ≡ h) × (rest ≡ tail (take (h - 8) rest) (drop (rounded h - 8) rest))
rest_is rest h least within zeros =
    let m = take (h - 8) rest in
    let k = rounded h - h in
    let up : h ≤ rounded h = omega arith in
    let len : 8 + length m ≡ h = omega (arith, length-take (h - 8) rest) in
    let after = drop (h - 8) rest in
    let enough : length (take k after) ≡ k = omega (arith, length-take k after, length-drop (h - 8) rest) in
    let zero_bytes : take k after ≡ replicate k 0 = zeros_are (take k after) zeros ∙ ap (λ n. replicate n 0) enough in
    let body : drop k after ≡ drop (rounded h - 8) rest = drop-drop k (h - 8) rest ∙ ap (λ n. drop n rest) (omega arith) in
    let count : k ≡ rounded (8 + length m) - (8 + length m) = ap (λ n. rounded n - n) (sym len) in
    let split : rest ≡ m ++ (take k after ++ drop k after) = sym (take-append-drop (h - 8) rest) ∙ ap (λ (ys : List ℕ). m ++ ys) (sym (take-append-drop k after)) in (
      len,
      split
          ∙ ap (λ (ys : List ℕ). m ++ (ys ++ drop k after)) (zero_bytes ∙ ap (λ n. replicate n 0) count)
          ∙ ap (λ (ys : List ℕ). m ++ (replicate (rounded (8 + length m) - (8 + length m)) 0 ++ ys)) body
          ∙ sym (append_assoc m (replicate (rounded (8 + length m) - (8 + length m)) 0) (drop (rounded h - 8) rest)),
    )

header_cells : (a0 a1 a2 a3 a4 a5 a6 a7 : ℕ) (rest : List ℕ) → header_length (a0 ∷ a1 ∷ a2 ∷ a3 ∷ a4 ∷ a5 ∷ a6 ∷ a7 ∷ rest) ≡ a4 * 16777216 + a5 * 65536 + a6 * 256 + a7
unfolding header_length
header_cells a0 a1 a2 a3 a4 a5 a6 a7 rest = omega arith

sum_cells : (a0 a1 a2 a3 : ℕ) (rest : List ℕ) → stated_sum (a0 ∷ a1 ∷ a2 ∷ a3 ∷ rest) ≡ a2 * 256 + a3
unfolding stated_sum
sum_cells a0 a1 a2 a3 rest = omega arith

spelled : (o : List ℕ) (pairs : List Pair) → AreBytes o → Passes o → fields.reading (metadata_in o) ≡ Ok pairs → SpellsObject o (is_descriptor o) pairs (body_in o)
spelled (a0 ∷ a1 ∷ a2 ∷ a3 ∷ a4 ∷ a5 ∷ a6 ∷ a7 ∷ rest) pairs fits p says =
    let o : List ℕ = a0 ∷ a1 ∷ a2 ∷ a3 ∷ a4 ∷ a5 ∷ a6 ∷ a7 ∷ rest in
    let at : (i : ℕ) → get_or o i 0 < 256 = byte_at_place o fits in
    let h = header_length o in
    let cells = header_cells a0 a1 a2 a3 a4 a5 a6 a7 rest in
    let header : big_bytes 4 h ≡ a4 ∷ a5 ∷ a6 ∷ a7 ∷ [] = ap (big_bytes 4) cells ∙ four_bytes a4 a5 a6 a7 (at 4) (at 5) (at 6) (at 7) in
    let sum : big_bytes 2 (stated_sum o) ≡ a2 ∷ a3 ∷ [] = ap (big_bytes 2) (sum_cells a0 a1 a2 a3 (a4 ∷ a5 ∷ a6 ∷ a7 ∷ rest)) ∙ two_bytes a2 a3 (at 2) (at 3) in
    let second : a1 ≡ 0 = omega (arith, p.format, p.plain) in
    let filling : filling_in o ≡ take (rounded h - h) (drop (h - 8) rest) = ap (λ k. take (rounded h - h) (drop k o)) (past_eight h p.least) in
    let parts = rest_is rest h p.least (omega (arith, p.within)) (ap are_zero (sym filling) ∙ p.zeros) in
    let metadata = take (h - 8) rest in
    let body = drop (rounded h - 8) rest in
    let build : ℕ → List ℕ → List ℕ → List ℕ → List ℕ = λ z s n t. a0 ∷ z ∷ s ++ n ++ t in
    let joined : o ≡ layout a0 (stated_sum o) metadata body =
    ap (λ z. build z (a2 ∷ a3 ∷ []) (a4 ∷ a5 ∷ a6 ∷ a7 ∷ []) rest) second
    ∙ ap (λ (s : List ℕ). build 0 s (a4 ∷ a5 ∷ a6 ∷ a7 ∷ []) rest) (sym sum)
    ∙ ap (λ (n : List ℕ). build 0 (big_bytes 2 (stated_sum o)) n rest) (sym header ∙ ap (big_bytes 4) (sym parts.0))
    ∙ ap (build 0 (big_bytes 2 (stated_sum o)) (big_bytes 4 (header_length_of metadata))) parts.1 in
    let fits_32 : header_length_of metadata < 2 ^ 32 = omega (arith, parts.0, cells, at 4, at 5, at 6, at 7) in
    let body-is : drop (rounded h - 8) rest ≡ body_in o = ap (λ k. drop k o) (sym (past_eight (rounded h) (omega (arith, p.least)))) in
    let whole : SpellsObject o (is_descriptor o) pairs body = record {
      first = a0;
      sum = stated_sum o;
      metadata = metadata;
      joined = joined;
      version = p.version;
      kind = refl;
      says = (read_where_spelled metadata pairs).0 says;
      fits = fits_32;
      checked = p.sum ∙ ap found_sum joined ∙ found_sum-layout a0 (stated_sum o) metadata body fits_32;
    } in
    subst (SpellsObject o (is_descriptor o) pairs) body-is whole
spelled o pairs fits p says = absurd (omega (arith, p.long))

abbrev done : Parts → Result Parts CompoundFault
done parts = Ok parts

said_ok : (o : List ℕ) (read : Result (List Pair) FieldFault) (parts : Parts) → with_fields o read ≡ done parts
    → (read ≡ Ok parts.fields) × (is_descriptor o ≡ parts.descriptor) × (body_in o ≡ parts.body)
said_ok o (Ok pairs) parts e =
    let same : record { descriptor = is_descriptor o; fields = pairs; body = body_in o } ≡ parts = cc in
    (ap (λ p. Ok p.fields) same, ap (λ p. p.descriptor) same, ap (λ p. p.body) same)
said_ok o (Err fault) parts e = absurd cc

-- what is read is spelled so
pub spelled-reading : (o : List ℕ) (parts : Parts) → AreBytes o → reading o ≡ Ok parts → SpellsObject o parts.descriptor parts.fields parts.body
unfolding reading
spelled-reading o parts fits e = by (refusal o) refl e
  where
    by : (f : Option CompoundFault) → refusal o ≡ f → unless f (with_fields o (fields.reading (metadata_in o))) ≡ Ok parts
        → SpellsObject o parts.descriptor parts.fields parts.body
    by None none e =
        let said = said_ok o (fields.reading (metadata_in o)) parts e in
        subst (λ b. SpellsObject o parts.descriptor parts.fields b) said.2
        (subst (λ d. SpellsObject o d parts.fields (body_in o)) said.1 (spelled o parts.fields fits (passes_from_none o none) said.0))
    by (Some fault) none e = absurd cc

pub is_spelled : (o : List ℕ) (r : Result Compound CompoundFault) → AreBytes o → Gives r (reading o) → IfOk r (λ c. SpellsObject o c.descriptor c.fields c.body.now)
is_spelled o (Ok c) fits given = spelled-reading o (parts_of c) fits given
is_spelled o (Err fault) fits given = tt

-- and what is spelled so is read
pub read_where_spelled_so : (o : List ℕ) (parts : Parts) → AreBytes o → (reading o ≡ Ok parts) ↔ SpellsObject o parts.descriptor parts.fields parts.body
read_where_spelled_so o parts fits = (spelled-reading o parts fits, reading-spelled o parts.descriptor parts.fields parts.body)
