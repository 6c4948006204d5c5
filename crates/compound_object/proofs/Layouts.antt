-- What reading finds in a layout.
use Rattle.std.proofs.Common.{◌≡◌, ℕ, suc, ◌+◌, ◌-◌, ◌/◌, ◌%◌, ◌^◌, ◌<◌, ◌≤◌, Bool, true, false, cond, eqb, List, [], ◌∷◌, ◌++◌}
use Rattle.std.proofs.Common.{length, take, drop, replicate, Result, Ok, refl, sym, ap, ◌∙◌, append_assoc, arith}
use Rattle.wire_bytes.specs.Bytes.{are_zero}
use Rattle.wire_bytes.proofs.Public.{replicated_zeros}
use Rattle.std.proofs.lemmas.List.{take_at, drop_at, length-append, length-replicate, append-nil}
use Rattle.byteorder.specs.Endian.{big_bytes}
use Rattle.byteorder.specs.Numbers.{big_number-reads_back}
use Rattle.meta_text.specs.Fields.{Pair, ArePairs, written}
use Rattle.meta_text.proofs.Public.{reading-written, read_where_spelled}
use Rattle.meta_text.specs.Reading as fields
use Rattle.compound_object.specs.declared.fault.CompoundFault.{CompoundFault}
use Rattle.compound_object.specs.Checksum.{checksum}
use Rattle.compound_object.specs.Object.{rounded, header_length_of, layout, summed, SpellsObject, object_bytes}
use Rattle.compound_object.specs.Reading.{header_length, body_start, metadata_in, filling_in, body_in, is_descriptor, covered}
use Rattle.compound_object.specs.Reading.{without_sum, stated_sum, found_sum, Parts, with_fields, reading}
use Rattle.compound_object.proofs.Refusals.{Passes, not_refused}
use Rattle.compound_object.proofs.Sayings.{reading_sound}

-- what follows the first eight bytes
abbrev pub tail : List ℕ → List ℕ → List ℕ
tail metadata body = metadata ++ replicate (rounded (header_length_of metadata) - header_length_of metadata) 0 ++ body

rounded_le : (n : ℕ) → n ≤ rounded n
rounded_le n = omega arith

pub header_length-layout : (first sum : ℕ) (metadata body : List ℕ) → header_length_of metadata < 2 ^ 32
    → header_length (layout first sum metadata body) ≡ header_length_of metadata
unfolding header_length
header_length-layout first sum metadata body fits = big_number-reads_back 4 (header_length_of metadata) (tail metadata body) fits

pub stated_sum-layout : (first sum : ℕ) (metadata body : List ℕ) → sum < 2 ^ 16 → stated_sum (layout first sum metadata body) ≡ sum
unfolding stated_sum
stated_sum-layout first sum metadata body fits = big_number-reads_back 2 sum (drop 4 (layout first sum metadata body)) fits

length-tail : (metadata body : List ℕ) → 8 + length (tail metadata body) ≡ rounded (header_length_of metadata) + length body
length-tail metadata body =
    let h = header_length_of metadata in
    let zeros : List ℕ = replicate (rounded h - h) 0 in
    omega (arith, length-append (metadata ++ zeros) body, length-append metadata zeros, length-replicate {A = ℕ} (rounded h - h) 0, rounded_le h)

metadata-tail : (metadata body : List ℕ) → take (length metadata) (tail metadata body) ≡ metadata
metadata-tail metadata body =
    let zeros : List ℕ = replicate (rounded (header_length_of metadata) - header_length_of metadata) 0 in
    ap (take (length metadata)) (append_assoc metadata zeros body) ∙ take_at metadata (zeros ++ body) (length metadata) refl

filling-tail : (metadata body : List ℕ) → drop (length metadata) (tail metadata body)
    ≡ replicate (rounded (header_length_of metadata) - header_length_of metadata) 0 ++ body
filling-tail metadata body =
    let zeros : List ℕ = replicate (rounded (header_length_of metadata) - header_length_of metadata) 0 in
    ap (drop (length metadata)) (append_assoc metadata zeros body) ∙ drop_at metadata (zeros ++ body) (length metadata) refl

body-tail : (metadata body : List ℕ) (n : ℕ) → 8 + n ≡ rounded (header_length_of metadata) → drop n (tail metadata body) ≡ body
body-tail metadata body n is =
    let h = header_length_of metadata in
    let zeros : List ℕ = replicate (rounded h - h) 0 in
    drop_at (metadata ++ zeros) body n (omega (arith, length-append metadata zeros, length-replicate {A = ℕ} (rounded h - h) 0, rounded_le h))

front-tail : (metadata body : List ℕ) (n : ℕ) → 8 + n ≡ rounded (header_length_of metadata) → take n (tail metadata body) ≡ tail metadata []
front-tail metadata body n is =
    let h = header_length_of metadata in
    let zeros : List ℕ = replicate (rounded h - h) 0 in
    take_at (metadata ++ zeros) body n (omega (arith, length-append metadata zeros, length-replicate {A = ℕ} (rounded h - h) 0, rounded_le h))
    ∙ sym (append-nil (metadata ++ zeros))

-- eight bytes, as a number in unary, so that take and drop compute past them
pub past_eight : (n : ℕ) → 8 ≤ n → n ≡ suc (suc (suc (suc (suc (suc (suc (suc (n - 8))))))))
past_eight n le = omega arith

drop_past : (first sum : ℕ) (metadata body : List ℕ) (n : ℕ) → 8 ≤ n → drop n (layout first sum metadata body) ≡ drop (n - 8) (tail metadata body)
drop_past first sum metadata body n le = ap (λ k. drop k (layout first sum metadata body)) (past_eight n le)

take_past : (first sum : ℕ) (metadata body : List ℕ) → take (rounded (header_length_of metadata)) (layout first sum metadata body) ≡ layout first sum metadata []
take_past first sum metadata body =
    let h = header_length_of metadata in
    let le : 8 ≤ rounded h = omega (arith, rounded_le h) in
    ap (λ k. take k (layout first sum metadata body)) (past_eight (rounded h) le)
    ∙ ap (λ (rest : List ℕ). first ∷ 0 ∷ big_bytes 2 sum ++ big_bytes 4 h ++ rest) (front-tail metadata body (rounded h - 8) (omega arith))

body_start-layout : (first sum : ℕ) (metadata body : List ℕ) → header_length_of metadata < 2 ^ 32
    → body_start (layout first sum metadata body) ≡ rounded (header_length_of metadata)
body_start-layout first sum metadata body fits = ap rounded (header_length-layout first sum metadata body fits)

covered-layout : (first sum : ℕ) (metadata body : List ℕ) → header_length_of metadata < 2 ^ 32
    → covered (layout first sum metadata body) ≡ layout first sum metadata (cond (eqb (first / 2 % 2) 1) body [])
covered-layout first sum metadata body fits =
    by (eqb (first / 2 % 2) 1)
    (ap (λ k. take k (layout first sum metadata body)) (body_start-layout first sum metadata body fits) ∙ take_past first sum metadata body)
  where
    by : (t : Bool) → take (body_start (layout first sum metadata body)) (layout first sum metadata body) ≡ layout first sum metadata []
        → cond t (layout first sum metadata body) (take (body_start (layout first sum metadata body))
        (layout first sum metadata body)) ≡ layout first sum metadata (cond t body [])
    by true head = refl
    by false head = head

pub found_sum-layout : (first sum : ℕ) (metadata body : List ℕ) → header_length_of metadata < 2 ^ 32
    → found_sum (layout first sum metadata body) ≡ checksum (summed first metadata body)
unfolding found_sum
found_sum-layout first sum metadata body fits = ap (λ bytes. checksum (without_sum bytes)) (covered-layout first sum metadata body fits)

filling-layout : (first sum : ℕ) (metadata body : List ℕ) → header_length_of metadata < 2 ^ 32
    → filling_in (layout first sum metadata body) ≡ replicate (rounded (header_length_of metadata) - header_length_of metadata) 0
filling-layout first sum metadata body fits =
    let h = header_length_of metadata in
    let o = layout first sum metadata body in
    let zeros : List ℕ = replicate (rounded h - h) 0 in
    let rest : drop h o ≡ zeros ++ body =
    drop_past first sum metadata body h (omega arith) ∙ ap (λ k. drop k (tail metadata body)) (omega arith) ∙ filling-tail metadata body in
    ap (λ k. take (rounded k - k) (drop k o)) (header_length-layout first sum metadata body fits)
    ∙ ap (take (rounded h - h)) rest
    ∙ take_at zeros body (rounded h - h) (length-replicate {A = ℕ} (rounded h - h) 0)

metadata-layout : (first sum : ℕ) (metadata body : List ℕ) → header_length_of metadata < 2 ^ 32 → metadata_in (layout first sum metadata body) ≡ metadata
metadata-layout first sum metadata body fits =
    ap (λ k. take (k - 8) (tail metadata body)) (header_length-layout first sum metadata body fits)
    ∙ ap (λ k. take k (tail metadata body)) (omega arith)
    ∙ metadata-tail metadata body

body-layout : (first sum : ℕ) (metadata body : List ℕ) → header_length_of metadata < 2 ^ 32 → body_in (layout first sum metadata body) ≡ body
body-layout first sum metadata body fits =
    let h = header_length_of metadata in
    let le : 8 ≤ rounded h = omega (arith, rounded_le h) in
    ap (λ k. drop k (layout first sum metadata body)) (body_start-layout first sum metadata body fits)
    ∙ drop_past first sum metadata body (rounded h) le
    ∙ body-tail metadata body (rounded h - 8) (omega arith)

checksum_small : (bytes : List ℕ) → checksum bytes < 2 ^ 16
checksum_small bytes = omega arith

layout_passes : (first sum : ℕ) (metadata body : List ℕ) → first / 64 ≡ 0 → header_length_of metadata < 2 ^ 32
    → sum ≡ checksum (summed first metadata body) → Passes (layout first sum metadata body)
layout_passes first sum metadata body version fits checked =
    let h = header_length_of metadata in
    let o = layout first sum metadata body in
    let head = header_length-layout first sum metadata body fits in
    let small : sum < 2 ^ 16 = rw checked (checksum_small (summed first metadata body)) in
    record {
      long = omega arith;
      version = version;
      least = rw head (omega arith);
      within = rw head (omega (arith, length-tail metadata body));
      format = refl;
      plain = refl;
      zeros = ap are_zero (filling-layout first sum metadata body fits) ∙ replicated_zeros (rounded h - h);
      sum = stated_sum-layout first sum metadata body small ∙ checked ∙ sym (found_sum-layout first sum metadata body fits);
    }

-- what spells an object is read as it
pub reading-spelled : (object : List ℕ) (descriptor : Bool) (pairs : List Pair) (body : List ℕ) → SpellsObject object descriptor pairs body
    → reading object ≡ Ok (record { descriptor = descriptor; fields = pairs; body = body })
reading-spelled object descriptor pairs body s =
    let o = layout s.first s.sum s.metadata body in
    let made : Bool → List ℕ → Result Parts CompoundFault = λ d b. Ok (record { descriptor = d; fields = pairs; body = b }) in
    ap reading s.joined
    ∙ reading_sound o (not_refused o (layout_passes s.first s.sum s.metadata body s.version s.fits s.checked))
    ∙ ap (λ (m : List ℕ). with_fields o (fields.reading m)) (metadata-layout s.first s.sum s.metadata body s.fits)
    ∙ ap (with_fields o) ((read_where_spelled s.metadata pairs).1 s.says)
    ∙ ap (made (is_descriptor o)) (body-layout s.first s.sum s.metadata body s.fits)
    ∙ ap (λ d. made d body) (sym s.kind)

-- what is written spells an object, where its metadata says the fields
pub SpellsObject-said : (descriptor : Bool) (pairs : List Pair) (body : List ℕ) → fields.reading (written pairs) ≡ Ok pairs → length (written pairs) ≤ 4294967287
    → SpellsObject (object_bytes descriptor pairs body) descriptor pairs body
SpellsObject-said descriptor pairs body says small = by descriptor
  where
    by : (d : Bool) → SpellsObject (object_bytes d pairs body) d pairs body
    by true = record {
      first = 3;
      sum = checksum (layout 3 0 (written pairs) body);
      metadata =
          written pairs;
      joined = refl;
      version = refl;
      kind = refl;
      says = (read_where_spelled (written pairs) pairs).0 says;
      fits = omega arith;
      checked = refl;
    }
    by false = record {
      first = 2;
      sum = checksum (layout 2 0 (written pairs) body);
      metadata =
          written pairs;
      joined = refl;
      version = refl;
      kind = refl;
      says = (read_where_spelled (written pairs) pairs).0 says;
      fits = omega arith;
      checked = refl;
    }

-- which that of names and values does
pub SpellsObject-written : (descriptor : Bool) (pairs : List Pair) (body : List ℕ) → ArePairs pairs → length (written pairs) ≤ 4294967287
    → SpellsObject (object_bytes descriptor pairs body) descriptor pairs body
SpellsObject-written descriptor pairs body are small = SpellsObject-said descriptor pairs body (reading-written pairs are) small
