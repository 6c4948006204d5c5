-- What the code finds in the bytes is a header, or a fault.
use Rattle.std.proofs.Common.{◌≡◌, ℕ, ◌+◌, ◌-◌, ◌*◌, ◌<◌, ◌≤◌, List, length, take, drop, refl, sym, subst, arith, inl, inr, ◌⊎◌}
use Rattle.std.proofs.lemmas.List.{take-append-drop}
use Rattle.wire_bytes.specs.Bytes.{AreBytes}
use Rattle.lct_header.specs.declared.fault.HeaderFault.{HeaderFault}
use Rattle.lct_header.specs.declared.fault.HeaderFault.TheVariants.{Short, Version, LengthField, ExtensionZero, ExtensionLong}
use Rattle.lct_header.specs.Extensions.{IsArea}
use Rattle.lct_header.specs.Word.{FirstWord, cci_length, tsi_length, toi_length, fixed_length, version}
use Rattle.lct_header.specs.Header.{header_of}
use Rattle.lct_header.specs.HeaderView.{StartsWithHeader}
use Rattle.lct_header.specs.Faults.{HasWrongLength, IsFirstFault}
use Rattle.lct_header.specs.Inner.Word.{word_in}
use Rattle.lct_header.specs.Inner.Faults.{IsAreaFault}
use Rattle.lct_header.specs.Answer.{tsi_at, toi_at, area_at, view_at}
use Rattle.lct_header.proofs.Layouts.{HasLayout, front_spells, laid_out}

-- a stated length that is wrong
pub wrong_length : (bytes : List ℕ) → AreBytes bytes → 4 ≤ length bytes → version bytes ≡ 1
    → (4 * (word_in bytes).words < fixed_length (word_in bytes)) ⊎ (length bytes < 4 * (word_in bytes).words) → HasWrongLength bytes
wrong_length bytes fits long first wrong =
    record {
      word = word_in bytes;
      front = take 4 bytes;
      rest = drop 4 bytes;
      joined =
          sym (take-append-drop 4 bytes);
      spells = front_spells bytes long fits first;
      wrong = wrong;
    }

-- a fault of the area is one of the bytes
pub area_fault : (bytes : List ℕ) (fault : HeaderFault) → AreBytes bytes → HasLayout bytes
    → IsAreaFault (area_at (word_in bytes) bytes) (fixed_length (word_in bytes)) fault → IsFirstFault bytes fault
area_fault bytes Short fits has is = absurd is
area_fault bytes Version fits has is = absurd is
area_fault bytes LengthField fits has is = absurd is
area_fault bytes (ExtensionZero at) fits has is =
    record {
      word = word_in bytes;
      tsi = tsi_at (word_in bytes) bytes;
      toi = toi_at (word_in bytes) bytes;
      area =
          area_at (word_in bytes) bytes;
      rest = drop (4 * (word_in bytes).words) bytes;
      layout = laid_out bytes fits has;
      stops = is;
    }
area_fault bytes (ExtensionLong at) fits has is =
    record {
      word = word_in bytes;
      tsi = tsi_at (word_in bytes) bytes;
      toi = toi_at (word_in bytes) bytes;
      area =
          area_at (word_in bytes) bytes;
      rest = drop (4 * (word_in bytes).words) bytes;
      layout = laid_out bytes fits has;
      stops = is;
    }

-- an area of extensions without a fault makes a header
pub view_starts : (bytes : List ℕ) → AreBytes bytes → HasLayout bytes → IsArea (area_at (word_in bytes) bytes) → StartsWithHeader bytes (view_at (word_in bytes) bytes)
view_starts bytes fits has is = (
  drop (4 * (word_in bytes).words) bytes,
  record {
    word = word_in bytes;
    tsi = tsi_at (word_in bytes) bytes;
    toi = toi_at (word_in bytes) bytes;
    layout =
        laid_out bytes fits has;
    extensions = is;
    header = refl;
    length = refl;
  },
)

-- ---- the same with the lengths of the code

-- what the code knows of the bytes, with the lengths that it took from the word
pub record HasLengths (bytes : List ℕ) (w : FirstWord) (cci tsi toi n : ℕ) : Type 0 where
  pub long : 4 ≤ length bytes
  pub first : version bytes ≡ 1
  pub word_is : w ≡ word_in bytes
  pub cci_is : cci ≡ cci_length w
  pub tsi_is : tsi ≡ tsi_length w
  pub toi_is : toi ≡ toi_length w
  pub n_is : n ≡ 4 * w.words

-- which are right
pub layout_from : (bytes : List ℕ) (w : FirstWord) (cci tsi toi n : ℕ) → HasLengths bytes w cci tsi toi n → 4 + cci + tsi + toi ≤ n → n ≤ length bytes → HasLayout bytes
layout_from bytes w cci tsi toi n has above within = record {
  long = has.long;
  first = has.first;
  above = subst (λ (x : FirstWord). fixed_length x ≤ 4 * x.words) has.word_is (omega (arith, above, has.cci_is, has.tsi_is, has.toi_is, has.n_is));
  within = subst (λ (x : FirstWord). 4 * x.words ≤ length bytes) has.word_is (omega (arith, within, has.n_is));
}

-- or wrong
pub wrong_from : (bytes : List ℕ) (w : FirstWord) (cci tsi toi n : ℕ) → AreBytes bytes
    → HasLengths bytes w cci tsi toi n → (n < 4 + cci + tsi + toi) ⊎ (length bytes < n) → HasWrongLength bytes
wrong_from bytes w cci tsi toi n fits has wrong =
    let same : (4 * w.words < fixed_length w) ⊎ (length bytes < 4 * w.words) =
    elim wrong [ inl lt ↦ inl (omega (arith, lt, has.cci_is, has.tsi_is, has.toi_is, has.n_is)) | inr lt ↦ inr (omega (arith, lt, has.n_is)) ] in
    wrong_length bytes fits has.long has.first (subst (λ (x : FirstWord). (4 * x.words < fixed_length x) ⊎ (length bytes < 4 * x.words)) has.word_is same)

-- the area that the code takes
area_is : (bytes : List ℕ) (w : FirstWord) (cci tsi toi n : ℕ) → HasLengths bytes w cci tsi toi n
    → take (n - (4 + cci + tsi + toi)) (drop (4 + cci + tsi + toi) bytes) ≡ area_at (word_in bytes) bytes
area_is bytes w cci tsi toi n has = rw (has.cci_is, has.tsi_is, has.toi_is, has.n_is, has.word_is) refl

-- a fault that the code finds in the area is one of the bytes
pub fault_from : (bytes : List ℕ) (w : FirstWord) (cci tsi toi n : ℕ) (fault : HeaderFault)
    → AreBytes bytes → HasLengths bytes w cci tsi toi n → 4 + cci + tsi + toi ≤ n → n ≤ length bytes
    → IsAreaFault (take (n - (4 + cci + tsi + toi)) (drop (4 + cci + tsi + toi) bytes)) (4 + cci + tsi + toi) fault → IsFirstFault bytes fault
fault_from bytes w cci tsi toi n fault fits has above within is =
    let start : 4 + cci + tsi + toi ≡ fixed_length (word_in bytes) = rw (has.cci_is, has.tsi_is, has.toi_is, has.word_is) refl in
    area_fault bytes fault fits (layout_from bytes w cci tsi toi n has above within)
    (subst (λ (k : ℕ). IsAreaFault (area_at (word_in bytes) bytes) k fault)
    start (subst (λ (xs : List ℕ). IsAreaFault xs (4 + cci + tsi + toi) fault) (area_is bytes w cci tsi toi n has) is))

-- what the code makes of an area without a fault begins the bytes
pub view_from : (bytes : List ℕ) (w : FirstWord) (cci tsi toi n : ℕ) → AreBytes bytes → HasLengths bytes w cci tsi toi n → 4 + cci + tsi + toi ≤ n → n ≤ length bytes
    → IsArea (take (n - (4 + cci + tsi + toi)) (drop (4 + cci + tsi + toi) bytes))
    → StartsWithHeader bytes (record {
      header = header_of w (take (4 + cci + tsi - (4 + cci)) (drop (4 + cci) bytes)) (take (4 + cci + tsi + toi - (4 + cci + tsi)) (drop (4 + cci + tsi) bytes));
      length = n;
      area = take (n - (4 + cci + tsi + toi)) (drop (4 + cci + tsi + toi) bytes);
    })
view_from bytes w cci tsi toi n fits has above within is =
    rw (has.cci_is, has.tsi_is, has.toi_is, has.n_is, has.word_is)
    (view_starts bytes fits (layout_from bytes w cci tsi toi n has above within) (subst IsArea (area_is bytes w cci tsi toi n has) is))
