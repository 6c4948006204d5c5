-- What is written is a file or a descriptor, with these parts.
use Rattle.std.proofs.Common.{◌≡◌, ℕ, ◌+◌, ◌-◌, ◌≤◌, ◌<◌, ◌^◌, true, false, List, [], ◌∷◌, ◌++◌, Option, Some, None, Result, Ok}
use Rattle.std.proofs.Common.{Err, Bor, refl, sym, ap, subst, ◌∙◌, inl, arith, length, map, append-nil}
use Rattle.std.specs.Prelude.{unwrap_or, IfOk}
use Rattle.std.specs.List.{AllByRecursion, range_with_len}
use Rattle.std.specs.Option.{ForSome, option_copied}
use Rattle.std.specs.Fmt.{decimal}
use Rattle.std.proofs.lemmas.Fmt.{decimal_is_IsNumeral, decimal_is_IsNumeral_wide, length-decimal-le}
use Rattle.std.proofs.lemmas.List.Sums.{sum_by-cons}
use Rattle.meta_text.specs.Text.{IsValue}
use Rattle.meta_text.specs.Fields.{ArePairs, line_of}
use Rattle.compound_object.proofs.Public.{SpellsObject-written}
use Rattle.carousel_cid.specs.declared.entry.Entry.{Entry}
use Rattle.carousel_cid.specs.Number.{IsNumber}
use Rattle.carousel_cid.specs.KnownFields.{number_name}
use Rattle.carousel_cid.specs.IdentifierList.{SpellEntries, size_of, count_of, identifiers_of}
use Rattle.carousel_cid.specs.Repeats.{are_different, first_places}
use Rattle.carousel_cid.specs.File.{file_fields, file_bytes, ReadsFile}
use Rattle.carousel_cid.specs.Descriptor.{list_text, descriptor_bytes, ReadsDescriptor}
use Rattle.carousel_cid.proofs.Values.{decimal_is_value}
use Rattle.carousel_cid.proofs.Kept.{first_places_of}
use Rattle.carousel_cid.proofs.FileFields.{file_fields_length, length_line}

decimal_is_number : (n : ℕ) → n < 2 ^ 64 → IsNumber (decimal n) n
decimal_is_number n small = let is = decimal_is_IsNumeral n small in record { digits = is.0; value = is.1 }

-- equal lists of one have one
one_value : {t u : List ℕ} → t ∷ [] ≡ u ∷ [] → t ≡ u
one_value e = cc

-- ---- a file

file_pairs : (location : List ℕ) (kind : Option (List ℕ)) (size : ℕ) → size < 2 ^ 64 → IsValue location → ForSome kind IsValue → ArePairs (file_fields location kind size)
file_pairs location None size small is kind_is =
    (record { name = refl; value = is }, (record { name = refl; value = decimal_is_value size small }, tt))
file_pairs location (Some kind) size small is kind_is =
    (record { name = refl; value = is }, (record { name = refl; value = kind_is kind refl }, (record { name = refl; value = decimal_is_value size small }, tt)))

pub reads_written_file : (location : List ℕ) (kind : Option (List ℕ)) (body : List ℕ)
    → 0 < length location → IsValue location → ForSome kind IsValue → length body < 2 ^ 64
    → length location + length (unwrap_or kind []) ≤ 16777216 → ReadsFile (file_bytes location kind body) location kind body
unfolding file_bytes
reads_written_file location None body some is kind_is small texts = record {
  fields = file_fields location None (length body);
  spells = SpellsObject-written false (file_fields location None (length body)) body (file_pairs location None (length body) small is kind_is)
      (omega (arith, file_fields_length location None (length body) small));
  once = (omega arith, (omega arith, (omega arith, (omega arith, (omega arith, tt)))));
  stated = λ text there. subst (λ (t : List ℕ). IsNumber t (length body)) (one_value there) (decimal_is_number (length body) small);
  located = refl;
  somewhere = λ nothing. omega (arith, ap length nothing);
  typed = refl;
}
reads_written_file location (Some kind) body some is kind_is small texts = record {
  fields = file_fields location (Some kind) (length body);
  spells = SpellsObject-written false (file_fields location (Some kind) (length body)) body (file_pairs location (Some kind) (length body) small is kind_is)
      (omega (arith, file_fields_length location (Some kind) (length body) small));
  once = (omega arith, (omega arith, (omega arith, (omega arith, (omega arith, tt)))));
  stated = λ text there. subst (λ (t : List ℕ). IsNumber t (length body)) (one_value there) (decimal_is_number (length body) small);
  located = refl;
  somewhere = λ nothing. omega (arith, ap length nothing);
  typed = refl;
}

-- ---- a descriptor

-- each identifier as an entry of its own
abbrev alone : ℕ → Entry
alone toi = record { first = toi; last = toi }

spelled_alone : (listed : List ℕ) → AllByRecursion (λ toi. toi < 2 ^ 112) listed → SpellEntries (map decimal listed) (map alone listed)
spelled_alone [] small = tt
spelled_alone (t ∷ ts) small =
    let is = decimal_is_IsNumeral_wide t (omega (arith, small.0)) in
    (inl (record { one = record { number = record { digits = is.0; value = is.1 }; fits = small.0 }; same = refl }), spelled_alone ts small.1)

one_each : (t : ℕ) → t + 1 - t ≡ 1
one_each t = omega arith

count_alone : (listed : List ℕ) → count_of (map alone listed) ≡ length listed
count_alone [] = refl
count_alone (t ∷ ts) = sum_by-cons size_of (alone t) (map alone ts) ∙ omega (arith, one_each t, count_alone ts)

identifiers_alone : (listed : List ℕ) → identifiers_of (map alone listed) ≡ listed
identifiers_alone [] = refl
identifiers_alone (t ∷ ts) =
    ap (λ n. range_with_len t n ++ identifiers_of (map alone ts)) (one_each t) ∙ ap (λ (us : List ℕ). t ∷ us) (identifiers_alone ts)

pub reads_written_descriptor : (number : ℕ) (listed : List ℕ) → number < 2 ^ 32
    → length listed ≤ 4096 → are_different listed ≡ true → AllByRecursion (λ toi. toi < 2 ^ 112) listed
    → ReadsDescriptor (descriptor_bytes number listed) number listed
unfolding descriptor_bytes
reads_written_descriptor number listed small few different fits =
    let digits = length-decimal-le 20 number (omega arith) (omega arith) (omega arith) in
    let value = decimal_is_value number (omega arith) in
    record {
      fields = (number_name, decimal number) ∷ [];
      body = list_text listed;
      spells = SpellsObject-written true ((number_name, decimal number) ∷ []) (list_text listed) (record { name = refl; value = value }, tt)
          (omega (arith, length_line number_name (decimal number), ap length (append-nil (line_of (number_name, decimal number)))));
      once = (omega arith, (omega arith, (omega arith, (omega arith, (omega arith, tt)))));
      stated = λ text there. absurd cc;
      number_text = decimal number;
      numbered = refl;
      is_number = decimal_is_number number (omega arith);
      number_fits = small;
      entries = map alone listed;
      lists = record {
        texts = map decimal listed;
        ending = [];
        spelled = spelled_alone listed fits;
        ends = inl refl;
        joined = sym (append-nil (list_text listed));
      };
      few = omega (arith, count_alone listed);
      in_order = sym (first_places_of listed different) ∙ ap first_places (sym (identifiers_alone listed));
    }

-- ---- of an answer that is what was written

pub type_copied : (kind : Option (Bor (List ℕ))) → ForSome kind (λ k. IsValue k.now) → ForSome (option_copied kind) IsValue
type_copied None is = λ k same. absurd cc
type_copied (Some k) is = λ text same. subst IsValue (let e : k.now ≡ text = cc in e) (is k refl)

-- what holds of bytes holds of an answer that has them
pub at_answer : {V E : Type 0} (items : V → List ℕ) (P : List ℕ → Type 0) (r : Result V E) (bytes : List ℕ)
    → IfOk r (λ v. items v ≡ bytes) → P bytes → IfOk r (λ v. P (items v))
at_answer items P (Ok v) bytes is holds = subst P (sym is) holds
at_answer items P (Err e) bytes is holds = tt
