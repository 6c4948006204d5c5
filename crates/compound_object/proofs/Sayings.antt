-- What the bytes say, once the header is sound or refused.
use Rattle.std.proofs.Common.{◌≡◌, ℕ, ◌-◌, List, drop, take, length, Some, None, Result, Ok, Err, refl, sym, ap, ◌∙◌}
use Rattle.std.specs.Prelude.{IsOk, is_ok}
use Rattle.std.proofs.lemmas.List.{take_rest}
use Rattle.meta_text.specs.declared.fault.FieldFault.{FieldFault}
use Rattle.meta_text.specs.Fields.{Pair}
use Rattle.meta_text.specs.Reading as fields
use Rattle.compound_object.specs.declared.fault.CompoundFault.{CompoundFault}
use Rattle.compound_object.specs.declared.fault.CompoundFault.TheVariants.{Short, Version, HeaderLength, Format, Gzip, FillNotZero, Checksum, Fields, Memory}
use Rattle.compound_object.specs.Reading.{header_length, body_start, metadata_in, body_in, is_descriptor, refusal, Parts}
use Rattle.compound_object.specs.Reading.{with_fields, unless, reading, Fails, FailsFields}

pub reading_refused : (o : List ℕ) (fault : CompoundFault) → refusal o ≡ Some fault → reading o ≡ Err fault
unfolding reading
reading_refused o fault is = ap (λ f. unless f (with_fields o (fields.reading (metadata_in o)))) is

pub reading_sound : (o : List ℕ) → refusal o ≡ None → reading o ≡ with_fields o (fields.reading (metadata_in o))
unfolding reading
reading_sound o is = ap (λ f. unless f (with_fields o (fields.reading (metadata_in o)))) is

-- a refusal is what the bytes say, whichever it is
pub Fails_is : (fault : CompoundFault) (read : Result Parts CompoundFault) → read ≡ Err fault → Fails fault read
Fails_is Short read e = e
Fails_is Version read e = e
Fails_is HeaderLength read e = e
Fails_is Format read e = e
Fails_is Gzip read e = e
Fails_is FillNotZero read e = e
Fails_is (Checksum s f) read e = e
Fails_is (Fields f) read e = e
Fails_is Memory read e = tt

-- the fault of the metadata is what the bytes say
pub Fails_fields : (o : List ℕ) (fault : CompoundFault) (metadata : List ℕ) → refusal o ≡ None
    → metadata ≡ metadata_in o → FailsFields fault (fields.reading metadata) → Fails fault (reading o)
Fails_fields o Memory metadata sound is f = tt
Fails_fields o (Fields e) metadata sound is f = reading_sound o sound ∙ ap (λ (m : List ℕ). with_fields o (fields.reading m)) (sym is) ∙ ap (with_fields o) f
Fails_fields o Short metadata sound is f = absurd f
Fails_fields o Version metadata sound is f = absurd f
Fails_fields o HeaderLength metadata sound is f = absurd f
Fails_fields o Format metadata sound is f = absurd f
Fails_fields o Gzip metadata sound is f = absurd f
Fails_fields o FillNotZero metadata sound is f = absurd f
Fails_fields o (Checksum s t) metadata sound is f = absurd f

-- the metadata and the body, where the header's length is known
pub metadata_is : (o : List ℕ) (h : ℕ) → h ≡ header_length o → take (h - 8) (drop 8 o) ≡ metadata_in o
metadata_is o h is = ap (λ k. take (k - 8) (drop 8 o)) is

pub body_is : (o : List ℕ) (p : ℕ) → p ≡ body_start o → take (length o - p) (drop p o) ≡ body_in o
body_is o p is = take_rest o p ∙ ap (λ k. drop k o) is

pub reading_ok : (o : List ℕ) (metadata body : List ℕ) (pairs : List Pair) → refusal o ≡ None
    → metadata ≡ metadata_in o → body ≡ body_in o → fields.reading metadata ≡ Ok pairs
    → reading o ≡ Ok (record { descriptor = is_descriptor o; fields = pairs; body = body })
reading_ok o metadata body pairs sound is rest said =
    let made : List ℕ → Result Parts CompoundFault = λ b. Ok (record { descriptor = is_descriptor o; fields = pairs; body = b }) in
    reading_sound o sound ∙ ap (λ (m : List ℕ). with_fields o (fields.reading m)) (sym is) ∙ ap (with_fields o) said ∙ ap made (sym rest)

-- with sound metadata the whole is an object
pub reading_is_ok : (o metadata : List ℕ) → refusal o ≡ None → metadata ≡ metadata_in o → IsOk (fields.reading metadata) → IsOk (reading o)
reading_is_ok o metadata sound is ok = by (fields.reading metadata) refl ok
  where
    by : (r : Result (List Pair) FieldFault) → fields.reading metadata ≡ r → IsOk r → IsOk (reading o)
    by (Ok pairs) said ok = ap is_ok (reading_ok o metadata (body_in o) pairs sound is refl said)
    by (Err fault) said ok = absurd cc
