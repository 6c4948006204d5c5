-- Which cause it is, by the facts that tests of an object show.
use Rattle.std.proofs.Common.{◌≡◌, ℕ, ◌≤◌, ◌<◌, Bool, true, false, List, [], ◌∷◌, Option, Some, None, Result, refl, sym, ap, ◌∙◌, length, arith}
use Rattle.std.specs.Prelude.{OnErr, IfOk, unwrap_or, Ok, Err}
use Rattle.std.specs.declared.alloc.AllocError.{AllocError}
use Rattle.std.proofs.lemmas.Bool.{lt-ltb, le-ltb}
use Rattle.meta_text.specs.Text.{is_empty}
use Rattle.meta_text.specs.Fields.{Pair}
use Rattle.wire_bytes.specs.FirstFault.{fault_when, first_fault}
use Rattle.compound_object.specs.Reading.{Parts}
use Rattle.carousel_cid.specs.declared.kind.Kind.{Kind}
use Rattle.carousel_cid.specs.declared.kind.Kind.TheVariants.{File, Unusable}
use Rattle.carousel_cid.specs.declared.kind.Cause.{Cause}
use Rattle.carousel_cid.specs.declared.kind.Cause.TheVariants.{KnownTwice, LengthDiffers, NoLocation, BadList, ListTooLong}
use Rattle.carousel_cid.specs.KnownFields.{location_name, type_name, length_name, is_known_twice, value_of}
use Rattle.carousel_cid.specs.Listing.{texts_in, bad_place, count_in}
use Rattle.carousel_cid.specs.Causes.{differs_from, is_nothing, list_fault, descriptor_fault, file_fault, cause_of}
use Rattle.carousel_cid.specs.Kinds.{usable, kind_unless, kind_of_parts, file_in, descriptor_in, IsUsable}

-- ---- a list

pub list_bad : (body : List ℕ) (at : ℕ) → bad_place 0 (texts_in body) ≡ Some at → list_fault body ≡ Some (BadList at)
unfolding list_fault
list_bad body at bad = rw bad refl

pub list_long : (body : List ℕ) → bad_place 0 (texts_in body) ≡ None → 4096 < count_in (texts_in body) → list_fault body ≡ Some ListTooLong
unfolding list_fault
list_long body good long = rw (good, lt-ltb 4096 (count_in (texts_in body)) long) refl

pub list_sound : (body : List ℕ) → bad_place 0 (texts_in body) ≡ None → count_in (texts_in body) ≤ 4096 → list_fault body ≡ None
unfolding list_fault
list_sound body good few = rw (good, le-ltb 4096 (count_in (texts_in body)) few) refl

-- ---- a file

pub location_fault : (fields : List Pair) (location : List ℕ) → location ≡ unwrap_or (value_of location_name fields) []
    → file_fault fields ≡ fault_when (is_empty location) NoLocation
unfolding file_fault
location_fault fields location is = ap (λ b. fault_when b NoLocation) (by (value_of location_name fields) ∙ ap is_empty (sym is))
  where
    by : (o : Option (List ℕ)) → is_nothing o ≡ is_empty (unwrap_or o [])
    by None = refl
    by (Some text) = refl

pub no_location_fault : (fields : List Pair) (location : List ℕ)
    → location ≡ unwrap_or (value_of location_name fields) [] → 0 < length location → file_fault fields ≡ None
no_location_fault fields [] is some = absurd (omega arith)
no_location_fault fields (b ∷ bs) is some = location_fault fields (b ∷ bs) is

pub location_kind : (fields : List Pair) (location body : List ℕ) (kind : Option (List ℕ)) (r : Result Kind AllocError)
    → location ≡ unwrap_or (value_of location_name fields) [] → 0 < length location
    → kind ≡ value_of type_name fields → IfOk r (λ file. file ≡ File location kind body) → IfOk r (λ k. k ≡ kind_unless (file_fault fields) (file_in fields body))
location_kind fields location body kind (Ok file) is some typed made =
    rw (no_location_fault fields location is some) (made ∙ (λ i. File (is i) (typed i) body))
location_kind fields location body kind (Err e) is some typed made = tt

-- ---- an object

last_fault : (o : Option Cause) → first_fault (o ∷ []) ≡ o
last_fault None = refl
last_fault (Some cause) = refl

pub kind_caused : (parts : Parts) (cause : Cause) → cause_of parts ≡ Some cause → kind_of_parts parts ≡ Unusable cause
unfolding kind_of_parts
kind_caused parts cause is = ap (λ o. kind_unless o (usable parts.descriptor parts.fields parts.body)) is

pub known_twice : (parts : Parts) → is_known_twice parts.fields ≡ true → cause_of parts ≡ Some KnownTwice
unfolding cause_of
known_twice parts twice = rw twice refl

pub length_differs : (parts : Parts) → is_known_twice parts.fields ≡ false
    → differs_from (length parts.body) (value_of length_name parts.fields) ≡ true → cause_of parts ≡ Some LengthDiffers
unfolding cause_of
length_differs parts once differs = rw (once, differs) refl

pub file_cause : (parts : Parts) → is_known_twice parts.fields ≡ false
    → differs_from (length parts.body) (value_of length_name parts.fields) ≡ false → parts.descriptor ≡ false
    → cause_of parts ≡ file_fault parts.fields
unfolding cause_of
file_cause parts once same file = rw (once, same, file) (last_fault (file_fault parts.fields))

pub descriptor_cause : (parts : Parts) → is_known_twice parts.fields ≡ false
    → differs_from (length parts.body) (value_of length_name parts.fields) ≡ false → parts.descriptor ≡ true
    → cause_of parts ≡ descriptor_fault parts.fields parts.body
unfolding cause_of
descriptor_cause parts once same descriptor = rw (once, same, descriptor) (last_fault (descriptor_fault parts.fields parts.body))

pub file_kind : (parts : Parts) → parts.descriptor ≡ false → cause_of parts ≡ file_fault parts.fields
    → kind_of_parts parts ≡ kind_unless (file_fault parts.fields) (file_in parts.fields parts.body)
unfolding kind_of_parts
file_kind parts file is = rw (is, file) refl

pub descriptor_kind : (parts : Parts) → parts.descriptor ≡ true → cause_of parts ≡ descriptor_fault parts.fields parts.body
    → kind_of_parts parts ≡ kind_unless (descriptor_fault parts.fields parts.body) (descriptor_in parts.fields parts.body)
unfolding kind_of_parts
descriptor_kind parts descriptor is = rw (is, descriptor) refl

-- what holds anyway holds at an error
pub on_err_given : {T E P : Type 0} (r : Result T E) → P → OnErr r P
on_err_given (Ok x) p = tt
on_err_given (Err e) p = p

-- an object in which nothing is wrong is a file or a descriptor
pub usable_kind : (parts : Parts) → cause_of parts ≡ None → IsUsable (kind_of_parts parts)
unfolding kind_of_parts
usable_kind parts none = rw none (by parts.descriptor)
  where
    by : (d : Bool) → IsUsable (usable d parts.fields parts.body)
    by true = tt
    by false = tt

pub usable_when : (r : Result Kind AllocError) (parts : Parts) → OnErr r (cause_of parts ≡ None) → OnErr r (IsUsable (kind_of_parts parts))
usable_when (Ok kind) parts none = tt
usable_when (Err e) parts none = usable_kind parts none
