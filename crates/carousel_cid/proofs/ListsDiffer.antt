-- A descriptor lists no identifier twice.
use Rattle.std.proofs.Common.{◌≡◌, ℕ, Bool, true, false, List, subst, Option, Some, None, Result, Ok, Err}
use Rattle.meta_text.specs.Fields.{Pair}
use Rattle.compound_object.specs.declared.fault.CompoundFault.{CompoundFault}
use Rattle.compound_object.specs.Reading.{Parts, reading}
use Rattle.carousel_cid.specs.declared.kind.Kind.{Kind}
use Rattle.carousel_cid.specs.declared.kind.Kind.TheVariants.{Descriptor}
use Rattle.carousel_cid.specs.declared.kind.Cause.{Cause}
use Rattle.carousel_cid.specs.Causes.{cause_of}
use Rattle.carousel_cid.specs.Repeats.{are_different, first_places}
use Rattle.carousel_cid.specs.Listing.{texts_in, identifiers_in}
use Rattle.carousel_cid.specs.Kinds.{kind_of_object, kind_of_parts, kind_read, kind_unless, usable}
use Rattle.carousel_cid.proofs.Kept.{first_places_differ}

by_usable : (descriptor : Bool) (fields : List Pair) (body : List ℕ) (number : ℕ) (listed : List ℕ)
    → usable descriptor fields body ≡ Descriptor number listed → are_different listed ≡ true
by_usable false fields body number listed e = absurd (cc)
by_usable true fields body number listed e = let same : first_places (identifiers_in (texts_in body)) ≡ listed = cc in
    subst (λ ts. are_different ts ≡ true) same (first_places_differ (identifiers_in (texts_in body)))

by_cause : (cause : Option Cause) (kind : Kind) (number : ℕ) (listed : List ℕ) → kind_unless cause kind ≡ Descriptor number listed → kind ≡ Descriptor number listed
by_cause None kind number listed e = e
by_cause (Some cause) kind number listed e = absurd (cc)

by_reading : (read : Result Parts CompoundFault) (number : ℕ) (listed : List ℕ) → kind_read read ≡ Descriptor number listed → are_different listed ≡ true
unfolding kind_of_parts
by_reading (Ok parts) number listed e = by_usable parts.descriptor parts.fields parts.body number
    listed (by_cause (cause_of parts) (usable parts.descriptor parts.fields parts.body) number listed e)
by_reading (Err fault) number listed e = absurd (cc)

-- what an object that is a descriptor lists differs
pub lists_differ : (object : List ℕ) (number : ℕ) (listed : List ℕ) → kind_of_object object ≡ Descriptor number listed → are_different listed ≡ true
unfolding kind_of_object
lists_differ object number listed e = by_reading (reading object) number listed e
