-- Which descriptors are complete, and how that goes on when more is whole.
use Rattle.std.proofs.Common.{◌≡◌, ℕ, true, List, [], ◌∷◌, ◌∙◌, refl, sym, ap, map, Option, Some, None}
use Rattle.std.specs.Prelude.{option_map, is_some}
use Rattle.std.specs.Option.{option_and_then}
use Rattle.carousel_cid.specs.Instances.{Shown, toi_of}
use Rattle.carousel_cid.specs.Repeats.{are_different}
use Rattle.carousel_cid.specs.Kinds.{kind_of_object}
use Rattle.carousel_cid.specs.declared.file_of.FileOf.{FileOf}
use Rattle.carousel_cid.specs.declared.kind.Cause.{Cause}
use Rattle.carousel_cid.specs.declared.kind.Kind.{Kind}
use Rattle.carousel_cid.specs.declared.kind.Kind.TheVariants.{File, Descriptor, Unusable}
use Rattle.carousel_cid.proofs.Public.{lists_differ}
use Rattle.receiver_core.specs.Best.{Objects, file_of_kind, file_of, files_of, instance_of_kind, complete, Extends}
use Rattle.receiver_core.specs.Inner.Lists.{Each}
use Rattle.receiver_core.specs.Inner.Candidates.{is_file_at, kind_at}

-- an answer in two steps has both
pub then_some : {A B : Type 0} (f : A → Option B) (o : Option A) (b : B) → option_and_then f o ≡ Some b → (a : A) × ((o ≡ Some a) × (f a ≡ Some b))
then_some f None b e = absurd (let no_value : None ≡ Some b = e in cc)
then_some f (Some a) b e = (a, (refl, e))

-- a mapped answer has one that it is mapped from
pub map_some : {A B : Type 0} (f : A → B) (o : Option A) (b : B) → option_map f o ≡ Some b → (a : A) × ((o ≡ Some a) × (f a ≡ b))
map_some f None b e = absurd (let no_value : None ≡ Some b = e in cc)
map_some f (Some a) b e = (a, (refl, cc))

-- an answer that is there is one
pub is_there_some : {A : Type 0} (o : Option A) → is_some o ≡ true → (a : A) × (o ≡ Some a)
is_there_some None e = absurd (cc)
is_there_some (Some a) e = (a, refl)

-- an object that isn't whole announces nothing
pub complete_none : (objects : Objects) (t : ℕ) → objects t ≡ None → complete objects t ≡ None
unfolding complete
complete_none objects t none = rw none refl

-- nor does a file
pub complete_file : (objects : Objects) (t : ℕ) (bytes location : List ℕ) (kind : Option (List ℕ)) (body : List ℕ) → objects t ≡ Some bytes
    → kind_of_object bytes ≡ File location kind body → None ≡ complete objects t
unfolding complete
complete_file objects t bytes location kind body e is =
    sym (ap (option_and_then (λ b. instance_of_kind objects t (kind_of_object b))) e ∙ ap (instance_of_kind objects t) is)

-- nor what is unusable
pub complete_unusable : (objects : Objects) (t : ℕ) (bytes : List ℕ) (cause : Cause) → objects t ≡ Some bytes
    → kind_of_object bytes ≡ Unusable cause → None ≡ complete objects t
unfolding complete
complete_unusable objects t bytes cause e is =
    sym (ap (option_and_then (λ b. instance_of_kind objects t (kind_of_object b))) e ∙ ap (instance_of_kind objects t) is)

-- ---- the kind of what is complete

-- what a descriptor announces
pub complete_descriptor : (objects : Objects) (t number : ℕ) (listed : List ℕ) → kind_at objects t ≡ Some (Descriptor number listed)
    → complete objects t ≡ option_map (λ fs. record { number = number; descriptor_toi = t; listed = listed; files = fs }) (files_of objects listed)
unfolding complete
complete_descriptor objects t number listed e =
    let read = map_some kind_of_object (objects t) (Descriptor number listed) e in
    ap (option_and_then (λ bytes. instance_of_kind objects t (kind_of_object bytes))) read.1.0 ∙ ap (instance_of_kind objects t) read.1.1

announced_kind : (objects : Objects) (t : ℕ) (k : Kind) (j : Shown) → instance_of_kind objects t k ≡ Some j → (k ≡ Descriptor j.number j.listed) × (j.descriptor_toi ≡ t)
announced_kind objects t (File location kind body) j e = absurd (let no_value : None ≡ Some j = e in cc)
announced_kind objects t (Unusable cause) j e = absurd (let no_value : None ≡ Some j = e in cc)
announced_kind objects t (Descriptor number listed) j e =
    let read = map_some (λ fs. record { number = number; descriptor_toi = t; listed = listed; files = fs }) (files_of objects listed) j e in
    ((λ i. Descriptor (read.1.1 i).number (read.1.1 i).listed), ap (λ x. x.descriptor_toi) (sym read.1.1))

-- what announces an instance is its descriptor
pub descriptor_of : (objects : Objects) (t : ℕ) (j : Shown) → complete objects t ≡ Some j → kind_at objects t ≡ Some (Descriptor j.number j.listed)
unfolding complete
descriptor_of objects t j e =
    let read = then_some (λ bytes. instance_of_kind objects t (kind_of_object bytes)) (objects t) j e in
    ap (option_map kind_of_object) read.1.0 ∙ ap (λ k. Some k) (announced_kind objects t (kind_of_object read.0) j read.1.1).0

-- the instance that a descriptor announces names it
pub complete_named : (objects : Objects) (t : ℕ) (j : Shown) → complete objects t ≡ Some j → j.descriptor_toi ≡ t
unfolding complete
complete_named objects t j e =
    let read = then_some (λ bytes. instance_of_kind objects t (kind_of_object bytes)) (objects t) j e in
    (announced_kind objects t (kind_of_object read.0) j read.1.1).1

-- a descriptor lists no identifier twice
pub listed_differ : (objects : Objects) (t number : ℕ) (listed : List ℕ) → kind_at objects t ≡ Some (Descriptor number listed) → are_different listed ≡ true
listed_differ objects t number listed e =
    let read = map_some kind_of_object (objects t) (Descriptor number listed) e in
    lists_differ read.0 number listed read.1.1

-- ---- the files

both_there : (f : Option FileOf) (fs : Option (List FileOf))
    → is_some (option_and_then (λ x. option_map (λ xs. x ∷ xs) fs) f) ≡ true → (is_some f ≡ true) × (is_some fs ≡ true)
both_there None fs e = absurd (cc)
both_there (Some f) None e = absurd (cc)
both_there (Some f) (Some fs) e = (refl, refl)

there_both : (f : Option FileOf) (fs : Option (List FileOf)) → is_some f ≡ true
    → is_some fs ≡ true → is_some (option_and_then (λ x. option_map (λ xs. x ∷ xs) fs) f) ≡ true
there_both None fs e g = absurd (cc)
there_both (Some f) None e g = absurd (cc)
there_both (Some f) (Some fs) e g = refl

-- they are files together where each is one
pub tests_of_files : (objects : Objects) (ts : List ℕ) → is_some (files_of objects ts) ≡ true → Each (λ t. is_file_at objects t ≡ true) ts
tests_of_files objects [] e = tt
tests_of_files objects (t ∷ ts) e = let both = both_there (file_of objects t) (files_of objects ts) e in (both.0, tests_of_files objects ts both.1)

pub files_of_tests : (objects : Objects) (ts : List ℕ) → Each (λ t. is_file_at objects t ≡ true) ts → is_some (files_of objects ts) ≡ true
files_of_tests objects [] all = refl
files_of_tests objects (t ∷ ts) all = there_both (file_of objects t) (files_of objects ts) all.0 (files_of_tests objects ts all.1)

kind_named : (t : ℕ) (k : Kind) (f : FileOf) → file_of_kind t k ≡ Some f → f.toi ≡ t
kind_named t (File location kind body) f e = let same : record { toi = t; location = location; kind = kind; body = body } ≡ f = cc in
    ap (λ (x : FileOf). x.toi) (sym same)
kind_named t (Descriptor number listed) f e = absurd (let no_value : None ≡ Some f = e in cc)
kind_named t (Unusable cause) f e = absurd (let no_value : None ≡ Some f = e in cc)

file_named : (objects : Objects) (t : ℕ) (f : FileOf) → file_of objects t ≡ Some f → f.toi ≡ t
file_named objects t f e =
    let read = then_some (λ bytes. file_of_kind t (kind_of_object bytes)) (objects t) f e in
    kind_named t (kind_of_object read.0) f read.1.1

-- files carry their identifiers, in order
pub files_named : (objects : Objects) (ts : List ℕ) (fs : List FileOf) → files_of objects ts ≡ Some fs → map toi_of fs ≡ ts
files_named objects [] fs e = let none : [] ≡ fs = cc in ap (map toi_of) (sym none)
files_named objects (t ∷ ts) fs e =
    let front = then_some (λ f. option_map (λ rest. f ∷ rest) (files_of objects ts)) (file_of objects t) fs e in
    let rest = map_some (λ more. front.0 ∷ more) (files_of objects ts) fs front.1.1 in
    ap (map toi_of) (sym rest.1.1) ∙ (λ i. file_named objects t front.0 front.1.0 i ∷ files_named objects ts rest.0 rest.1.0 i)

-- ---- when more is whole

-- a file stays one, with the same parts
file_kept : (first second : Objects) → Extends first second → (t : ℕ) (f : FileOf) → file_of first t ≡ Some f → file_of second t ≡ Some f
file_kept first second more t f e =
    let read = then_some (λ bytes. file_of_kind t (kind_of_object bytes)) (first t) f e in
    rw (more.keeps t read.0 read.1.0) read.1.1

pub is_file_kept : (first second : Objects) → Extends first second → (t : ℕ) → is_file_at first t ≡ true → is_file_at second t ≡ true
is_file_kept first second more t e = let f = is_there_some (file_of first t) e in ap is_some (file_kept first second more t f.0 f.1)

pub kind_at_kept : (first second : Objects) → Extends first second → (t : ℕ) (k : Kind) → kind_at first t ≡ Some k → kind_at second t ≡ Some k
kind_at_kept first second more t k e =
    let read = map_some kind_of_object (first t) k e in
    ap (option_map kind_of_object) (more.keeps t read.0 read.1.0) ∙ ap (λ x. Some x) read.1.1

-- files stay files, with the same parts
files_kept : (first second : Objects) → Extends first second → (ts : List ℕ) (fs : List FileOf) → files_of first ts ≡ Some fs → files_of second ts ≡ Some fs
files_kept first second more [] fs e = e
files_kept first second more (t ∷ ts) fs e =
    let front = then_some (λ f. option_map (λ rest. f ∷ rest) (files_of first ts)) (file_of first t) fs e in
    let rest = map_some (λ others. front.0 ∷ others) (files_of first ts) fs front.1.1 in
    rw (file_kept first second more t front.0 front.1.0, files_kept first second more ts rest.0 rest.1.0) (ap (λ l. Some l) rest.1.1)

-- what a kind announces stays announced
kind_kept : (first second : Objects) → Extends first second → (t : ℕ) (k : Kind) (i : Shown) → instance_of_kind first t k ≡ Some i → instance_of_kind second t k ≡ Some i
kind_kept first second more t (File location kind body) i e = absurd (let no_value : None ≡ Some i = e in cc)
kind_kept first second more t (Unusable cause) i e = absurd (let no_value : None ≡ Some i = e in cc)
kind_kept first second more t (Descriptor number listed) i e =
    let read = map_some (λ fs. record { number = number; descriptor_toi = t; listed = listed; files = fs }) (files_of first listed) i e in
    rw (files_kept first second more listed read.0 read.1.0) (ap (λ j. Some j) read.1.1)

-- what is complete stays complete
pub complete_kept : (first second : Objects) → Extends first second → (t : ℕ) (i : Shown) → complete first t ≡ Some i → complete second t ≡ Some i
unfolding complete
complete_kept first second more t i e =
    let read = then_some (λ bytes. instance_of_kind first t (kind_of_object bytes)) (first t) i e in
    rw (more.keeps t read.0 read.1.0) (kind_kept first second more t (kind_of_object read.0) i read.1.1)
