-- What is complete is an instance in the words of the grammar, and the best of one is the best of the other.
use Rattle.std.proofs.Common.{◌≡◌, ℕ, List, [], ◌∷◌, ◌∙◌, refl, sym, ap, subst, map, Option, Some, None}
use Rattle.std.specs.Prelude.{◌↔◌, option_map}
use Rattle.std.specs.Option.{option_and_then}
use Rattle.std.specs.List.{All}
use Rattle.std.proofs.lemmas.List.Elements.{All-head, All-tail, All-cons, All-nil}
use Rattle.carousel_cid.specs.Instances.{Shown, toi_of}
use Rattle.carousel_cid.specs.Kinds.{kind_of_object}
use Rattle.carousel_cid.specs.declared.file_of.FileOf.{FileOf}
use Rattle.carousel_cid.specs.declared.kind.Kind.{Kind}
use Rattle.carousel_cid.specs.declared.kind.Kind.TheVariants.{File, Descriptor, Unusable}
use Rattle.carousel_cid.proofs.Public.{file_where_read, descriptor_where_read}
use Rattle.receiver_core.specs.Best.{Objects, complete, file_of, file_of_kind, files_of, IsBestOf}
use Rattle.receiver_core.specs.InstanceOf.{AreOfBytes, IsFileOf, IsInstanceOf, IsBestInstance}
use Rattle.receiver_core.specs.Inner.Candidates.{kind_at}
use Rattle.receiver_core.proofs.Completing.{complete_descriptor, complete_named, descriptor_of, files_named, map_some, then_some}

-- ---- files

pub file_there : (objects : Objects) (f : FileOf) (bytes : List ℕ) → objects f.toi ≡ Some bytes → kind_of_object bytes ≡ File f.location f.kind f.body
    → file_of objects f.toi ≡ Some f
file_there objects f bytes is reads =
    ap (option_and_then (λ bytes. file_of_kind f.toi (kind_of_object bytes))) is ∙ ap (file_of_kind f.toi) reads

pub files_there : (objects : Objects) (fs : List FileOf) → All (λ f. file_of objects f.toi ≡ Some f) fs → files_of objects (map toi_of fs) ≡ Some fs
files_there objects [] all = refl
files_there objects (f ∷ fs) all =
    let here = All-head (λ f. file_of objects f.toi ≡ Some f) f fs all in
    let rest = files_there objects fs (All-tail (λ f. file_of objects f.toi ≡ Some f) f fs all) in
    rw (here, rest) refl

-- the kind of what is a file
file_kind : (t : ℕ) (k : Kind) (f : FileOf) → file_of_kind t k ≡ Some f → (k ≡ File f.location f.kind f.body) × (t ≡ f.toi)
file_kind t (File location kind body) f e =
    let same : record { toi = t; location = location; kind = kind; body = body } ≡ f = cc in
    ((λ i. File (same i).location (same i).kind (same i).body), ap (λ (x : FileOf). x.toi) same)
file_kind t (Descriptor number listed) f e = absurd (let no_value : None ≡ Some f = e in cc)
file_kind t (Unusable cause) f e = absurd (let no_value : None ≡ Some f = e in cc)

is_file : (objects : Objects) → AreOfBytes objects → (t : ℕ) (f : FileOf) → file_of objects t ≡ Some f → IsFileOf objects f
is_file objects bytes t f e =
    let read = then_some (λ b. file_of_kind t (kind_of_object b)) (objects t) f e in
    let kind = file_kind t (kind_of_object read.0) f read.1.1 in
    record {
      bytes = read.0;
      there = ap objects (sym kind.1) ∙ read.1.0;
      reads = (file_where_read read.0 f.location f.kind f.body (bytes t read.0 read.1.0)).0 kind.0;
    }

there_is_file : (objects : Objects) → AreOfBytes objects → (f : FileOf) → IsFileOf objects f → file_of objects f.toi ≡ Some f
there_is_file objects bytes f is =
    file_there objects f is.bytes is.there ((file_where_read is.bytes f.location f.kind f.body (bytes f.toi is.bytes is.there)).1 is.reads)

are_files : (objects : Objects) → AreOfBytes objects → (ts : List ℕ) (fs : List FileOf) → files_of objects ts ≡ Some fs → All (IsFileOf objects) fs
are_files objects bytes [] fs e = let none : [] ≡ fs = cc in subst (All (IsFileOf objects)) none (All-nil (IsFileOf objects))
are_files objects bytes (t ∷ ts) fs e =
    let front = then_some (λ f. option_map (λ rest. f ∷ rest) (files_of objects ts)) (file_of objects t) fs e in
    let rest = map_some (λ more. front.0 ∷ more) (files_of objects ts) fs front.1.1 in
    subst (All (IsFileOf objects)) rest.1.1
    (All-cons (IsFileOf objects) front.0 rest.0 (is_file objects bytes t front.0 front.1.0) (are_files objects bytes ts rest.0 rest.1.0))

there_are_files : (objects : Objects) → AreOfBytes objects → (fs : List FileOf) → All (IsFileOf objects) fs → All (λ f. file_of objects f.toi ≡ Some f) fs
there_are_files objects bytes [] all = All-nil (λ (f : FileOf). file_of objects f.toi ≡ Some f)
there_are_files objects bytes (f ∷ fs) all =
    All-cons (λ (f : FileOf). file_of objects f.toi ≡ Some f) f fs (there_is_file objects bytes f (All-head (IsFileOf objects) f fs all))
    (there_are_files objects bytes fs (All-tail (IsFileOf objects) f fs all))

-- ---- instances

pub complete_instance : (objects : Objects) → AreOfBytes objects → (i : Shown) → IsInstanceOf objects i → complete objects i.descriptor_toi ≡ Some i
complete_instance objects bytes i is =
    let reads = (descriptor_where_read is.bytes i.number i.listed (bytes i.descriptor_toi is.bytes is.there)).1 is.reads in
    let kind : kind_at objects i.descriptor_toi ≡ Some (Descriptor i.number i.listed) = ap (option_map kind_of_object) is.there ∙ ap (λ k. Some k) reads in
    let files : files_of objects i.listed ≡ Some i.files =
    subst (λ ts. files_of objects ts ≡ Some i.files) is.in_order (files_there objects i.files (there_are_files objects bytes i.files is.files)) in
    complete_descriptor objects i.descriptor_toi i.number i.listed kind
    ∙ ap (option_map (λ fs. record { number = i.number; descriptor_toi = i.descriptor_toi; listed = i.listed; files = fs })) files

pub instance_complete : (objects : Objects) → AreOfBytes objects → (i : Shown) → complete objects i.descriptor_toi ≡ Some i → IsInstanceOf objects i
instance_complete objects bytes i e =
    let t = i.descriptor_toi in
    let kind = descriptor_of objects t i e in
    let read = map_some kind_of_object (objects t) (Descriptor i.number i.listed) kind in
    let found = map_some (λ fs. record { number = i.number; descriptor_toi = t; listed = i.listed; files = fs }) (files_of objects i.listed) i
    (sym (complete_descriptor objects t i.number i.listed kind) ∙ e) in
    let files : files_of objects i.listed ≡ Some i.files = found.1.0 ∙ ap (λ (j : Shown). Some j.files) found.1.1 in
    record {
      bytes = read.0;
      there = read.1.0;
      reads = (descriptor_where_read read.0 i.number i.listed (bytes t read.0 read.1.0)).0 read.1.1;
      in_order = files_named objects i.listed i.files files;
      files = are_files objects bytes i.listed i.files files;
    }

pub complete_where_instance : (objects : Objects) (i : Shown) → AreOfBytes objects → (complete objects i.descriptor_toi ≡ Some i) ↔ IsInstanceOf objects i
complete_where_instance objects i bytes = (instance_complete objects bytes i, complete_instance objects bytes i)

-- ---- the best of them

best_instance : (objects : Objects) → AreOfBytes objects → (r : Option Shown) → IsBestOf objects r → IsBestInstance objects r
best_instance objects bytes None none = λ i is. absurd (let both : None ≡ Some i = sym (none i.descriptor_toi) ∙ complete_instance objects bytes i is in cc)
best_instance objects bytes (Some i) best = record {
  is = instance_complete objects bytes i best.announced;
  greatest = λ j is. best.greatest j.descriptor_toi j (complete_instance objects bytes j is);
}

-- what an identifier announces is an instance of the objects
announced_there : (objects : Objects) → AreOfBytes objects → (t : ℕ) (j : Shown) → complete objects t ≡ Some j → IsInstanceOf objects j
announced_there objects bytes t j e = instance_complete objects bytes j (subst (λ u. complete objects u ≡ Some j) (sym (complete_named objects t j e)) e)

none_announced : (objects : Objects) → AreOfBytes objects → ((i : Shown) → IsInstanceOf objects i → ⊥) → (t : ℕ) (o : Option Shown) → complete objects t ≡ o → o ≡ None
none_announced objects bytes none t None e = refl
none_announced objects bytes none t (Some j) e = absurd (none j (announced_there objects bytes t j e))

best_announced : (objects : Objects) → AreOfBytes objects → (r : Option Shown) → IsBestInstance objects r → IsBestOf objects r
best_announced objects bytes None none = λ t. none_announced objects bytes none t (complete objects t) refl
best_announced objects bytes (Some i) best = record {
  announced = complete_instance objects bytes i best.is;
  greatest = λ t j e. best.greatest j (announced_there objects bytes t j e);
}

pub best_where_instance : (objects : Objects) (r : Option Shown) → AreOfBytes objects → IsBestOf objects r ↔ IsBestInstance objects r
best_where_instance objects r bytes = (best_instance objects bytes r, best_announced objects bytes r)
