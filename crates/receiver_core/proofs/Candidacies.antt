-- Candidates: how they are found, and how far their files are there.
use Rattle.std.proofs.Common.{◌≡◌, ℕ, true, false, ◌||◌, List, [], ◌∷◌, ◌++◌, ◌∙◌, refl, sym, ap, subst, append_assoc}
use Rattle.std.proofs.Common.{arith, map, Option, Some, None, eqb-true}
use Rattle.std.specs.Prelude.{◌==◌}
use Rattle.std.proofs.lemmas.Bool.Decides.{nat_tests}
use Rattle.carousel_cid.specs.declared.kind.Kind.{Kind}
use Rattle.carousel_cid.specs.declared.kind.Kind.TheVariants.{File, Descriptor, Unusable}
use Rattle.object_store.specs.Store.{is_in}
use Rattle.receiver_core.specs.declared.candidate.Candidate.{Candidate}
use Rattle.receiver_core.specs.Best.{Objects, Extends}
use Rattle.receiver_core.specs.Inner.Lists.{behind, Each}
use Rattle.receiver_core.specs.Inner.Candidates.{candidates_by, candidates_at, candidates_in, kind_at, toi_of, advanced, is_file_at, IsCandidate}
use Rattle.receiver_core.proofs.Lists.{each_weaker, each_append, in_first, in_second, split}
use Rattle.receiver_core.proofs.Completing.{is_file_kept, kind_at_kept}

-- a candidate stays one while more becomes whole
pub candidate_kept : (first second : Objects) → Extends first second → (c : Candidate) → IsCandidate first c → IsCandidate second c
candidate_kept first second more c is = record {
  front = is.front;
  kind = kind_at_kept first second more c.toi (Descriptor c.number (is.front ++ c.rest)) is.kind;
  files = each_weaker (λ t. is_file_at first t ≡ true) (λ t. is_file_at second t ≡ true) (is_file_kept first second more) is.front is.files;
}

-- ---- those of fresh objects

by_kind : (objects : Objects) (t : ℕ) (k : Option Kind) → kind_at objects t ≡ k → Each (IsCandidate objects) (candidates_by t k)
by_kind objects t None e = tt
by_kind objects t (Some (File location kind body)) e = tt
by_kind objects t (Some (Unusable cause)) e = tt
by_kind objects t (Some (Descriptor number listed)) e = (record { front = []; kind = e; files = tt }, tt)

pub new_candidates : (objects : Objects) (ts : List ℕ) → Each (IsCandidate objects) (candidates_in objects ts)
new_candidates objects [] = tt
new_candidates objects (t ∷ ts) = each_append (IsCandidate objects) (candidates_at objects t)
    (candidates_in objects ts) (by_kind objects t (kind_at objects t) refl) (new_candidates objects ts)

itself : (t : ℕ) → ((t == t) || false) ≡ true
itself t = grind (arith, nat_tests)

-- each fresh descriptor is a candidate
pub in_candidates : (objects : Objects) (ts : List ℕ) (t number : ℕ) (listed : List ℕ) → is_in t ts ≡ true
    → kind_at objects t ≡ Some (Descriptor number listed) → is_in t (map toi_of (candidates_in objects ts)) ≡ true
in_candidates objects [] t number listed among e = absurd (cc)
in_candidates objects (u ∷ ts) t number listed among e = elim (u == t) as (λ b. (u == t) ≡ b
    → (b || is_in t ts) ≡ true → is_in t (map toi_of (candidates_at objects u ++ candidates_in objects ts)) ≡ true) [
      | true ↦ λ same h. in_first toi_of (candidates_at objects u) (candidates_in objects ts) t
          (subst (λ v. is_in t (map toi_of (candidates_at objects v)) ≡ true) (sym (eqb-true u t same)) (ap (λ k. is_in t (map toi_of (candidates_by t k))) e ∙ itself t))
      | false ↦ λ apart h. in_second toi_of (candidates_at objects u) (candidates_in objects ts) t (in_candidates objects ts t number listed h e)
    ] refl among

-- ---- files that are there

pub advanced_candidate : (objects : Objects) (c : Candidate) → IsCandidate objects c → IsCandidate objects (advanced (is_file_at objects) c)
advanced_candidate objects c is =
    let parts = split (is_file_at objects) c.rest in
    let left = behind (is_file_at objects) c.rest in
    let whole : is.front ++ c.rest ≡ (is.front ++ parts.gone) ++ left =
    ap (λ ts. is.front ++ ts) parts.joined ∙ sym (append_assoc is.front parts.gone left) in
    record {
      front = is.front ++ parts.gone;
      kind = is.kind ∙ ap (λ ts. Some (Descriptor c.number ts)) whole;
      files = each_append (λ t. is_file_at objects t ≡ true) is.front parts.gone is.files parts.pass;
    }
