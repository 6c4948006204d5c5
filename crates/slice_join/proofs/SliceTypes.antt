-- The types of slices, and what the methods of `str` say of them.
use Rattle.std.proofs.Common.{◌≡◌, ℕ, Bool, true, false, ◌||◌, cond, List, Option, Some, None, length, drop, nat_eq, refl, sym, ap, subst, ◌∙◌, Bor}
use Rattle.std.specs.List.{starts_with}
use Rattle.std.specs.Option.{MatchOption, option_copied}
use Rattle.std.specs.Str.{bytes_eq, IsCharBoundary}
use Rattle.std.specs.Str.Pattern.{FindsTextPrefix, StripsPrefix}
use Rattle.std.proofs.lemmas.Bool.Decides.{Decides-eqb}
use Rattle.std.proofs.lemmas.Slice.Eq.{bytes_eq-Decides, starts_is}
use Rattle.std.proofs.lemmas.Str.Pattern.{starts_text}
use Rattle.slice_join.specs.SliceKind.{slice_word, slice_start, slice_kind, is_slice_kind, whole_kind}

-- what `strip_prefix` gives
pub stripped : (p s : List ℕ) (r : Option (Bor (List ℕ))) → MatchOption r (FindsTextPrefix p s None) (λ x. StripsPrefix (FindsTextPrefix p) s x.now)
    → option_copied r ≡ cond (starts_with nat_eq s p) (Some (drop (length p) s)) None
stripped p s None lacks = ap (λ b. cond b (Some (drop (length p) s)) None) (starts_text false p s lacks)
stripped p s (Some x) strips =
    let n = strips.0 in
    let size : n ≡ length p = strips.1.0 in
    let starts = starts_text true p s (n, strips.1, subst (λ m. IsCharBoundary s m) (sym size) strips.1.2) in
    ap Some (strips.2 ∙ ap (λ m. drop m s) size) ∙ ap (λ b. cond b (Some (drop (length p) s)) None) starts

pub kind_is_slice : (kind : Option (List ℕ)) → is_slice_kind (slice_kind kind) ≡ true
unfolding is_slice_kind
kind_is_slice None = refl
kind_is_slice (Some kind) = refl

pub kind_again : (kind : Option (List ℕ)) → whole_kind (slice_kind kind) ≡ kind
unfolding whole_kind
kind_again None = refl
kind_again (Some kind) = refl

or_false : (b : Bool) → (b || false) ≡ true → b ≡ true
or_false true e = refl
or_false false e = e

pub slice_kind_only : (text : List ℕ) → is_slice_kind text ≡ true → text ≡ slice_kind (whole_kind text)
unfolding is_slice_kind whole_kind
slice_kind_only text is = elim (starts_with nat_eq text slice_start) as (λ b. starts_with nat_eq text slice_start ≡ b → text ≡ slice_kind (cond b (Some (drop (length slice_start) text)) None)) [
  | true ↦ λ e. (starts_is Decides-eqb text slice_start true (sym e)).0 refl
  | false ↦ λ e. (bytes_eq-Decides text slice_word).0 (or_false (bytes_eq text slice_word) (ap (λ b. bytes_eq text slice_word || b) (sym e) ∙ is))
] refl
