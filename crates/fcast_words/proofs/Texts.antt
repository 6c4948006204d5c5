-- Texts that are equal, and texts among others.
use Rattle.std.proofs.Common.{◌≡◌, ◌||◌, Bool, true, false, List, [], ◌∷◌, map, refl, sym, ap, ◌∙◌}
use Rattle.std.specs.Str.{bytes_eq}
use Rattle.std.proofs.lemmas.Bool.{true≢false}
use Rattle.std.proofs.lemmas.Slice.Eq.{bytes_eq-Decides}
use Rattle.fcast_words.specs.Pairs.{Text, is_among}
use Rattle.fcast_words.specs.Inner.Parser.{dashed}

pub same_text : (a b : Text) → bytes_eq a b ≡ true → a ≡ b
same_text a b e = (bytes_eq-Decides a b).0 e

pub itself : (a : Text) → bytes_eq a a ≡ true
itself a = (bytes_eq-Decides a a).1 refl

pub other_text : (a b : Text) → bytes_eq a b ≡ false → bytes_eq b a ≡ false
other_text a b e = by (bytes_eq b a) refl
  where
    by : (same : Bool) → bytes_eq b a ≡ same → same ≡ false
    by true s = absurd (true≢false (sym (rw (same_text b a s) (itself a)) ∙ e))
    by false s = refl

pub among_dashed : (n : Text) (names : List Text) → is_among (dashed n) (map dashed names) ≡ is_among n names
among_dashed n [] = refl
among_dashed n (m ∷ names) = ap (λ rest. bytes_eq m n || rest) (among_dashed n names)
