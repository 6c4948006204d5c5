-- Cutting a text at its first line feed.
use Rattle.std.proofs.Common.{◌≡◌, ℕ, suc, ◌+◌, ◌<◌, ◌≤◌, Bool, true, false, not, cond, List, [], ◌∷◌, length, take, drop, map, Some, None, refl, ap, subst, ◌∙◌, arith}
use Rattle.std.specs.Prelude.{position}
use Rattle.std.specs.List.{position_or_len}
use Rattle.meta_text.specs.Lines.{is_line_feed, begin_with, cut, without_return, lines_of}
use Rattle.meta_text.proofs.Places.{found_at, none_at}

cut_at : (bytes : List ℕ) → position_or_len is_line_feed bytes < length bytes
    → cut bytes ≡ take (position_or_len is_line_feed bytes) bytes ∷ cut (drop (position_or_len is_line_feed bytes + 1) bytes)
cut_at [] less = absurd (omega arith)
cut_at (b ∷ bytes) less = by (is_line_feed b) (position_or_len is_line_feed bytes) (cut_at bytes) less
  where
    by : (t : Bool) (m : ℕ) → (m < length bytes → cut bytes ≡ take m bytes ∷ cut (drop (m + 1) bytes)) → cond (not t) (1 + m) 0 < suc (length bytes)
        → cond t ([] ∷ cut bytes) (begin_with b (cut bytes)) ≡ take (cond (not t) (1 + m) 0) (b ∷ bytes) ∷ cut (drop (cond (not t) (1 + m) 0 + 1) (b ∷ bytes))
    by true m before less = refl
    by false m before less =
        let one : 1 + m ≡ suc m = omega arith in
        let two : 1 + m + 1 ≡ suc (m + 1) = omega arith in
        rw (two, one) (ap (begin_with b) (before (omega arith)))

-- a list of this one line, or of none where it is empty
abbrev whole : List ℕ → List (List ℕ)
whole [] = []
whole (b ∷ bs) = (b ∷ bs) ∷ []

begin_whole : (b : ℕ) (bs : List ℕ) → begin_with b (whole bs) ≡ (b ∷ bs) ∷ []
begin_whole b [] = refl
begin_whole b (c ∷ bs) = refl

cut_none : (bytes : List ℕ) → length bytes ≤ position_or_len is_line_feed bytes → cut bytes ≡ whole bytes
cut_none [] none = refl
cut_none (b ∷ bytes) none = by (is_line_feed b) (cut_none bytes) none
  where
    by : (t : Bool) → (length bytes ≤ position_or_len is_line_feed bytes → cut bytes ≡ whole bytes)
        → suc (length bytes) ≤ cond (not t) (1 + position_or_len is_line_feed bytes) 0
        → cond t ([] ∷ cut bytes) (begin_with b (cut bytes)) ≡ (b ∷ bytes) ∷ []
    by true later none = absurd (omega arith)
    by false later none = ap (begin_with b) (later (omega arith)) ∙ begin_whole b bytes

whole_some : (bytes : List ℕ) → 0 < length bytes → whole bytes ≡ bytes ∷ []
whole_some [] some = absurd (omega arith)
whole_some (b ∷ bytes) some = refl

-- the first line of a text with a line feed, and the others
pub lines_at : (bytes : List ℕ) (at : ℕ) → position is_line_feed bytes ≡ Some at → lines_of bytes ≡ without_return (take at bytes) ∷ lines_of (drop (at + 1) bytes)
lines_at bytes at e =
    let f = found_at is_line_feed bytes at e in
    let c : cut bytes ≡ take at bytes ∷ cut (drop (at + 1) bytes) =
    subst (λ (n : ℕ). cut bytes ≡ take n bytes ∷ cut (drop (n + 1) bytes)) f.0 (cut_at bytes (omega (arith, f.0, f.1))) in
    ap (λ (ls : List (List ℕ)). map without_return ls) c

-- a text without one is a line
pub lines_none : (bytes : List ℕ) → 0 < length bytes → position is_line_feed bytes ≡ None → lines_of bytes ≡ without_return bytes ∷ []
lines_none bytes some e = ap (λ (ls : List (List ℕ)). map without_return ls) (cut_none bytes (none_at is_line_feed bytes e) ∙ whole_some bytes some)
