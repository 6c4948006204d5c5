-- Lists, of which each element has something.
use Rattle.std.proofs.Common.{◌≡◌, ℕ, zero, suc, ◌<◌, Bool, true, false, ◌||◌, not, List, [], ◌∷◌, ◌++◌, ◌∙◌, refl, sym, reverse}
use Rattle.std.proofs.Common.{ap, subst, arith, map, take, drop, length, eqb-true, take-append-drop, get_or, append_assoc, append-nil, ◌+◌}
use Rattle.std.specs.Prelude.{◌==◌, if◌then◌else◌}
use Rattle.std.specs.List.{flat_map}
use Rattle.std.proofs.Math.Seq.{drop-cons}
use Rattle.std.proofs.lemmas.Bool.{and_parts, not-true}
use Rattle.std.proofs.Math.Bool.{or-true}
use Rattle.std.proofs.lemmas.Bool.Decides.{nat_tests}
use Rattle.std.proofs.lemmas.Grind.{flat_map-append}
use Rattle.std.proofs.lemmas.List.{map-append, reverse-append, take_more}
use Rattle.std.proofs.lemmas.List.Folds.{list_any-append}
use Rattle.object_store.specs.Store.{is_in, are_different}
use Rattle.receiver_core.specs.Inner.Lists.{Each, behind, starts, after_first}

pub each_weaker : {A : Type 0} (P Q : A → Type 0) → ((x : A) → P x → Q x) → (xs : List A) → Each P xs → Each Q xs
each_weaker P Q more [] all = tt
each_weaker P Q more (x ∷ xs) all = (more x all.0, each_weaker P Q more xs all.1)

pub each_append : {A : Type 0} (P : A → Type 0) (xs ys : List A) → Each P xs → Each P ys → Each P (xs ++ ys)
each_append P [] ys first second = second
each_append P (x ∷ xs) ys first second = (first.0, each_append P xs ys first.1 second)

pub each_both : {A : Type 0} (P Q : A → Type 0) (xs : List A) → Each P xs → Each Q xs → Each (λ x. P x × Q x) xs
each_both P Q [] first second = tt
each_both P Q (x ∷ xs) first second = ((first.0, second.0), each_both P Q xs first.1 second.1)

pub each_flat_map : {A B : Type 0} (P : A → Type 0) (Q : B → Type 0) (f : A → List B) → ((x : A) → P x → Each Q (f x)) → (xs : List A) → Each P xs → Each Q (flat_map f xs)
each_flat_map P Q f more [] all = tt
each_flat_map P Q f more (x ∷ xs) all = each_append Q (f x) (flat_map f xs) (more x all.0) (each_flat_map P Q f more xs all.1)

pub each_reverse : {A : Type 0} (P : A → Type 0) (xs : List A) → Each P xs → Each P (reverse xs)
each_reverse P [] all = tt
each_reverse P (x ∷ xs) all = subst (Each P) (sym (reverse-append (x ∷ []) xs)) (each_append P (reverse xs) (x ∷ []) (each_reverse P xs all.1) (all.0, tt))

-- one that stands in either of two lists
in_joined : {A : Type 0} (key : A → ℕ) (xs ys : List A) (t : ℕ) → is_in t (map key (xs ++ ys)) ≡ (is_in t (map key xs) || is_in t (map key ys))
in_joined key xs ys t = ap (is_in t) (map-append key xs ys) ∙ list_any-append (λ u. u == t) (map key xs) (map key ys)

-- one of a list, by what it is told by
pub one_in : {A : Type 0} (P : A → Type 0) (key : A → ℕ) (xs : List A) (t : ℕ) → Each P xs → is_in t (map key xs) ≡ true → (x : A) × (P x × (key x ≡ t))
one_in P key [] t all among = absurd (cc)
one_in {A = A} P key (x ∷ xs) t all among = elim (key x == t) as (λ b. (key x == t) ≡ b → (b || is_in t (map key xs)) ≡ true → (y : A) × (P y × (key y ≡ t))) [
  | true ↦ λ same h. (x, (all.0, eqb-true (key x) t same))
  | false ↦ λ apart h. one_in P key xs t all.1 h
] refl among

-- what a list gives with what one element more gives
pub flat_more : {A B : Type 0} (f : A → List B) (xs : List A) (i : ℕ) (d : A) (first old new : List B) → i < length xs
    → old ≡ first ++ flat_map f (take i xs) → new ≡ old ++ f (get_or xs i d) → new ≡ first ++ flat_map f (take (i + 1) xs)
flat_more f xs i d first old new less before step =
    let last = get_or xs i d in
    let joined : flat_map f (take (i + 1) xs) ≡ flat_map f (take i xs) ++ f last =
    ap (flat_map f) (take_more xs i d less) ∙ flat_map-append f (take i xs) (last ∷ []) ∙ ap (λ ys. flat_map f (take i xs) ++ ys) (append-nil (f last)) in
    step ∙ ap (λ ys. ys ++ f last) before ∙ append_assoc first (flat_map f (take i xs)) (f last) ∙ ap (λ ys. first ++ ys) (sym joined)

-- ---- behind those in front that pass

-- those in front pass
pub record Split (f : ℕ → Bool) (ts : List ℕ) : Type 0 where
  pub gone : List ℕ
  pub joined : ts ≡ gone ++ behind f ts
  pub pass : Each (λ t. f t ≡ true) gone

pub split : (f : ℕ → Bool) (ts : List ℕ) → Split f ts
split f [] = record { gone = []; joined = refl; pass = tt }
split f (t ∷ ts) = let rest = split f ts in elim (f t) as (λ b. f t ≡ b → Split f (t ∷ ts)) [
  | true ↦ λ e. record { gone = t ∷ rest.gone; joined = ap (λ us. t ∷ us) rest.joined ∙ ap (λ us. t ∷ (rest.gone ++ us)) (sym (further f t ts e)); pass = (e, rest.pass) }
  | false ↦ λ e. record { gone = []; joined = sym (stops f t ts e); pass = tt }
] refl where
  further : (g : ℕ → Bool) (u : ℕ) (us : List ℕ) → g u ≡ true → behind g (u ∷ us) ≡ behind g us
  further g u us e = rw e refl

  stops : (g : ℕ → Bool) (u : ℕ) (us : List ℕ) → g u ≡ false → behind g (u ∷ us) ≡ u ∷ us
  stops g u us e = rw e refl

-- the first of what is left doesn't pass
pub behind_stops : (f : ℕ → Bool) (ts : List ℕ) (u : ℕ) (us : List ℕ) → behind f ts ≡ u ∷ us → f u ≡ false
behind_stops f [] u us e = absurd (let both : [] ≡ u ∷ us = e in cc)
behind_stops f (t ∷ ts) u us e = elim (f t) as (λ b. f t ≡ b → (if b then behind f ts else t ∷ ts) ≡ u ∷ us → f u ≡ false) [
  | true ↦ λ pass rest. behind_stops f ts u us rest
  | false ↦ λ stop rest. subst (λ v. f v ≡ false) (heads t u ts us rest) stop
] refl e where
  heads : (x y : ℕ) (xs ys : List ℕ) → x ∷ xs ≡ y ∷ ys → x ≡ y
  heads x y xs ys same = cc

-- one that passes in front may go
pub behind_passed : (f : ℕ → Bool) (ts : List ℕ) → starts f ts ≡ true → behind f (after_first ts) ≡ behind f ts
behind_passed f [] e = refl
behind_passed f (t ∷ ts) e = rw e refl

-- where the first doesn't pass, all are left
pub behind_stopped : (f : ℕ → Bool) (ts : List ℕ) → starts f ts ≡ false → ts ≡ behind f ts
behind_stopped f [] e = refl
behind_stopped f (t ∷ ts) e = rw e refl

-- what starts with one that passes is longer than what is left behind it
pub after_shorter : (f : ℕ → Bool) (ts : List ℕ) → starts f ts ≡ true → length (after_first ts) < length ts
after_shorter f [] e = absurd (let both : false ≡ true = e in cc)
after_shorter f (t ∷ ts) e = omega arith

-- ---- identifiers in lists

pub in_parts : (n : ℕ) (ts : List ℕ) (t : ℕ) → is_in t ts ≡ (is_in t (take n ts) || is_in t (drop n ts))
in_parts n ts t = ap (is_in t) (sym (take-append-drop n ts)) ∙ list_any-append (λ u. u == t) (take n ts) (drop n ts)

-- what stands in front in a list of different ones doesn't stand behind
pub apart : (n : ℕ) (ts : List ℕ) (t : ℕ) → are_different ts ≡ true → is_in t (take n ts) ≡ true → is_in t (drop n ts) ≡ false
apart zero ts t different front = absurd (cc)
apart (suc n) [] t different front = absurd (cc)
apart (suc n) (u ∷ ts) t different front =
    let parts = and_parts (not (is_in u ts)) (are_different ts) different in
    elim (u == t) as (λ b. (u == t) ≡ b → (b || is_in t (take n ts)) ≡ true → is_in t (drop n ts) ≡ false) [
      | true ↦ λ same h. subst (λ v. is_in v (drop n ts) ≡ false) (eqb-true u t same)
          (behind (is_in u (take n ts)) (is_in u (drop n ts)) (sym (in_parts n ts u) ∙ not-true (is_in u ts) parts.0))
      | false ↦ λ other h. apart n ts t parts.1 h
    ] refl front
  where
    behind : (a b : Bool) → (a || b) ≡ false → b ≡ false
    behind false b e = e
    behind true b e = absurd (cc)

-- what isn't in a list isn't in its front
pub not_in_front : (n : ℕ) (ts : List ℕ) (t : ℕ) → is_in t ts ≡ false → is_in t (take n ts) ≡ false
not_in_front n ts t e = first (is_in t (take n ts)) (is_in t (drop n ts)) (sym (in_parts n ts t) ∙ e) where
  first : (a b : Bool) → (a || b) ≡ false → a ≡ false
  first false b h = refl
  first true b h = absurd (cc)

-- the element at a place in a list of different ones doesn't stand before it
pub first_time : (ts : List ℕ) (i : ℕ) → i < length ts → are_different ts ≡ true → is_in (get_or ts i 0) (take i ts) ≡ false
first_time ts i less different = elim (is_in (get_or ts i 0) (take i ts)) as (λ b. is_in (get_or ts i 0) (take i ts) ≡ b → b ≡ false) [
  | false ↦ λ e. refl
  | true ↦ λ e. absurd (
      let behind_it : is_in (get_or ts i 0) (drop i ts) ≡ true =
      ap (is_in (get_or ts i 0)) (drop-cons ts i 0 less) ∙ ap (λ b. b || is_in (get_or ts i 0) (drop (suc i) ts)) (itself (get_or ts i 0)) in
      let both : true ≡ false = sym behind_it ∙ apart i ts (get_or ts i 0) different e in cc)
] refl where
  itself : (x : ℕ) → (x == x) ≡ true
  itself x = grind (arith, nat_tests)

pub different_behind : (n : ℕ) (ts : List ℕ) → are_different ts ≡ true → are_different (drop n ts) ≡ true
different_behind zero ts different = different
different_behind (suc n) [] different = different
different_behind (suc n) (t ∷ ts) different = different_behind n ts (and_parts (not (is_in t ts)) (are_different ts) different).1

-- what stands in one of two lists stands in both together
pub in_first : {A : Type 0} (key : A → ℕ) (xs ys : List A) (t : ℕ) → is_in t (map key xs) ≡ true → is_in t (map key (xs ++ ys)) ≡ true
in_first key xs ys t e = in_joined key xs ys t ∙ ap (λ b. b || is_in t (map key ys)) e

pub in_second : {A : Type 0} (key : A → ℕ) (xs ys : List A) (t : ℕ) → is_in t (map key ys) ≡ true → is_in t (map key (xs ++ ys)) ≡ true
in_second key xs ys t e = in_joined key xs ys t ∙ ap (λ b. is_in t (map key xs) || b) e ∙ or-true (is_in t (map key xs))

-- what stands in a list stands in it from the end on
pub in_reverse : {A : Type 0} (key : A → ℕ) (xs : List A) (t : ℕ) → is_in t (map key xs) ≡ true → is_in t (map key (reverse xs)) ≡ true
in_reverse key [] t e = e
in_reverse key (x ∷ xs) t e = ap (λ ys. is_in t (map key ys)) (reverse-append (x ∷ []) xs)
    ∙ elim (key x == t) as (λ b. (key x == t) ≡ b → (b || is_in t (map key xs)) ≡ true → is_in t (map key (reverse xs ++ x ∷ [])) ≡ true) [
      | true ↦ λ same h. in_second key (reverse xs) (x ∷ []) t (ap (λ b. b || false) same)
      | false ↦ λ other h. in_first key (reverse xs) (x ∷ []) t (in_reverse key xs t h)
    ] refl e
