-- The best instance: there is one, it is what is computed, and it is never older when more is whole.
use Rattle.std.proofs.Common.{◌≡◌, ◌≤◌, ℕ, true, false, List, [], ◌∷◌, ◌∙◌, refl, sym, ap, subst, arith, Option, Some, None, eqb-true}
use Rattle.std.specs.Prelude.{is_some, ◌==◌, if◌then◌else◌, Bool, ◌||◌}
use Rattle.std.specs.List.{list_any, filter_map, cons_option}
use Rattle.std.specs.Ordering.{nat_cmp, eq_by_cmp}
use Rattle.std.specs.FinMap.{get, keys, contains_key-keys}
use Rattle.std.proofs.lemmas.Bool.Decides.{nat_tests}
use Rattle.carousel_cid.specs.Instances.{Shown}
use Rattle.held_packets.specs.Held.{Held}
use Rattle.held_packets.specs.Whole.{whole}
use Rattle.held_packets.proofs.Public.{tied_numbers}
use Rattle.receiver_core.specs.Best.{Objects, complete, is_better, IsBestOf, Extends, NotOlder}
use Rattle.receiver_core.specs.BestOf.{better_of, best_of, best}
use Rattle.receiver_core.specs.Inner.Settling.{IsAnnounced}
use Rattle.receiver_core.proofs.Completing.{complete_none, complete_named, complete_kept}

-- not better than b, and b not better than i: not better than i
chain : (j b i : Shown) → is_better j b ≡ false → is_better b i ≡ false → is_better j i ≡ false
chain j b i first second = grind (arith, nat_tests)

-- of two instances at most one is better
better_is_not_worse : (i b : Shown) → is_better i b ≡ true → is_better b i ≡ false
better_is_not_worse i b h = grind (arith, nat_tests)

-- no instance is better than itself
not_better_than_itself : (i : Shown) → is_better i i ≡ false
not_better_than_itself i = grind (arith, nat_tests)

-- instances of which none is better are of one object
same_toi : (i b : Shown) → is_better i b ≡ false → is_better b i ≡ false → i.descriptor_toi ≡ b.descriptor_toi
same_toi i b first second = grind (arith, nat_tests)

same_instance : (i j : Shown) → Some i ≡ Some j → i ≡ j
same_instance i j e = cc

-- ---- there is one

pub one_best : (objects : Objects) (r s : Option Shown) → IsBestOf objects r → IsBestOf objects s → r ≡ s
one_best objects None None first second = refl
one_best objects None (Some b) first second = absurd (let both : None ≡ Some b = sym (first b.descriptor_toi) ∙ second.announced in cc)
one_best objects (Some i) None first second = absurd (let both : None ≡ Some i = sym (second i.descriptor_toi) ∙ first.announced in cc)
one_best objects (Some i) (Some b) first second =
    let of_one = same_toi i b (second.greatest i.descriptor_toi i first.announced) (first.greatest b.descriptor_toi b second.announced) in
    sym first.announced ∙ ap (complete objects) of_one ∙ second.announced

-- ---- it is never older when more is whole

newer : (i j : Shown) → is_better i j ≡ false → (i.number ≤ j.number) × (i.number ≡ j.number → j.descriptor_toi ≤ i.descriptor_toi)
newer i j h = (number i j h, λ same. toi i j h same) where
  number : (x y : Shown) → is_better x y ≡ false → x.number ≤ y.number
  number x y e = grind (arith, nat_tests)

  toi : (x y : Shown) → is_better x y ≡ false → x.number ≡ y.number → y.descriptor_toi ≤ x.descriptor_toi
  toi x y e same = grind (arith, nat_tests)

pub never_older : (first second : Objects) (r s : Option Shown) → Extends first second → IsBestOf first r → IsBestOf second s → NotOlder r s
never_older first second None s more old new = tt
never_older first second (Some i) None more old new =
    absurd (let both : None ≡ Some i = sym (new i.descriptor_toi) ∙ complete_kept first second more i.descriptor_toi i old.announced in cc)
never_older first second (Some i) (Some j) more old new =
    newer i j (new.greatest i.descriptor_toi i (complete_kept first second more i.descriptor_toi i old.announced))

-- ---- it is what is computed

-- the best so far is at least as good as what this object announces
abbrev IsTop : Objects → Option Shown → ℕ → Type 0
IsTop objects None t = complete objects t ≡ None
IsTop objects (Some b) t = (j : Shown) → complete objects t ≡ Some j → is_better j b ≡ false

-- and as what each of these announces
abbrev AreTopped : Objects → Option Shown → List ℕ → Type 0
AreTopped objects r [] = Unit {0}
AreTopped objects r (t ∷ ts) = IsTop objects r t × AreTopped objects r ts

-- what announces nothing is topped by all
top_of_none : (objects : Objects) (r : Option Shown) (t : ℕ) → complete objects t ≡ None → IsTop objects r t
top_of_none objects None t none = none
top_of_none objects (Some b) t none = λ j e. absurd (let both : None ≡ Some j = sym none ∙ e in cc)

-- an announced instance is what its own descriptor announces
announced_new : (objects : Objects) (t : ℕ) (i : Shown) → complete objects t ≡ Some i → complete objects i.descriptor_toi ≡ Some i
announced_new objects t i e = ap (complete objects) (complete_named objects t i e) ∙ e

-- what tops an object goes on to with an instance in front
top_below : (objects : Objects) (r : Option Shown) (i : Shown) (t : ℕ) → IsTop objects r t → IsTop objects (Some (better_of i r)) t
top_below objects None i t top = λ j e. absurd (let both : None ≡ Some j = sym top ∙ e in cc)
top_below objects (Some b) i t top = λ j e. elim (is_better b i) as (λ x. is_better b i ≡ x → is_better j (if x then b else i) ≡ false) [
  | true ↦ λ h. top j e
  | false ↦ λ h. chain j b i (top j e) h
] refl

topped_below : (objects : Objects) (r : Option Shown) (i : Shown) (ts : List ℕ) → AreTopped objects r ts → AreTopped objects (Some (better_of i r)) ts
topped_below objects r i [] tops = tt
topped_below objects r i (t ∷ ts) tops = (top_below objects r i t tops.0, topped_below objects r i ts tops.1)

-- the better one tops the object of the instance in front
top_first : (objects : Objects) (r : Option Shown) (i : Shown) (t : ℕ) → complete objects t ≡ Some i → IsTop objects (Some (better_of i r)) t
top_first objects None i t e = λ j f. subst (λ k. is_better k i ≡ false) (same_instance i j (sym e ∙ f)) (not_better_than_itself i)
top_first objects (Some b) i t e = λ j f. subst (λ k. is_better k (if is_better b i then b else i) ≡ false) (same_instance i j (sym e ∙ f))
    (elim (is_better b i) as (λ x. is_better b i ≡ x → is_better i (if x then b else i) ≡ false) [
      | true ↦ λ h. better_is_not_worse b i h
      | false ↦ λ h. not_better_than_itself i
    ] refl)

-- the better of the instance in front and an announced one is announced
announced_first : (objects : Objects) (r : Option Shown) (i : Shown) (t : ℕ)
    → complete objects t ≡ Some i → IsAnnounced objects r → IsAnnounced objects (Some (better_of i r))
announced_first objects None i t e known = announced_new objects t i e
announced_first objects (Some b) i t e known = elim (is_better b i) as (λ x. IsAnnounced objects (Some (if x then b else i))) [
  | true ↦ known
  | false ↦ announced_new objects t i e
]

-- the best instance that these objects announce
abbrev best_among : Objects → List ℕ → Option Shown
best_among objects ts = best_of (filter_map (complete objects) ts)

topped_among : (objects : Objects) (ts : List ℕ) → AreTopped objects (best_among objects ts) ts
topped_among objects [] = tt
topped_among objects (t ∷ ts) = elim (complete objects t) as (λ o. complete objects t ≡ o
    → AreTopped objects (best_of (cons_option o (filter_map (complete objects) ts))) (t ∷ ts)) [
      | None ↦ λ e. (top_of_none objects (best_among objects ts) t e, topped_among objects ts)
      | Some i ↦ λ e. (top_first objects (best_among objects ts) i t e, topped_below objects (best_among objects ts) i ts (topped_among objects ts))
    ] refl

announced_among : (objects : Objects) (ts : List ℕ) → IsAnnounced objects (best_among objects ts)
announced_among objects [] = tt
announced_among objects (t ∷ ts) = elim (complete objects t) as (λ o. complete objects t ≡ o
    → IsAnnounced objects (best_of (cons_option o (filter_map (complete objects) ts)))) [
      | None ↦ λ e. announced_among objects ts
      | Some i ↦ λ e. announced_first objects (best_among objects ts) i t e (announced_among objects ts)
    ] refl

-- the identifier is one of these
abbrev is_among : ℕ → List ℕ → Bool
is_among t ts = list_any (eq_by_cmp nat_cmp t) ts

-- of two, where the first fails, the second holds
either : (a b : Bool) → (a || b) ≡ true → a ≡ false → b ≡ true
either true b e f = absurd (cc)
either false b e f = e

-- at an identifier of a list on which the best is the top, it is
top_at : (objects : Objects) (r : Option Shown) (ts : List ℕ) (t : ℕ) → AreTopped objects r ts → is_among t ts ≡ true → IsTop objects r t
top_at objects r [] t tops among = absurd (let both : false ≡ true = among in cc)
top_at objects r (u ∷ ts) t tops among = elim (u == t) as (λ x. (u == t) ≡ x → IsTop objects r t) [
  | true ↦ λ same. subst (IsTop objects r) (eqb-true u t same) tops.0
  | false ↦ λ apart. top_at objects r ts t tops.1 (either (eq_by_cmp nat_cmp t u) (is_among t ts) among (tied_numbers t u ∙ apart))
] refl

-- an object that isn't open isn't whole
pub whole_unopened : (held : Held) (t : ℕ) → get held.objects t ≡ None → whole held t ≡ None
unfolding whole
whole_unopened held t closed = rw closed refl

-- what is announced and tops each object is the best
best_by : (objects : Objects) (r : Option Shown) → IsAnnounced objects r → ((t : ℕ) → IsTop objects r t) → IsBestOf objects r
best_by objects None known tops = tops
best_by objects (Some b) known tops = record { announced = known; greatest = tops }

pub best_is_best : (held : Held) → IsBestOf (whole held) (best held)
unfolding best
best_is_best held = let ts = keys held.objects in
    best_by (whole held) (best_among (whole held) ts) (announced_among (whole held) ts)
    (λ t. elim (get held.objects t) as (λ o. get held.objects t ≡ o → IsTop (whole held) (best_among (whole held) ts) t) [
      | None ↦ λ closed. top_of_none (whole held) (best_among (whole held) ts) t (complete_none (whole held) t (whole_unopened held t closed))
      | Some o ↦ λ open_. top_at (whole held) (best_among (whole held) ts) ts t (topped_among (whole held) ts) (sym (contains_key-keys held.objects t) ∙ ap is_some open_)
    ] refl)

-- what is the best is what is computed
pub best_is : (held : Held) (r : Option Shown) → IsBestOf (whole held) r → r ≡ best held
best_is held r is = one_best (whole held) r (best held) is (best_is_best held)
