-- A list of datagrams, of which some were taken within a bound.
use Rattle.std.proofs.Common.{◌≡◌, ℕ, zero, suc, ◌+◌, ◌-◌, ◌≤◌, false, List, [], ◌∷◌, ◌++◌, ◌∙◌, refl, sym, ap, arith, length, take, drop, Option, length-drop, add-one}
use Rattle.std.specs.Prelude.{nat_le, nat_lt}
use Rattle.std.proofs.lemmas.List.{append-nil, drop-drop}
use Rattle.std.proofs.Math.Seq.{take-add}
use Rattle.std.proofs.lemmas.Bool.Decides.{nat_tests}
use Rattle.run_base.specs.declared.bound.Bound.{Bound}
use Rattle.run_base.specs.declared.bound.Bound.TheVariants.{Most, Count}
use Rattle.run_base.specs.declared.ending.Ending.{Ending}
use Rattle.run_base.specs.Bounds.{limit, less, asked, ending_of}

-- of a list with this item behind its first i
pub record HasNext {A : Type 0} (i : ℕ) (xs : List A) (x : A) (rest : List A) : Type 0 where
  pub more : i + 1 ≤ length xs
  pub take : take (i + 1) xs ≡ take i xs ++ x ∷ []
  pub drop : drop (i + 1) xs ≡ rest

next_of : {A : Type 0} (i : ℕ) (xs : List A) (x : A) (rest : List A) → drop i xs ≡ x ∷ rest → HasNext i xs x rest
next_of zero [] x rest e = cc
next_of zero (y ∷ ys) x rest e = record { more = omega arith; take = ap (λ y. y ∷ []) (let h : y ≡ x = cc in h); drop = let h : ys ≡ rest = cc in h }
next_of (suc i) [] x rest e = cc
next_of (suc i) (y ∷ ys) x rest e =
    let n = next_of i ys x rest e in
    record {
      more = omega (arith, n.more);
      take = ap (λ k. take k (y ∷ ys)) (add-one (suc i)) ∙ ap (λ zs. y ∷ zs) (ap (λ k. take k ys) (sym (add-one i)) ∙ n.take);
      drop = ap (λ k. drop k (y ∷ ys)) (add-one (suc i)) ∙ (ap (λ k. drop k ys) (sym (add-one i)) ∙ n.drop);
    }

-- ---- what is left of a bound

pub less_none : (bound : Bound) → bound ≡ less bound 0
less_none (Most most) = ap (λ n. Most n) (let e : most ≡ most - 0 = omega arith in e)
less_none (Count count) = ap (λ n. Count n) (let e : count ≡ count - 0 = omega arith in e)

pub less_more : (bound b c : Bound) (i : ℕ) → b ≡ less bound i → c ≡ less b 1 → c ≡ less bound (i + 1)
less_more (Most most) b c i is next = next ∙ ap (λ b. less b 1) is ∙ ap (λ n. Most n) (let e : most - i - 1 ≡ most - (i + 1) = omega arith in e)
less_more (Count count) b c i is next = next ∙ ap (λ b. less b 1) is ∙ ap (λ n. Count n) (let e : count - i - 1 ≡ count - (i + 1) = omega arith in e)

pub limit_less : (bound : Bound) (i : ℕ) → limit (less bound i) ≡ limit bound - i
limit_less (Most most) i = refl
limit_less (Count count) i = refl

-- ---- so many were taken, and the list goes on so

pub record AreTaken (i : ℕ) (xs : List (List ℕ)) (torn : Option ℕ) (left : List (List ℕ)) (torn_left : Option ℕ) : Type 0 where
  pub few : i ≤ length xs
  pub rest : left ≡ drop i xs
  pub as_torn : torn_left ≡ torn

pub none_taken : (xs left : List (List ℕ)) (torn torn_left : Option ℕ) → left ≡ xs → torn_left ≡ torn → AreTaken 0 xs torn left torn_left
none_taken xs left torn torn_left same as_torn = record { few = omega arith; rest = same; as_torn = as_torn }

pub next_taken : (i : ℕ) (xs left : List (List ℕ)) (torn torn_left : Option ℕ) (d : List ℕ) (rest : List (List ℕ))
    → AreTaken i xs torn left torn_left → left ≡ d ∷ rest → take (i + 1) xs ≡ take i xs ++ d ∷ []
next_taken i xs left torn torn_left d rest taken is = (next_of i xs d rest (sym taken.rest ∙ is)).take

pub one_more_taken : (i : ℕ) (xs left : List (List ℕ)) (torn torn_left : Option ℕ) (d : List ℕ) (rest : List (List ℕ)) (torn_rest : Option ℕ)
    → AreTaken i xs torn left torn_left → left ≡ d ∷ rest → torn_rest ≡ torn_left → AreTaken (i + 1) xs torn rest torn_rest
one_more_taken i xs left torn torn_left d rest torn_rest taken is same =
    let next = next_of i xs d rest (sym taken.rest ∙ is) in
    record { few = next.more; rest = sym next.drop; as_torn = same ∙ taken.as_torn }

-- ---- the end

pub not_more : (n m : ℕ) → m ≤ n → nat_lt n m ≡ false
not_more n m h = grind (arith, nat_tests)

fewer_than : (most length i : ℕ) → i ≤ most → i ≤ length → nat_lt (most - i) (length - i) ≡ nat_lt most length
fewer_than most length i few more = grind (arith, nat_tests)

as_many_as : (count length i : ℕ) → i ≤ count → i ≤ length → nat_le (count - i) (length - i) ≡ nat_le count length
as_many_as count length i few more = grind (arith, nat_tests)

ends_as : (i : ℕ) (bound : Bound) (xs : List (List ℕ)) (torn : Option ℕ) → i ≤ limit bound → i ≤ length xs
    → ending_of (less bound i) (drop i xs) torn ≡ ending_of bound xs torn
ends_as i (Most most) xs torn within few = rw (length-drop i xs) (rw (fewer_than most (length xs) i within few) refl)
ends_as i (Count count) xs torn within few = rw (length-drop i xs) (rw (as_many_as count (length xs) i within few) refl)

asks_as : (i : ℕ) (bound : Bound) → i ≤ limit bound → i + asked (less bound i) ≡ asked bound
asks_as i (Most most) within = omega (arith, within)
asks_as i (Count count) within = omega (arith, within)

takes_as : (i : ℕ) (bound : Bound) (xs : List (List ℕ)) → i ≤ limit bound → take (limit (less bound i)) (drop i xs) ≡ [] → take (limit bound) xs ≡ take i xs
takes_as i bound xs within none =
    let all : limit bound ≡ i + limit (less bound i) = omega (arith, within, limit_less bound i) in
    ap (λ n. take n xs) all ∙ take-add i (limit (less bound i)) xs ∙ ap (λ ys. take i xs ++ ys) none ∙ append-nil (take i xs)

-- where the taking ended with these, they are all that are taken
pub record AreAllTaken (i : ℕ) (bound : Bound) (xs : List (List ℕ)) (torn : Option ℕ) (ending : Ending) (left : List (List ℕ)) : Type 0 where
  pub all : take (limit bound) xs ≡ take i xs
  pub ends : ending ≡ ending_of bound xs torn
  pub rest : left ≡ drop (asked bound) xs

pub all_taken : (i : ℕ) (bound b : Bound) (xs left rest : List (List ℕ)) (torn torn_left : Option ℕ) (ending : Ending)
    → b ≡ less bound i → i ≤ limit bound → AreTaken i xs torn left torn_left
    → (take (limit b) left ≡ []) × (ending ≡ ending_of b left torn_left) × (rest ≡ drop (asked b) left) → AreAllTaken i bound xs torn ending rest
all_taken i bound b xs left rest torn torn_left ending is within taken ended = record {
  all = takes_as i bound xs within (ap (λ ys. take (limit (less bound i)) ys) (sym taken.rest) ∙ ap (λ b. take (limit b) left) (sym is) ∙ ended.0);
  ends = ended.1 ∙ ap (λ b. ending_of b left torn_left) is ∙ ap (λ ys. ending_of (less bound i) ys torn_left) taken.rest
      ∙ ap (ending_of (less bound i) (drop i xs)) taken.as_torn ∙ ends_as i bound xs torn within taken.few;
  rest = ended.2 ∙ ap (λ b. drop (asked b) left) is ∙ ap (drop (asked (less bound i))) taken.rest
      ∙ drop-drop (asked (less bound i)) i xs ∙ ap (λ n. drop n xs) (asks_as i bound within);
}
