-- Loops that change a map at one key after the other.
use Rattle.std.proofs.Common.{◌≡◌, ℕ, ◌+◌, ◌<◌, Bool, true, false, cond, ◌||◌, List, [], ◌∷◌, ◌∙◌, refl, sym, ap, take, length, get_or, Option, eqb-true, arith}
use Rattle.std.specs.Prelude.{◌==◌}
use Rattle.std.specs.BTreeMap.{BTreeMap, get, Updates}
use Rattle.std.specs.Ordering.{nat_cmp}
use Rattle.std.proofs.lemmas.Bool.Decides.{nat_tests}
use Rattle.std.proofs.lemmas.List.{take_more}
use Rattle.std.proofs.lemmas.List.Folds.{list_any-append}
use Rattle.object_store.specs.Store.{is_in}
use Rattle.held_packets.proofs.Public.{tied_numbers}

-- an identifier is in a list with one more where it was in it or is that one
in_more : (ts : List ℕ) (i t : ℕ) → i < length ts → is_in t (take (i + 1) ts) ≡ (is_in t (take i ts) || ((get_or ts i 0 == t) || false))
in_more ts i t less = ap (is_in t) (take_more ts i 0 less) ∙ list_any-append (λ u. u == t) (take i ts) (get_or ts i 0 ∷ [])

eqb_swap : (t u : ℕ) → (t == u) ≡ (u == t)
eqb_swap t u = grind (arith, nat_tests)

-- the value at a key, by whether it is the new one and whether it was changed before
choices : {X : Type 0} (here before : Bool) (new old_value was : X) → (here ≡ true → new ≡ old_value)
    → cond here new (cond before old_value was) ≡ cond (before || (here || false)) old_value was
choices true true new old_value was same = same refl
choices true false new old_value was same = same refl
choices false true new old_value was same = refl
choices false false new old_value was same = refl

-- one more key has its new value
pub updated_more : {X : Type 0} (m n : BTreeMap ℕ X) (value was : ℕ → Option X) (ts : List ℕ) (i : ℕ) → i < length ts
    → ((t : ℕ) → get nat_cmp m t ≡ cond (is_in t (take i ts)) (value t) (was t)) → Updates nat_cmp m n (get_or ts i 0) (value (get_or ts i 0))
    → (t : ℕ) → get nat_cmp n t ≡ cond (is_in t (take (i + 1) ts)) (value t) (was t)
updated_more m n value was ts i less before updates t =
    updates.0 t
    ∙ ap (λ b. cond b (value (get_or ts i 0)) (get nat_cmp m t)) (tied_numbers (get_or ts i 0) t ∙ eqb_swap t (get_or ts i 0))
    ∙ ap (cond (get_or ts i 0 == t) (value (get_or ts i 0))) (before t)
    ∙ choices (get_or ts i 0 == t) (is_in t (take i ts)) (value (get_or ts i 0)) (value t) (was t) (λ e. ap value (eqb-true (get_or ts i 0) t e))
    ∙ ap (λ b. cond b (value t) (was t)) (sym (in_more ts i t less))

-- of one more object none waits
pub taken_more : {X : Type 0} (before after first : ℕ → X) (none : X) (ts : List ℕ) (i : ℕ) → i < length ts
    → ((t : ℕ) → before t ≡ cond (is_in t (take i ts)) none (first t)) → ((t : ℕ) → after t ≡ cond (get_or ts i 0 == t) none (before t))
    → (t : ℕ) → after t ≡ cond (is_in t (take (i + 1) ts)) none (first t)
taken_more before after first none ts i less was step t =
    step t
    ∙ ap (cond (get_or ts i 0 == t) none) (was t)
    ∙ choices (get_or ts i 0 == t) (is_in t (take i ts)) none none (first t) (λ e. refl)
    ∙ ap (λ b. cond b none (first t)) (sym (in_more ts i t less))
