-- Reading a log item by item.
use Rattle.std.proofs.Common.{◌≡◌, ℕ, ◌+◌, ◌-◌, ◌^◌, ◌<◌, ◌≤◌, ◌≢◌, min, true, false, cond, List, [], ◌∷◌, ◌++◌, flat_map, length}
use Rattle.std.proofs.Common.{take, Some, None, nat_eq, refl, sym, ◌∙◌, ap, arith, length-append, length-drop, add-zero}
use Rattle.std.proofs.lemmas.List.{length-take-le, nil_from_length}
use Rattle.std.proofs.lemmas.Bool.{cond-false, ne_eqb}
use Rattle.edge_io.specs.Log.{item, has_item, stated, first_datagram, after_item, items_of, rest_of, rest_within, torn_from}
use Rattle.edge_io.specs.Stages.{FindsItem}
use Rattle.edge_io.proofs.Items.{Whole, whole, length_first, items_whole, rest_whole, items_none, rest_none}

-- the items behind a whole one are torn where the items from it on are
torn_whole : (place n : ℕ) (bytes : List ℕ) → has_item bytes ≡ true → length (first_datagram bytes) ≡ n
    → torn_from (place + (2 + n)) (after_item bytes) ≡ torn_from place bytes
unfolding torn_from
torn_whole place n bytes h l =
    let later = flat_map item (items_of (after_item bytes)) in
    let size = length-append (item (first_datagram bytes)) later in
    let there : place + (2 + n) + length later ≡ place + length (item (first_datagram bytes) ++ later) = omega arith in
    let sum : place + (2 + n) + length later ≡ place + length (flat_map item (items_of bytes)) =
    there ∙ sym (ap (λ ds. place + length (flat_map item ds)) (items_whole bytes h)) in
    ap (λ t. cond (nat_eq (length (rest_of (after_item bytes))) 0) None (Some t)) sum
    ∙ sym (ap (λ r. cond (nat_eq (length r) 0) None (Some (place + length (flat_map item (items_of bytes))))) (rest_whole bytes h))

-- no byte is left: nothing is torn
pub torn_none : (place : ℕ) → torn_from place [] ≡ None
unfolding torn_from rest_of rest_within
torn_none place = refl

pub items_of_none : items_of [] ≡ []
items_of_none = items_none [] refl

-- an item that isn't whole: torn here
pub torn_cut : (place : ℕ) (bytes : List ℕ) → bytes ≢ [] → has_item bytes ≡ false → torn_from place bytes ≡ Some place
unfolding torn_from
torn_cut place bytes n h =
    ap (λ r. cond (nat_eq (length r) 0) None (Some (place + length (flat_map item (items_of bytes))))) (rest_none bytes h)
    ∙ ap (λ ds. cond (nat_eq (length bytes) 0) None (Some (place + length (flat_map item ds)))) (items_none bytes h)
    ∙ cond-false _ _ _ (ne_eqb (length bytes) 0 (λ e. n (nil_from_length bytes e)))
    ∙ ap Some (add-zero place)

-- what is known once a whole item was read
pub record AfterItem (place after n : ℕ) (buffer left left' : List ℕ) : Type 0 where
  pub items : items_of left ≡ take n buffer ∷ items_of left'
  pub torn : torn_from after left' ≡ torn_from place left
  pub fits : after + length left' < 2 ^ 64

pub answer_whole : (place after n : ℕ) (buffer left left' : List ℕ) → FindsItem n buffer left left' → n ≤ length buffer → place + length left < 2 ^ 64
    → after ≡ min (place + (2 + n)) (2 ^ 64 - 1) → AfterItem place after n buffer left left'
answer_whole place after n buffer left left' f within fits is =
    let w : Whole left = whole left f.whole in
    let size : length (first_datagram left) ≡ n = ap length f.datagram ∙ length-take-le n buffer within in
    let s : stated left ≡ n = sym (length_first left f.whole) ∙ size in
    let after_is : after ≡ place + (2 + n) = omega (arith, w.room) in
    let later : length left' ≡ length left - (2 + stated left) = ap length f.rest ∙ length-drop (2 + stated left) left in
    record {
      items = items_whole left f.whole ∙ ap (λ d. d ∷ items_of (after_item left)) f.datagram ∙ ap (λ t. take n buffer ∷ items_of t) (sym f.rest);
      torn = ap (λ p. torn_from p left') after_is ∙ ap (λ t. torn_from (place + (2 + n)) t) f.rest ∙ torn_whole place n left f.whole size;
      fits = omega (arith, w.room);
    }
