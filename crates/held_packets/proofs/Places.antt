-- The order of places is total, and tells all places apart.
use Rattle.std.proofs.Common.{◌≡◌, ℕ, ◌&&◌, ◌==◌, refl, ap, ◌∙◌, arith}
use Rattle.std.specs.declared.cmp.Ordering.{Ordering}
use Rattle.std.specs.declared.cmp.Ordering.TheVariants.{Less, Equal, Greater}
use Rattle.std.specs.Ordering.{nat_cmp, ordering_then, is_eq, eq_by_cmp}
use Rattle.std.specs.Cmp.{IsTotalOrder, nat_cmp_total, on_total, then_total}
use Rattle.std.specs.FinMap.{IsAntisymmetric, nat_cmp-IsAntisymmetric}
use Rattle.std.proofs.lemmas.Bool.Decides.{nat_tests}
use Rattle.held_packets.specs.Held.{Place, place, place_cmp}

-- places are in a total order
pub place_total : IsTotalOrder place_cmp
place_total = then_total (on_total (λ (p : Place). p.toi) nat_cmp_total)
    (then_total (on_total (λ (p : Place). p.sbn) nat_cmp_total) (on_total (λ (p : Place). p.esi) nat_cmp_total))

-- an order by two keys says Equal where both do
both_equal : (o p : Ordering) → ordering_then o p ≡ Equal → (o ≡ Equal) × (p ≡ Equal)
both_equal Less p e = cc
both_equal Equal p e = (refl, e)
both_equal Greater p e = cc

-- places that tie are one
pub place_exact : IsAntisymmetric place_cmp
place_exact p q e =
    let first = both_equal (nat_cmp p.toi q.toi) (ordering_then (nat_cmp p.sbn q.sbn) (nat_cmp p.esi q.esi)) e in
    let second = both_equal (nat_cmp p.sbn q.sbn) (nat_cmp p.esi q.esi) first.1 in
    let t = nat_cmp-IsAntisymmetric p.toi q.toi first.0 in
    let b = nat_cmp-IsAntisymmetric p.sbn q.sbn second.0 in
    let j = nat_cmp-IsAntisymmetric p.esi q.esi second.1 in
    λ i. record { toi = t i; sbn = b i; esi = j i }

-- an order by two keys ties where both tie
then_is_eq : (o p : Ordering) → is_eq (ordering_then o p) ≡ (is_eq o && is_eq p)
then_is_eq Less p = refl
then_is_eq Equal p = refl
then_is_eq Greater p = refl

-- numbers tie where they are equal
pub tied_numbers : (x y : ℕ) → eq_by_cmp nat_cmp x y ≡ (y == x)
tied_numbers x y = grind (arith, nat_tests)

-- places tie where their parts are equal
pub tied_places : (t b j u c k : ℕ) → eq_by_cmp place_cmp (place t b j) (place u c k) ≡ ((u == t) && ((c == b) && (k == j)))
tied_places t b j u c k =
    then_is_eq (nat_cmp t u) (ordering_then (nat_cmp b c) (nat_cmp j k))
    ∙ ap (λ x. is_eq (nat_cmp t u) && x) (then_is_eq (nat_cmp b c) (nat_cmp j k))
    ∙ rw (tied_numbers t u, tied_numbers b c, tied_numbers j k) refl
