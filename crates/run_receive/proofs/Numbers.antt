-- The numbers of what is published, one after the other.
use Rattle.std.proofs.Common.{◌≡◌, ℕ, zero, suc, ◌+◌, ◌≤◌, ◌<◌, Bool, true, false, List, [], ◌∷◌, ◌++◌, ◌∙◌, refl, sym, ap, subst, arith, length, take, map, get_or, Option, Some, None, add-one}
use Rattle.std.specs.Prelude.{if◌then◌else◌}
use Rattle.std.specs.List.{All}
use Rattle.std.specs.List.Sorted.{IsNonDecreasing}
use Rattle.std.specs.Option.{option_eq}
use Rattle.std.proofs.lemmas.List.{take_more, get_or-map, length-map}
use Rattle.std.proofs.lemmas.List.Elements.{All-get_or, All-take}
use Rattle.std.proofs.Math.Seq.{take-length}
use Rattle.wire_bytes.specs.Bytes.{AreBytes}
use Rattle.carousel_cid.specs.Instances.{Shown}
use Rattle.held_packets.specs.Held.{nothing_held}
use Rattle.held_packets.specs.Verdict.{held_after}
use Rattle.receiver_core.specs.Best.{NotOlder}
use Rattle.receiver_core.specs.BestOf.{best, installed_after}
use Rattle.receiver_core.specs.Classes.{packets_of, held_with}
use Rattle.snapshot_hub.specs.Histories.{last_of, IsRising, one_above}
use Rattle.snapshot_hub.proofs.Public.{last_snoc, rising_empty, rising_snoc}
use Rattle.run_base.specs.Bounds.{limit, datagrams_taken}
use Rattle.run_base.specs.declared.settings.Settings.{Settings}
use Rattle.run_receive.specs.Events.{installed_numbers, other_instance, published, published_with, published_of, events_taken, same_instance}
use Rattle.run_receive.specs.Outcome.{packets_taken}
use Rattle.run_receive.specs.Showings.{with_option}
use Rattle.run_receive.proofs.EventLists.{same_installed}
use Rattle.run_receive.proofs.Showing.{above, next_not_older, numbers_of, one_more}
use Rattle.run_receive.proofs.Taking.{best_of_nothing, held_at_end}

-- these were published, and in the end this is installed
record EndsWith (published : List Shown) (installed : Option Shown) : Type 0 where
  pub rising : IsRising published
  pub last : last_of published ≡ installed

-- with what is installed next, which isn't older
same_or_next : (same : Bool) (shown : List Shown) (old : Option Shown) (i : Shown) → option_eq same_instance old (Some i) ≡ same
    → NotOlder old (Some i) → EndsWith shown old → EndsWith (with_option shown (if same then None else Some i)) (Some i)
same_or_next true shown old i is older ends = record { rising = ends.rising; last = ends.last ∙ same_installed old i is }
same_or_next false shown old i is older ends =
    let follows : one_above (last_of shown) ≤ i.number + 1 = subst (λ o. one_above o ≤ i.number + 1) (sym ends.last) (above old (Some i) i older refl) in
    record { rising = rising_snoc shown i ends.rising follows; last = last_snoc shown i }

next : (shown : List Shown) (old new : Option Shown) → NotOlder old new → EndsWith shown old → EndsWith (with_option shown (other_instance old new)) new
next shown None None older ends = ends
next shown (Some j) None older ends = absurd older
next shown old (Some i) older ends = same_or_next (option_eq same_instance old (Some i)) shown old i refl older ends

-- of the first datagrams of a list
ends_with_first : (tsi budget i : ℕ) (ds : List (List ℕ)) → All AreBytes ds → i ≤ length ds
    → EndsWith (published_of tsi budget (take i ds)) (installed_after budget (packets_of tsi (take i ds)))
unfolding published_of
ends_with_first tsi budget zero ds bytes few = record { rising = rising_empty; last = sym best_of_nothing }
ends_with_first tsi budget (suc i) ds bytes few =
    let d = get_or ds i [] in
    let front = take i ds in
    let held = held_after budget (packets_of tsi front) in
    let less : i < length ds = omega (arith, few) in
    let more : take (i + 1) ds ≡ front ++ d ∷ [] = take_more ds i [] less in
    let now : best (held_with tsi budget held d) ≡ installed_after budget (packets_of tsi (take (i + 1) ds)) =
    ap best (sym (held_at_end tsi budget nothing_held front d)) ∙ ap (λ es. installed_after budget (packets_of tsi es)) (sym more) in
    let older : NotOlder (best held) (best (held_with tsi budget held d)) =
    subst (NotOlder (best held)) (ap best (held_at_end tsi budget nothing_held front d))
    (next_not_older tsi budget front d (All-take AreBytes i ds bytes) (All-get_or AreBytes ds i [] less bytes)) in
    let ends : EndsWith (with_option (published_of tsi budget front) (published_with tsi budget held d)) (best (held_with tsi budget held d)) =
    next (published_of tsi budget front) (best held) (best (held_with tsi budget held d)) older
    (ends_with_first tsi budget i ds bytes (omega (arith, few))) in
    subst (λ n. EndsWith (published_of tsi budget (take n ds)) (installed_after budget (packets_of tsi (take n ds)))) (add-one i)
    (subst (EndsWith (published_of tsi budget (take (i + 1) ds))) now
    (subst (λ shown. EndsWith shown (best (held_with tsi budget held d))) (sym (one_more tsi budget i ds d held refl more)) ends))

ends_with : (tsi budget : ℕ) (ds : List (List ℕ)) → All AreBytes ds → EndsWith (published_of tsi budget ds) (installed_after budget (packets_of tsi ds))
ends_with tsi budget ds bytes =
    subst (λ es. EndsWith (published_of tsi budget es) (installed_after budget (packets_of tsi es))) (take-length ds)
    (ends_with_first tsi budget (length ds) ds bytes (omega arith))

-- of the datagrams that a receiver takes
ends_with_taken : (c : Settings) (left : List (List ℕ)) → All AreBytes left → EndsWith (published c left) (installed_after c.budget (packets_taken c left))
ends_with_taken c left bytes = ends_with c.tsi c.budget (datagrams_taken c left) (All-take AreBytes (limit c.bound) left bytes)

pub published_rising : (c : Settings) (left : List (List ℕ)) → All AreBytes left → IsRising (published c left)
published_rising c left bytes = (ends_with_taken c left bytes).rising

pub last_installed : (c : Settings) (left : List (List ℕ)) → All AreBytes left → last_of (published c left) ≡ installed_after c.budget (packets_taken c left)
last_installed c left bytes = (ends_with_taken c left bytes).last

-- the numbers alone
rising_numbers : (is : List Shown) → IsRising is → IsNonDecreasing (map (λ i. i.number) is)
rising_numbers [] rising i j d le less = absurd (omega (arith, less))
rising_numbers (s ∷ is) rising i j d le less =
    let number = λ (x : Shown). x.number in
    let long = length-map (s ∷ is) number in
    let low = get_or-map number (s ∷ is) i s d (omega (arith, less, long, le)) in
    let high = get_or-map number (s ∷ is) j s d (omega (arith, less, long)) in
    omega (arith, low, high, rising i j s le (omega (arith, less, long)))

pub told_rising : (c : Settings) (left : List (List ℕ)) → All AreBytes left → IsNonDecreasing (installed_numbers (events_taken c left))
told_rising c left bytes =
    subst IsNonDecreasing (sym (numbers_of c.tsi c.budget (datagrams_taken c left))) (rising_numbers (published c left) (published_rising c left bytes))
