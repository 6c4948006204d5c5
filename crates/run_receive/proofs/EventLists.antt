-- What the watchers of a run are told.
use Rattle.std.proofs.Common.{◌≡◌, ℕ, Bool, true, false, List, [], ◌∷◌, ◌++◌, ◌∙◌, refl, sym, ap, Option, Some, None, append_assoc}
use Rattle.std.specs.Prelude.{◌==◌, if◌then◌else◌, option_map}
use Rattle.std.specs.Bool.{Decides}
use Rattle.std.specs.List.{fold}
use Rattle.std.specs.Option.{option_eq}
use Rattle.std.proofs.lemmas.Bool.Decides.{Decides-eqb, Decides-and, Decides-like}
use Rattle.std.proofs.lemmas.Slice.Eq.{bytes_eq-Decides, slice_eq-Decides}
use Rattle.carousel_cid.specs.Instances.{Shown}
use Rattle.carousel_cid.specs.declared.file_of.FileOf.{FileOf}
use Rattle.held_packets.specs.Held.{Held}
use Rattle.held_packets.specs.Verdict.{step}
use Rattle.receiver_core.specs.BestOf.{best}
use Rattle.receiver_core.specs.Classes.{taken_of, packet_under, packets_of, held_with}
use Rattle.receiver_core.specs.Receiver.{Announces}
use Rattle.receiver_core.specs.declared.taken.Taken.{Taken}
use Rattle.run_receive.specs.Events.{event_of, announcement, same_file, same_instance, other_instance, other_number, events_with, events_from}
use Rattle.run_receive.specs.Showings.{when_another}
use Rattle.run_receive.proofs.Taking.{held_more}

-- ---- a settling answers the number of another instance

option_decides : {A : Type 0} {E : A → A → Bool} → ((a b : A) → Decides (E a b) (a ≡ b)) → (x y : Option A) → Decides (option_eq E x y) (x ≡ y)
option_decides each None None = (λ _. refl, λ _. refl)
option_decides each None (Some b) = (λ e. cc, λ e. cc)
option_decides each (Some a) None = (λ e. cc, λ e. cc)
option_decides each (Some a) (Some b) = (λ e. ap Some ((each a b).0 e), λ e. (each a b).1 (let h : a ≡ b = cc in h))

file_decides : (f g : FileOf) → Decides (same_file f g) (f ≡ g)
file_decides f g = Decides-like (same_file f g)
    (λ h i. record { toi = h.0 i; location = h.1.0 i; kind = h.1.1.0 i; body = h.1.1.1 i })
    (λ e. (ap (λ (x : FileOf). x.toi) e, (ap (λ (x : FileOf). x.location) e, (ap (λ (x : FileOf). x.kind) e, ap (λ (x : FileOf). x.body) e))))
    (Decides-and (f.toi == g.toi) _ (Decides-eqb f.toi g.toi)
    (Decides-and _ _ (bytes_eq-Decides f.location g.location)
    (Decides-and _ _ (option_decides bytes_eq-Decides f.kind g.kind) (bytes_eq-Decides f.body g.body))))

instance_decides : (i j : Shown) → Decides (same_instance i j) (i ≡ j)
instance_decides i j = Decides-like (same_instance i j)
    (λ h k. record { number = h.0 k; descriptor_toi = h.1.0 k; listed = h.1.1.0 k; files = h.1.1.1 k })
    (λ e. (ap (λ (x : Shown). x.number) e, (ap (λ (x : Shown). x.descriptor_toi) e, (ap (λ (x : Shown). x.listed) e, ap (λ (x : Shown). x.files) e))))
    (Decides-and (i.number == j.number) _ (Decides-eqb i.number j.number)
    (Decides-and _ _ (Decides-eqb i.descriptor_toi j.descriptor_toi)
    (Decides-and _ _ (bytes_eq-Decides i.listed j.listed) (slice_eq-Decides file_decides i.files j.files _ refl))))

chosen_instance : (b : Bool) (old : Option Shown) (i : Shown) → Decides b (old ≡ Some i) → (Some i ≡ old → ⊥) → Some i ≡ (if b then None else Some i)
chosen_instance true old i decides other = absurd (other (sym (decides.0 refl)))
chosen_instance false old i decides other = refl

-- what is the same instance by its parts is the instance
pub same_installed : (old : Option Shown) (i : Shown) → option_eq same_instance old (Some i) ≡ true → old ≡ Some i
same_installed old i same = (option_decides instance_decides old (Some i)).0 same

pub instance_is : (n : Option ℕ) (old new : Option Shown) → Announces n old new → when_another n new ≡ other_instance old new
instance_is None old None announces = refl
instance_is None old (Some i) announces = rw ((option_decides instance_decides old (Some i)).1 (sym announces)) refl
instance_is (Some number) old None announces = absurd announces.1
instance_is (Some number) old (Some i) announces =
    chosen_instance (option_eq same_instance old (Some i)) old i (option_decides instance_decides old (Some i)) announces.0

number_of_it : (n : Option ℕ) (old new : Option Shown) → Announces n old new → n ≡ option_map (λ i. i.number) (when_another n new)
number_of_it None old new announces = refl
number_of_it (Some number) old None announces = absurd announces.1
number_of_it (Some number) old (Some i) announces = ap Some (sym announces.1)

number_is : (n : Option ℕ) (old new : Option Shown) → Announces n old new → n ≡ other_number old new
number_is n old new announces = number_of_it n old new announces ∙ ap (option_map (λ (i : Shown). i.number)) (instance_is n old new announces)

-- ---- the events of a list, one datagram after another

pub events_further : (tsi budget : ℕ) (held : Held) (ds es : List (List ℕ)) → events_from tsi budget held (ds ++ es)
    ≡ events_from tsi budget held ds ++ events_from tsi budget (fold (step budget) held (packets_of tsi ds)) es
events_further tsi budget held [] es = refl
events_further tsi budget held (d ∷ ds) es =
    ap (λ l. events_with tsi budget held d ++ l) (events_further tsi budget (held_with tsi budget held d) ds es)
    ∙ ap (λ h. events_with tsi budget held d ++ (events_from tsi budget (held_with tsi budget held d) ds ++ events_from tsi budget h es))
    (sym (held_more budget held (packet_under tsi d) (packets_of tsi ds)))
    ∙ sym (append_assoc (events_with tsi budget held d) (events_from tsi budget (held_with tsi budget held d) ds)
    (events_from tsi budget (fold (step budget) held (packets_of tsi (d ∷ ds))) es))

-- of one datagram, from what taking it and settling answer
pub events_are : (tsi budget : ℕ) (held : Held) (d : List ℕ) (t : Taken) (n : Option ℕ) (old new : Option Shown) → t ≡ taken_of tsi budget held d
    → old ≡ best held → new ≡ best (held_with tsi budget held d) → Announces n old new → events_with tsi budget held d ≡ event_of t ∷ announcement n
events_are tsi budget held d t n old new is before now announces =
    ap (λ u. event_of u ∷ announcement (other_number (best held) (best (held_with tsi budget held d)))) (sym is)
    ∙ ap (λ b. event_of t ∷ announcement (other_number b (best (held_with tsi budget held d)))) (sym before)
    ∙ ap (λ b. event_of t ∷ announcement (other_number old b)) (sym now)
    ∙ ap (λ m. event_of t ∷ announcement m) (sym (number_is n old new announces))
