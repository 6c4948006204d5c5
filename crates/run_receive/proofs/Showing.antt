-- What an audience is shown of a list of datagrams.
use Rattle.std.proofs.Common.{◌≡◌, ℕ, ◌+◌, ◌≤◌, List, [], ◌∷◌, ◌++◌, ◌∙◌, refl, sym, ap, subst, arith, length, take, map, Option, Some, None, length-append}
use Rattle.std.specs.Prelude.{option_map}
use Rattle.std.specs.List.{All, fold, cons_option}
use Rattle.std.proofs.lemmas.List.{append-nil}
use Rattle.std.proofs.lemmas.List.Elements.{All-append, All-cons, All-nil, filter_map-append}
use Rattle.wire_bytes.specs.Bytes.{AreBytes}
use Rattle.carousel_cid.specs.Instances.{Shown}
use Rattle.held_packets.specs.Held.{Held, nothing_held}
use Rattle.held_packets.specs.Verdict.{step, held_after}
use Rattle.held_packets.specs.declared.kept.Kept.{Kept}
use Rattle.held_packets.specs.declared.kept.Kept.TheVariants as kept
use Rattle.receiver_core.specs.Best.{NotOlder}
use Rattle.receiver_core.specs.BestOf.{best, installed_after}
use Rattle.receiver_core.specs.Classes.{taken_of, packet_under, packets_of, held_with}
use Rattle.receiver_core.specs.Receiver.{Receiver, Announces}
use Rattle.receiver_core.specs.declared.taken.Taken.{Taken}
use Rattle.receiver_core.specs.declared.taken.Taken.TheVariants as taken
use Rattle.receiver_core.proofs.Public.{never_back}
use Rattle.snapshot_hub.specs.Histories.{last_of, one_above, MayFollow}
use Rattle.snapshot_hub.proofs.Public.{last_snoc}
use Rattle.watch_list.specs.declared.event.Event.{Event}
use Rattle.run_receive.specs.Events.{event_of, event_of_packet, announcement, events_from, installed_number, installed_numbers, other_instance, published_with, published_from, published_of, events_of}
use Rattle.run_receive.specs.HasTaken.{HasTaken, HasTakenSome}
use Rattle.run_receive.specs.Showings.{with_option, when_another}
use Rattle.run_receive.proofs.EventLists.{instance_is}
use Rattle.run_receive.proofs.Spelled.{packets_sound}
use Rattle.run_receive.proofs.Taking.{held_more, held_one_more}

-- ---- numbers never fall

pub some_more : (old new : Receiver) (d : List ℕ) → AreBytes d → (some : HasTakenSome old)
    → (HasTaken old some.datagrams → HasTaken new (some.datagrams ++ d ∷ [])) → HasTakenSome new
some_more old new d bytes some more = record {
  datagrams = some.datagrams ++ d ∷ [];
  bytes = All-append AreBytes some.datagrams (d ∷ []) some.bytes (All-cons AreBytes d [] bytes (All-nil AreBytes));
  has = more some.has;
}

-- what is installed with one datagram more isn't older
pub next_not_older : (tsi budget : ℕ) (ds : List (List ℕ)) (d : List ℕ) → All AreBytes ds → AreBytes d
    → NotOlder (installed_after budget (packets_of tsi ds)) (installed_after budget (packets_of tsi (ds ++ d ∷ [])))
next_not_older tsi budget ds d bytes one =
    subst (λ ps. NotOlder (installed_after budget (packets_of tsi ds)) (installed_after budget ps)) (sym (filter_map-append (packet_under tsi) ds (d ∷ [])))
    (never_back budget (packets_of tsi ds) (packets_of tsi (d ∷ []))
    (packets_sound tsi ds bytes) (packets_sound tsi (d ∷ []) (All-cons AreBytes d [] one (All-nil AreBytes))))

pub not_older : (r : Receiver) (d : List ℕ) → HasTakenSome r → AreBytes d → NotOlder r.installed (best (held_with r.tsi r.budget r.held d))
not_older r d some bytes =
    let ds = some.datagrams in
    subst (NotOlder r.installed) (ap best (sym (held_one_more r d ds some.has)))
    (subst (λ o. NotOlder o (installed_after r.budget (packets_of r.tsi (ds ++ d ∷ [])))) (sym some.has.installed)
    (next_not_older r.tsi r.budget ds d some.bytes bytes))

pub above : (old new : Option Shown) (i : Shown) → NotOlder old new → new ≡ Some i → one_above old ≤ i.number + 1
above None new i older is = omega arith
above (Some j) None i older is = absurd older
above (Some j) (Some k) i older is = let same : k ≡ i = cc in let number = ap (λ (x : Shown). x.number) same in omega (arith, older.0, number)

-- so it may come next
pub may_follow : (n : Option ℕ) (shown : List Shown) (old new : Option Shown) (i : Shown)
    → last_of shown ≡ old → NotOlder old new → when_another n new ≡ Some i → MayFollow shown i
may_follow None shown old new i last older is = cc
may_follow (Some number) shown old new i last older is = subst (λ o. one_above o ≤ i.number + 1) (sym last) (above old new i older is)

-- ---- one datagram more

pub last_shown : (n : Option ℕ) (shown : List Shown) (old new : Option Shown)
    → Announces n old new → last_of shown ≡ old → last_of (with_option shown (when_another n new)) ≡ new
last_shown None shown old new announces last = last ∙ sym announces
last_shown (Some number) shown old None announces last = absurd announces.1
last_shown (Some number) shown old (Some i) announces last = last_snoc shown i

pub one_longer : (o : Option Shown) (shown : List Shown) → length (with_option shown o) ≤ length shown + 1
one_longer None shown = omega arith
one_longer (Some i) shown = omega (arith, length-append shown (i ∷ []))

as_list : (o : Option Shown) (shown : List Shown) → shown ++ cons_option o [] ≡ with_option shown o
as_list None shown = append-nil shown
as_list (Some i) shown = refl

onto_both : (o : Option Shown) (xs ys : List Shown) → cons_option o (xs ++ ys) ≡ cons_option o xs ++ ys
onto_both None xs ys = refl
onto_both (Some i) xs ys = refl

published_further : (tsi budget : ℕ) (held : Held) (ds es : List (List ℕ)) → published_from tsi budget held (ds ++ es)
    ≡ published_from tsi budget held ds ++ published_from tsi budget (fold (step budget) held (packets_of tsi ds)) es
published_further tsi budget held [] es = refl
published_further tsi budget held (d ∷ ds) es =
    ap (cons_option (published_with tsi budget held d)) (published_further tsi budget (held_with tsi budget held d) ds es)
    ∙ ap (λ h. cons_option (published_with tsi budget held d) (published_from tsi budget (held_with tsi budget held d) ds ++ published_from tsi budget h es))
    (sym (held_more budget held (packet_under tsi d) (packets_of tsi ds)))
    ∙ onto_both (published_with tsi budget held d) (published_from tsi budget (held_with tsi budget held d) ds)
    (published_from tsi budget (fold (step budget) held (packets_of tsi (d ∷ ds))) es)

pub one_more : (tsi budget i : ℕ) (left : List (List ℕ)) (d : List ℕ) (held : Held) → held ≡ held_after budget (packets_of tsi (take i left))
    → take (i + 1) left ≡ take i left ++ d ∷ []
    → published_of tsi budget (take (i + 1) left) ≡ with_option (published_of tsi budget (take i left)) (published_with tsi budget held d)
unfolding published_of
one_more tsi budget i left d held is next =
    ap (published_of tsi budget) next
    ∙ published_further tsi budget nothing_held (take i left) (d ∷ [])
    ∙ ap (λ h. published_of tsi budget (take i left) ++ published_from tsi budget h (d ∷ [])) (sym is)
    ∙ as_list (published_with tsi budget held d) (published_of tsi budget (take i left))

-- of a receiver that has taken those before it
pub published_more : (tsi budget i : ℕ) (left : List (List ℕ)) (d : List ℕ) (r : Receiver) → r.tsi ≡ tsi → r.budget ≡ budget → HasTaken r (take i left)
    → take (i + 1) left ≡ take i left ++ d ∷ []
    → published_of tsi budget (take (i + 1) left) ≡ with_option (published_of tsi budget (take i left)) (published_with r.tsi r.budget r.held d)
published_more tsi budget i left d r of within has next =
    subst (λ t. published_of t budget (take (i + 1) left) ≡ with_option (published_of t budget (take i left)) (published_with r.tsi r.budget r.held d)) of
    (subst (λ b. published_of r.tsi b (take (i + 1) left) ≡ with_option (published_of r.tsi b (take i left)) (published_with r.tsi r.budget r.held d)) within
    (one_more r.tsi r.budget i left d r.held has.held next))

-- what is shown of it, from what settling answers
pub shown_is : (tsi budget : ℕ) (held : Held) (d : List ℕ) (n : Option ℕ) (old new : Option Shown) (shown shown' : List Shown)
    → old ≡ best held → new ≡ best (held_with tsi budget held d) → Announces n old new → shown' ≡ with_option shown (when_another n new)
    → shown' ≡ with_option shown (published_with tsi budget held d)
shown_is tsi budget held d n old new shown shown' before now announces is =
    is ∙ ap (with_option shown) (instance_is n old new announces)
    ∙ ap (λ b. with_option shown (other_instance b new)) before
    ∙ ap (λ b. with_option shown (other_instance (best held) b)) now

-- of all datagrams that are taken, where no more than the first i were left
pub shown_all : (tsi budget i most : ℕ) (left : List (List ℕ)) (shown : List Shown) → take most left ≡ take i left
    → shown ≡ published_of tsi budget (take i left) → shown ≡ published_of tsi budget (take most left)
shown_all tsi budget i most left shown same is = is ∙ ap (published_of tsi budget) (sym same)

pub nothing_published : (tsi budget : ℕ) (left : List (List ℕ)) → [] ≡ published_of tsi budget (take 0 left)
unfolding published_of
nothing_published tsi budget left = refl

-- ---- the numbers that the watchers are told are those of the instances that are shown

of_packet : (toi sbn esi : ℕ) (k : Kept) → installed_number (event_of_packet toi sbn esi k) ≡ None
of_packet toi sbn esi (kept.New block object) = refl
of_packet toi sbn esi kept.Repeat = refl
of_packet toi sbn esi kept.Spare = refl
of_packet toi sbn esi (kept.OtiDiffers o) = refl
of_packet toi sbn esi (kept.SymbolDiffers at) = refl
of_packet toi sbn esi (kept.OverBudget count charge) = refl

of_class : (t : Taken) → installed_number (event_of t) ≡ None
of_class (taken.Refused refusal) = refl
of_class (taken.Elsewhere tsi) = refl
of_class (taken.Control close) = refl
of_class (taken.Packet toi sbn esi verdict) = of_packet toi sbn esi verdict

of_announcement : (o : Option Shown) (es : List Event) (is : List Shown) → installed_numbers es ≡ map (λ i. i.number) is
    → installed_numbers (announcement (option_map (λ i. i.number) o) ++ es) ≡ map (λ i. i.number) (cons_option o is)
of_announcement None es is same = same
of_announcement (Some i) es is same = ap (λ ns. i.number ∷ ns) same

numbers_from : (tsi budget : ℕ) (held : Held) (ds : List (List ℕ))
    → installed_numbers (events_from tsi budget held ds) ≡ map (λ i. i.number) (published_from tsi budget held ds)
numbers_from tsi budget held [] = refl
numbers_from tsi budget held (d ∷ ds) =
    let rest = events_from tsi budget (held_with tsi budget held d) ds in
    let other = published_with tsi budget held d in
    ap (λ o. cons_option o (installed_numbers (announcement (option_map (λ (i : Shown). i.number) other) ++ rest))) (of_class (taken_of tsi budget held d))
    ∙ of_announcement other rest (published_from tsi budget (held_with tsi budget held d) ds) (numbers_from tsi budget (held_with tsi budget held d) ds)

pub numbers_of : (tsi budget : ℕ) (ds : List (List ℕ)) → installed_numbers (events_of tsi budget ds) ≡ map (λ i. i.number) (published_of tsi budget ds)
unfolding events_of published_of
numbers_of tsi budget ds = numbers_from tsi budget nothing_held ds
