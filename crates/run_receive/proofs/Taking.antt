-- A receiver that takes one datagram more.
use Rattle.std.proofs.Common.{◌≡◌, ℕ, ◌+◌, ◌-◌, ◌<◌, ◌^◌, Bool, true, false, List, [], ◌∷◌, ◌++◌, ◌∙◌, refl, sym, ap, arith, Option, Some, None}
use Rattle.std.specs.Prelude.{◌==◌, if◌then◌else◌, min, Result, Ok, Err}
use Rattle.std.specs.List.{fold, filter_map, cons_option}
use Rattle.alc_packet.specs.Packet.{SymbolPacket}
use Rattle.alc_packet.specs.Reply.{reply}
use Rattle.alc_packet.specs.declared.datagram.Datagram.{Datagram}
use Rattle.alc_packet.specs.declared.datagram.Datagram.TheVariants as datagrams
use Rattle.alc_packet.specs.declared.refusal.Refusal.{Refusal}
use Rattle.held_packets.specs.Held.{Held, nothing_held}
use Rattle.held_packets.specs.Verdict.{verdict, step, held_after, is_over_budget, steps_from, steps_of}
use Rattle.held_packets.specs.KeptSet.{drops_from, drops}
use Rattle.held_packets.specs.Whole.{whole}
use Rattle.oti_blocks.specs.Partition.{ObjectInformation}
use Rattle.std.specs.FinMap.{keys, entries, len-empty, len-entries}
use Rattle.std.specs.Ordering.{nat_cmp}
use Rattle.std.proofs.lemmas.List.{nil_from_length, length-map}
use Rattle.receiver_core.specs.Best.{complete}
use Rattle.receiver_core.specs.BestOf.{best, best_of}
use Rattle.receiver_core.specs.Classes.{taken_of, taken_reply, packet_of_reply, packet_under, packets_of, held_with, held_with_packet, steps_with, steps_with_packet, is_drop, drops_with}
use Rattle.receiver_core.specs.Receiver.{Receiver}
use Rattle.receiver_core.specs.declared.taken.Taken.TheVariants as taken
use Rattle.run_receive.specs.HasTaken.{HasTaken}

-- what is held, and how many packets were over the budget, after one packet more or none
pub held_more : (budget : ℕ) (held : Held) (o : Option SymbolPacket) (ps : List SymbolPacket)
    → fold (step budget) held (cons_option o ps) ≡ fold (step budget) (held_with_packet budget held o) ps
held_more budget held None ps = refl
held_more budget held (Some p) ps = refl

abbrev one_if : Bool → ℕ
one_if b = if b then 1 else 0

abbrev drops_packet : ℕ → Held → Option SymbolPacket → ℕ
drops_packet budget held None = 0
drops_packet budget held (Some p) = one_if (is_over_budget (verdict budget held p))

drops_more : (budget : ℕ) (held : Held) (o : Option SymbolPacket) (ps : List SymbolPacket)
    → drops_from budget held (cons_option o ps) ≡ drops_packet budget held o + drops_from budget (held_with_packet budget held o) ps
drops_more budget held None ps = omega arith
drops_more budget held (Some p) ps = refl

-- the same, at the end of a list of datagrams
pub held_at_end : (tsi budget : ℕ) (held : Held) (ds : List (List ℕ)) (d : List ℕ)
    → fold (step budget) held (packets_of tsi (ds ++ d ∷ [])) ≡ held_with tsi budget (fold (step budget) held (packets_of tsi ds)) d
held_at_end tsi budget held [] d = held_more budget held (packet_under tsi d) []
held_at_end tsi budget held (e ∷ ds) d =
    held_more budget held (packet_under tsi e) (packets_of tsi (ds ++ d ∷ []))
    ∙ held_at_end tsi budget (held_with tsi budget held e) ds d
    ∙ ap (λ h. held_with tsi budget h d) (sym (held_more budget held (packet_under tsi e) (packets_of tsi ds)))

drops_at_end : (tsi budget : ℕ) (held : Held) (ds : List (List ℕ)) (d : List ℕ) → drops_from budget held (packets_of tsi (ds ++ d ∷ []))
    ≡ drops_from budget held (packets_of tsi ds) + drops_packet budget (fold (step budget) held (packets_of tsi ds)) (packet_under tsi d)
drops_at_end tsi budget held [] d = let e = drops_more budget held (packet_under tsi d) [] in omega (arith, e)
drops_at_end tsi budget held (e ∷ ds) d =
    let first = drops_more budget held (packet_under tsi e) (packets_of tsi (ds ++ d ∷ [])) in
    let later = drops_at_end tsi budget (held_with tsi budget held e) ds d in
    let before = drops_more budget held (packet_under tsi e) (packets_of tsi ds) in
    let same = ap (λ h. drops_packet budget h (packet_under tsi d)) (held_more budget held (packet_under tsi e) (packets_of tsi ds)) in
    omega (arith, first, later, before, same)

-- the row steps of one packet more or none
steps_more : (budget : ℕ) (held : Held) (o : Option SymbolPacket) (ps : List SymbolPacket)
    → steps_from budget held (cons_option o ps) ≡ steps_with_packet budget held o + steps_from budget (held_with_packet budget held o) ps
steps_more budget held None ps = omega arith
steps_more budget held (Some p) ps = refl

steps_at_end : (tsi budget : ℕ) (held : Held) (ds : List (List ℕ)) (d : List ℕ) → steps_from budget held (packets_of tsi (ds ++ d ∷ []))
    ≡ steps_from budget held (packets_of tsi ds) + steps_with tsi budget (fold (step budget) held (packets_of tsi ds)) d
steps_at_end tsi budget held [] d = let e = steps_more budget held (packet_under tsi d) [] in omega (arith, e)
steps_at_end tsi budget held (e ∷ ds) d =
    let first = steps_more budget held (packet_under tsi e) (packets_of tsi (ds ++ d ∷ [])) in
    let later = steps_at_end tsi budget (held_with tsi budget held e) ds d in
    let before = steps_more budget held (packet_under tsi e) (packets_of tsi ds) in
    let same = ap (λ h. steps_with tsi budget h d) (held_more budget held (packet_under tsi e) (packets_of tsi ds)) in
    omega (arith, first, later, before, same)

-- a datagram is counted as over the budget just where its packet is
drop_of_packet : (b : Bool) (budget : ℕ) (held : Held) (p : SymbolPacket)
    → one_if (is_drop (if b then taken.Packet p.toi p.sbn p.esi (verdict budget held p) else taken.Elsewhere p.tsi)) ≡ drops_packet budget held (if b then Some p else None)
drop_of_packet true budget held p = refl
drop_of_packet false budget held p = refl

drop_of_control : (b : Bool) (t : ℕ) (close : Bool) → is_drop (if b then taken.Control close else taken.Elsewhere t) ≡ false
drop_of_control true t close = refl
drop_of_control false t close = refl

drop_of_reply : (tsi budget : ℕ) (held : Held) (r : Result Datagram Refusal)
    → one_if (is_drop (taken_reply tsi budget held r)) ≡ drops_packet budget held (packet_of_reply tsi r)
drop_of_reply tsi budget held (Err refusal) = refl
drop_of_reply tsi budget held (Ok (datagrams.Symbol p)) = drop_of_packet (p.tsi == tsi) budget held p
drop_of_reply tsi budget held (Ok (datagrams.Control t close)) = ap one_if (drop_of_control (t == tsi) t close)

counted : (b : Bool) (drops : ℕ) → drops < 2 ^ 64 - 1 → (if b then min (drops + 1) (2 ^ 64 - 1) else drops) ≡ drops + one_if b
counted true drops few = omega arith
counted false drops few = omega arith

no_keys : keys nothing_held.objects ≡ []
no_keys = nil_from_length (keys nothing_held.objects) (length-map (entries nothing_held.objects) (λ e. e.0)
    ∙ (sym (len-entries nothing_held.objects) ∙ len-empty nat_cmp ObjectInformation))

-- nothing held comes to no instance
pub best_of_nothing : best nothing_held ≡ None
unfolding best
best_of_nothing = ap (λ ts. best_of (filter_map (complete (whole nothing_held)) ts)) no_keys

-- a new receiver has taken nothing
pub fresh : (r : Receiver) (tsi budget : ℕ) → r ≡ record { tsi = tsi; budget = budget; held = nothing_held; installed = None; settled = []; drops = 0 } → HasTaken r []
fresh r tsi budget is = record {
  held = ap (λ (r : Receiver). r.held) is;
  installed = ap (λ (r : Receiver). r.installed) is ∙ sym best_of_nothing;
  drops = ap (λ (r : Receiver). r.drops) is;
}

-- what is held with one datagram more
pub held_one_more : (r : Receiver) (d : List ℕ) (ds : List (List ℕ)) → HasTaken r ds
    → held_with r.tsi r.budget r.held d ≡ held_after r.budget (packets_of r.tsi (ds ++ d ∷ []))
held_one_more r d ds has = ap (λ h. held_with r.tsi r.budget h d) has.held ∙ sym (held_at_end r.tsi r.budget nothing_held ds d)

-- the row steps with one datagram more
pub steps_one_more : (r : Receiver) (d : List ℕ) (ds : List (List ℕ)) → HasTaken r ds
    → steps_of r.budget (packets_of r.tsi ds) + steps_with r.tsi r.budget r.held d ≡ steps_of r.budget (packets_of r.tsi (ds ++ d ∷ []))
steps_one_more r d ds has =
    let last = ap (λ h. steps_with r.tsi r.budget h d) has.held in
    let whole = steps_at_end r.tsi r.budget nothing_held ds d in
    omega (arith, last, whole)

-- what is installed is the best of what is held
pub installed_best : (r : Receiver) (ds : List (List ℕ)) → HasTaken r ds → r.installed ≡ best r.held
installed_best r ds has = has.installed ∙ ap best (sym has.held)

-- what taking a datagram and settling leave
pub record TakesOne (old new : Receiver) (d : List ℕ) : Type 0 where
  pub tsi : new.tsi ≡ old.tsi
  pub budget : new.budget ≡ old.budget
  pub held : new.held ≡ held_with old.tsi old.budget old.held d
  pub drops : new.drops ≡ drops_with old.drops (taken_of old.tsi old.budget old.held d)
  pub installed : new.installed ≡ best new.held

-- one datagram more is taken
pub one_more : (old new : Receiver) (d : List ℕ) (ds : List (List ℕ)) → TakesOne old new d → old.drops < 2 ^ 64 - 1 → HasTaken old ds → HasTaken new (ds ++ d ∷ [])
one_more old new d ds one few has =
    let held : new.held ≡ held_after new.budget (packets_of new.tsi (ds ++ d ∷ [])) =
    one.held ∙ held_one_more old d ds has
    ∙ ap (λ t. held_after old.budget (packets_of t (ds ++ d ∷ []))) (sym one.tsi)
    ∙ ap (λ b. held_after b (packets_of new.tsi (ds ++ d ∷ []))) (sym one.budget) in
    let dropped = drop_of_reply old.tsi old.budget old.held (reply d) in
    let before = ap (λ h. drops_packet old.budget h (packet_under old.tsi d)) has.held in
    let at_end = drops_at_end old.tsi old.budget nothing_held ds d in
    let count = one.drops ∙ counted (is_drop (taken_of old.tsi old.budget old.held d)) old.drops few in
    let total : new.drops ≡ drops old.budget (packets_of old.tsi (ds ++ d ∷ [])) = omega (arith, dropped, before, at_end, count, has.drops) in
    record {
      held = held;
      installed = one.installed ∙ ap best held;
      drops = total
          ∙ ap (λ t. drops old.budget (packets_of t (ds ++ d ∷ []))) (sym one.tsi)
          ∙ ap (λ b. drops b (packets_of new.tsi (ds ++ d ∷ []))) (sym one.budget);
    }
