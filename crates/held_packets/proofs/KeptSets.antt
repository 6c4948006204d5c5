-- The kept packets of a list of a session's packets.
use Rattle.std.proofs.Common.{◌≡◌, ℕ, ◌+◌, ◌≤◌, Bool, true, false, List, [], ◌∷◌, length, fold, ◌∙◌, refl, sym, ap, subst, arith, Some, None, inl, inr}
use Rattle.std.specs.Prelude.{if◌then◌else◌, nat_le}
use Rattle.std.proofs.lemmas.Bool.Decides.{nat_tests}
use Rattle.std.proofs.lemmas.List.Elements.{All-head, All-tail}
use Rattle.alc_packet.specs.Packet.{SymbolPacket, IsPacket}
use Rattle.held_packets.specs.declared.kept.Kept.{Kept}
use Rattle.held_packets.specs.declared.kept.Kept.TheVariants.{New, Repeat, Spare, OtiDiffers, SymbolDiffers, OverBudget}
use Rattle.held_packets.specs.Held.{Held, nothing_held, joined}
use Rattle.held_packets.specs.Count.{byte_count, charge}
use Rattle.held_packets.specs.Verdict.{verdict, is_kept, is_over_budget, step, held_after, IsNoDifference}
use Rattle.held_packets.specs.Session.{Session, IsSession, Belongs, IsOf, AreOf}
use Rattle.held_packets.specs.KeptSet.{kept_from, kept, drops_from, drops, gathered, set_count}
use Rattle.held_packets.proofs.Nothing.{nothing_at, nothing_open, nothing_counted, nothing_symbols}
use Rattle.held_packets.proofs.Counting.{joined_count}
use Rattle.held_packets.proofs.Agreeing.{Agrees, join_both, join_set}
use Rattle.held_packets.proofs.SetCounts.{counts_agree}
use Rattle.held_packets.proofs.Turns.{Found, FoundRepeat, FoundSpare, FoundOver, FoundNew, found, set_after, Leaves, leaves}

-- ---- along a list

-- what a list of a session's packets leaves
pub record Ends (s : Session) (budget : ℕ) (held set : Held) : Type 0 where
  pub agrees : Agrees s held set
  pub within : byte_count held ≤ budget

-- a kept packet in front is the first to join the set
kept_in_front : (budget : ℕ) (held set : Held) (p : SymbolPacket) (ps : List SymbolPacket)
    → fold joined (set_after set p (verdict budget held p)) (kept_from budget (step budget held p) ps) ≡ fold joined set (kept_from budget held (p ∷ ps))
kept_in_front budget held set p ps = by_kept (is_kept (verdict budget held p)) where
  by_kept : (b : Bool) → fold joined (if b then joined set p else set) (kept_from budget (step budget held p) ps)
      ≡ fold joined set (if b then p ∷ kept_from budget (step budget held p) ps else kept_from budget (step budget held p) ps)
  by_kept true = refl
  by_kept false = refl

pub after_list : (s : Session) (budget : ℕ) (held set : Held) (ps : List SymbolPacket) → IsSession s → Ends s budget held set → AreOf s ps
    → Ends s budget (fold (step budget) held ps) (fold joined set (kept_from budget held ps))
after_list s budget held set [] session ends are = ends
after_list s budget held set (p ∷ ps) session ends are =
    let left = leaves s budget held set p session ends.agrees ends.within (All-head (IsOf s) p ps are) in
    subst (Ends s budget (fold (step budget) (step budget held p) ps)) (kept_in_front budget held set p ps)
    (after_list s budget (step budget held p) (set_after set p (verdict budget held p)) ps
    session (record { agrees = left.agrees; within = left.within }) (All-tail (IsOf s) p ps are))

-- nothing agrees with nothing
pub nothing_agrees : (s : Session) → Agrees s nothing_held nothing_held
nothing_agrees s = record {
  objects = refl;
  rows = λ t b j row is. is;
  symbols = λ t b j row is. absurd (let both : None ≡ Some row = sym (nothing_at t b j) ∙ is in cc);
  opened = λ t b j row x is sent. absurd (let both : None ≡ Some row = sym (nothing_at t b j) ∙ is in cc);
  sent = λ t o is. absurd (let both : None ≡ Some o = sym (nothing_open t) ∙ is in cc);
  same = λ t b x sent less j. refl;
  most = λ t b x sent. omega (arith, nothing_symbols t x.oti b);
}

-- after a list of which the first packet finds nothing held
pub ends_of : (s : Session) (budget : ℕ) (ps : List SymbolPacket) → IsSession s → AreOf s ps → Ends s budget (held_after budget ps) (gathered (kept budget ps))
ends_of s budget ps session are =
    after_list s budget nothing_held nothing_held ps session (record { agrees = nothing_agrees s; within = omega (arith, nothing_counted) }) are

-- ---- the laws of one packet more

pub turn : (s : Session) (budget : ℕ) (ps : List SymbolPacket) (p : SymbolPacket) → IsSession s → AreOf s ps → IsOf s p
    → Leaves s budget (held_after budget ps) (gathered (kept budget ps)) p (verdict budget (held_after budget ps) p)
turn s budget ps p session are is =
    let ends = ends_of s budget ps session are in
    leaves s budget (held_after budget ps) (gathered (kept budget ps)) p session ends.agrees ends.within is

-- ---- all are kept within the budget

-- the set with one packet more, whatever the budget, is that of a held pair whose count isn't less
pub record Grows (s : Session) (held set : Held) : Type 0 where
  pub larger : Held
  pub agrees : Agrees s larger set
  pub more : byte_count held ≤ byte_count larger

grows_found : (s : Session) (budget : ℕ) (held set : Held) (p : SymbolPacket) → Agrees s held set
    → IsPacket p → Belongs s p → Found budget held p → Grows s held (joined set p)
grows_found s budget held set p agrees packet belongs (FoundRepeat open_ is e) =
    record { larger = held; agrees = join_set s held set p agrees packet belongs open_ (inl is); more = omega arith }
grows_found s budget held set p agrees packet belongs (FoundSpare open_ full_ e) =
    record { larger = held; agrees = join_set s held set p agrees packet belongs open_ (inr full_); more = omega arith }
grows_found s budget held set p agrees packet belongs (FoundOver fresh wanting over e) =
    record { larger = joined held p; agrees = join_both s held set p agrees packet belongs fresh wanting; more = omega (arith, joined_count held p fresh) }
grows_found s budget held set p agrees packet belongs (FoundNew fresh wanting room e) =
    record { larger = joined held p; agrees = join_both s held set p agrees packet belongs fresh wanting; more = omega (arith, joined_count held p fresh) }

pub grows_list : (s : Session) (held set : Held) (ps : List SymbolPacket) → Agrees s held set → AreOf s ps → Grows s held (fold joined set ps)
grows_list s held set [] agrees are = record { larger = held; agrees = agrees; more = omega arith }
grows_list s held set (p ∷ ps) agrees are =
    let is = All-head (IsOf s) p ps are in
    let first = grows_found s 0 held set p agrees is.packet is.belongs (found s 0 held set p agrees is.packet is.belongs) in
    let rest = grows_list s first.larger (joined set p) ps first.agrees (All-tail (IsOf s) p ps are) in
    record { larger = rest.larger; agrees = rest.agrees; more = omega (arith, first.more, rest.more) }

-- the count of a set with some packets more isn't less
pub set_grows : (s : Session) (held set : Held) (ps : List SymbolPacket) → IsSession s → Agrees s held set → AreOf s ps → set_count set ≤ set_count (fold joined set ps)
set_grows s held set ps session agrees are =
    let g = grows_list s held set ps agrees are in
    omega (arith, g.more, counts_agree s held set session agrees, counts_agree s g.larger (fold joined set ps) session g.agrees)

at_most_is : (n m : ℕ) → n ≤ m → nat_le n m ≡ true
at_most_is n m h = grind (arith, nat_tests)

all_kept_from : (s : Session) (budget : ℕ) (held set : Held) (ps : List SymbolPacket) → IsSession s
    → Ends s budget held set → AreOf s ps → set_count (fold joined set ps) ≤ budget → kept_from budget held ps ≡ ps
all_kept_from s budget held set [] session ends are room = refl
all_kept_from s budget held set (p ∷ ps) session ends are room =
    let is = All-head (IsOf s) p ps are in
    let rest = All-tail (IsOf s) p ps are in
    let left = leaves s budget held set p session ends.agrees ends.within is in
    let one = grows_found s 0 held set p ends.agrees is.packet is.belongs (found s 0 held set p ends.agrees is.packet is.belongs) in
    let fits : set_count (joined set p) ≤ budget = omega (arith, set_grows s one.larger (joined set p) ps session one.agrees rest, room) in
    let test : is_kept (verdict budget held p) ≡ true = left.fits ∙ at_most_is (set_count (joined set p)) budget fits in
    let same : set_after set p (verdict budget held p) ≡ joined set p = ap (λ b. if b then joined set p else set) test in
    let again = all_kept_from s budget (step budget held p) (joined set p) ps
    session (record { agrees = subst (Agrees s (step budget held p)) same left.agrees; within = left.within }) rest room in
    ap (λ b. if b then p ∷ kept_from budget (step budget held p) ps else kept_from budget (step budget held p) ps) test ∙ ap (λ qs. p ∷ qs) again

pub all_kept : (s : Session) (budget : ℕ) (ps : List SymbolPacket) → IsSession s → AreOf s ps → set_count (gathered ps) ≤ budget → kept budget ps ≡ ps
all_kept s budget ps session are room =
    all_kept_from s budget nothing_held nothing_held ps session (record { agrees = nothing_agrees s; within = omega (arith, nothing_counted) }) are room

-- ---- each packet is kept or over the budget

one_of_two : (k : Kept) → IsNoDifference k → (if is_over_budget k then 1 else 0) + (if is_kept k then 1 else 0) ≡ 1
one_of_two (New block object) is = refl
one_of_two Repeat is = refl
one_of_two Spare is = refl
one_of_two (OtiDiffers o) is = absurd is
one_of_two (SymbolDiffers at) is = absurd is
one_of_two (OverBudget count charge) is = refl

kept_or_dropped_from : (s : Session) (budget : ℕ) (held set : Held) (ps : List SymbolPacket) → IsSession s
    → Ends s budget held set → AreOf s ps → drops_from budget held ps + length (kept_from budget held ps) ≡ length ps
kept_or_dropped_from s budget held set [] session ends are = omega arith
kept_or_dropped_from s budget held set (p ∷ ps) session ends are =
    let left = leaves s budget held set p session ends.agrees ends.within (All-head (IsOf s) p ps are) in
    let rest = kept_or_dropped_from s budget (step budget held p) (set_after set p (verdict budget held p))
    ps session (record { agrees = left.agrees; within = left.within }) (All-tail (IsOf s) p ps are) in
    omega (arith, one_of_two (verdict budget held p) left.no_difference, rest, counted (is_kept (verdict budget held p)))
  where
    counted : (b : Bool) → length (if b then p ∷ kept_from budget (step budget held p) ps else kept_from budget (step budget held p) ps) ≡
        (if b then 1 else 0) + length (kept_from budget (step budget held p) ps)
    counted true = omega arith
    counted false = omega arith

pub kept_or_dropped : (s : Session) (budget : ℕ) (ps : List SymbolPacket) → IsSession s → AreOf s ps → drops budget ps + length (kept budget ps) ≡ length ps
kept_or_dropped s budget ps session are =
    kept_or_dropped_from s budget nothing_held nothing_held ps session (record { agrees = nothing_agrees s; within = omega (arith, nothing_counted) }) are
