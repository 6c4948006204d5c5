-- A new packet enters the objects.
use Rattle.std.proofs.Common.{◌≡◌, ℕ, ◌+◌, ◌-◌, ◌*◌, Bool, true, List, [], ◌∷◌, ◌++◌, refl, sym, ap, subst, ◌∙◌, arith, Option, Some, None, option_map}
use Rattle.std.specs.Prelude.{if◌then◌else◌, unwrap_or}
use Rattle.std.specs.Ordering.{nat_cmp}
use Rattle.std.specs.FinMap.{FinMap, get, insert}
use Rattle.std.specs.BTreeMap.{BTreeMap, Updates}
use Rattle.oti_blocks.specs.Partition.{ObjectInformation, size_at}
use Rattle.alc_packet.specs.Packet.{SymbolPacket, IsPacket}
use Rattle.held_packets.specs.declared.kept.Kept.{Kept}
use Rattle.held_packets.specs.declared.kept.Kept.TheVariants.{New}
use Rattle.held_packets.specs.Held.{Held, symbols_held, joined}
use Rattle.held_packets.specs.Count.{byte_count, charge}
use Rattle.held_packets.specs.HeldPair.{IsHeldPair}
use Rattle.held_packets.specs.Ready.{is_block_ready, is_ready, sources_held}
use Rattle.held_packets.specs.Verdict.{verdict, is_new, row_steps, steps_for, completes_block}
use Rattle.object_store.specs.Store.{IsListed}
use Rattle.object_store.specs.Inner.ObjectHeld.{ObjectHeld, new_object, sources_at, is_block_done, is_done, with_packet, steps_at, Joins}
use Rattle.object_store.specs.Inner.ObjectParts.{map_of}
use Rattle.object_store.specs.Inner.Objects.{held_of, object_at, object_in, IsStore}
use Rattle.held_packets.proofs.Public.{IsFresh, joined_count, IsNew, new_says, fresh_of_new, pair_joined}
use Rattle.object_store.proofs.WithPacket.{get_of, map_updated}
use Rattle.object_store.proofs.HeldView.{get_row, get_information, symbols_are, sources_are, blocks_are, ready_is_done, held_joined, object_then}
use Rattle.object_store.proofs.ReadyList.{listed_joined}

-- the packet's object has room for it
joins_object : (budget : ℕ) (m : FinMap nat_cmp ObjectHeld) (p : SymbolPacket) → IsNew budget (held_of m) p → Joins (object_at m p) p
joins_object budget m p new = record {
  same = same;
  vacant = sym (get_row m p.toi p.sbn p.esi p.oti) ∙ new.vacant;
  wanting = omega (
    arith,
    new.wanting,
    symbols_are m p.toi p.oti (object_at m p) refl p.sbn,
    ap (λ (u : ObjectInformation). symbols_held (held_of m) p.toi u p.sbn) same,
    ap (λ (u : ObjectInformation). size_at u p.sbn) same,
  );
}
  where
    by_object : (r : Option ObjectHeld) → get m p.toi ≡ r → (unwrap_or r (new_object p.oti)).oti ≡ p.oti
    by_object None closed = refl
    by_object (Some o) open_o = new.agrees o.oti (get_information m p.toi ∙ ap (option_map (λ (u : ObjectHeld). u.oti)) open_o)

    same : (object_at m p).oti ≡ p.oti
    same = by_object (get m p.toi) refl

-- what the objects say once it has entered
pub record HasEntered (budget : ℕ) (m : FinMap nat_cmp ObjectHeld) (p : SymbolPacket) : Type 0 where
  pub joins : Joins (object_at m p) p
  pub held : held_of (insert m p.toi (with_packet (object_at m p) p)) ≡ joined (held_of m) p
  pub verdict : verdict budget (held_of m) p ≡ New (is_block_done (with_packet (object_at m p) p) p.sbn) (is_done (with_packet (object_at m p) p))
  pub ready : is_ready (joined (held_of m) p) p.toi p.oti ≡ is_done (with_packet (object_at m p) p)
  pub steps : row_steps budget (held_of m) p ≡ steps_at (with_packet (object_at m p) p) p.sbn

pub entered : (budget : ℕ) (m : FinMap nat_cmp ObjectHeld) (p : SymbolPacket) → is_new (verdict budget (held_of m) p) ≡ true → HasEntered budget m p
entered budget m p is = record {
  joins = joins;
  held = held;
  verdict = says;
  ready = ready;
  steps = ap (λ (k : Kept). if completes_block k then steps_for (joined (held_of m) p) p else 0) says
      ∙ ap (λ (c : ℕ). if is_block_done then_o p.sbn then c else 0) (ap (λ (n : ℕ). (size_at p.oti p.sbn - n) * size_at p.oti p.sbn) sources
      ∙ ap (λ (u : ObjectInformation). (size_at u p.sbn - sources_at then_o p.sbn) * size_at u p.sbn) (sym joins.same));
}
  where
    new : IsNew budget (held_of m) p
    new = new_says budget (held_of m) p is

    joins : Joins (object_at m p) p
    joins = joins_object budget m p new

    then_o : ObjectHeld
    then_o = with_packet (object_at m p) p

    held : held_of (insert m p.toi then_o) ≡ joined (held_of m) p
    held = held_joined m p joins.same

    here : unwrap_or (get (insert m p.toi then_o) p.toi) (new_object p.oti) ≡ then_o
    here = object_then m p then_o p.oti

    block : is_block_ready (joined (held_of m) p) p.toi p.oti p.sbn ≡ is_block_done then_o p.sbn
    block = ap (λ (h : Held). is_block_ready h p.toi p.oti p.sbn) (sym held)
        ∙ ap (λ (u : ObjectInformation). is_block_ready (held_of (insert m p.toi then_o)) p.toi u p.sbn) (sym joins.same)
        ∙ blocks_are (insert m p.toi then_o) p.toi p.oti then_o here p.sbn

    ready : is_ready (joined (held_of m) p) p.toi p.oti ≡ is_done then_o
    ready = ap (λ (h : Held). is_ready h p.toi p.oti) (sym held) ∙ ap (is_ready (held_of (insert m p.toi then_o)) p.toi) (sym joins.same)
        ∙ ready_is_done (insert m p.toi then_o) p.toi p.oti then_o here

    sources : sources_held (joined (held_of m) p) p.toi p.oti p.sbn ≡ sources_at then_o p.sbn
    sources = ap (λ (h : Held). sources_held h p.toi p.oti p.sbn) (sym held)
        ∙ ap (λ (u : ObjectInformation). sources_held (held_of (insert m p.toi then_o)) p.toi u p.sbn) (sym joins.same)
        ∙ sources_are (insert m p.toi then_o) p.toi p.oti then_o here p.sbn

    says : verdict budget (held_of m) p ≡ New (is_block_done then_o p.sbn) (is_done then_o)
    says = new.verdict ∙ ap (λ x. New x (is_ready (joined (held_of m) p) p.toi p.oti)) block ∙ ap (New (is_block_done then_o p.sbn)) ready

-- ---- the same of a tree of objects

in_tree : (m : BTreeMap ℕ ObjectHeld) (p : SymbolPacket) → object_in m p ≡ object_at (map_of m) p
in_tree m p = ap (λ (r : Option ObjectHeld). unwrap_or r (new_object p.oti)) (sym (get_of m p.toi))

pub has_room : (budget : ℕ) (m : BTreeMap ℕ ObjectHeld) (p : SymbolPacket) → is_new (verdict budget (held_of (map_of m)) p) ≡ true → Joins (object_in m p) p
has_room budget m p is = subst (λ (o : ObjectHeld). Joins o p) (sym (in_tree m p)) (entered budget (map_of m) p is).joins

-- what a store holds with the packet
pub record IsStoreWith (budget count added : ℕ) (m more : BTreeMap ℕ ObjectHeld) (p : SymbolPacket) (ready : List ℕ) (block object : Bool) : Type 0 where
  pub holds : IsStore budget (count + added) (held_of (map_of more)) (if object then ready ++ p.toi ∷ [] else ready)
  pub held : held_of (map_of more) ≡ joined (held_of (map_of m)) p
  pub verdict : New block object ≡ verdict budget (held_of (map_of m)) p
  pub steps : steps_at (with_packet (object_in m p) p) p.sbn ≡ row_steps budget (held_of (map_of m)) p

pub store_with : (budget count added : ℕ) (m more : BTreeMap ℕ ObjectHeld) (p : SymbolPacket)
    (ready : List ℕ) (block object : Bool) → IsStore budget count (held_of (map_of m)) ready → IsPacket p
    → is_new (verdict budget (held_of (map_of m)) p) ≡ true → added ≡ charge (held_of (map_of m)) p → Updates nat_cmp m more p.toi (Some (with_packet (object_in m p) p))
    → block ≡ is_block_done (with_packet (object_in m p) p) p.sbn
    → object ≡ is_done (with_packet (object_in m p) p) → IsStoreWith budget count added m more p ready block object
store_with budget count added m more p ready block object holds is new adds updates block_is object_is = record {
  holds = record {
    counted = omega (arith, holds.counted, adds, joined_count held p fresh, ap byte_count held_is);
    within = omega (arith, holds.counted, adds, says.room);
    small = holds.small;
    listed = subst (λ (h : Held). IsListed h (if object then ready ++ p.toi ∷ [] else ready)) (sym held_is)
        (subst (λ x. IsListed (joined held p) (if x then ready ++ p.toi ∷ [] else ready))
        (entry.ready ∙ sym object_at_is) (listed_joined budget held p ready holds.pair is says holds.listed));
    pair = subst IsHeldPair (sym held_is) (pair_joined held p holds.pair is (fresh_of_new budget held p holds.pair is says) says.wanting);
  };
  held = held_is;
  verdict = ap (λ x. New x object) block_at_is ∙ ap (New (is_block_done (with_packet (object_at (map_of m) p) p) p.sbn)) object_at_is ∙ sym entry.verdict;
  steps = ap (λ (o : ObjectHeld). steps_at (with_packet o p) p.sbn) (in_tree m p) ∙ sym entry.steps;
}
  where
    held : Held
    held = held_of (map_of m)

    entry : HasEntered budget (map_of m) p
    entry = entered budget (map_of m) p new

    says : IsNew budget held p
    says = new_says budget held p new

    fresh : IsFresh held p
    fresh = fresh_of_new budget held p holds.pair is says

    block_at_is : block ≡ is_block_done (with_packet (object_at (map_of m) p) p) p.sbn
    block_at_is = block_is ∙ ap (λ (o : ObjectHeld). is_block_done (with_packet o p) p.sbn) (in_tree m p)

    object_at_is : object ≡ is_done (with_packet (object_at (map_of m) p) p)
    object_at_is = object_is ∙ ap (λ (o : ObjectHeld). is_done (with_packet o p)) (in_tree m p)

    held_is : held_of (map_of more) ≡ joined held p
    held_is = ap held_of (map_updated m more p.toi (with_packet (object_in m p) p) updates
        ∙ ap (λ (o : ObjectHeld). insert (map_of m) p.toi (with_packet o p)) (in_tree m p)) ∙ entry.held
