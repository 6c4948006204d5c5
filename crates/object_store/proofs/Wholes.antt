-- What a store tells of an object.
use Rattle.std.proofs.Common.{◌≡◌, ℕ, false, List, refl, sym, ap, ◌∙◌, Option, Some, None, option_map, Bor, ◌*◌}
use Rattle.std.specs.Prelude.{unwrap_or, IfNone, IfSome}
use Rattle.std.specs.Ordering.{nat_cmp}
use Rattle.std.specs.FinMap.{FinMap, get}
use Rattle.oti_blocks.specs.Partition.{IsSound, blocks, symbol_of}
use Rattle.oti_blocks.proofs.Public.{start_last}
use Rattle.held_packets.specs.HeldPair.{IsHeldPair}
use Rattle.held_packets.specs.Whole.{whole, bytes_when_ready}
use Rattle.held_packets.specs.ObjectRows.{AreSourceRows}
use Rattle.object_store.specs.Store.{held_in_block}
use Rattle.object_store.specs.Inner.ObjectHeld.{ObjectHeld, new_object, symbols_in, is_done, AreRowsBelow, IsWholeOf}
use Rattle.object_store.specs.Inner.Objects.{held_of}
use Rattle.held_packets.proofs.Public.{whole_only}
use Rattle.object_store.proofs.HeldView.{get_information, held_here, symbols_are, ready_is_done}

module _ (m : FinMap nat_cmp ObjectHeld) (t : ℕ) where
  pub information_of : (o : ObjectHeld) → get m t ≡ Some o → get (held_of m).objects t ≡ Some o.oti
  information_of o found = get_information m t ∙ ap (option_map (λ (u : ObjectHeld). u.oti)) found

  pub information_of_none : get m t ≡ None → get (held_of m).objects t ≡ None
  information_of_none closed = get_information m t ∙ ap (option_map (λ (u : ObjectHeld). u.oti)) closed

  object_is : (o : ObjectHeld) → get m t ≡ Some o → unwrap_or (get m t) (new_object o.oti) ≡ o
  object_is o found = ap (λ (r : Option ObjectHeld). unwrap_or r (new_object o.oti)) found

  -- the symbols of a block
  pub held_of_object : (o : ObjectHeld) (b : ℕ) → get m t ≡ Some o → symbols_in o b ≡ held_in_block (held_of m) t b (get (held_of m).objects t)
  held_of_object o b found = sym (ap (held_in_block (held_of m) t b) (information_of o found) ∙ symbols_are m t o.oti o (object_is o found) b)

  pub held_of_no_object : (b : ℕ) → get m t ≡ None → 0 ≡ held_in_block (held_of m) t b (get (held_of m).objects t)
  held_of_no_object b closed = sym (ap (held_in_block (held_of m) t b) (information_of_none closed))

  -- an object that isn't ready, or isn't held
  whole_waits : (o : ObjectHeld) → get m t ≡ Some o → is_done o ≡ false → whole (held_of m) t ≡ None
  unfolding whole
  whole_waits o found waits =
      ap (bytes_when_ready (held_of m) t) (information_of o found) ∙ rw (ready_is_done m t o.oti o (object_is o found) ∙ waits) refl

  pub whole_of_none : get m t ≡ None → None ≡ whole (held_of m) t
  unfolding whole
  whole_of_none closed = sym (ap (bytes_when_ready (held_of m) t) (information_of_none closed))

  -- a ready one: its joined rows are source rows of the held pair
  source_rows : (o : ObjectHeld) (rows : List ℕ) → get m t ≡ Some o → IsSound o.oti → AreRowsBelow o (blocks o.oti) rows → AreSourceRows (held_of m) t o.oti rows
  source_rows o rows found sound are = record {
    long = are.long ∙ ap (λ (n : ℕ). n * symbol_of o.oti) (start_last o.oti sound);
    symbols = λ b j row less held. are.symbols b j row less (sym (held_here m t o.oti o (object_is o found) b j) ∙ held);
  }

  whole_ready : (o : ObjectHeld) (bytes : List ℕ) → IsHeldPair (held_of m) → get m t ≡ Some o → IsWholeOf o bytes → whole (held_of m) t ≡ Some bytes
  whole_ready o bytes pair found is =
      whole_only (held_of m) t o.oti is.rows pair (information_of o found) (ready_is_done m t o.oti o (object_is o found) ∙ is.done)
      (source_rows o is.rows found (pair.sound t o.oti (information_of o found)) is.are)
      ∙ ap (λ (xs : List ℕ). Some xs) (sym is.front)

  -- both, by the object's answer
  pub whole_of_object : (o : ObjectHeld) (r : Option (Bor (List ℕ))) → IsHeldPair (held_of m) → get m t ≡ Some o
      → IfNone r (is_done o ≡ false) → IfSome r (λ b. IsWholeOf o b.now) → option_map (λ b. b.now) r ≡ whole (held_of m) t
  whole_of_object o None pair found waits is = sym (whole_waits o found waits)
  whole_of_object o (Some b) pair found waits is = sym (whole_ready o b.now pair found is)
