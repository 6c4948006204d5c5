-- What the verdict New says.
use Rattle.std.proofs.Common.{◌≡◌, ℕ, ◌+◌, ◌<◌, ◌≤◌, Bool, true, false, ◌&&◌, List, ◌∙◌, refl, sym, ap, subst, arith, Option, Some, None, eqb-true}
use Rattle.std.specs.Prelude.{if◌then◌else◌, nat_le, nat_lt, ◌==◌}
use Rattle.std.specs.Str.{bytes_eq}
use Rattle.std.specs.FinMap.{get}
use Rattle.std.proofs.lemmas.Bool.{and_parts}
use Rattle.std.proofs.lemmas.Bool.Decides.{nat_tests}
use Rattle.oti_blocks.specs.Partition.{ObjectInformation, size_at, length_of, symbol_of, max_block_of, max_n_of}
use Rattle.alc_packet.specs.Packet.{SymbolPacket, full}
use Rattle.held_packets.specs.declared.kept.Kept.{Kept}
use Rattle.held_packets.specs.declared.kept.Kept.TheVariants.{Repeat, Spare, OtiDiffers, SymbolDiffers, OverBudget}
use Rattle.held_packets.specs.Held.{Held, place_of, row_at, symbols_held, same_information, first_difference, joined}
use Rattle.held_packets.specs.Count.{byte_count, charge}
use Rattle.held_packets.specs.Ready.{is_block_ready}
use Rattle.held_packets.specs.Verdict.{verdict, verdict_on_object, verdict_on_row, is_new, new_in}

-- what holds where the verdict is New
pub record IsNew (budget : ℕ) (held : Held) (p : SymbolPacket) : Type 0 where
  pub agrees : (o : ObjectInformation) → get held.objects p.toi ≡ Some o → o ≡ p.oti
  pub vacant : row_at held (place_of p) ≡ None
  pub wanting : symbols_held held p.toi p.oti p.sbn < size_at p.oti p.sbn
  pub room : byte_count held + charge held p ≤ budget
  pub verdict : verdict budget held p ≡ new_in (joined held p) p

-- equal parts make equal information
pub same_is_equal : (o u : ObjectInformation) → same_information o u ≡ true → o ≡ u
same_is_equal o u h =
    let first = and_parts ((length_of o == length_of u) && (symbol_of o == symbol_of u) && (max_block_of o == max_block_of u)) (max_n_of o == max_n_of u) h in
    let second = and_parts ((length_of o == length_of u) && (symbol_of o == symbol_of u)) (max_block_of o == max_block_of u) first.0 in
    let third = and_parts (length_of o == length_of u) (symbol_of o == symbol_of u) second.0 in
    let a = eqb-true (length_of o) (length_of u) third.0 in
    let b = eqb-true (symbol_of o) (symbol_of u) third.1 in
    let c = eqb-true (max_block_of o) (max_block_of u) second.1 in
    let d = eqb-true (max_n_of o) (max_n_of u) first.1 in
    λ i. record { length = a i; symbol = b i; max_block = c i; max_n = d i }

-- what isn't at most m is above it
pub not_le : (n m : ℕ) → nat_le n m ≡ false → m < n
not_le n m h = grind (arith, nat_tests)

-- what isn't below m is at least m
pub not_lt : (n m : ℕ) → nat_lt n m ≡ false → m ≤ n
not_lt n m h = grind (arith, nat_tests)

-- a held place never gives New
on_row : (b : Bool) (d : ℕ) → is_new (if b then Repeat else SymbolDiffers d) ≡ true → ⊥
on_row true d e = cc
on_row false d e = cc

-- New says that the symbol is neither spare nor over the budget
on_fresh : (spare over : Bool) (n m : ℕ) (k : Kept) → is_new (if spare then Spare else if over then OverBudget n m else k) ≡ true → (spare ≡ false) × (over ≡ false)
on_fresh true over n m k e = cc
on_fresh false true n m k e = cc
on_fresh false false n m k e = (refl, refl)

-- a place with the verdict New isn't held
vacant_from_new : (budget : ℕ) (held : Held) (p : SymbolPacket) (r : Option (List ℕ)) → is_new (verdict_on_row budget held p r) ≡ true → r ≡ None
vacant_from_new budget held p None e = refl
vacant_from_new budget held p (Some row) e = absurd (on_row (bytes_eq row (full p)) (first_difference row (full p)) e)

-- New is the verdict on the row, and the object isn't held under other information
pub record IsOnRow (budget : ℕ) (held : Held) (p : SymbolPacket) (o : Option ObjectInformation) : Type 0 where
  pub row : verdict_on_object budget held p o ≡ verdict_on_row budget held p (row_at held (place_of p))
  pub agrees : (u : ObjectInformation) → o ≡ Some u → u ≡ p.oti

new_on_row : (budget : ℕ) (held : Held) (p : SymbolPacket) (o : Option ObjectInformation) → is_new (verdict_on_object budget held p o) ≡ true → IsOnRow budget held p o
new_on_row budget held p None e = record { row = refl; agrees = λ u f. absurd (let both : None ≡ Some u = f in cc) }
new_on_row budget held p (Some o) e = elim (same_information o p.oti) as (λ b. same_information o p.oti ≡ b
    → is_new (if b then verdict_on_row budget held p (row_at held (place_of p)) else OtiDiffers o) ≡ true → IsOnRow budget held p (Some o)) [
      | true ↦ λ same f. record { row = rw same refl; agrees = λ u g. subst (λ v. v ≡ p.oti) (let one : o ≡ u = cc in one) (same_is_equal o p.oti same) }
      | false ↦ λ other f. cc
    ] refl e

-- what the verdict New says of a packet
pub new_says : (budget : ℕ) (held : Held) (p : SymbolPacket) → is_new (verdict budget held p) ≡ true → IsNew budget held p
new_says budget held p e =
    let on = new_on_row budget held p (get held.objects p.toi) e in
    let vacant = vacant_from_new budget held p (row_at held (place_of p)) (ap is_new (sym on.row) ∙ e) in
    let fresh = on.row ∙ ap (verdict_on_row budget held p) vacant in
    let tests = on_fresh (is_block_ready held p.toi p.oti p.sbn) (nat_lt budget (byte_count held + charge held p))
    (byte_count held) (charge held p) (new_in (joined held p) p) (ap is_new (sym fresh) ∙ e) in
    record {
      agrees = on.agrees;
      vacant = vacant;
      wanting = not_le (size_at p.oti p.sbn) (symbols_held held p.toi p.oti p.sbn) tests.0;
      room = not_lt budget (byte_count held + charge held p) tests.1;
      verdict = fresh ∙ rw (tests.0, tests.1) refl;
    }
