-- The instances so far, and the entries behind them.
use Rattle.std.proofs.Common.{◌≡◌, ℕ, zero, suc, false, ◌+◌, ◌≤◌, List, [], ◌∷◌, ◌++◌, Some}
use Rattle.std.proofs.Common.{Result, Ok, Err, length, slice_set, slice_index_or, refl, ap, ◌∙◌, append_assoc, append-nil, arith}
use Rattle.std.specs.Prelude.{OnOk}
use Rattle.sender_plan.specs.CatalogInstance.{CatalogItem, CatalogInstance}
use Rattle.sender_plan.specs.CatalogLine.{Entry, Begin, Item, fields_of, entry_in}
use Rattle.sender_plan.specs.Catalog.{is_passed_over, said}
use Rattle.sender_plan.specs.Inner.Lines.{continued, with_item}

pub continued_end : (instances : List CatalogInstance) → continued instances [] ≡ instances
continued_end [] = refl
continued_end (last ∷ []) = rw append-nil refl
continued_end (first ∷ second ∷ more) = ap (λ rest. first ∷ rest) (continued_end (second ∷ more))

continued_begin : (instances : List CatalogInstance) (number : ℕ) (entries : List Entry)
    → continued (instances ++ record { number = number; items = [] } ∷ []) entries ≡ continued instances (Begin number ∷ entries)
continued_begin [] number entries = refl
continued_begin (last ∷ []) number entries = rw append-nil refl
continued_begin (first ∷ second ∷ more) number entries = ap (λ rest. first ∷ rest) (continued_begin (second ∷ more) number entries)

with_item_some : (instances : List CatalogInstance) (item : CatalogItem) → length (with_item instances item) ≡ length instances
with_item_some [] item = refl
with_item_some (last ∷ []) item = refl
with_item_some (first ∷ second ∷ more) item = omega (arith, with_item_some (second ∷ more) item)

continued_cons : (first : CatalogInstance) (more : List CatalogInstance) (entries : List Entry) → 1 ≤ length more
    → continued (first ∷ more) entries ≡ first ∷ continued more entries
continued_cons first [] entries some = absurd (omega arith)
continued_cons first (second ∷ more) entries some = refl

continued_item : (instances : List CatalogInstance) (item : CatalogItem) (entries : List Entry) → 1 ≤ length instances
    → continued (with_item instances item) entries ≡ continued instances (Item item ∷ entries)
continued_item [] item entries some = absurd (omega arith)
continued_item (last ∷ []) item entries some = rw append_assoc refl
continued_item (first ∷ second ∷ more) item entries some =
    continued_cons first (with_item (second ∷ more) item) entries (omega (arith, with_item_some (second ∷ more) item))
    ∙ ap (λ rest. first ∷ rest) (continued_item (second ∷ more) item entries (omega arith))

-- ---- what a line adds

pub added_begin : {V : Type 0} (old new : List CatalogInstance) (line : List ℕ) (number : ℕ) (r : Result (Unit {0}) V) → is_passed_over line ≡ false
    → entry_in (fields_of line) ≡ Some (Begin number) → OnOk r (new ≡ old ++ record { number = number; items = [] } ∷ [])
    → OnOk r ((entries : List Entry) → continued new entries ≡ continued old (said line ++ entries))
added_begin old new line number (Ok v) passed says is = λ entries. rw (passed, says, is) (continued_begin old number entries)
added_begin old new line number (Err e) passed says is = tt

pub added_item : {V : Type 0} (old new : List CatalogInstance) (line : List ℕ) (item : CatalogItem) (r : Result (Unit {0}) V) → is_passed_over line ≡ false
    → entry_in (fields_of line) ≡ Some (Item item) → 1 ≤ length old → OnOk r (new ≡ with_item old item)
    → OnOk r ((entries : List Entry) → continued new entries ≡ continued old (said line ++ entries))
added_item old new line item (Ok v) passed says some is = λ entries. rw (passed, says, is) (continued_item old item entries some)
added_item old new line item (Err e) passed says some is = tt

-- ---- a file more in the last instance

pub set_last : (instances : List CatalogInstance) (i : ℕ) (last next : CatalogInstance) (item : CatalogItem) → i + 1 ≡ length instances
    → last ≡ slice_index_or instances i last → next ≡ record { number = last.number; items = last.items ++ item ∷ [] }
    → slice_set instances i next ≡ with_item instances item
set_last [] i last next item ends is made = absurd (omega arith)
set_last (one ∷ []) zero last next item ends is made = let same : last ≡ one = is in rw (made, same) refl
set_last (one ∷ []) (suc i) last next item ends is made = absurd (omega arith)
set_last (first ∷ second ∷ more) zero last next item ends is made = absurd (omega arith)
set_last (first ∷ second ∷ more) (suc i) last next item ends is made = ap (λ rest. first ∷ rest) (set_last (second ∷ more) i last next item (omega arith) is made)
