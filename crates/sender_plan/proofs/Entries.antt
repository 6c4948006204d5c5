-- What holds of each entry of a catalog holds of the instances that the entries make.
use Rattle.std.proofs.Common.{ℕ, List, [], ◌∷◌, ◌++◌}
use Rattle.std.specs.Prelude.{All}
use Rattle.std.specs.List.{AllByRecursion}
use Rattle.std.proofs.lemmas.List.Elements.{All-from_recursion}
use Rattle.sender_plan.specs.CatalogInstance.{CatalogItem, CatalogInstance}
use Rattle.sender_plan.specs.CatalogLine.{Entry, Begin, Item}
use Rattle.sender_plan.specs.Catalog.{items_before, instances_of}

pub all_both : {X : Type 0} (P : X → Type 0) (xs ys : List X) → AllByRecursion P xs → AllByRecursion P ys → AllByRecursion P (xs ++ ys)
all_both P [] ys first second = second
all_both P (x ∷ xs) ys first second = (first.0, all_both P xs ys first.1 second)

module _ (P : ℕ → Type 0) (Q : CatalogItem → Type 0) where
  -- of the number with which an instance begins, or of a file
  abbrev pub Says : Entry → Type 0
  Says (Begin number) = P number
  Says (Item item) = Q item

  -- of an instance's number, and of each of its files
  abbrev pub HasAll : CatalogInstance → Type 0
  HasAll i = P i.number × All Q i.items

  items_say : (entries : List Entry) → AllByRecursion Says entries → AllByRecursion Q (items_before entries)
  items_say [] are = tt
  items_say (Begin number ∷ entries) are = tt
  items_say (Item item ∷ entries) are = (are.0, items_say entries are.1)

  instances_say : (entries : List Entry) → AllByRecursion Says entries → AllByRecursion HasAll (instances_of entries)
  instances_say [] are = tt
  instances_say (Begin number ∷ entries) are =
      ((are.0, All-from_recursion Q (items_before entries) (items_say entries are.1)), instances_say entries are.1)
  instances_say (Item item ∷ entries) are = instances_say entries are.1

  pub instances_have : (entries : List Entry) → AllByRecursion Says entries → All HasAll (instances_of entries)
  instances_have entries are = All-from_recursion HasAll (instances_of entries) (instances_say entries are)
