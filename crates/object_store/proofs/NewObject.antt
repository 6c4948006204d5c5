-- An object of which nothing is held.
use Rattle.std.proofs.Common.{◌≡◌, ◌<◌, ◌≤◌, ℕ, true, false, List, [], refl, sym, ap, subst, ◌∙◌, arith}
use Rattle.std.specs.Prelude.{nat_le, unwrap_or, is_some}
use Rattle.std.specs.Ordering.{nat_cmp}
use Rattle.std.specs.FinMap.{get-empty}
use Rattle.std.specs.BTreeMap.{BTreeMap}
use Rattle.std.proofs.lemmas.Bool.Decides.{nat_tests}
use Rattle.object_store.specs.Inner.BlockHeld.{BlockHeld}
use Rattle.oti_blocks.specs.Partition.{ObjectInformation, IsSound, blocks, size_at}
use Rattle.oti_blocks.proofs.Public.{size_bounds}
use Rattle.wire_bytes.proofs.Public.{count_none, not_all_below}
use Rattle.object_store.specs.Inner.ObjectHeld.{new_object, unopened, block_at, is_block_done, IsShaped}
use Rattle.object_store.specs.Inner.ObjectParts.{object_seen, IsObject}
use Rattle.object_store.proofs.WithPacket.{none_in, map_none}
use Rattle.object_store.proofs.JoinedBlocks.{seen_open}

closed : (o : ObjectInformation) (b : ℕ) → block_at (new_object o) b ≡ unopened o b
closed o b = ap (λ r. unwrap_or r (unopened o b)) (get-empty nat_cmp b)

nothing_done : (o : ObjectInformation) (b : ℕ) → IsSound o → b < blocks o → is_block_done (new_object o) b ≡ false
nothing_done o b sound less = ap (nat_le (size_at o b)) (none_in (new_object o) b (closed o b)) ∙ not_yet (size_at o b) (size_bounds o sound b less).0
  where
    not_yet : (k : ℕ) → 1 ≤ k → nat_le k 0 ≡ false
    not_yet k some = grind (arith, nat_tests)

pub new_object_holds : (o : ObjectInformation) (waiting : ℕ) (places bytes : List ℕ) (tree : BTreeMap ℕ BlockHeld) → IsSound o
    → 1 ≤ blocks o → waiting ≡ blocks o → places ≡ [] → bytes ≡ [] → IsObject (new_object o) waiting places bytes tree
new_object_holds o waiting places bytes tree sound some all none_placed none_joined =
    let not_done = not_all_below (blocks o) 0 (is_block_done (new_object o)) some (nothing_done o 0 sound some) in record {
      sound = sound;
      shaped = λ b. subst (IsShaped o b) (sym (closed o b)) (record { k = refl; n = refl; size = refl });
      within = λ b e. let none = get-empty nat_cmp b in absurd (let f : true ≡ false = sym e ∙ ap is_some none in cc);
      most = λ b. omega (arith, none_in (new_object o) b (closed o b));
      counted = omega (arith, all, count_none (blocks o) (is_block_done (new_object o)) (λ b less. nothing_done o b sound less));
      none_placed = λ f. none_placed;
      none_joined = λ f. none_joined;
      placed = λ done. absurd (let g : true ≡ false = sym done ∙ not_done in cc);
      joined = λ done. absurd (let g : true ≡ false = sym done ∙ not_done in cc);
      released = λ done. absurd (let g : true ≡ false = sym done ∙ not_done in cc);
    }

pub new_object_seen : (o : ObjectInformation) (tree : BTreeMap ℕ BlockHeld) (waiting : ℕ) (places bytes : List ℕ) → 1 ≤ waiting → tree.entries ≡ []
    → object_seen o tree waiting places bytes ≡ new_object o
new_object_seen o tree waiting places bytes some none = seen_open o tree waiting places bytes (λ e. absurd (omega (arith, e, some)))
    ∙ (λ i. record { oti = o; parts = map_none tree none i })
