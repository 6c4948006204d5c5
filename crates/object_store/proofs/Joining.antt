-- The source rows of an object's blocks, one block after another.
use Rattle.std.proofs.Common.{◌≡◌, ℕ, zero, suc, ◌+◌, ◌*◌, ◌<◌, ◌≤◌, true, false, List, ◌∷◌, ◌++◌, length}
use Rattle.std.proofs.Common.{take, drop, refl, sym, ap, subst, ◌∙◌, arith, Some, eqb-true}
use Rattle.std.specs.Prelude.{◌==◌, nat_le}
use Rattle.std.specs.FinMap.{get}
use Rattle.std.proofs.lemmas.List.{take-append-le, drop-append-le, drop_at, length-drop, length-append}
use Rattle.std.proofs.lemmas.Nat.{mul-le}
use Rattle.std.proofs.lemmas.Bool.Decides.{nat_tests}
use Rattle.oti_blocks.specs.Partition.{IsSound, sources, blocks, size_at, start_at, length_of, symbol_of}
use Rattle.oti_blocks.proofs.Public.{size_bounds, start-next, start_last, block_end, ends_before, sources_bounds}
use Rattle.wire_bytes.proofs.Public.{passes_below}
use Rattle.rs_code.specs.SourceRows.{cut, IsSymbolRow}
use Rattle.object_store.specs.Inner.BlockHeld.{BlockHeld, is_full, held_in, IsSource}
use Rattle.object_store.specs.Inner.ObjectHeld.{ObjectHeld, unopened, block_at, object_row, is_block_done, is_done, IsShaped, AreRowsBelow}
use Rattle.object_store.proofs.WithPacket.{held_is_symbols, none_in}

-- rows cut from the front of a longer list
pub cut_front : (k size : ℕ) (xs ys : List ℕ) → k * size ≤ length xs → cut k size (xs ++ ys) ≡ cut k size xs
cut_front zero size xs ys le = refl
cut_front (suc k) size xs ys le =
    let split : suc k * size ≡ size + k * size = omega arith in
    let first : size ≤ length xs = omega (arith, le, split) in
    let rest : k * size ≤ length (drop size xs) = omega (arith, length-drop size xs, le, split) in
    ap (λ (r : List ℕ). r ∷ cut k size (drop size (xs ++ ys))) (take-append-le size xs ys first)
    ∙ ap (λ (r : List ℕ). take size xs ∷ cut k size r) (drop-append-le size xs ys first)
    ∙ ap (λ (rs : List (List ℕ)). take size xs ∷ rs) (cut_front k size (drop size xs) ys rest)

-- one block more
pub rows_next : (o : ObjectHeld) (n : ℕ) (h : BlockHeld) (bytes source : List ℕ) → IsSound o.oti
    → n < blocks o.oti → AreRowsBelow o n bytes → block_at o n ≡ h → IsShaped o.oti n h → IsSource h source
    → AreRowsBelow o (n + 1) (bytes ++ source)
rows_next o n h bytes source sound less are here shaped is =
    let e = symbol_of o.oti in
    let next = start-next o.oti sound n less in
    let width : length source ≡ size_at o.oti n * e = is.long ∙ ap (λ (k : ℕ). k * h.size) shaped.k ∙ ap (λ (s : ℕ). size_at o.oti n * s) shaped.size in
    let split : (start_at o.oti n + size_at o.oti n) * e ≡ start_at o.oti n * e + size_at o.oti n * e = omega arith in record {
      long = length-append bytes source ∙ (let l = are.long in omega (arith, l, width, split, ap (λ (s : ℕ). s * e) next));
      symbols = λ b j row lt found. elim (b == n) as (λ x. (b == n) ≡ x → IsSymbolRow (cut (size_at o.oti b) e (drop (start_at o.oti b * e) (bytes ++ source))) e j row) [
        | true ↦ λ same.
            let at = eqb-true b n same in
            let held : get h.rows j ≡ Some row = ap (λ (g : BlockHeld). get g.rows j) (sym here) ∙ subst (λ (c : ℕ). object_row o c j ≡ Some row) at found in
            subst (λ (c : ℕ). IsSymbolRow (cut (size_at o.oti c) e (drop (start_at o.oti c * e) (bytes ++ source))) e j row) (sym at)
            (subst (λ (xs : List ℕ). IsSymbolRow (cut (size_at o.oti n) e xs) e j row) (sym (drop_at bytes source (start_at o.oti n * e) are.long))
            (subst (λ (s : ℕ). IsSymbolRow (cut (size_at o.oti n) s source) s j row) shaped.size
            (subst (λ (k : ℕ). IsSymbolRow (cut k h.size source) h.size j row) shaped.k (is.symbols j row held))))
        | false ↦ λ other.
            let before : b < n = earlier b n lt other in
            let ends = ends_before o.oti sound n b before (omega arith) in
            let inside = mul-le (start_at o.oti b + size_at o.oti b) e (start_at o.oti n) e ends (omega arith) in
            let parts : (start_at o.oti b + size_at o.oti b) * e ≡ start_at o.oti b * e + size_at o.oti b * e = omega arith in
            let l = are.long in
            let front : start_at o.oti b * e ≤ length bytes = omega (arith, l, inside, parts) in
            let rest : size_at o.oti b * e ≤ length (drop (start_at o.oti b * e) bytes) = omega (arith, l, inside, parts, length-drop (start_at o.oti b * e) bytes) in
            subst (λ (rs : List (List ℕ)). IsSymbolRow rs e j row)
            (sym (ap (cut (size_at o.oti b) e) (drop-append-le (start_at o.oti b * e) bytes source front)
            ∙ cut_front (size_at o.oti b) e (drop (start_at o.oti b * e) bytes) source rest))
            (are.symbols b j row before found)
      ] refl;
    }
  where
    earlier : (b n : ℕ) → b < n + 1 → (b == n) ≡ false → b < n
    earlier b n lt other = grind (arith, nat_tests)

-- the room for one block more
pub room_for_next : (o : ObjectHeld) (n : ℕ) (h : BlockHeld) (bytes source : List ℕ)
    → IsSound o.oti → n < blocks o.oti → AreRowsBelow o n bytes → IsShaped o.oti n h → IsSource h source
    → length bytes + length source ≤ sources o.oti * symbol_of o.oti
room_for_next o n h bytes source sound less are shaped is =
    let e = symbol_of o.oti in
    let width : length source ≡ size_at o.oti n * e = is.long ∙ ap (λ (k : ℕ). k * h.size) shaped.k ∙ ap (λ (s : ℕ). size_at o.oti n * s) shaped.size in
    let inside = mul-le (start_at o.oti n + size_at o.oti n) e (sources o.oti) e (block_end o.oti sound n less) (omega arith) in
    let parts : (start_at o.oti n + size_at o.oti n) * e ≡ start_at o.oti n * e + size_at o.oti n * e = omega arith in
    omega (arith, are.long, width, inside, parts)

-- a block of a done object has k symbols
pub full_when_done : (o : ObjectHeld) (b : ℕ) → is_done o ≡ true → b < blocks o.oti → IsShaped o.oti b (block_at o b) → is_full (block_at o b) ≡ true
full_when_done o b done less shaped =
    ap (λ (k : ℕ). nat_le k (held_in (block_at o b))) shaped.k ∙ ap (nat_le (size_at o.oti b))
    (held_is_symbols o b shaped) ∙ passes_below (blocks o.oti) b (is_block_done o) done less

-- and is open
pub open_when_done : (o : ObjectHeld) (b : ℕ) → IsSound o.oti → is_done o ≡ true → b < blocks o.oti → block_at o b ≡ unopened o.oti b → ⊥
open_when_done o b sound done less closed =
    let none = none_in o b closed in
    let done_b = passes_below (blocks o.oti) b (is_block_done o) done less in
    let some = (size_bounds o.oti sound b less).0 in
    let f : nat_le (size_at o.oti b) 0 ≡ true = ap (nat_le (size_at o.oti b)) (sym none) ∙ done_b in
    no_fewer (size_at o.oti b) some f
  where
    no_fewer : (k : ℕ) → 1 ≤ k → nat_le k 0 ≡ true → ⊥
    no_fewer k some f = grind (arith, nat_tests)

-- the object's length is within its rows
pub rows_cover : (o : ObjectHeld) (bytes : List ℕ) → IsSound o.oti → AreRowsBelow o (blocks o.oti) bytes → length_of o.oti ≤ length bytes
rows_cover o bytes sound are = omega (arith, are.long, ap (λ (s : ℕ). s * symbol_of o.oti) (start_last o.oti sound), (sources_bounds o.oti sound).0)
