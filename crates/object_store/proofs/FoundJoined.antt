-- What a packet meets in an object that is ready.
use Rattle.std.proofs.Common.{◌≡◌, ℕ, ◌+◌, ◌*◌, ◌<◌, ◌≤◌, List, length, take, drop, refl, sym, ap, subst, ◌∙◌, arith, Option, Some, None, option_map, true}
use Rattle.std.specs.Prelude.{◌==◌, if◌then◌else◌}
use Rattle.std.specs.List.{position_from, zip}
use Rattle.std.specs.FinMap.{get}
use Rattle.std.proofs.lemmas.List.{length-drop, length-take, take-append-drop}
use Rattle.std.proofs.lemmas.Nat.{mul-le}
use Rattle.oti_blocks.specs.Partition.{ObjectInformation, IsSound, sources, blocks, size_at, start_at, encoding_at, symbol_of}
use Rattle.oti_blocks.proofs.Public.{block_end}
use Rattle.alc_packet.specs.Packet.{SymbolPacket, IsPacket, full}
use Rattle.wire_bytes.specs.Bytes.{zero_filled}
use Rattle.wire_bytes.proofs.Public.{passes_below}
use Rattle.rs_code.specs.SourceRows.{cut}
use Rattle.rs_solve.specs.Solution.{row_at}
use Rattle.object_store.specs.declared.finding.Finding.TheVariants.{Full, Wanting}
use Rattle.object_store.specs.Inner.BlockHeld.{BlockHeld, finding_in, finding_on, finding_of}
use Rattle.object_store.specs.Inner.BlockRows.{symbol_row, symbols_at, rows_held}
use Rattle.object_store.specs.Inner.ObjectHeld.{object_row, symbols_in, is_block_done, is_done, finding_at, IsShaped}
use Rattle.object_store.specs.Inner.ObjectParts.{places_of, rows_from, joined_block, ready_object}
use Rattle.object_store.proofs.Blocks.{row_at_position}
use Rattle.object_store.proofs.Additions.{seen_as}
use Rattle.object_store.proofs.SymbolRows.{symbols_by_cut, held_when_full}
use Rattle.object_store.proofs.Differences.{differ, found_solved}
use Rattle.object_store.proofs.WithPacket.{found_in_object, symbol_within}
use Rattle.object_store.proofs.Joining.{cut_front}
use Rattle.object_store.proofs.JoinedBlocks.{ready_block}

-- what a block has ends within what all have
pub part_ends : (o : ObjectInformation) (b width n : ℕ) → IsSound o → b < blocks o → n ≡ sources o * width → start_at o b * width + size_at o b * width ≤ n
part_ends o b width n sound less all =
    let inside = mul-le (start_at o b + size_at o b) width (sources o) width (block_end o sound b less) (omega arith) in
    let parts : (start_at o b + size_at o b) * width ≡ start_at o b * width + size_at o b * width = omega arith in
    omega (arith, inside, parts, all)

-- a joined block by its places and its own rows alone
joined_is_seen : (o : ObjectInformation) (places bytes source : List ℕ) (b : ℕ) → length (places_of o places b) ≡ size_at o b
    → size_at o b * symbol_of o ≤ length (rows_from o bytes b) → source ≡ take (size_at o b * symbol_of o) (rows_from o bytes b)
    → seen_as (size_at o b) (encoding_at o b) (symbol_of o) (places_of o places b) (rows_held (size_at o b) (symbol_of o) (places_of o places b) source)
    ≡ joined_block o places bytes b
unfolding joined_block
joined_is_seen o places bytes source b many long is =
    let k = size_at o b in
    let e = symbol_of o in
    let xs = rows_from o bytes b in
    let same : cut k e source ≡ cut k e xs = ap (cut k e) is ∙ sym (cut_front k e (take (k * e) xs) (drop (k * e) xs) (omega (arith, length-take (k * e) xs, long)))
    ∙ ap (cut k e) (take-append-drop (k * e) xs) in
    ap (seen_as k (encoding_at o b) e (places_of o places b))
    (held_when_full k e (places_of o places b) source many ∙ symbols_by_cut k e source xs (places_of o places b) same)

joined_shaped : (o : ObjectInformation) (places bytes : List ℕ) (b : ℕ) → IsShaped o b (joined_block o places bytes b)
unfolding joined_block
joined_shaped o places bytes b = record { k = refl; n = refl; size = refl }

joined_row : (o : ObjectInformation) (places bytes : List ℕ) (b j : ℕ) → None ≡ position_from (λ q. q == j) 0 (places_of o places b)
    → get (joined_block o places bytes b).rows j ≡ None
unfolding joined_block
joined_row o places bytes b j none =
    row_at_position (symbol_of o) j (places_of o places b) (symbols_at (size_at o b) (symbol_of o) (rows_from o bytes b) (places_of o places b))
    ∙ ap (option_map (row_at (symbol_of o) (symbols_at (size_at o b) (symbol_of o) (rows_from o bytes b) (places_of o places b)))) (sym none)

pub found_joined : (p : SymbolPacket) (places bytes source : List ℕ) (at : ℕ) (d : Option ℕ) → IsPacket p → length places ≡ sources p.oti
    → length bytes ≡ sources p.oti * symbol_of p.oti → source ≡ take (size_at p.oti p.sbn * symbol_of p.oti) (rows_from p.oti bytes p.sbn)
    → Some at ≡ position_from (λ q. q == p.esi) 0 (places_of p.oti places p.sbn)
    → d ≡ position_from differ 0 (zip (symbol_row (size_at p.oti p.sbn) (symbol_of p.oti) source p.esi) (zero_filled (symbol_of p.oti) p.symbol))
    → finding_of d ≡ finding_at (ready_object p.oti places bytes) p
found_joined p places bytes source at d is placed joined source_is found d_is =
    let o = p.oti in
    let b = p.sbn in
    let ends = part_ends o b (symbol_of o) (length bytes) is.sound is.block joined in
    let many : length (places_of o places b) ≡ size_at o b = omega (
      arith,
      length-take (size_at o b) (drop (start_at o b) places),
      length-drop (start_at o b) places,
      placed,
      block_end o is.sound b is.block,
    ) in
    let here = ready_block o places bytes b is.block in
    found_solved (size_at o b) (encoding_at o b) (symbol_of o) p.esi at p.symbol (places_of o places b) source d many found (symbol_within p is) d_is
    ∙ ap (λ (h : BlockHeld). finding_in h p.esi p.symbol)
    (joined_is_seen o places bytes source b many (omega (arith, length-drop (start_at o b * symbol_of o) bytes, ends)) source_is ∙ sym here)
    ∙ found_in_object (ready_object o places bytes) p refl (subst (IsShaped o b) (sym here) (joined_shaped o places bytes b))

pub not_joined : (p : SymbolPacket) (places bytes : List ℕ) → IsPacket p → is_done (ready_object p.oti places bytes) ≡ true
    → None ≡ position_from (λ q. q == p.esi) 0 (places_of p.oti places p.sbn) → Full ≡ finding_at (ready_object p.oti places bytes) p
not_joined p places bytes is done none =
    let u = ready_object p.oti places bytes in
    let row : object_row u p.sbn p.esi ≡ None = ap (λ (h : BlockHeld). get h.rows p.esi) (ready_block p.oti places bytes p.sbn is.block)
    ∙ joined_row p.oti places bytes p.sbn p.esi none in
    sym (ap (finding_on (size_at p.oti p.sbn) (symbols_in u p.sbn) (full p)) row
    ∙ ap (λ x. if x then Full else Wanting (symbols_in u p.sbn)) (passes_below (blocks p.oti) p.sbn (is_block_done u) done is.block))
