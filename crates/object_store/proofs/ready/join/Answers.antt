use Rattle.std.proofs.Common.{◌≡◌, ◌<◌, ◌+◌, ◌++◌, ℕ, List, sym, ap, subst, ◌∙◌, arith, unwrap_or, Vec, Global}
use Rattle.std.specs.Prelude.{vec_capacity}
use Rattle.oti_blocks.specs.Partition.{blocks}
use Rattle.object_store.specs.Inner.BlockHeld.{is_full}
use Rattle.object_store.specs.Inner.ObjectHeld.{block_at, unopened, IsShaped, AreRowsBelow}
use Rattle.object_store.specs.Inner.ObjectParts.{object_of, AreJoinedBelow}
use Rattle.object_store.proofs.WithPacket.{block_in_tree}
use Rattle.object_store.proofs.Joining.{rows_next, room_for_next, full_when_done, open_when_done}
use Rattle.object_store.proofs.JoinedBlocks.{joined_next, room_for_places}
use Rattle.object_store.proofs.ready.join.Goals as goal
use Rattle.object_store.proofs.ready.join.Goals.{in-Some, in-None}

pub solved-requires : goal.solved-requires
solved-requires c =
    let o = object_of c.args.oti.now c.args.parts.now in
    let n = c.loop-sbn.sbn-counter in
    let less : n < blocks o.oti = omega (arith, c.loop-sbn-test.true, c.loop-sbn.invariant.end) in
    let here : block_at o n ≡ c.in-Some.block.now = block_in_tree o.oti c.args.parts.now n ∙ ap (λ r. unwrap_or r (unopened o.oti n)) (sym c.in-Some.ensures.value) in
    sym (ap is_full here) ∙ full_when_done o n c.requires.done less (c.requires.shaped n)

pub append_within-requires : goal.append_within-requires
append_within-requires c =
    let o = object_of c.args.oti.now c.args.parts.now in
    let n = c.loop-sbn.sbn-counter in
    let less : n < blocks o.oti = omega (arith, c.loop-sbn-test.true, c.loop-sbn.invariant.end) in
    let here : block_at o n ≡ c.in-Some.block.now = block_in_tree o.oti c.args.parts.now n ∙ ap (λ r. unwrap_or r (unopened o.oti n)) (sym c.in-Some.ensures.value) in
    let room = room_for_places o n c.in-Some.block.now c.loop-sbn.places.items c.solved.result.0.now c.loop-sbn.bytes.items c.solved.result.1.now
    c.blocks-sbn-end.ensures.sound less c.loop-sbn.invariant.joined (subst (IsShaped o.oti n) here (c.requires.shaped n)) c.solved.ensures in
    omega (arith, room, c.loop-sbn.invariant.room_placed)

pub append_within-requires-in-Some : goal.append_within-requires-in-Some
append_within-requires-in-Some c =
    let o = object_of c.args.oti.now c.args.parts.now in
    let n = c.loop-sbn.sbn-counter in
    let less : n < blocks o.oti = omega (arith, c.loop-sbn-test.true, c.loop-sbn.invariant.end) in
    let here : block_at o n ≡ c.in-Some.block.now = block_in_tree o.oti c.args.parts.now n ∙ ap (λ r. unwrap_or r (unopened o.oti n)) (sym c.in-Some.ensures.value) in
    let room = room_for_next o n c.in-Some.block.now c.loop-sbn.bytes.items c.solved.result.1.now c.blocks-sbn-end.ensures.sound
    less c.loop-sbn.invariant.rows (subst (IsShaped o.oti n) here (c.requires.shaped n)) c.solved.ensures.source in
    omega (arith, room, c.loop-sbn.invariant.room_joined)

pub loop-sbn-preserved : goal.loop-sbn-preserved
loop-sbn-preserved c =
    let o = object_of c.args.oti.now c.args.parts.now in
    let n = c.loop-sbn.sbn-counter in
    let less : n < blocks o.oti = omega (arith, c.loop-sbn-test.true, c.loop-sbn.invariant.end) in
    elim c.match-get.branch [
      | in-Some w ↦
          let here : block_at o n ≡ w.in-Some.block.now = block_in_tree o.oti c.args.parts.now n
          ∙ ap (λ r. unwrap_or r (unopened o.oti n)) (sym w.in-Some.ensures.value) in
          let shaped = subst (IsShaped o.oti n) here (c.requires.shaped n) in
          let placed : c.match-get.places.items ≡ c.loop-sbn.places.items ++ w.solved.result.0.now = ap (λ (v : Vec ℕ Global). v.items) w.places-is
          ∙ w.append_within.ensures.items in
          let joined : c.match-get.bytes.items ≡ c.loop-sbn.bytes.items ++ w.solved.result.1.now =
          ap (λ (v : Vec ℕ Global). v.items) w.bytes-is ∙ w.append_within-in-Some.ensures.items in record {
            end = c.loop-sbn.invariant.end;
            joined = subst (λ (xs : List ℕ). AreJoinedBelow o (n + 1) xs c.match-get.bytes.items) (sym placed)
                (subst (λ (xs : List ℕ). AreJoinedBelow o (n + 1) (c.loop-sbn.places.items ++ w.solved.result.0.now) xs) (sym joined)
                (joined_next o n w.in-Some.block.now c.loop-sbn.places.items w.solved.result.0.now c.loop-sbn.bytes.items w.solved.result.1.now
                c.blocks-sbn-end.ensures.sound less c.loop-sbn.invariant.joined c.loop-sbn.invariant.rows here shaped w.solved.ensures));
            rows = subst (λ (xs : List ℕ). AreRowsBelow o (n + 1) xs) (sym joined)
                (rows_next o n w.in-Some.block.now c.loop-sbn.bytes.items w.solved.result.1.now c.blocks-sbn-end.ensures.sound
                less c.loop-sbn.invariant.rows here shaped w.solved.ensures.source);
            room_placed = omega (arith, c.loop-sbn.invariant.room_placed, w.append_within.ensures.room, ap vec_capacity w.places-is);
            room_joined = omega (arith, c.loop-sbn.invariant.room_joined, w.append_within-in-Some.ensures.room, ap vec_capacity w.bytes-is);
          }
      | in-None w ↦
          let here : block_at o n ≡ unopened o.oti n = block_in_tree o.oti c.args.parts.now n ∙ ap (λ r. unwrap_or r (unopened o.oti n)) (sym w.in-None.ensures.value) in
          absurd (open_when_done o n c.blocks-sbn-end.ensures.sound c.requires.done less here)
    ]

pub returns-clause-joined : goal.returns-clause-joined
returns-clause-joined c =
    let o = object_of c.args.oti.now c.args.parts.now in
    let all : c.loop-sbn.sbn-counter ≡ blocks c.args.oti.now = omega (
      arith,
      c.loop-sbn-test.false,
      c.loop-sbn.invariant.end,
      c.loop-sbn.auto.sbn-counter-end,
      c.blocks-sbn-end.ensures.value,
    ) in
    subst (λ (n : ℕ). AreJoinedBelow o n c.loop-sbn.places.items c.loop-sbn.bytes.items) all c.loop-sbn.invariant.joined
