use Rattle.std.proofs.Common.{arith}
use Rattle.sender_plan.proofs.Lengths.{descriptor_length, sound_information}
use Rattle.sender_plan.proofs.Keeping.{descriptor_kept}
use Rattle.sender_plan.proofs.planner.Planner.descriptor.Goals as goal

pub push-requires-clause-sound : goal.push-requires-clause-sound
push-requires-clause-sound c =
    let ready = c.requires.ready in
    let made = c.in_ok-bytes.ensures.bytes in
    let size = descriptor_length c.args.number c.args.listed.now c.ranges.number.fits c.requires.few c.requires.small in
    λ fits. sound_information c.args.self.now.params c.in_ok-bytes.bytes.items ready.symbol_from ready.symbol_to ready.some_block ready.block_within
    fits (rw made size.0) (rw made (omega (arith, size.1)))

pub returns-clause-ok : goal.returns-clause-ok
returns-clause-ok c =
    descriptor_kept c.push.result c.args.self.now c.push.new.self c.args.number c.args.listed.now c.in_ok-bytes.bytes.items c.in_ok-bytes.ensures.bytes
    c.push.ensures.same.0 c.push.ensures.same.1 c.push.ensures.same.2 c.push.ensures.ok
