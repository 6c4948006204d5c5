use Rattle.std.proofs.Common.{◌≡◌, ◌+◌, ◌-◌, length, vec_len, arith}
use Rattle.sender_plan.specs.Inner.Lines.{item_of}
use Rattle.sender_plan.proofs.Continued.{set_last}
use Rattle.sender_plan.proofs.reading.add_file.Goals as goal

pub returns-in_ok-push-clause-ok : goal.returns-in_ok-push-clause-ok
returns-in_ok-push-clause-ok c =
    let old = c.args.instances.now in
    let ends : vec_len old - 1 + 1 ≡ length old.items = omega arith in
    set_last old.items (vec_len old - 1) c.in-Some.last.now c.push.new.self (item_of c.args.file) ends c.in-Some.ensures.value
    (rw c.in_ok-item.ensures at c.in_ok-push.ensures.ok)
