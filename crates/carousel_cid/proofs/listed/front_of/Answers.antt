use Rattle.std.proofs.Common.{◌+◌, ◌-◌, ◌≡◌, arith, length}
use Rattle.carousel_cid.proofs.Runs.{first_at_end}
use Rattle.carousel_cid.proofs.listed.front_of.Goals as goal

pub returns-in-len1-up : goal.returns-in-len1-up
returns-in-len1-up c =
    let last : length c.args.runs.now - 1 + 1 ≡ length c.args.runs.now = omega (arith, c.in-len1-up.len_at_least) in
    first_at_end c.args.runs.now (length c.args.runs.now - 1) (record { first = 0; last = 0 }) last c.requires
