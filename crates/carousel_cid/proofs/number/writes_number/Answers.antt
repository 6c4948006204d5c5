use Rattle.std.proofs.Common.{sym}
use Rattle.carousel_cid.proofs.Numbers.{writes_some, writes_none}
use Rattle.carousel_cid.proofs.number.writes_number.Goals as goal

pub returns-in-Some : goal.returns-in-Some
returns-in-Some c = sym (writes_some c.args.text.now c.args.number c.in-Some.found (sym c.in-Some.ensures.number))

pub returns-in-None : goal.returns-in-None
returns-in-None c = sym (writes_none c.args.text.now c.args.number (sym c.in-None.ensures.number))
