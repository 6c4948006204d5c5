-- The law is a lemma.
use Rattle.sender_schedule.proofs.Belonging.{each_belongs}
use Rattle.sender_schedule.proofs.laws.each_belongs.Goals as goal

pub returns : goal.returns
returns w s is = each_belongs s is
