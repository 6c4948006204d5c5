-- By counting, and as the session says.
use Rattle.sender_schedule.proofs.Once.{once, only}
use Rattle.sender_schedule.proofs.laws.each_once.Goals as goal

pub returns-clause-once : goal.returns-clause-once
returns-clause-once w o sound p is = once o sound p is

pub returns-clause-only : goal.returns-clause-only
returns-clause-only w o = only o

pub returns-clause-different : goal.returns-clause-different
returns-clause-different w s is k d less = (is.instances k d less).different
