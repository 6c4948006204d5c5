use Rattle.std.proofs.Common.{sym}
use Rattle.run_send.proofs.command.push_refusal.Goals as goal

pub returns-in-Line : goal.returns-in-Line
returns-in-Line c = rw (c.in-Line.is, sym c.from-line.ensures, sym c.from-cause.ensures) c.push_numbers.ensures

pub returns-in-Absent : goal.returns-in-Absent
returns-in-Absent c = rw (c.in-Absent.is, sym c.as_str.ensures) c.push_name.ensures

pub returns-in-TooBig : goal.returns-in-TooBig
returns-in-TooBig c = rw (c.in-TooBig.is, sym c.as_str-in-TooBig.ensures) c.push_name-in-TooBig.ensures
