use Rattle.run_headline.proofs.LastInstance.{last_is_best, last_is_installed, datagrams_install}
use Rattle.run_headline.proofs.laws.what_is_sent_is_installed.Goals as goal

pub returns-clause-best : goal.returns-clause-best
returns-clause-best c earlier last bodies params s plan = last_is_best bodies earlier last params s plan

pub returns-clause-installed : goal.returns-clause-installed
returns-clause-installed c earlier last bodies params s plan = last_is_installed bodies earlier last params s plan

pub returns-clause-datagrams : goal.returns-clause-datagrams
returns-clause-datagrams c earlier last bodies params s plan = datagrams_install bodies earlier last params s plan
