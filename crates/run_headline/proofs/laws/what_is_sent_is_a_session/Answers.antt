use Rattle.run_headline.proofs.SentSession.{session_is, all_of_session}
use Rattle.run_headline.proofs.laws.what_is_sent_is_a_session.Goals as goal

pub returns-clause-session : goal.returns-clause-session
returns-clause-session c = session_is

pub returns-clause-datagrams : goal.returns-clause-datagrams
returns-clause-datagrams c s session = all_of_session s session
