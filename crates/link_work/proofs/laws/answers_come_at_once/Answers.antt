use Rattle.link_work.proofs.Answered.{calm_is, heard_in_turn, uptime_heard}
use Rattle.link_work.proofs.laws.answers_come_at_once.Goals as goal

pub returns-clause-heard : goal.returns-clause-heard
returns-clause-heard c = heard_in_turn

pub returns-clause-uptime : goal.returns-clause-uptime
returns-clause-uptime c = uptime_heard

pub returns-clause-calm : goal.returns-clause-calm
returns-clause-calm c = calm_is
