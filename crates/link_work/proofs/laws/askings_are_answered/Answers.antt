use Rattle.link_work.proofs.Answered.{asked_idle, asked_in_four}
use Rattle.link_work.proofs.laws.askings_are_answered.Goals as goal

pub returns-clause-four : goal.returns-clause-four
returns-clause-four c = asked_in_four

pub returns-clause-idle : goal.returns-clause-idle
returns-clause-idle c = asked_idle
