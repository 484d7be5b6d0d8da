use Rattle.link_work.proofs.due.hear_one.Goals as goal

pub returns-in_ok-step-in-Last-clause-stands : goal.returns-in_ok-step-in-Last-clause-stands
returns-in_ok-step-in-Last-clause-stands c = λ h st. rw c.in-Last.is (c.in_ok-step-in-Last.ensures _ (c.in_ok-hear-in-Last.ensures.stands h st))
