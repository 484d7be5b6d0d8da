use Rattle.host_reactor.proofs.Rowing.{rowed, whole-first}
use Rattle.host_reactor.proofs.laws.orders_stand_in_rows.Goals as goal

pub returns-clause-first : goal.returns-clause-first
returns-clause-first c = whole-first

pub returns-clause-row : goal.returns-clause-row
returns-clause-row c = λ m switches r k states note w. (rowed m switches r k states note w).row

pub returns-clause-whole : goal.returns-clause-whole
returns-clause-whole c = λ m switches r k states note w. (rowed m switches r k states note w).whole
