use Rattle.host_reactor.proofs.Blames.{blames}
use Rattle.host_reactor.proofs.laws.ends_as_told.Goals as goal

pub returns-clause-ends : goal.returns-clause-ends
returns-clause-ends c = λ m switches r k states note. (blames m switches r k states note).ends

pub returns-clause-goes : goal.returns-clause-goes
returns-clause-goes c = λ m switches r k states note. (blames m switches r k states note).goes

pub returns-clause-stays : goal.returns-clause-stays
returns-clause-stays c = λ m switches r k states note. (blames m switches r k states note).stays
