use Rattle.step_pack.proofs.Fitting.{as_many, rising, ending, fitting}
use Rattle.step_pack.proofs.ticks_fit.Goals as goal

pub returns-clause-count : goal.returns-clause-count
returns-clause-count c = as_many

pub returns-clause-rise : goal.returns-clause-rise
returns-clause-rise c = rising

pub returns-clause-last : goal.returns-clause-last
returns-clause-last c = ending

pub returns-clause-fits : goal.returns-clause-fits
returns-clause-fits c = fitting
