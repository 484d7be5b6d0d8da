use Rattle.session_work.specs.Reactors.{IsReactorAt}
use Rattle.session_work.proofs.reactor.reactor_worker.Given as goal

abbrev pub invariant-loop-k : goal.invariant-loop-k
invariant-loop-k g l = IsReactorAt g.A.ReactorMachine g.O.Outside l.lanes l.k l.start.value l.hand
