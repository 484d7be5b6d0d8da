use Rattle.session_work.specs.Reactors.{IsServing}
use Rattle.session_work.proofs.reactor.serve.Given as goal

abbrev pub invariant-loop : goal.invariant-loop
invariant-loop g l =
    (goal.iterator-loop g).can_next l.iterator' × (goal.iterator-loop g).is_finite l.iterator'
    × IsServing g.A.ReactorMachine g.O.Outside l.lanes l.k l.start.value l.hand
