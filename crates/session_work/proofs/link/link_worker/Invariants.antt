use Rattle.session_work.specs.Links.{IsLinkAt}
use Rattle.session_work.proofs.link.link_worker.Given as goal

abbrev pub invariant-loop-k : goal.invariant-loop-k
invariant-loop-k g l = IsLinkAt g.L.LinkMachine.turns l.k l.lanes l.at l.start.value l.link
