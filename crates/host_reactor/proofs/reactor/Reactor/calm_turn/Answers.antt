use Rattle.std.proofs.Common.{◌+◌, ◌≤◌, sym, subst}
use Rattle.host_reactor.specs.Free.{free_turns, IsAtRest}
use Rattle.host_reactor.specs.Reactor.{Run}
use Rattle.host_reactor.proofs.Freed.{freed}
use Rattle.host_reactor.proofs.reactor.Reactor.calm_turn.Goals as goal

pub returns-clause-rest : goal.returns-clause-rest
returns-clause-rest c n h =
    let x = c.self.inside in
    subst (λ (s : Run). IsAtRest s.machine s.known c.args.k (n + 1)) c.self.view_is
    (freed x.setting.machine.now x.known c.args.k n c.self.invariant.1.starts (subst (λ (s : Run). n + 1 ≤ free_turns s.machine s.known c.args.k) (sym c.self.view_is) h))
