use Rattle.std.proofs.Common.{◌≡◌, ◌++◌, length}
use Rattle.host_reactor.specs.Calm.{calm_controls}
use Rattle.host_reactor.proofs.calm.calm_controls.Given as goal

abbrev pub invariant-loop-rest : goal.invariant-loop-rest
invariant-loop-rest l = l.out.items ++ calm_controls l.k l.lines l.rest ≡ calm_controls l.k l.fn.clocks l.fn.askings

abbrev pub decreases-loop-rest : goal.decreases-loop-rest
decreases-loop-rest l = length l.rest
