use Rattle.std.proofs.Common.{◌≡◌, ◌+◌, ◌-◌, arith}
use Rattle.session_work.proofs.reactor.lead.Goals as goal

pub returns-clause-led : goal.returns-clause-led
returns-clause-led g c = let more = c.if-from-to.false in (c.args.to - c.args.next.now, omega (arith, more), (c.put_each_ahead.ensures, c.put_ahead.ensures))
