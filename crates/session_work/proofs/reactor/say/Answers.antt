use Rattle.std.proofs.Common.{◌≡◌, arith, subst}
use Rattle.session_work.specs.Rows.{CanPut}
use Rattle.session_work.proofs.reactor.say.Goals as goal

pub put_each-requires-clause-passes : goal.put_each-requires-clause-passes
put_each-requires-clause-passes g c = let a = c.requires.ahead in let b = c.if-next-k.true in let e : c.args.next.now ≡ c.args.k = omega (arith, a, b) in
    subst (λ i. CanPut i c.args.lanes.now.controls.now c.args.control_passes.now.items) e c.requires.controls
