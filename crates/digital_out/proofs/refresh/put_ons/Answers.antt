use Rattle.std.proofs.Common.{◌≤◌, ◌+◌, [], List, arith, append-nil, subst}
use Rattle.digital_out.specs.declared.want.Want.{Want}
use Rattle.digital_out.specs.Refreshes.{AreOns}
use Rattle.digital_out.proofs.refresh.put_ons.Goals as goal

pub returns : goal.returns
returns c =
    let inv = c.loop-tick.invariant in
    let past = c.loop-tick-test.false in
    let at = inv.tick_is in
    let over : c.args.until ≤ inv.last + c.args.every = omega (arith, past, at) in
    (inv.ons, inv.new_is, subst (λ (ws : List Want). AreOns c.args.every c.args.from c.args.until ws) (append-nil inv.ons) (inv.more [] over))
