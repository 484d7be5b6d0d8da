use Rattle.std.proofs.Common.{◌+◌, ◌*◌, ◌<◌, ◌^◌, List, All, arith, sym, subst}
use Rattle.std.proofs.lemmas.List.Elements.{All-drop}
use Rattle.digital_out.specs.declared.want.Want.{Want}
use Rattle.digital_out.specs.Rising.{no_want}
use Rattle.digital_out.proofs.Keeping.{refreshed_all, refreshed_more, rise_behind}
use Rattle.digital_out.proofs.refresh.refreshed.Goals as goal

pub put_behind-requires-clause-small : goal.put_behind-requires-clause-small
put_behind-requires-clause-small c = let P : Want → Type 0 = λ w. w.tick + 2 * c.args.every < 2 ^ 64 in subst P (sym c.nth-want.ensures) (c.requires.small c.loop-i.i no_want c.loop-i-test.true)

pub put_behind-requires-clause-others : goal.put_behind-requires-clause-others
put_behind-requires-clause-others c = let P : Want → Type 0 = λ w. w.tick + 2 * c.args.every < 2 ^ 64 in subst (λ (ws : List Want). All P ws) (sym c.behind.ensures) (All-drop P (c.loop-i.i + 1) c.args.wants.now c.requires.small)

pub put_behind-requires-clause-rise : goal.put_behind-requires-clause-rise
put_behind-requires-clause-rise c = rw (c.nth-want.ensures, c.behind.ensures) (rise_behind 0 c.args.wants.now c.loop-i.i no_want c.loop-i-test.true c.requires.rise)

pub loop-i-preserved : goal.loop-i-preserved
loop-i-preserved c =
    let b = c.in_ok-put_behind.ensures in
    let is = rw (c.nth-want.ensures, c.behind.ensures) at b.2 in
    let first = rw c.nth-want.ensures at c.in_ok-push.ensures.items in
    refreshed_more c.args.every c.args.wants.now c.loop-i.out.items _ _ b.0 c.loop-i.i no_want c.loop-i-test.true c.loop-i.invariant first b.1 is

pub returns : goal.returns
returns c = refreshed_all c.args.every c.args.wants.now c.loop-i.out.items c.loop-i.i (omega (arith, c.loop-i-test.false)) c.loop-i.invariant
