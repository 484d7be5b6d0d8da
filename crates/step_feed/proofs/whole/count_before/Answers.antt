use Rattle.std.proofs.Common.{◌+◌, ◌-◌, ◌/◌, ◌<◌, arith}
use Rattle.std.proofs.Math.Nat.{div-add-mod}
use Rattle.step_feed.proofs.Rings.{up-le}
use Rattle.step_feed.proofs.whole.count_before.Goals as goal

pub loop-low-preserved-then-turns-mid : goal.loop-low-preserved-then-turns-mid
loop-low-preserved-then-turns-mid c =
    let was = c.loop-low.invariant in
    let half = div-add-mod (c.loop-low.high - c.loop-low.low) 2 in
    let mid = c.loop-low.low + (c.loop-low.high - c.loop-low.low) / 2 in
    let inside : mid < c.loop-low.high = omega arith in
    let below = c.if-turns-mid.true in
    (omega arith, was.1, (λ j l. let o = up-le c.args.turns.now j mid c.requires (omega arith) (omega arith) in omega arith), was.3)

pub loop-low-preserved : goal.loop-low-preserved
loop-low-preserved c =
    let was = c.loop-low.invariant in
    let half = div-add-mod (c.loop-low.high - c.loop-low.low) 2 in
    let mid = c.loop-low.low + (c.loop-low.high - c.loop-low.low) / 2 in
    let inside : mid < c.loop-low.high = omega arith in
    let above = c.if-turns-mid.false in
    (omega arith, omega arith, was.2, (λ j l m. let o = up-le c.args.turns.now mid j c.requires l m in omega arith))
