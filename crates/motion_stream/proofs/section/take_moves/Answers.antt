use Rattle.motion_stream.proofs.Taking.{took_more, took_none}
use Rattle.motion_stream.proofs.section.take_moves.Goals as goal

pub loop-init : goal.loop-init
loop-init c = record { taken = took_none c.args.section.now c.args.items.now.items c.requires.open; good = c.requires.good; takes = c.requires.open; few = c.requires.few }

pub returns-then-not-branch : goal.returns-then-not-branch
returns-then-not-branch c = record {
  taken = took_more c.args.section.now c.loop.section c.take_next.new.section c.args.items.now.items c.loop.items.items c.take_next.new.items.items c.loop.invariant.takes c.loop.invariant.taken c.in_ok-take_next.ensures.taken;
  stops = c.in_ok-take_next.ensures.stops c.if-not-branch.true;
}

pub loop-preserved : goal.loop-preserved
loop-preserved c =
    let e = c.in_ok-take_next.ensures in
    record {
      taken = took_more c.args.section.now c.loop.section c.take_next.new.section c.args.items.now.items c.loop.items.items c.take_next.new.items.items c.loop.invariant.takes c.loop.invariant.taken e.taken;
      good = e.good;
      takes = e.open c.if-not-branch.false;
      few = e.few c.if-not-branch.false;
    }
