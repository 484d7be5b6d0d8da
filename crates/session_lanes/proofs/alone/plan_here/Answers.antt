use Rattle.std.proofs.Common.{arith, ◌≡◌, ◌+◌, [], refl}
use Rattle.session_work.specs.Alone.{with_controls}
use Rattle.session_work.proofs.Reactors.{served_all}
use Rattle.session_lanes.proofs.alone.plan_here.Goals as goal

pub returns-then-len-ge-LATE-clause-reactor : goal.returns-then-len-ge-LATE-clause-reactor
returns-then-len-ge-LATE-clause-reactor g c = let owes = c.loop-n.invariant.reactor in record {
  many = owes.many;
  numbers = owes.numbers;
  puts = owes.puts;
  takes = owes.takes;
  piece = owes.piece;
  next = owes.next;
  behind = λ cps row. served_all g.A.ReactorMachine g.O.Outside c.args.place.now.lanes c.args.k c.args.place.now.first.now.value (with_controls c.loop-n.both.hand cps) (owes.behind cps row);
}

pub returns-clause-reactor : goal.returns-clause-reactor
returns-clause-reactor g c = let owes = c.loop-n.invariant.reactor in record {
  many = owes.many;
  numbers = owes.numbers;
  puts = owes.puts;
  takes = owes.takes;
  piece = owes.piece;
  next = owes.next;
  behind = λ cps row. served_all g.A.ReactorMachine g.O.Outside c.args.place.now.lanes c.args.k c.args.place.now.first.now.value (with_controls c.loop-n.both.hand cps) (owes.behind cps row);
}

pub plan_turn-requires-clause-motion : goal.plan_turn-requires-clause-motion
plan_turn-requires-clause-motion g c = let at = c.loop-n.invariant.motion in (at.0, [], c.loop-n.both.motion.seat, at.1, at.2, refl, at.3)

pub begin_here-requires-clause-limit : goal.begin_here-requires-clause-limit
begin_here-requires-clause-limit g c = c.requires.limit

pub begin_here-requires-clause-motion : goal.begin_here-requires-clause-motion
begin_here-requires-clause-motion g c = c.requires.motion

pub begin_here-requires-clause-late : goal.begin_here-requires-clause-late
begin_here-requires-clause-late g c = c.requires.late

pub begin_here-requires-clause-room : goal.begin_here-requires-clause-room
begin_here-requires-clause-room g c = c.requires.room

pub begin_here-requires-clause-reactor : goal.begin_here-requires-clause-reactor
begin_here-requires-clause-reactor g c = c.requires.reactor

pub loop-n-init : goal.loop-n-init
loop-n-init g c = let b = c.begin_here.ensures in record { motion = b.motion; late = b.late.0; at = refl; count = b.late.1; room = b.room; reactor = b.reactor }

pub plan_turn-requires-clause-late : goal.plan_turn-requires-clause-late
plan_turn-requires-clause-late g c = (c.loop-n.invariant.late, c.loop-n.invariant.count)

pub plan_turn-requires-clause-reactor : goal.plan_turn-requires-clause-reactor
plan_turn-requires-clause-reactor g c = c.loop-n.invariant.reactor

pub loop-n-preserved : goal.loop-n-preserved
loop-n-preserved g c = let p = c.plan_turn.ensures in record { motion = p.motion; late = p.late.0; at = (let a = c.loop-n.invariant.at in let b = p.next in omega arith); count = p.late.1; room = p.room; reactor = p.reactor }

pub returns-then-len-ge-LATE-clause-motion : goal.returns-then-len-ge-LATE-clause-motion
returns-then-len-ge-LATE-clause-motion g c = c.loop-n.invariant.motion

pub returns-then-len-ge-LATE-clause-late : goal.returns-then-len-ge-LATE-clause-late
returns-then-len-ge-LATE-clause-late g c = (c.loop-n.invariant.late, c.loop-n.invariant.count)

pub returns-then-len-ge-LATE-clause-room : goal.returns-then-len-ge-LATE-clause-room
returns-then-len-ge-LATE-clause-room g c = c.loop-n.invariant.room

pub plan_turn-requires-clause-limit : goal.plan_turn-requires-clause-limit
plan_turn-requires-clause-limit g c = let a = c.loop-n.invariant.at in let t = c.loop-n-test.true in omega arith
