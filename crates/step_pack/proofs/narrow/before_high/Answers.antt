use Rattle.std.proofs.Common.{◌+◌, ◌-◌, ◌*◌, ◌<◌, arith}
use Rattle.plan_types.specs.Packing.{window_at}
use Rattle.step_pack.proofs.Holding.{high_same, high_more, high_stops_own, high_stops_great, high_far}
use Rattle.step_pack.proofs.narrow.before_high.Goals as goal

pub returns-then-at-bounds-clause-kept : goal.returns-then-at-bounds-clause-kept
returns-then-at-bounds-clause-kept c =
    let t = c.triangle-times.result in
    let high = (window_at c.args.windows.now c.args.place).high - c.args.behind + 1024 * t in
    high_same c.args.behind c.args.windows.now c.args.place c.args.bend t high c.args.bounds c.triangle-times.ensures.value (omega arith) c.if-at-bounds.true c.requires.bounds

pub returns-then-bounds-greatest-clause-kept : goal.returns-then-bounds-greatest-clause-kept
returns-then-bounds-greatest-clause-kept c =
    let t = c.triangle-times.result in
    let high = (window_at c.args.windows.now c.args.place).high - c.args.behind + 1024 * t in
    high_more c.args.behind c.args.windows.now c.args.place c.args.bend t high (high - c.args.bend * t) c.args.bounds c.triangle-times.ensures.value (omega arith) (omega arith)
    c.if-at-bounds.false c.if-bounds-greatest.true c.requires.bounds

pub returns-then-most-wanted-clause-stopped : goal.returns-then-most-wanted-clause-stopped
returns-then-most-wanted-clause-stopped c =
    let t = c.triangle-times.result in
    let high = (window_at c.args.windows.now c.args.place).high - c.args.behind + 1024 * t in
    let strict : (high - c.args.bend * t) * (c.args.bounds.low_place + 1) < c.args.bounds.low_at * (c.args.place + 1) = rw (c.from.ensures, c.from-2.ensures, c.from-3.ensures, c.from-4.ensures) at c.if-most-wanted.true in
    let far = rw (c.from.ensures, c.from-2.ensures, c.from-3.ensures, c.from-4.ensures) at c.also_ruled-less.ensures in
    high_stops_great c.args.behind c.args.windows.now c.args.place c.args.bend t high (high - c.args.bend * t) c.also_ruled-less.result c.args.bounds c.triangle-times.ensures.value (omega arith) (omega arith)
    strict far c.requires.bounds

pub returns-else-most-wanted-clause-stopped : goal.returns-else-most-wanted-clause-stopped
returns-else-most-wanted-clause-stopped c =
    let t = c.triangle-times.result in
    let high = (window_at c.args.windows.now c.args.place).high - c.args.behind + 1024 * t in
    high_stops_own c.args.behind c.args.windows.now c.args.place c.args.bend t high (high - c.args.bend * t) c.args.bounds c.triangle-times.ensures.value (omega arith) (omega arith)
    c.if-bounds-greatest.false c.requires.bounds

pub returns-then-room-clause-kept : goal.returns-then-room-clause-kept
returns-then-room-clause-kept c =
    high_far c.args.behind c.args.windows.now c.args.place c.args.bend c.triangle-times.result c.args.bounds c.triangle-times.ensures.value c.triangle-times.ensures.small
    c.requires.place_small c.requires.bend_small (omega arith) c.requires.bounds
