use Rattle.std.proofs.Common.{◌+◌, ◌-◌, ◌*◌, ◌<◌, arith}
use Rattle.plan_types.specs.Packing.{window_at}
use Rattle.step_pack.proofs.Holding.{low_same, low_more, low_stops_own, low_stops_small}
use Rattle.step_pack.proofs.narrow.after_low.Goals as goal

pub returns-then-low-at-clause-kept : goal.returns-then-low-at-clause-kept
returns-then-low-at-clause-kept c =
    let t = c.triangle-times.result in
    let low = (window_at c.args.windows.now c.args.place).low - c.args.behind + 1024 * t in
    low_same c.args.behind c.args.windows.now c.args.place c.args.bend t low c.args.bounds c.triangle-times.ensures.value (omega arith) c.if-low-at.true c.requires.bounds

pub returns-then-least-bounds-clause-kept : goal.returns-then-least-bounds-clause-kept
returns-then-least-bounds-clause-kept c =
    let t = c.triangle-times.result in
    let low = (window_at c.args.windows.now c.args.place).low - c.args.behind + 1024 * t in
    low_more c.args.behind c.args.windows.now c.args.place c.args.bend t low (low - c.args.bend * t) c.args.bounds c.triangle-times.ensures.value (omega arith) (omega arith)
    c.if-low-at.false c.if-least-bounds.true c.requires.bounds

pub returns-then-most-wanted-clause-stopped : goal.returns-then-most-wanted-clause-stopped
returns-then-most-wanted-clause-stopped c =
    let t = c.triangle-times.result in
    let low = (window_at c.args.windows.now c.args.place).low - c.args.behind + 1024 * t in
    let strict : c.args.bounds.high_at * (c.args.place + 1) < (low - c.args.bend * t) * (c.args.bounds.high_place + 1) = rw (c.from.ensures, c.from-2.ensures, c.from-3.ensures, c.from-4.ensures) at c.if-most-wanted.true in
    let far = rw (c.from.ensures, c.from-2.ensures, c.from-3.ensures, c.from-4.ensures) at c.also_ruled-more.ensures in
    low_stops_small c.args.behind c.args.windows.now c.args.place c.args.bend t low (low - c.args.bend * t) c.also_ruled-more.result c.args.bounds c.triangle-times.ensures.value (omega arith) (omega arith)
    strict far c.requires.bounds

pub returns-else-most-wanted-clause-stopped : goal.returns-else-most-wanted-clause-stopped
returns-else-most-wanted-clause-stopped c =
    let t = c.triangle-times.result in
    let low = (window_at c.args.windows.now c.args.place).low - c.args.behind + 1024 * t in
    low_stops_own c.args.behind c.args.windows.now c.args.place c.args.bend t low (low - c.args.bend * t) c.args.bounds c.triangle-times.ensures.value (omega arith) (omega arith)
    c.if-least-bounds.false c.requires.bounds
