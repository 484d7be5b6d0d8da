use Rattle.std.proofs.Common.{arith}
use Rattle.std.proofs.lemmas.Int.{ints}
use Rattle.bed_mesh.proofs.Ways.{change_near, end_near, start_near}
use Rattle.bed_mesh.proofs.cut.ahead_of.Goals as goal

pub lines_ahead-requires-clause-start : goal.lines_ahead-requires-clause-start
lines_ahead-requires-clause-start c = let s = start_near c.args.m.now c.args.axis c.requires.valid (omega arith) in omega (arith, ints)

pub lines_ahead-requires-clause-end : goal.lines_ahead-requires-clause-end
lines_ahead-requires-clause-end c = let e = end_near c.args.m.now c.args.axis c.requires.valid (omega arith) in omega (arith, ints)

pub lines_ahead-requires-clause-change : goal.lines_ahead-requires-clause-change
lines_ahead-requires-clause-change c = let d = change_near c.args.m.now c.args.axis c.requires.valid (omega arith) in omega (arith, ints)
