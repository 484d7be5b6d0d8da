use Rattle.std.proofs.Common.{arith}
use Rattle.std.proofs.lemmas.Int.{ints}
use Rattle.bed_mesh.proofs.Ways.{change_near, end_near, start_near}
use Rattle.bed_mesh.proofs.cut.coordinate_behind.Goals as goal

pub part_way-requires-clause-start : goal.part_way-requires-clause-start
part_way-requires-clause-start c = let s = start_near c.args.m.now c.args.axis c.requires.valid c.requires.axis in omega (arith, ints)

pub part_way-requires-clause-end : goal.part_way-requires-clause-end
part_way-requires-clause-end c = let e = end_near c.args.m.now c.args.axis c.requires.valid c.requires.axis in omega (arith, ints)

pub part_way-requires-clause-change : goal.part_way-requires-clause-change
part_way-requires-clause-change c = let d = change_near c.args.m.now c.args.axis c.requires.valid c.requires.axis in omega (arith, ints)
