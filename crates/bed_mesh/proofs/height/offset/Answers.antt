use Rattle.std.proofs.Common.{arith}
use Rattle.std.proofs.lemmas.Int.{ints}
use Rattle.bed_mesh.proofs.height.offset.Goals as goal

pub overflow_sub-behind : goal.overflow_sub-behind
overflow_sub-behind c = let f = c.requires.valid.from in let p = c.requires.near in omega (arith, ints)
