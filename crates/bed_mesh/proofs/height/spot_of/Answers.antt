use Rattle.std.proofs.Common.{arith}
use Rattle.std.proofs.lemmas.Int.{ints}
use Rattle.bed_mesh.proofs.height.spot_of.Goals as goal

pub offset-behind-requires-clause-near : goal.offset-behind-requires-clause-near
offset-behind-requires-clause-near c = omega (arith, ints)
