use Rattle.std.proofs.Common.{arith}
use Rattle.std.specs.Int.{w128}
use Rattle.std.proofs.lemmas.Int.{to_z-of_z, fits_signed_mul}
use Rattle.lookahead.proofs.Vectors.{read_times}
use Rattle.lookahead.proofs.cap.times.Goals as goal

pub overflow_mul-result : goal.overflow_mul-result
overflow_mul-result c =
    rw (to_z-of_z w128 c.args.one c.ranges.one, to_z-of_z w128 c.args.two c.ranges.two)
    (fits_signed_mul w128 c.args.one c.args.two 1_500_000_000 1_500_000_000 c.requires.one_small c.requires.two_small (omega arith))

pub returns-clause-small : goal.returns-clause-small
returns-clause-small c = read_times c.args.one c.args.two c.requires.one_small c.requires.two_small
