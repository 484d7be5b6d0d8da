use Rattle.std.proofs.Common.{◌≤◌, ◌*◌, arith}
use Rattle.std.specs.Prelude.{unsigned_abs}
use Rattle.std.proofs.lemmas.Int.{ints}
use Rattle.bed_mesh.proofs.Bounds.{no_higher}
use Rattle.bed_mesh.proofs.height.row.Goals as goal

pub sum-requires-clause-one : goal.sum-requires-clause-one
sum-requires-clause-one c = let l : unsigned_abs c.weighted.result ≤ 5_000_000 * c.area-whole.result = no_higher _ _ _ c.weighted.ensures.bound (omega (arith, ints)) in omega (arith, ints)

pub sum-requires-clause-two : goal.sum-requires-clause-two
sum-requires-clause-two c = let r : unsigned_abs c.weighted-2.result ≤ 5_000_000 * c.area-whole.result = no_higher _ _ _ c.weighted-2.ensures.bound (omega (arith, ints)) in omega (arith, ints)

pub returns-clause-bound : goal.returns-clause-bound
returns-clause-bound c =
    let l : unsigned_abs c.weighted.result ≤ 5_000_000 * c.area-whole.result = no_higher _ _ _ c.weighted.ensures.bound (omega (arith, ints)) in
    let r : unsigned_abs c.weighted-2.result ≤ 5_000_000 * c.area-whole.result = no_higher _ _ _ c.weighted-2.ensures.bound (omega (arith, ints)) in
    omega (arith, ints)
