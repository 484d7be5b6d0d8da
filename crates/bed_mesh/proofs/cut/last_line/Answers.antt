use Rattle.std.proofs.Common.{◌≤◌, ◌*◌, ◌-◌, ℕ, arith}
use Rattle.std.proofs.Math.Nat.{mul-le-mul}
use Rattle.std.proofs.lemmas.Int.{ints}
use Rattle.bed_mesh.proofs.cut.last_line.Goals as goal

extent : (step count : ℕ) → step ≤ 500_000_000 → count ≤ 64 → step * (count - 1) ≤ 500_000_000 * 63
extent step count low few = let f : count - 1 ≤ 63 = omega arith in mul-le-mul low f

pub overflow_mul-extent : goal.overflow_mul-extent
overflow_mul-extent c = let h = extent _ _ c.requires.step_high c.requires.count_high in omega arith

pub overflow_add-result : goal.overflow_add-result
overflow_add-result c = let h = extent _ _ c.requires.step_high c.requires.count_high in let f = c.requires.from in omega (arith, ints)

pub returns-clause-value : goal.returns-clause-value
returns-clause-value c = let h = extent _ _ c.requires.step_high c.requires.count_high in let f = c.requires.from in omega (arith, ints)

pub returns-clause-near : goal.returns-clause-near
returns-clause-near c = let h = extent _ _ c.requires.step_high c.requires.count_high in let f = c.requires.from in omega (arith, ints)
