-- The own ticks of boards are small.
use Rattle.std.proofs.Common.{◌≡◌, ℕ, ℤ, pos, negsuc, ◌+◌, ◌*◌, ◌/◌, ◌^◌, ◌<◌, ◌≤◌, List, length, ap, arith, rules}
use Rattle.std.proofs.Math.Nat.{div-le_of_le-mul, mul-le-mul}
use Rattle.laws_board.proofs.Names.{BoardClock, Line}
use Rattle.plan_types.specs.Clock.{own_tick, rate}
use Rattle.clock_line.specs.Samples.{ppm_size}
use Rattle.laws_board.specs.turns.Turns.{BoardTurn}
use Rattle.laws_board.specs.clocks.Samples.{IsSampled}
use Rattle.laws_board.proofs.clocks.Clear.{told_before}

-- a board's own ticks
rate_few : (d : ℤ) → ppm_size d ≤ 200 → rate d ≤ 1_000_200
rate_few (pos n) few = omega (arith, few)
rate_few (negsuc n) few = omega arith

pub own_few : (start freq : ℕ) (d : ℤ) (turn : ℕ) → start ≤ 2 ^ 40 → freq ≤ 200_000_000 → ppm_size d ≤ 200 → own_tick start freq d turn ≤ 2 ^ 40 + turn * 200_040
unfolding own_tick
own_few start freq d turn low high few =
    let one : turn * freq ≤ turn * 200_000_000 = mul-le-mul {n₁ = turn} {m₁ = freq} {n₂ = turn} {m₂ = 200_000_000} (omega arith) high in
    let two : turn * freq * rate d ≤ turn * 200_000_000 * 1_000_200 = mul-le-mul {n₁ = turn * freq} {m₁ = rate d} {n₂ = turn * 200_000_000} {m₂ = 1_000_200} one (rate_few d few) in
    let three : turn * freq * rate d / 1_000_000_000 ≤ turn * 200_040 = div-le_of_le-mul 1_000_000_000 (omega (arith, two)) in
    omega (arith, low, three)

-- and so is the tick of a sample that was got in a run of fewer than 2^43 turns
pub sample_small : (clock : BoardClock) (turns : List BoardTurn) (line : Line) → clock.start ≤ 2 ^ 40 → clock.freq ≤ 200_000_000 → ppm_size clock.drift ≤ 200 → length turns ≤ 2 ^ 43 → IsSampled clock turns line → line.clock < 2 ^ 62
sample_small clock turns line low high few small x = search (rules, told_before, own_few)
